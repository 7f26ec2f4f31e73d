use Rattle.std.proofs.Common.{Some}
use Rattle.gs_store.specs.Slots.{sealed_of}
use Rattle.gs_store.specs.Moves.{copy_in}
use Rattle.gs_store.proofs.Laws.{of_ok}
use Rattle.gs_store.proofs.Copying.{of_above, Arrives, arrived, ArrivesSealed, arrived_sealed}
use Rattle.gs_store.proofs.copy_promises.copies_stand_where_they_arrive.Goals as goal

pub returns-clause-live : goal.returns-clause-live
returns-clause-live c block chunk stamp i o s s2 edits some block_fits chunk_fits taken same above is =
    of_ok (λ x. Arrives block chunk edits x.live) (copy_in block chunk stamp i o s) s2 is
    (of_above (λ x. Arrives block chunk edits x.live) block chunk stamp i o s above (arrived block chunk stamp i o s edits some block_fits chunk_fits taken same))

pub returns-clause-stood : goal.returns-clause-stood
returns-clause-stood c block chunk stamp i t s s2 edits some block_fits chunk_fits taken same digests above is =
    of_ok (λ x. ArrivesSealed block chunk edits t (sealed_of x)) (copy_in block chunk stamp i (Some t) s) s2 is
    (of_above (λ x. ArrivesSealed block chunk edits t (sealed_of x)) block chunk stamp i (Some t) s above (arrived_sealed block chunk stamp i t s edits some block_fits chunk_fits taken same digests))
