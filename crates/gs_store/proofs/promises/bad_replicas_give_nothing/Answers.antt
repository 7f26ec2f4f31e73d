use Rattle.std.proofs.Common.{◌≡◌, ◌+◌, None, sym, subst}
use Rattle.std.specs.Prelude.{Ok, cond, nat_lt}
use Rattle.std.specs.Result.{result_ok}
use Rattle.gs_base.specs.declared.refusal.Refusal.TheVariants as refusals
use Rattle.gs_base.specs.Stamps.{is_before}
use Rattle.gs_block.specs.Edits as blocks
use Rattle.gs_replica.specs.Edits.{copied}
use Rattle.gs_replica.specs.Copies.{image, and_then}
use Rattle.gs_store.specs.Slots.{sealed_of}
use Rattle.gs_store.specs.Serving.{read_of}
use Rattle.gs_store.specs.Moves.{source, copied_from, wanted_by, sound_image}
use Rattle.gs_store.proofs.Laws.{behind_both, then_none, bad_source}
use Rattle.gs_store.proofs.promises.bad_replicas_give_nothing.Goals as goal

pub returns-clause-read : goal.returns-clause-read
returns-clause-read c stamp offset many block s r is =
    subst (λ l. result_ok (read_of stamp offset many s l) ≡ None) (sym is)
    (behind_both (is_before s.promise stamp) (nat_lt r.held.chunk.chunk (offset + many)) refusals.Old refusals.Range (refusals.Damaged block) (blocks.read r.held.chunk offset many))

pub returns-clause-copy_out : goal.returns-clause-copy_out
returns-clause-copy_out c stamp flag block s r is =
    then_none (source stamp s) (λ r. and_then (image r) (λ i. Ok (i, cond flag (sound_image (sealed_of s)) None))) (bad_source stamp block s r is)

pub returns-clause-copy_for : goal.returns-clause-copy_for
returns-clause-copy_for c at stamp block s target r is =
    then_none (copied_from at stamp s) (wanted_by target) (then_none (source at s) (λ r. copied stamp r.held) (bad_source at block s r is))
