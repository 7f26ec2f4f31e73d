use Rattle.std.proofs.Common.{ap, ◌∙◌}
use Rattle.std.specs.FinMap as fin
use Rattle.std.specs.Ordering.{nat_cmp}
use Rattle.gs_base_table.specs.Slots.{live}
use Rattle.gs_master_state.specs.inner.Recorded.{chunks_of}
use Rattle.gs_master_state.proofs.Recording.{chunks_remove, with_others}
use Rattle.gs_master_state.proofs.recorded.Recorded.forget_chunk.Goals as goal

pub returns-clause-value : goal.returns-clause-value
returns-clause-value c =
    with_others _ _ _ _ c.keep_prepared.ensures.value
    (ap chunks_of (c.remove-forgotten.ensures.removed ∙ ap (λ slots. fin.remove (live nat_cmp slots) c.args.chunk) c.keep_prepared.ensures.leases) ∙ chunks_remove (live nat_cmp c.args.self.now.leases) c.args.chunk)
