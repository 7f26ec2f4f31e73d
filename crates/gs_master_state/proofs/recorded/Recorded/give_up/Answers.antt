use Rattle.std.proofs.Common.{ap, ◌∙◌}
use Rattle.std.specs.Ordering.{nat_cmp}
use Rattle.gs_base_table.specs.Slots.{live}
use Rattle.gs_master_state.specs.inner.Recorded.{chunks_of, durable_of}
use Rattle.gs_master_state.proofs.Recording.{chunks_remove}
use Rattle.gs_master_state.proofs.recorded.Recorded.give_up.Goals as goal

pub returns-clause-value : goal.returns-clause-value
returns-clause-value c =
    let r = c.args.self.now in
    ap (λ m. record (durable_of r) { chunks = m }) (ap chunks_of c.remove-lease.ensures.removed ∙ chunks_remove (live nat_cmp r.leases) c.args.chunk)
