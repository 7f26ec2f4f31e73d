use Rattle.std.proofs.Common.{◌∙◌, ap}
use Rattle.std.specs.Ordering.{nat_cmp}
use Rattle.gs_base_table.specs.Slots.{live}
use Rattle.gs_master_state.specs.inner.Recorded.{chunks_of, durable_of}
use Rattle.gs_master_state.proofs.Before.{chunks_set}
use Rattle.gs_master_state.proofs.recorded.Recorded.put_chunk_back.Goals as goal

pub returns-clause-value : goal.returns-clause-value
returns-clause-value c = λ i. record (durable_of c.args.self.now) {
  chunks = (ap chunks_of c.put_lease_back.ensures.put ∙ chunks_set (live nat_cmp c.args.self.now.leases) c.args.before.chunk c.args.before.lease) i;
  prepared = c.put_back.ensures.put i;
}
