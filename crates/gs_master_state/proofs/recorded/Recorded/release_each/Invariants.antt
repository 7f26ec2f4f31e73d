use Rattle.std.proofs.Common.{◌≡◌, take}
use Rattle.std.specs.Ordering.{nat_cmp}
use Rattle.gs_base_table.specs.Slots.{live}
use Rattle.gs_master_state.specs.inner.Recorded.{durable_of}
use Rattle.gs_master_state.specs.inner.Released.{ReleasesEach, chunks_in}
use Rattle.gs_master_state.proofs.recorded.Recorded.release_each.Given as goal

abbrev pub invariant-loop-stood : goal.invariant-loop-stood
invariant-loop-stood l = record {
  value : durable_of l.self ≡ durable_of l.fn.self;
  leases : live nat_cmp l.self.leases ≡ live nat_cmp l.fn.self.leases;
  names : l.self.names ≡ l.fn.self.names;
  room : ReleasesEach l.fn.self.leases l.self.leases (chunks_in (take l.stood-index l.forgotten));
}
