use Rattle.std.proofs.Common.{◌≡◌, List, length, take}
use Rattle.std.specs.Ordering.{nat_cmp}
use Rattle.gs_master_record.specs.Plain.{PlainEntry}
use Rattle.gs_base_table.specs.Slots.{live}
use Rattle.gs_master_spec.specs.Durable.{Durable}
use Rattle.gs_master_state.specs.inner.TakingBack.{Leads, RoomForAll, all_leases_before}
use Rattle.gs_master_state.specs.inner.Recorded.{durable_of}
use Rattle.gs_master_state.proofs.recorded.Recorded.take_back_to.Given as goal

abbrev pub invariant-loop-undos : goal.invariant-loop-undos
invariant-loop-undos l = record {
  left : take l.many l.undos.items ≡ take l.many l.initial.undos.items;
  value : (entries : List PlainEntry) (before : Durable) → Leads entries l.initial.undos.items before (durable_of l.fn.self) → Leads (take (length l.undos.items) entries) l.undos.items before (durable_of l.self);
  leases : all_leases_before l.undos.items (live nat_cmp l.self.leases) ≡ all_leases_before l.initial.undos.items (live nat_cmp l.fn.self.leases);
  room : RoomForAll l.self l.undos.items;
}

abbrev pub decreases-loop-undos : goal.decreases-loop-undos
decreases-loop-undos l = goal.left-loop-undos l
