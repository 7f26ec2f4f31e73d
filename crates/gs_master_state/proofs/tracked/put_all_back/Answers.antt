use Rattle.std.proofs.Common.{sym, ap, subst, ◌∙◌}
use Rattle.gs_master_state.specs.inner.Memories.{volatile_of}
use Rattle.gs_master_state.specs.inner.Tracked.{HaveRoomBack, slots_back}
use Rattle.gs_master_state.proofs.Tracking.{one_back, rooms_pop}
use Rattle.gs_master_state.proofs.tracked.put_all_back.Goals as goal

pub put_back-requires : goal.put_back-requires
put_back-requires c = (rooms_pop c.loop-slot.memory c.pop.new.self.items c.in-Some.slot (subst (HaveRoomBack c.loop-slot.memory) c.in-Some.ensures.items c.loop-slot.invariant.0)).1

pub loop-slot-preserved : goal.loop-slot-preserved
loop-slot-preserved c =
    let left = one_back c.loop-slot.memory c.put_back.new.memory c.pop.new.self.items c.in-Some.slot c.put_back.ensures.keeps (subst (HaveRoomBack c.loop-slot.memory) c.in-Some.ensures.items c.loop-slot.invariant.0) c.put_back.ensures.value in
    (left.0, left.1 ∙ ap (slots_back (volatile_of c.loop-slot.memory)) (sym c.in-Some.ensures.items) ∙ c.loop-slot.invariant.1)
