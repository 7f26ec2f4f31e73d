use Rattle.std.proofs.Common.{ap, subst, sym, ◌∙◌}
use Rattle.std.specs.Ordering.{nat_cmp}
use Rattle.gs_base_table.specs.Slots.{live}
use Rattle.gs_master_state.specs.inner.Recorded.{KeepsRooms, durable_of}
use Rattle.gs_master_state.specs.inner.TakingBack.{RoomForAll, TakeBack, all_leases_before, all_rooms_before, rooms_before}
use Rattle.gs_master_state.proofs.Before.{all_keep_before, all_leases_but_last, all_rooms_but_last, both_keep, but_last_back, room_but_last, room_for_all_stays}
use Rattle.gs_master_state.proofs.recorded.Recorded.take_all_back.Goals as goal

pub take_back-requires : goal.take_back-requires
take_back-requires c = (room_but_last c.loop-undo.self c.pop.new.self.items c.in-Some.undo (subst (RoomForAll c.loop-undo.self) c.in-Some.ensures.items c.loop-undo.invariant.room)).1

pub loop-undo-preserved : goal.loop-undo-preserved
loop-undo-preserved c =
    let rest = c.pop.new.self.items in
    let now = durable_of c.loop-undo.self in
    let room = (room_but_last c.loop-undo.self rest c.in-Some.undo (subst (RoomForAll c.loop-undo.self) c.in-Some.ensures.items c.loop-undo.invariant.room)).0 in
    record {
      value = λ before back.
          let cut = but_last_back rest c.in-Some.undo before now (subst (λ all. TakeBack all before now) c.in-Some.ensures.items (c.loop-undo.invariant.value before back)) in
          subst (TakeBack rest before) (sym (c.take_back.ensures.value cut.0 cut.1.1)) cut.1.0;
      leases = ap (all_leases_before rest) c.take_back.ensures.leases ∙ sym (all_leases_but_last rest c.in-Some.undo (live nat_cmp c.loop-undo.self.leases))
          ∙ ap (λ all. all_leases_before all (live nat_cmp c.loop-undo.self.leases)) (sym c.in-Some.ensures.items) ∙ c.loop-undo.invariant.leases;
      room = room_for_all_stays (rooms_before c.in-Some.undo c.loop-undo.self) c.take_back.new.self rest room c.take_back.ensures.keeps;
      keeps = both_keep _ _ _ c.loop-undo.invariant.keeps
          (subst (λ before. KeepsRooms before (all_rooms_before rest c.take_back.new.self)) (sym (ap (λ all. all_rooms_before all c.loop-undo.self) c.in-Some.ensures.items ∙ all_rooms_but_last c.loop-undo.self rest c.in-Some.undo))
          (all_keep_before (rooms_before c.in-Some.undo c.loop-undo.self) c.take_back.new.self rest c.take_back.ensures.keeps));
    }
