use Rattle.std.proofs.Common.{ap, subst, sym, ◌∙◌}
use Rattle.std.specs.Ordering.{nat_cmp}
use Rattle.gs_base_table.specs.Slots.{live}
use Rattle.gs_master_state.specs.inner.Recorded.{KeepsRooms, durable_of}
use Rattle.gs_master_state.specs.inner.TakingBack.{RoomForAll, TakeBack, all_leases_before, all_rooms_before, rooms_before}
use Rattle.gs_master_state.proofs.Before.{all_keep_before, all_leases_but_last, all_rooms_but_last, one_more_back, room_for_all_stays, room_for_one_more}
use Rattle.gs_master_state.proofs.recorded.Recorded.enter_behind.Goals as goal

pub returns-clause-back : goal.returns-clause-back
returns-clause-back c = λ before back.
    subst (λ all. TakeBack all before (durable_of c.enter.new.self)) (sym c.push_within.ensures.items)
    (one_more_back c.args.undos.now.items c.in_ok-undo.undo before (durable_of c.args.self.now) (durable_of c.enter.new.self) back c.in_ok-undo.ensures.back.value)

pub returns-clause-leases : goal.returns-clause-leases
returns-clause-leases c =
    ap (λ all. all_leases_before all (live nat_cmp c.enter.new.self.leases)) c.push_within.ensures.items ∙ all_leases_but_last c.args.undos.now.items c.in_ok-undo.undo (live nat_cmp c.enter.new.self.leases)
    ∙ ap (all_leases_before c.args.undos.now.items) (sym c.in_ok-undo.ensures.back.leases)

pub returns-clause-room : goal.returns-clause-room
returns-clause-room c =
    subst (RoomForAll c.enter.new.self) (sym c.push_within.ensures.items)
    (room_for_one_more c.enter.new.self c.args.undos.now.items c.in_ok-undo.undo
    (room_for_all_stays c.args.self.now (rooms_before c.in_ok-undo.undo c.enter.new.self) c.args.undos.now.items c.requires.room c.in_ok-undo.ensures.back.keeps) c.in_ok-undo.ensures.back.room)

pub returns-clause-keeps : goal.returns-clause-keeps
returns-clause-keeps c =
    let all = c.args.undos.now.items in
    let now = c.enter.new.self in
    subst (λ after. KeepsRooms (all_rooms_before all c.args.self.now) after) (sym (ap (λ more. all_rooms_before more now) c.push_within.ensures.items ∙ all_rooms_but_last now all c.in_ok-undo.undo))
    (all_keep_before c.args.self.now (rooms_before c.in_ok-undo.undo now) all c.in_ok-undo.ensures.back.keeps)

pub returns-clause-one : goal.returns-clause-one
returns-clause-one c = record { last = c.in_ok-undo.undo; behind = c.push_within.ensures.items; takes = c.in_ok-undo.ensures.back.value }

pub returns-in_err-undo-clause-room : goal.returns-in_err-undo-clause-room
returns-in_err-undo-clause-room c = room_for_all_stays c.args.self.now c.enter.new.self c.args.undos.now.items c.requires.room c.in_err-undo.ensures.keeps

pub returns-in_err-undo-clause-keeps : goal.returns-in_err-undo-clause-keeps
returns-in_err-undo-clause-keeps c = all_keep_before c.args.self.now c.enter.new.self c.args.undos.now.items c.in_err-undo.ensures.keeps
