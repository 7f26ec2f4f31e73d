use Rattle.std.proofs.Common.{◌≤◌, ◌∙◌, ap, arith, length, length-append, refl, subst, sym, take, [], ◌∷◌}
use Rattle.std.proofs.lemmas.List.{take-append-le}
use Rattle.std.specs.Ordering.{nat_cmp}
use Rattle.gs_base_table.specs.Slots.{live}
use Rattle.gs_master_state.specs.inner.TakingBack.{Leads, RoomForAll, all_leases_before, rooms_before}
use Rattle.gs_master_state.specs.inner.Recorded.{durable_of}
use Rattle.gs_master_state.proofs.Before.{all_leases_but_last, room_but_last, room_for_all_stays}
use Rattle.gs_master_state.proofs.Led.{all_lead, as_many, one_less}
use Rattle.gs_master_state.proofs.recorded.Recorded.take_back_to.Goals as goal

pub loop-undos-init : goal.loop-undos-init
loop-undos-init c = record {
  left = refl;
  value = λ entries before leads. all_lead entries c.args.undos.now.items before (durable_of c.args.self.now) leads;
  leases = refl;
  room = c.requires;
}

pub take_back-requires : goal.take_back-requires
take_back-requires c = (room_but_last c.loop-undos.self c.pop.new.self.items c.in-Some.undo (subst (RoomForAll c.loop-undos.self) c.in-Some.ensures.items c.loop-undos.invariant.room)).1

pub loop-undos-preserved-in-Some : goal.loop-undos-preserved-in-Some
loop-undos-preserved-in-Some c =
    let rest = c.pop.new.self.items in
    let last = c.in-Some.undo in
    let now = durable_of c.loop-undos.self in
    let many = c.args.many in
    let items = c.in-Some.ensures.items in
    let more = ap length items ∙ length-append rest (last ∷ []) in
    let test = c.loop-undos-test.true in
    let len = c.len.ensures in
    let within : many ≤ length rest = omega arith in
    let room = (room_but_last c.loop-undos.self rest last (subst (RoomForAll c.loop-undos.self) items c.loop-undos.invariant.room)).0 in
    record {
      left = sym (take-append-le many rest (last ∷ []) within) ∙ ap (take many) (sym items) ∙ c.loop-undos.invariant.left;
      value = λ entries before leads.
          let cut = one_less entries rest last before now (subst (λ us. Leads (take (length us) entries) us before now) items (c.loop-undos.invariant.value entries before leads)) in
          subst (Leads (take (length rest) entries) rest before) (sym (c.take_back.ensures.value cut.0 cut.1.1)) cut.1.0;
      leases = ap (all_leases_before rest) c.take_back.ensures.leases ∙ sym (all_leases_but_last rest last (live nat_cmp c.loop-undos.self.leases))
          ∙ ap (λ all. all_leases_before all (live nat_cmp c.loop-undos.self.leases)) (sym items) ∙ c.loop-undos.invariant.leases;
      room = room_for_all_stays (rooms_before last c.loop-undos.self) c.take_back.new.self rest room c.take_back.ensures.keeps;
    }

pub returns-clause-value : goal.returns-clause-value
returns-clause-value c = λ entries before leads.
    let left = c.loop-undos.undos.items in
    let test = c.loop-undos-test.false in
    let len = c.len.ensures in
    let few : length left ≤ c.args.many = omega arith in
    subst (λ xs. Leads xs left before (durable_of c.loop-undos.self)) (as_many entries c.args.undos.now.items left c.args.many before (durable_of c.args.self.now) leads c.loop-undos.invariant.left few) (c.loop-undos.invariant.value entries before leads)
