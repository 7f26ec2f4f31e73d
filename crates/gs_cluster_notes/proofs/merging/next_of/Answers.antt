use Rattle.std.proofs.Common.{◌≡◌, [], deque_items, refl, sym, ◌∙◌, arith}
use Rattle.std.proofs.lemmas.List.{map-set, nil_from_length}
use Rattle.std.proofs.lemmas.Option.{slice_get_read}
use Rattle.gs_cluster_notes.proofs.Firsts.{at_front, some_there, within}
use Rattle.gs_cluster_notes.proofs.merging.next_of.Goals as goal

pub index_mut-requires : goal.index_mut-requires
index_mut-requires c =
    let some = within c.args.lists.now.items c.in_ok-at.field-0 (sym c.first_of.ensures ∙ c.in_ok-at.was) in
    let long = c.args.lists.now.ok.0 in
    omega arith

pub returns-in_err-event : goal.returns-in_err-event
returns-in_err-event c =
    let is = sym c.first_of.ensures ∙ c.in_ok-at.was in
    let some = within c.args.lists.now.items c.in_ok-at.field-0 is in
    let there = slice_get_read c.args.lists.now.items _ c.in_ok-at.field-0.at c.index_mut.result.now refl some c.index_mut.ensures.value in
    let long = c.index_mut.result.now.ok.0 in
    let left = c.in_err-event.ensures.cases.0 in
    let none : c.index_mut.result.now.items ≡ [] = nil_from_length c.index_mut.result.now.items (omega arith) in
    absurd (some_there c.args.lists.now.items c.in_ok-at.field-0 c.index_mut.result.now is there none)

pub returns : goal.returns
returns c =
    let is = sym c.first_of.ensures ∙ c.in_ok-at.was in
    let some = within c.args.lists.now.items c.in_ok-at.field-0 is in
    let there = slice_get_read c.args.lists.now.items _ c.in_ok-at.field-0.at c.index_mut.result.now refl some c.index_mut.ensures.value in (
      c.in_ok-at.field-0,
      is,
      record {
        first = c.in_ok-event.field-0;
        behind = c.pop_front.new.self.items;
        there = at_front c.args.lists.now.items c.in_ok-at.field-0.at c.index_mut.result.now c.in_ok-event.field-0 c.pop_front.new.self.items there c.in_ok-event.ensures.items;
        is = refl;
        left = map-set deque_items c.args.lists.now.items c.in_ok-at.field-0.at c.pop_front.new.self;
      },
    )
