use Rattle.std.proofs.Common.{rules, ◌≡◌, ◌∙◌, [], ap, subst, sym}
use Rattle.gs_master_state.specs.inner.Held.{ArePlaces, HeldView, still, without_kept}
use Rattle.gs_master_state.proofs.Keeping.{keeps_none, none_kept}
use Rattle.gs_master_state.proofs.held_names.HeldNames.give_up_places.Goals as goal

pub returns-then-is_empty : goal.returns-then-is_empty
returns-then-is_empty c =
    let none : c.self.inside.places.items ≡ [] = search rules in
    sym c.self.view_is ∙ none_kept c.self.inside.places.items c.self.inside.names none ∙ ap still (ap (λ ps. without_kept ps c.self.inside.names) (sym none) ∙ ap (λ (v : HeldView). v.names) c.self.view_is)

pub give_up_each-requires : goal.give_up_each-requires
give_up_each-requires c = subst (λ ps. ArePlaces ps c.self.inside.names) (sym (c.as_slice.ensures ∙ (λ i. (c.replace-places.ensures.value i).items))) c.self.invariant.0.0

pub invariant_of-self : goal.invariant_of-self
invariant_of-self c =
    let seen = without_kept c.self.inside.places.items c.self.inside.names in
    let same : c.give_up_each.new.names ≡ seen = c.give_up_each.ensures ∙ ap (λ ps. without_kept ps c.self.inside.names) (c.as_slice.ensures ∙ (λ i. (c.replace-places.ensures.value i).items)) in
    let both = keeps_none c.replace-places.new.dest.items c.self.inside.spare c.give_up_each.new.names seen ((λ i. (c.replace-places.ensures.after i).items) ∙ c.new.ensures.items) same c.self.invariant.1 in
    (both.0, both.1, tt)

pub returns : goal.returns
returns c =
    let same = c.give_up_each.ensures ∙ ap (λ ps. without_kept ps c.self.inside.names) (c.as_slice.ensures ∙ (λ i. (c.replace-places.ensures.value i).items)) in
    none_kept c.replace-places.new.dest.items c.give_up_each.new.names ((λ i. (c.replace-places.ensures.after i).items) ∙ c.new.ensures.items) ∙ ap still (same ∙ ap (λ (v : HeldView). v.names) c.self.view_is)
