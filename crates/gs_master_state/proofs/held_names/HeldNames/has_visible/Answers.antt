use Rattle.std.proofs.Common.{◌≡◌, ◌∙◌, ◌++◌, ◌∷◌, [], ap, subst, sym}
use Rattle.std.specs.Prelude.{MatchBool, Some, slice_get}
use Rattle.std.specs.FinMap.{get}
use Rattle.gs_edit.specs.View.{NamesView}
use Rattle.gs_tree.specs.Listing.{HasVisible, HasVisibleBut}
use Rattle.gs_tree.specs.Plain.{part_at}
use Rattle.gs_master_state.specs.inner.Held.{HeldView}
use Rattle.gs_master_state.proofs.Keeping.{other_parts, same_parts, visible_beside, visible_elsewhere, visible_first}
use Rattle.gs_master_state.proofs.held_names.HeldNames.has_visible.Goals as goal

pub returns-then-eq : goal.returns-then-eq
returns-then-eq c =
    let first : slice_get c.self.inside.places.items 0 ≡ Some c.in-Some.place.now = ap (λ ps. slice_get ps 0) (sym c.as_slice.ensures) ∙ sym c.in-Some.ensures.value in
    let same : c.in-Some-split_last.parent.now ≡ c.args.path.now = same_parts c.in-Some-split_last.parent.now c.elements-2.result.now c.if-eq.ensures ∙ c.elements-2.ensures in
    let split : c.in-Some.place.now ≡ c.args.path.now ++ c.in-Some-split_last.name.now ∷ [] = sym c.elements.ensures ∙ c.in-Some-split_last.ensures.cases.0 ∙ ap (λ p. p ++ c.in-Some-split_last.name.now ∷ []) same in
    subst (λ (v : NamesView). MatchBool c.has_visible_but.result (HasVisible (part_at c.args.path.now (get v.tree))) (HasVisible (part_at c.args.path.now (get v.tree)) → ⊥))
    (ap (λ (v : HeldView). v.names) c.self.view_is)
    (visible_first c.has_visible_but.result c.self.inside.places.items c.in-Some.place.now c.args.path.now c.self.inside.names first c.self.invariant.0.1
    (visible_beside c.has_visible_but.result c.in-Some.place.now c.args.path.now c.in-Some-split_last.name.now c.self.inside.names split
    (subst (λ t. MatchBool c.has_visible_but.result (HasVisibleBut c.in-Some-split_last.name.now (part_at c.args.path.now (get t))) (HasVisibleBut c.in-Some-split_last.name.now (part_at c.args.path.now (get t)) → ⊥)) c.tree-tree.ensures c.has_visible_but.ensures)))

pub returns-else-eq : goal.returns-else-eq
returns-else-eq c =
    let first : slice_get c.self.inside.places.items 0 ≡ Some c.in-Some.place.now = ap (λ ps. slice_get ps 0) (sym c.as_slice.ensures) ∙ sym c.in-Some.ensures.value in
    let split : c.in-Some.place.now ≡ c.in-Some-split_last.parent.now ++ c.in-Some-split_last.name.now ∷ [] = sym c.elements.ensures ∙ c.in-Some-split_last.ensures.cases.0 in
    subst (λ (v : NamesView). MatchBool c.has_visible-else-eq.result (HasVisible (part_at c.args.path.now (get v.tree))) (HasVisible (part_at c.args.path.now (get v.tree)) → ⊥))
    (ap (λ (v : HeldView). v.names) c.self.view_is)
    (visible_first c.has_visible-else-eq.result c.self.inside.places.items c.in-Some.place.now c.args.path.now c.self.inside.names first c.self.invariant.0.1
    (visible_elsewhere c.has_visible-else-eq.result c.in-Some.place.now c.args.path.now c.in-Some-split_last.parent.now c.in-Some-split_last.name.now c.self.inside.names split (λ z. other_parts c.in-Some-split_last.parent.now c.elements-2.result.now c.if-eq.ensures (z ∙ sym c.elements-2.ensures))
    (subst (λ t. MatchBool c.has_visible-else-eq.result (HasVisible (part_at c.args.path.now (get t))) (HasVisible (part_at c.args.path.now (get t)) → ⊥)) c.tree-tree.ensures c.has_visible-else-eq.ensures)))
