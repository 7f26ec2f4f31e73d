use Rattle.std.proofs.Common.{◌≡◌, ◌∙◌, [], ap, subst, sym}
use Rattle.gs_master_state.specs.inner.Held.{HeldView, KeepsAll, StandsBy, without_kept}
use Rattle.gs_master_state.proofs.Edits.{names_after}
use Rattle.gs_master_state.proofs.held_names.HeldNames.apply_in_place.Goals as goal

pub invariant_of-self : goal.invariant_of-self
invariant_of-self c =
    let none : c.self.inside.places.items ≡ [] = ap (λ (v : HeldView). v.places) c.self.view_is ∙ c.requires in
    let stands : StandsBy c.take.result c.self.inside.names = subst (λ o. StandsBy o c.self.inside.names) (sym c.take.ensures.value) (subst (λ ps. StandsBy c.self.inside.spare (without_kept ps c.self.inside.names)) none c.self.invariant.1) in
    let led = c.followed.ensures c.self.inside.names c.apply.new.self stands (names_after c.args.edit.now c.self.inside.names c.apply.new.self c.in-Ok.ensures.edit) in
    let both = subst (λ ps. KeepsAll ps c.apply.new.self × StandsBy c.followed.result (without_kept ps c.apply.new.self)) (sym none) ((tt, tt), led) in
    (both.0, both.1, tt)
