use Rattle.std.proofs.Common.{◌∙◌, ◌≤◌, length, ap, subst}
use Rattle.std.specs.List.{list_any}
use Rattle.gs_path.specs.Path.{Path, begins}
use Rattle.gs_master_state.specs.inner.Places.{HasJust, Paths}
use Rattle.gs_master_state.proofs.PlaceSets.{over_is_at}
use Rattle.gs_master_state.proofs.places.Places.is_over.Goals as goal

pub returns-in-Some : goal.returns-in-Some
returns-in-Some c =
    let just = subst (λ o. HasJust o c.self.inside.paths.items) c.in-Some.is c.self.invariant.0 in
    let long = subst (λ (p : Path). c.self.inside.longest ≤ length p) c.elements.ensures c.if-self-elements.true in
    c.contains.ensures ∙ just c.args.path.now
    ∙ over_is_at c.args.path.now c.self.inside.longest c.self.inside.paths.items long c.self.invariant.1
    ∙ ap (λ (v : Paths). list_any (begins c.args.path.now) v.items) c.self.view_is
