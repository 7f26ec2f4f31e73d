use Rattle.std.proofs.Common.{◌≡◌, ◌∙◌, ◌∷◌, ◌++◌, ◌≤◌, [], length, max, ap, subst, sym}
use Rattle.std.proofs.Math.Nat.{le-max_left, le-max_right}
use Rattle.gs_path.specs.Path.{Path}
use Rattle.gs_master_state.specs.inner.Places.{AreWithin, HasJust}
use Rattle.gs_master_state.proofs.PlaceSets.{within_and, within_more}
use Rattle.gs_master_state.proofs.places.Places.push.Goals as goal

pub invariant_of-self-2 : goal.invariant_of-self-2
invariant_of-self-2 c =
    let items : c.push_within.new.items.items ≡ c.self.inside.paths.items ++ c.args.path ∷ [] = c.push_within.ensures.items ∙ ap (λ ps. ps ++ c.args.path ∷ []) c.reserve.ensures.items in
    let just = subst (λ o. HasJust o c.self.inside.paths.items) (sym c.take.ensures.value) c.self.invariant.0 in
    let within = within_more c.self.inside.longest c.max-self-inside.result c.self.inside.paths.items (subst (λ n. c.self.inside.longest ≤ n) (sym c.max-self-inside.ensures) (le-max_left c.self.inside.longest (length c.elements.result.now))) c.self.invariant.1 in (
      subst (HasJust c.with_path.result) (sym items) (c.with_path.ensures c.self.inside.paths.items just),
      subst (AreWithin c.max-self-inside.result) (sym items) (within_and c.max-self-inside.result c.self.inside.paths.items c.args.path within (subst (λ n. length c.args.path ≤ n) (sym (c.max-self-inside.ensures ∙ ap (λ (p : Path). max c.self.inside.longest (length p)) c.elements.ensures)) (le-max_right c.self.inside.longest (length c.args.path)))),
    )
