use Rattle.std.proofs.Common.{◌∷◌, ◌++◌, [], subst}
use Rattle.gs_path.specs.Path.{Path}
use Rattle.std.specs.Prelude.{Some}
use Rattle.gs_master_state.specs.inner.Places.{HasJust}
use Rattle.gs_master_state.proofs.PlaceSets.{has_just_and}
use Rattle.gs_master_state.proofs.places.with_path.Goals as goal

pub returns-in-Ok-insert : goal.returns-in-Ok-insert
returns-in-Ok-insert c = λ paths just.
    let old = subst (λ o. HasJust o paths) c.in_ok-among.was just in
    subst (λ (p : Path). HasJust (Some c.insert.new.self) (paths ++ p ∷ [])) c.in-Ok.ensures
    (has_just_and c.in_ok-among.among c.insert.new.self paths c.in-Ok.copy c.in-Ok-insert.ensures.updates old)
