-- How much of a path stands.
use Rattle.std.proofs.Common.{◌≡◌, ◌∙◌, ℕ, ◌+◌, true, [], ◌∷◌, ◌++◌, length, refl, ap, append_assoc, arith, length-append}
use Rattle.std.proofs.lemmas.Bool.Decides.{nat_tests}
use Rattle.std.specs.Prelude.{cond, filter, is_none, nat_lt}
use Rattle.gs_path.specs.Path.{Path, Name}
use Rattle.gs_tree.specs.Edits.{stood}
use Rattle.gs_tree.specs.Lists.{fronts_below, made_paths}
use Rattle.gs_tree.specs.Plain.{Plain}
use Rattle.gs_master_state.specs.inner.Judging.{leading}

is_long : (front : Path) (name : Name) → nat_lt 0 (length (front ++ name ∷ [])) ≡ true
is_long front name = rw (length-append front (name ∷ [])) (grind (arith, nat_tests))

fronts_lead : (m : Plain ℕ) (front path : Path) → leading m (filter (λ q. nat_lt 0 (length q)) (fronts_below front path)) ≡ stood (λ q. m (front ++ q)) path
fronts_lead m front [] = refl
fronts_lead m front (name ∷ path) =
    rw (is_long front name)
    (ap (λ n. cond (is_none (m (front ++ name ∷ []))) 0 (n + 1)) (fronts_lead m (front ++ name ∷ []) path ∙ ap (λ f. stood f path) (λ i q. m (append_assoc front (name ∷ []) q i))))

pub leading_is : (m : Plain ℕ) (path : Path) → leading m (made_paths path 0) ≡ stood m path
leading_is m path = fronts_lead m [] path
