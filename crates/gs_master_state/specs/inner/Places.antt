-- Paths in the order in which they came, and a set of them that is kept beside.
use Rattle.std.specs.Prelude.{◌≡◌, ◌≤◌, ℕ, List, [], ◌∷◌, Option, Some, None, length, refl}
use Rattle.std.specs.BTreeSet.{BTreeSet, contains}
use Rattle.std.specs.Coded.{Coded, code_by, coded_list}
use Rattle.gs_path.specs.Path.{Path, coded_path, path_cmp}
use Rattle.gs_master_state.specs.inner.Held.{is_at}

pub record Paths : Type 0 where
  pub items : List Path

abbrev pub coded_paths : Coded Paths
coded_paths = code_by (List Path) (coded_list coded_path) (λ v. v.items) (λ paths. record { items = paths }) (λ _. refl)

-- none of these has more elements
abbrev pub AreWithin : ℕ → List Path → Type 0
AreWithin most [] = Unit {0}
AreWithin most (p ∷ paths) = (length p ≤ most) × AreWithin most paths

-- the set, if there is one, has these and no other
abbrev pub HasJust : Option (BTreeSet Path) → List Path → Type 0
HasJust None paths = Unit {0}
HasJust (Some set) paths = (q : Path) → contains path_cmp set q ≡ is_at paths q

no_path_is_too_long : AreWithin 0 []
no_path_is_too_long = tt

no_set_is_kept : (paths : List Path) → HasJust None paths
no_set_is_kept paths = tt
