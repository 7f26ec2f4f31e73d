-- What a list of rows has at a path.
use Rattle.std.specs.Prelude.{◌≡◌, ◌≤◌, ◌<◌, ℕ, List, [], ◌∷◌, ◌++◌, length, Bool, true, Option, MatchOption, MatchBool, Some, None, is_some, ◌+◌, ◌&&◌, not, nat_lt}
use Rattle.std.specs.List.{list_any}
use Rattle.std.specs.FinMap.{find}
use Rattle.gs_path.specs.Path.{Path, path_cmp, begins}
use Rattle.gs_path.specs.Element.{is_hidden}
use Rattle.gs_tree.specs.Entry.{Entry, Dir}
use Rattle.gs_tree.specs.Plain.{Plain, after}

-- paths, each with what stands there
abbrev pub Rows : Type 0 → Type 0
Rows A = List (Path × Entry A)

abbrev pub at : {A : Type 0} → Rows A → Plain A
at rows q = find path_cmp q rows

-- part is what stands at p and under it, and there is none exactly where nothing stands there
abbrev pub IsPartAt : {A : Type 0} → Plain A → Path → Option (Rows A) → Type 0
IsPartAt m p part = MatchOption part ((q : Path) → m (p ++ q) ≡ None) (λ rows. (q : Path) → m (p ++ q) ≡ at rows q)

-- a directory stands at each proper ancestor
abbrev pub DirsAbove : {A : Type 0} → Plain A → Path → Type 0
DirsAbove m [] = Unit {0}
DirsAbove m (x ∷ p) = (m [] ≡ Some Dir) × DirsAbove (λ q. m (x ∷ q)) p

-- no path at which something stands is longer
abbrev pub IsWithin : {A : Type 0} → ℕ → Plain A → Type 0
IsWithin n m = (q : Path) → is_some (m q) ≡ true → length q ≤ n

-- each path at which something stands is shorter
abbrev pub IsBelow : {A : Type 0} → ℕ → Plain A → Type 0
IsBelow n m = (q : Path) → is_some (m q) ≡ true → length q < n

-- the most elements of a path
abbrev pub most_elements : ℕ
most_elements = 64

-- something at or under `from` would have too long a path under `to`
abbrev pub IsTooDeep : {A : Type 0} → Plain A → Path → Path → Type 0
IsTooDeep m from to = (q : Path) × ((is_some (m (from ++ q)) ≡ true) × (most_elements < length to + length q))

abbrev pub IsDepthTest : {A : Type 0} → Bool → Plain A → Path → Path → Type 0
IsDepthTest deep m from to = MatchBool deep (IsTooDeep m from to) (IsTooDeep m from to → ⊥)

-- whether something at or under `from` would have too long a path under `to`
abbrev pub is_too_deep : {A : Type 0} → Rows A → Path → Path → Bool
is_too_deep rows from to = list_any (λ r. begins from r.0 && nat_lt most_elements (length to + length (after from r.0))) rows

-- the same of what is visible there, which a snapshot copies
abbrev pub is_copied_too_deep : {A : Type 0} → Rows A → Path → Path → Bool
is_copied_too_deep rows from to =
    list_any (λ r. begins from r.0 && (not (list_any is_hidden (after from r.0)) && nat_lt most_elements (length to + length (after from r.0)))) rows
