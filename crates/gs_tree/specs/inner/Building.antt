-- What the functions that build a part of a tree of entries say of one another's work.
use Rattle.std.specs.Prelude.{◌≡◌, ◌≢◌, ◌⊎◌, ◌≤◌, ◌<◌, ◌+◌, ◌==◌, ◌++◌, ◌&&◌, ◌||◌, ℕ, Bool, true, false, not, [], ◌∷◌, length, Result, Ok, Err, Some, None, is_none}
use Rattle.gs_base.specs.declared.refusal.Refusal.{Refusal}
use Rattle.gs_base.specs.declared.refusal.Refusal.TheVariants.{Memory, BadLine}
use Rattle.gs_path.specs.Path.{Path, begins}
use Rattle.gs_tree.specs.Entry.{Entry, Dir}
use Rattle.gs_tree.specs.Plain.{Plain, Same, part_at}
use Rattle.gs_tree.specs.Find.{Rows, at}
use Rattle.gs_tree.specs.Edits.{is_dir, parent, with_entry}
use Rattle.gs_tree.specs.Build.{is_part, goes_deeper}

-- a node of these rows, which doesn't know its path, or BadLine where they aren't such a part; which lengths don't fit is
-- told before memory is wanted
abbrev pub BuildsPart : Path × Entry ℕ → Rows ℕ → Result (Rows ℕ) Refusal → Type 0
BuildsPart top rows (Ok node) = (is_part top rows ≡ true) × Same (at node) (part_at top.0 (at (top ∷ rows)))
BuildsPart top rows (Err e) = ((e ≡ Memory) × (goes_deeper (top ∷ rows) ≡ true)) ⊎ ((e ≡ BadLine) × (is_part top rows ≡ false))

-- a path begins with another, and its parent is a directory
abbrev pub has_parent : {A : Type 0} → Path → Plain A → Path → Bool
has_parent top m p = begins top p && is_dir (m (parent p))

-- the paths of so many elements are apart from one another and pass
abbrev pub fits_level : {A : Type 0} → (Path → Bool) → ℕ → Rows A → Bool
fits_level passes n [] = true
fits_level passes n (r ∷ rows) = (not (length r.0 == n) || (is_none (at rows r.0) && passes r.0)) && fits_level passes n rows

-- of rows below a path, just those of at most so many elements stand, and they fit
pub record IsFilled (top : Path × Entry ℕ) (rows : Rows ℕ) (most : ℕ) (m : Plain ℕ) : Type 0 where
  pub start : length top.0 ≤ most
  pub upper : (q : Path) → length (top.0 ++ q) ≤ most → m q ≡ at (top ∷ rows) (top.0 ++ q)
  pub lower : (q : Path) → most < length (top.0 ++ q) → m q ≡ None
  pub levels : (n : ℕ) → length top.0 < n → n ≤ most → fits_level (has_parent top.0 (at (top ∷ rows))) n rows ≡ true

-- those of one more element stand too, or the rows aren't such a part
abbrev pub FillsLevel : Path × Entry ℕ → Rows ℕ → ℕ → Result (Unit {0}) Refusal → Plain ℕ → Type 0
FillsLevel top rows most (Ok _) new = IsFilled top rows (most + 1) new
FillsLevel top rows most (Err e) new = (e ≡ Memory) ⊎ ((e ≡ BadLine) × (is_part top rows ≡ false))

-- a path below another, seen from there, is free under a directory
pub record IsFreeBelow (m : Plain ℕ) (top p q : Path) : Type 0 where
  pub path : p ≡ top ++ q
  pub below : q ≢ []
  pub free : m q ≡ None
  pub dir : m (parent q) ≡ Some Dir

-- one more entry, if its place is free under a directory
abbrev pub AddsBelow : Plain ℕ → Path → Path → Entry ℕ → Result (Unit {0}) Refusal → Plain ℕ → Type 0
AddsBelow m top p e (Ok _) new = (q : Path) × (IsFreeBelow m top p q × Same new (with_entry q e m))
AddsBelow m top p e (Err f) new = (f ≡ Memory) ⊎ ((f ≡ BadLine) × ((q : Path) → IsFreeBelow m top p q → ⊥))
