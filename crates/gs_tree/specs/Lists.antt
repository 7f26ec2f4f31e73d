-- The lists as which inverses can be written down, and which lists are those of one.
use Rattle.std.specs.Prelude.{◌≡◌, ◌⊎◌, ◌+◌, ◌-◌, ◌==◌, ◌++◌, ◌&&◌, ℕ, Bool, true, false, List, [], ◌∷◌, filter, length, codes, nat_lt, Result, Ok, Err, refl}
use Rattle.gs_base.specs.declared.refusal.Refusal.{Refusal}
use Rattle.gs_base.specs.declared.refusal.Refusal.TheVariants.{Memory, BadLine}
use Rattle.gs_path.specs.Path.{Path, begins}
use Rattle.gs_tree.specs.Plain.{Plain, Same, part_at}
use Rattle.gs_tree.specs.Find.{Rows, at}
use Rattle.std.specs.List.Sorted.{IsPermutation}
use Rattle.gs_tree.specs.Build.{is_part, prefixed, below_root, goes_deeper}
use Rattle.gs_tree.specs.Inverses.{Fits, after_undo, removed_chunks}
use Rattle.gs_tree.specs.declared.inverse.TreeInverse.{TreeInverse}
use Rattle.gs_tree.specs.declared.inverse.TreeInverse.TheVariants.{Made, Removed}

-- from p on along q, each path of one more element
abbrev pub fronts_below : Path → Path → List Path
fronts_below p [] = []
fronts_below p (x ∷ q) = (p ++ x ∷ []) ∷ fronts_below (p ++ x ∷ []) q

-- the paths down to a path that have more elements than stood
abbrev pub made_paths : Path → ℕ → List Path
made_paths path above = filter (λ p. nat_lt above (length p)) (fronts_below [] path)

-- a path is another with one more element
abbrev pub is_child : Path → Path → Bool
is_child p q = begins p q && (length q == length p + 1)

-- each path is the one before it with one more element, and the first is p with one more
abbrev pub grows : Path → List Path → Bool
grows p [] = true
grows p (q ∷ paths) = is_child p q && grows q paths

-- paths that one edit makes: none of them is the root, and each is the parent of the next
abbrev pub is_made : List Path → Bool
is_made [] = true
is_made (p ∷ paths) = nat_lt 0 (length p) && grows p paths

abbrev pub last_of : Path → List Path → Path
last_of p [] = p
last_of p (q ∷ paths) = last_of q paths

-- what takes out the paths that an edit made: nothing, where it made none
abbrev pub made_inverse : List Path → TreeInverse
made_inverse [] = Made [] 0
made_inverse (p ∷ paths) = Made (last_of p paths) (length p - 1)

-- paths that one edit makes, and there are some: of none, no memory is wanted
abbrev pub is_some_made : List Path → Bool
is_some_made [] = false
is_some_made (p ∷ paths) = is_made (p ∷ paths)

-- judged before memory is wanted
abbrev pub GivesMade : List Path → Result TreeInverse Refusal → Type 0
GivesMade paths (Ok i) = (is_made paths ≡ true) × (i ≡ made_inverse paths)
GivesMade paths (Err e) = ((e ≡ Memory) × (is_some_made paths ≡ true)) ⊎ ((e ≡ BadLine) × (is_made paths ≡ false))

-- rows that were removed: a first one, and what stood below its path
abbrev pub is_removed : {A : Type 0} → Rows A → Bool
is_removed [] = false
is_removed (top ∷ rows) = is_part top rows

-- what puts these rows back
abbrev pub PutsBack : Rows ℕ → TreeInverse → Type 0
PutsBack [] i = ⊥
PutsBack (top ∷ rows) i = (node : Rows ℕ) × (Same (at node) (part_at top.0 (at (top ∷ rows))) × (i ≡ Removed top.0 node))

-- the lengths of their paths are judged before memory is wanted
abbrev pub GivesRemoved : Rows ℕ → Result TreeInverse Refusal → Type 0
GivesRemoved rows (Ok i) = (is_removed rows ≡ true) × PutsBack rows i
GivesRemoved rows (Err e) = ((e ≡ Memory) × (goes_deeper rows ≡ true)) ⊎ ((e ≡ BadLine) × (is_removed rows ≡ false))

-- two inverses that do the same: they fit the same trees, lead to the same, and put the same chunks back
pub record IsSameInverse (i j : TreeInverse) : Type 0 where
  pub fits : (m : Plain ℕ) → Fits i m → Fits j m
  pub back : (m : Plain ℕ) → Fits j m → Fits i m
  pub tree : (m : Plain ℕ) → Same (after_undo i m) (after_undo j m)
  pub chunks : removed_chunks i ≡ removed_chunks j

-- the path of the first row
abbrev pub top_path : {A : Type 0} → Rows A → Path
top_path [] = []
top_path (r ∷ rows) = r.0

-- the rows of a node that stands at a path: its own first, then those below it in any order
abbrev pub IsPartList : Path → Rows ℕ → Rows ℕ → Type 0
IsPartList p node [] = ⊥
IsPartList p node (top ∷ rows) =
    (prefixed p node ≡ top ∷ prefixed p (below_root node)) × IsPermutation (prefixed p (below_root node)) rows

abbrev a : Path
a = codes "a" ∷ []

abbrev ab : Path
ab = codes "a" ∷ codes "b" ∷ []

abbrev abc : Path
abc = codes "a" ∷ codes "b" ∷ codes "c" ∷ []

all_but_the_first : made_paths abc 1 ≡ ab ∷ abc ∷ []
all_but_the_first = refl

nothing_made : made_paths abc 3 ≡ []
nothing_made = refl

made_of_its_paths : made_inverse (ab ∷ abc ∷ []) ≡ Made abc 1
made_of_its_paths = refl

a_path_left_out : is_made (a ∷ abc ∷ []) ≡ false
a_path_left_out = refl

the_root_is_never_made : is_made ([] ∷ a ∷ []) ≡ false
the_root_is_never_made = refl

nothing_is_made_without_memory : is_some_made [] ≡ false
nothing_is_made_without_memory = refl
