-- A tree as the list of what stands below its root, and which lists are a tree.
use Rattle.std.specs.Prelude.{◌≡◌, ◌⊎◌, ◌++◌, ◌&&◌, ℕ, Bool, true, false, List, [], ◌∷◌, map, length, replicate, codes, nat_le, nat_lt, Result, Ok, Err, is_some, is_none, refl}
use Rattle.std.specs.List.{list_all}
use Rattle.std.specs.FinMap as fin
use Rattle.gs_base.specs.declared.refusal.Refusal.{Refusal}
use Rattle.gs_base.specs.declared.refusal.Refusal.TheVariants.{Memory, BadLine}
use Rattle.gs_path.specs.Path.{Path, path_cmp, begins}
use Rattle.gs_tree.specs.Entry.{Entry, Dir, File}
use Rattle.gs_tree.specs.Plain.{Plain, Same}
use Rattle.gs_tree.specs.Find.{Rows, at, DirsAbove, most_elements}
use Rattle.gs_tree.specs.Edits.{is_dir, parent}
use Rattle.gs_tree.specs.declared.entry.TreeEntry.{TreeEntry}
use Rattle.gs_tree.specs.declared.entry.TreeEntry.TheVariants as entries

abbrev pub path_of_entry : TreeEntry → Path
path_of_entry (entries.Dir path) = path
path_of_entry (entries.File path chunks) = path

abbrev pub kind_of_entry : TreeEntry → Entry ℕ
kind_of_entry (entries.Dir path) = Dir
kind_of_entry (entries.File path chunks) = File chunks.items

abbrev pub row_of_entry : TreeEntry → Path × Entry ℕ
row_of_entry e = (path_of_entry e, kind_of_entry e)

abbrev pub rows_of_entries : List TreeEntry → Rows ℕ
rows_of_entries listed = map row_of_entry listed

-- the root, and these rows
abbrev pub rooted_rows : {A : Type 0} → Rows A → Rows A
rooted_rows rows = ([], Dir) ∷ rows

-- all rows but the first, which is the root's
abbrev pub below_root : {A : Type 0} → Rows A → Rows A
below_root [] = []
below_root (r ∷ rows) = rows

-- each path with a front
abbrev pub prefixed : {A : Type 0} → Path → Rows A → Rows A
prefixed p rows = map (λ r. (p ++ r.0, r.1)) rows

-- no path stands twice
abbrev pub all_apart : {A : Type 0} → Rows A → Bool
all_apart [] = true
all_apart (r ∷ rows) = is_none (at rows r.0) && all_apart rows

abbrev pub is_short : Path → Bool
is_short p = nat_le (length p) most_elements

-- a path has few enough elements, and its parent is a directory
abbrev pub has_place : {A : Type 0} → Plain A → Path → Bool
has_place m p = is_short p && is_dir (m (parent p))

-- Whether rows, in any order, are what stands below a path's row: no path stands twice, and each of theirs begins with that
-- path and has a place among them.
abbrev pub is_part : {A : Type 0} → Path × Entry A → Rows A → Bool
is_part top rows =
    is_short top.0 && (all_apart (top ∷ rows) && list_all (λ r. begins top.0 r.0 && has_place (at (top ∷ rows)) r.0) rows)

-- Whether rows are a tree's without its root.
abbrev pub is_tree : {A : Type 0} → Rows A → Bool
is_tree rows = is_part ([], Dir) rows

-- a tree of just these rows, or BadLine where they aren't one
abbrev pub Builds : Rows ℕ → Result (fin.FinMap path_cmp (Entry ℕ)) Refusal → Type 0
Builds rows (Ok tree) = (is_tree rows ≡ true) × Same (fin.get tree) (at (rooted_rows rows))
Builds rows (Err e) = (e ≡ Memory) ⊎ ((e ≡ BadLine) × (is_tree rows ≡ false))

-- a path has more elements than this, and few enough
abbrev pub is_inside : ℕ → Path → Bool
is_inside least p = nat_lt least (length p) && is_short p

-- rows of which each path has more elements than the first one's, and all have few enough
abbrev pub goes_deeper : {A : Type 0} → Rows A → Bool
goes_deeper [] = false
goes_deeper (top ∷ rows) = is_short top.0 && list_all (λ r. is_inside (length top.0) r.0) rows

-- the paths rise, and above each are directories
pub record IsSound (rows : Rows ℕ) : Type 0 where
  pub rise : fin.is_sorted path_cmp rows ≡ true
  pub above : (q : Path) → is_some (at rows q) ≡ true → DirsAbove (at rows) q

-- a/b, and a file f
abbrev some_rows : Rows ℕ
some_rows = (codes "a" ∷ [], Dir) ∷ (codes "a" ∷ codes "b" ∷ [], Dir) ∷ (codes "f" ∷ [], File (7 ∷ [])) ∷ []

a_tree : is_tree some_rows ≡ true
a_tree = refl

nothing_but_the_root : is_tree {A = ℕ} [] ≡ true
nothing_but_the_root = refl

the_root_among_them : is_tree (([], Dir) ∷ some_rows) ≡ false
the_root_among_them = refl

a_path_twice : is_tree {A = ℕ} ((codes "a" ∷ [], Dir) ∷ (codes "a" ∷ [], Dir) ∷ []) ≡ false
a_path_twice = refl

in_any_order : is_tree {A = ℕ} ((codes "f" ∷ [], File (7 ∷ [])) ∷ (codes "a" ∷ codes "b" ∷ [], Dir) ∷ (codes "a" ∷ [], Dir) ∷ []) ≡ true
in_any_order = refl

a_path_twice_in_any_order : is_tree {A = ℕ} ((codes "a" ∷ [], Dir) ∷ (codes "f" ∷ [], Dir) ∷ (codes "a" ∷ [], File []) ∷ []) ≡ false
a_path_twice_in_any_order = refl

-- what stands at and below a/b
abbrev a_part : Path × Entry ℕ
a_part = (codes "a" ∷ codes "b" ∷ [], Dir)

below_its_path : is_part a_part ((codes "a" ∷ codes "b" ∷ codes "c" ∷ codes "d" ∷ [], File []) ∷ (codes "a" ∷ codes "b" ∷ codes "c" ∷ [], Dir) ∷ []) ≡ true
below_its_path = refl

beside_its_path : is_part a_part ((codes "a" ∷ codes "f" ∷ [], File []) ∷ []) ≡ false
beside_its_path = refl

deeper_though_beside : goes_deeper (a_part ∷ (codes "a" ∷ codes "f" ∷ codes "g" ∷ [], File []) ∷ []) ≡ true
deeper_though_beside = refl

as_deep_as_the_first : goes_deeper (a_part ∷ (codes "a" ∷ codes "f" ∷ [], File []) ∷ []) ≡ false
as_deep_as_the_first = refl

without_a_parent : is_tree {A = ℕ} ((codes "a" ∷ codes "b" ∷ [], Dir) ∷ []) ≡ false
without_a_parent = refl

below_a_file : is_tree {A = ℕ} ((codes "f" ∷ [], File []) ∷ (codes "f" ∷ codes "b" ∷ [], Dir) ∷ []) ≡ false
below_a_file = refl

sixty_five_elements : is_short (replicate 65 (codes "a")) ≡ false
sixty_five_elements = refl
