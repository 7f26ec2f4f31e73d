-- What takes an edit back, and where it fits.
use Rattle.std.specs.Prelude.{◌≡◌, ◌≢◌, ◌⊎◌, ◌≤◌, ◌+◌, ◌-◌, ℕ, Bool, true, false, cond, [], ◌∷◌, List, take, drop, length, nat_lt, slice_get, slice_set, Some, None, is_some}
use Rattle.gs_path.specs.Path.{Path, begins}
use Rattle.gs_tree.specs.Entry.{Entry, Dir, File}
use Rattle.gs_tree.specs.Plain.{Plain, Same, IsFree, with_at, without, part_at}
use Rattle.gs_tree.specs.Find.{Rows, at}
use Rattle.gs_tree.specs.Edits.{moved, parent, same_path, chunks_in, with_chunks}
use Rattle.gs_tree.specs.Chunks.{part_chunks}
use Rattle.gs_tree.specs.declared.inverse.TreeInverse.{TreeInverse}
use Rattle.gs_tree.specs.declared.inverse.TreeInverse.TheVariants.{Made, Moved, Removed, Added, Changed, Copied}

-- the first path that was made, of a path of which `above` elements stood
abbrev pub first_made : Path → ℕ → Path
first_made path above = take (above + 1) path

abbrev pub below_first : Path → ℕ → Path
below_first path above = drop (above + 1) path

abbrev pub all_but_last : List ℕ → List ℕ
all_but_last chunks = take (length chunks - 1) chunks

-- what stands at each path once an inverse is undone
abbrev pub after_undo : TreeInverse → Plain ℕ → Plain ℕ
after_undo (Made path above) m = cond (nat_lt above (length path)) (without (first_made path above) m) m
after_undo (Moved from to) m = moved to from m
after_undo (Removed path node) m = with_at path (at node) m
after_undo (Added path) m = with_chunks path (all_but_last (chunks_in (m path))) m
after_undo (Changed path index chunk) m = with_chunks path (slice_set (chunks_in (m path)) index chunk) m
after_undo (Copied path) m = without path m

-- a directory, or a file without chunks
abbrev pub IsBlank : {A : Type 0} → Entry A → Type 0
IsBlank Dir = Unit {0}
IsBlank (File []) = Unit {0}
IsBlank (File (x ∷ chunks)) = ⊥

-- directories in a row with e at the end, and nothing else
abbrev pub row_of : {A : Type 0} → Path → Entry A → Plain A
row_of p e q = cond (same_path p q) (Some e) (cond (begins q p) (Some Dir) None)

abbrev pub IsBlankRow : {A : Type 0} → Plain A → Path → Type 0
IsBlankRow {A} m p = (e : Entry A) × (IsBlank e × Same m (row_of p e))

-- What was made stands there with nothing else under it. What was moved stands there, and its old place is free under a
-- directory that doesn't move with it. The place of what was removed is free under a directory. The file to which a chunk
-- was added has one, and that of which a chunk was changed still has its place. What was copied stands, and isn't the root.
abbrev pub Fits : TreeInverse → Plain ℕ → Type 0
Fits (Made path above) m = (length path ≤ above) ⊎ IsBlankRow (part_at (first_made path above) m) (below_first path above)
Fits (Moved from to) m = (is_some (m to) ≡ true) × (begins to from ≡ false) × IsFree m from × (m (parent from) ≡ Some Dir)
Fits (Removed path node) m = IsFree m path × (m (parent path) ≡ Some Dir)
Fits (Added path) m = nat_lt 0 (length (chunks_in (m path))) ≡ true
Fits (Changed path index chunk) m = nat_lt index (length (chunks_in (m path))) ≡ true
Fits (Copied path) m = (path ≢ []) × (is_some (m path) ≡ true)

-- an inverse that fits the new state and leads back to the old
pub record TakesBack (i : TreeInverse) (old new : Plain ℕ) : Type 0 where
  pub fits : Fits i new
  pub back : Same (after_undo i new) old

-- an inverse of an edit that leaves each file's chunks
abbrev pub LeavesChunks : TreeInverse → Type 0
LeavesChunks (Made path above) = Unit {0}
LeavesChunks (Moved from to) = Unit {0}
LeavesChunks (Removed path node) = ⊥
LeavesChunks (Added path) = ⊥
LeavesChunks (Changed path index chunk) = ⊥
LeavesChunks (Copied path) = ⊥

-- an inverse of an edit that makes paths
abbrev pub IsMade : TreeInverse → Type 0
IsMade (Made path above) = Unit {0}
IsMade (Moved from to) = ⊥
IsMade (Removed path node) = ⊥
IsMade (Added path) = ⊥
IsMade (Changed path index chunk) = ⊥
IsMade (Copied path) = ⊥

-- an inverse of an edit that moves something
abbrev pub IsMoved : TreeInverse → Type 0
IsMoved (Made path above) = ⊥
IsMoved (Moved from to) = Unit {0}
IsMoved (Removed path node) = ⊥
IsMoved (Added path) = ⊥
IsMoved (Changed path index chunk) = ⊥
IsMoved (Copied path) = ⊥

-- what stood at a path, with all under it
abbrev pub IsRemoved : Plain ℕ → Path → TreeInverse → Type 0
IsRemoved m path i = (node : Rows ℕ) × (Same (part_at path m) (at node) × (i ≡ Removed path node))

-- the chunk that a file had at a place
abbrev pub IsChanged : Plain ℕ → Path → ℕ → TreeInverse → Type 0
IsChanged m path index i = (had : ℕ) × ((slice_get (chunks_in (m path)) index ≡ Some had) × (i ≡ Changed path index had))

-- whether something is copied to undo it: the name of what moves back, or all that was removed
abbrev pub takes_memory : TreeInverse → Bool
takes_memory (Made path above) = false
takes_memory (Moved from to) = true
takes_memory (Removed path node) = true
takes_memory (Added path) = false
takes_memory (Changed path index chunk) = false
takes_memory (Copied path) = false

-- the chunks of what was removed, in the order of the paths
abbrev pub removed_chunks : TreeInverse → List ℕ
removed_chunks (Made path above) = []
removed_chunks (Moved from to) = []
removed_chunks (Removed path node) = part_chunks node
removed_chunks (Added path) = []
removed_chunks (Changed path index chunk) = []
removed_chunks (Copied path) = []
