-- How the chunks of a tree come and go, however they are counted.
use Rattle.std.specs.Prelude.{◌≡◌, ◌+◌, ◌-◌, ◌++◌, ℕ, List, [], ◌∷◌, take, drop, length}
use Rattle.std.proofs.Common.{length-append}
use Rattle.std.specs.FinMap.{FinMap, get, entries}
use Rattle.gs_path.specs.Path.{path_cmp}
use Rattle.gs_tree.specs.Entry.{Entry}
use Rattle.gs_tree.specs.Edits.{chunks_in}
use Rattle.gs_tree.specs.Chunks.{chunks_under, part_chunks}
use Rattle.gs_tree.specs.declared.inverse.TreeInverse.{TreeInverse}
use Rattle.gs_tree.specs.declared.inverse.TreeInverse.TheVariants.{Made, Moved, Removed, Added, Changed, Copied}

-- a count of lists that adds up, as how often a chunk stands in a list, or how long the list is
abbrev pub IsAdditive : (List ℕ → ℕ) → Type 0
IsAdditive count = (xs ys : List ℕ) → count (xs ++ ys) ≡ count xs + count ys

-- the last chunk, and the one at a place, as a list
abbrev pub last_chunk : List ℕ → List ℕ
last_chunk chunks = drop (length chunks - 1) chunks

abbrev pub chunk_at : ℕ → List ℕ → List ℕ
chunk_at index chunks = take 1 (drop index chunks)

-- the chunks that a tree has no more once an inverse is undone
abbrev pub dropped_by : TreeInverse → FinMap path_cmp (Entry ℕ) → List ℕ
dropped_by (Made path above) m = []
dropped_by (Moved from to) m = []
dropped_by (Removed path node) m = []
dropped_by (Added path) m = last_chunk (chunks_in (get m path))
dropped_by (Changed path index chunk) m = chunk_at index (chunks_in (get m path))
dropped_by (Copied path) m = chunks_under path (entries m)

-- and those that it has again
abbrev pub put_back_by : TreeInverse → List ℕ
put_back_by (Made path above) = []
put_back_by (Moved from to) = []
put_back_by (Removed path node) = part_chunks node
put_back_by (Added path) = []
put_back_by (Changed path index chunk) = chunk ∷ []
put_back_by (Copied path) = []

lengths_add_up : IsAdditive length
lengths_add_up xs ys = length-append xs ys
