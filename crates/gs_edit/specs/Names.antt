-- What takes an edit of the names back.
use Rattle.std.specs.Prelude.{◌≡◌, ◌⊎◌, ◌+◌, ◌-◌, ◌==◌, ◌&&◌, not, if◌then◌else◌, ℕ, Bool, true, false, List, Option, Some, None, Result, Ok, Err, is_some, slice_get, length, nat_lt}
use Rattle.std.specs.FinMap as fin
use Rattle.gs_path.specs.Path.{Path, path_cmp}
use Rattle.gs_base.specs.declared.refusal.Refusal.{Refusal}
use Rattle.gs_base.specs.declared.refusal.Refusal.TheVariants.{Memory, BadLine}
use Rattle.gs_refs.specs.Counts.{Counts, count_or_zero, IsCountOf, last_count, put_each, raised_each, lowered_each}
use Rattle.gs_tree.specs.Plain.{Plain, Same}
use Rattle.gs_tree.specs.Edits.{chunks_in, moved}
use Rattle.gs_tree.specs.Follows.{CanMove}
use Rattle.gs_tree.specs.Entry.{Entry}
use Rattle.gs_tree.specs.Chunks.{all_chunks, chunks_under, part_chunks}
use Rattle.gs_tree.specs.Inverses as tree
use Rattle.gs_tree.specs.declared.inverse.TreeInverse.{TreeInverse}
use Rattle.gs_tree.specs.declared.inverse.TreeInverse.TheVariants.{Made, Moved, Removed, Added, Changed, Copied}
use Rattle.gs_edit.specs.Table.{root_rows}
use Rattle.gs_edit.specs.View.{NamesView}
use Rattle.gs_edit.specs.declared.edit.Inverse.{Inverse}
use Rattle.gs_edit.specs.declared.edit.Inverse.TheVariants as inverses

-- the root alone, and no chunk
abbrev pub blank : NamesView
blank = record { tree = fin.from_entries root_rows; refs = fin.empty }

abbrev pub is_one : Option ℕ → Bool
is_one None = false
is_one (Some n) = n == 1

-- a listed chunk may have one more reference
abbrev pub has_room : Option ℕ → Bool
has_room None = false
has_room (Some n) = nat_lt n last_count

abbrev pub last_chunk : List ℕ → Option ℕ
last_chunk chunks = slice_get chunks (length chunks - 1)

-- without a chunk of one reference, which goes back to another
abbrev pub returned : Counts → ℕ → ℕ → Counts
returned refs chunk old = fin.insert (fin.remove refs chunk) old (count_or_zero (fin.get refs old) + 1)

-- the counts once a chunk that was added is taken out, which has one reference
abbrev pub without_added : Counts → Option ℕ → Option Counts
without_added refs None = None
without_added refs (Some chunk) = if is_one (fin.get refs chunk) then Some (fin.remove refs chunk) else None

-- the counts once a chunk that was put into a place is taken out, which has one reference, and the old one put back
abbrev pub without_changed : Counts → Option ℕ → ℕ → Option Counts
without_changed refs None old = None
without_changed refs (Some chunk) old =
    if is_one (fin.get refs chunk) && (not (chunk == old) && has_room (fin.get refs old)) then Some (returned refs chunk old) else None

abbrev pub accepted : Result Counts Refusal → Option Counts
accepted (Ok refs) = Some refs
accepted (Err e) = None

-- The counts once an edit of the tree is taken back, if the inverse fits them: what was removed refers to its chunks again,
-- and what was copied no more.
abbrev pub counts_back : TreeInverse → fin.FinMap path_cmp (Entry ℕ) → Counts → Option Counts
counts_back (Made path above) t refs = Some refs
counts_back (Moved from to) t refs = Some refs
counts_back (Removed path node) t refs = accepted (raised_each refs (part_chunks node))
counts_back (Added path) t refs = without_added refs (last_chunk (chunks_in (fin.get t path)))
counts_back (Changed path index old) t refs = without_changed refs (slice_get (chunks_in (fin.get t path)) index) old
counts_back (Copied path) t refs = accepted (lowered_each refs (chunks_under path (fin.entries t)))

-- what an inverse makes of the counts, if it fits them
abbrev pub counts_after : Inverse → NamesView → Option Counts
counts_after (inverses.Tree i) names = counts_back i names.tree names.refs
counts_after (inverses.Remember chunks) names = accepted (put_each names.refs chunks.items)

abbrev pub tree_after : Inverse → NamesView → Plain ℕ
tree_after (inverses.Tree i) names = tree.after_undo i (fin.get names.tree)
tree_after (inverses.Remember chunks) names = fin.get names.tree

abbrev pub FitsTree : Inverse → NamesView → Type 0
FitsTree (inverses.Tree i) names = tree.Fits i (fin.get names.tree)
FitsTree (inverses.Remember chunks) names = Unit {0}

-- the inverse fits the new names, and what it is to lead to from there is the old
pub record NamesTakenBack (i : Inverse) (old new : NamesView) : Type 0 where
  pub fits : FitsTree i new
  pub tree : Same (tree_after i new) (fin.get old.tree)
  pub refs : counts_after i new ≡ Some old.refs

-- an inverse is undone exactly where it fits, memory aside; a refusal changes nothing
abbrev pub Undoes : Inverse → NamesView → Result (Unit {0}) Refusal → NamesView → Type 0
Undoes i old (Ok _) new = FitsTree i old × Same (fin.get new.tree) (tree_after i old) × (counts_after i old ≡ Some new.refs)
Undoes i old (Err f) new = ((f ≡ Memory) ⊎ ((f ≡ BadLine) × (FitsTree i old → is_some (counts_after i old) ≡ true → ⊥))) × (new ≡ old)

-- what stands at a path is moved exactly where it can be, memory aside, and each count stays
abbrev pub MovesNames : Path → Path → NamesView → Result NamesView Refusal → Type 0
MovesNames from to old (Ok new) = CanMove from to (fin.get old.tree) × Same (fin.get new.tree) (moved from to (fin.get old.tree)) × (new.refs ≡ old.refs)
MovesNames from to old (Err f) = (f ≡ Memory) ⊎ ((f ≡ BadLine) × (CanMove from to (fin.get old.tree) → ⊥))

abbrev pub TakesOneBack : TreeInverse → NamesView → Result (Unit {0}) Refusal → NamesView → Type 0
TakesOneBack i old result new = Undoes (inverses.Tree i) old result new

-- taking an edit of the tree back may want memory: to move or plant something, or to tell the chunks of a copy
abbrev pub wants_memory : TreeInverse → Bool
wants_memory (Made path above) = false
wants_memory (Moved from to) = true
wants_memory (Removed path node) = true
wants_memory (Added path) = false
wants_memory (Changed path index chunk) = false
wants_memory (Copied path) = true

abbrev pub takes_memory : Inverse → Bool
takes_memory (inverses.Tree i) = wants_memory i
takes_memory (inverses.Remember chunks) = true

abbrev pub kept_of : Result TreeInverse Refusal → Result Inverse Refusal
kept_of (Ok i) = Ok (inverses.Tree i)
kept_of (Err e) = Err e

-- the count of each chunk is how often it stands in the tree's files; one that stands in none may be listed
abbrev pub IsCounted : NamesView → Type 0
IsCounted names = IsCountOf (all_chunks (fin.entries names.tree)) names.refs

-- names are made of a tree and counts exactly where these are the tree's, memory aside
abbrev pub GivesNames : NamesView → Result NamesView Refusal → Type 0
GivesNames expected (Ok names) = (names ≡ expected) × IsCounted expected
GivesNames expected (Err e) = ((e ≡ BadLine) × (IsCounted expected → ⊥)) ⊎ (e ≡ Memory)
