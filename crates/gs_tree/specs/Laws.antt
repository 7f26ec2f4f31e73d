-- What the laws of a tree say.
use Rattle.std.specs.Prelude.{◌≡◌, ◌+◌, ℕ, Bool, true, false, [], List, Result, Ok, IfOk, IfErr}
use Rattle.std.specs.List.{list_all}
use Rattle.std.specs.FinMap.{FinMap, get, entries as rows_of_map}
use Rattle.gs_base.specs.declared.refusal.Refusal.{Refusal}
use Rattle.gs_base.specs.declared.refusal.Refusal.TheVariants.{Memory}
use Rattle.gs_path.specs.Path.{Path, path_cmp, begins}
use Rattle.gs_tree.specs.Entry.{Entry}
use Rattle.gs_tree.specs.Plain.{Plain, Same}
use Rattle.gs_tree.specs.Find.{Rows, at}
use Rattle.gs_tree.specs.Edits.{snapshot}
use Rattle.gs_tree.specs.Mapped.{mapped, mapped_result}
use Rattle.gs_tree.specs.Build.{rooted_rows, is_short, is_tree, Builds, IsSound}
use Rattle.gs_tree.specs.Lists.{is_removed, PutsBack, IsSameInverse, IsPartList, top_path}
use Rattle.gs_tree.specs.declared.inverse.TreeInverse.{TreeInverse}
use Rattle.gs_tree.specs.declared.inverse.TreeInverse.TheVariants as inverses
use Rattle.gs_tree.specs.Inverses.{Fits, TakesBack, after_undo}
use Rattle.gs_tree.specs.Chunks.{all_chunks}
use Rattle.gs_tree.specs.Counting.{IsAdditive, dropped_by, put_back_by}
use Rattle.gs_tree.specs.Commands.{Command, done, touched}

-- ---- texts and snapshots
-- A snapshot gives the same in a tree whose files hold the texts of the chunks.
abbrev pub SnapshotsFollowChunks : Type 0
SnapshotsFollowChunks = (text : ℕ → List ℕ) (is_deep : Path → Bool) (m : Plain ℕ) (from to : Path)
    → snapshot is_deep (mapped text m) from to ≡ mapped_result text (snapshot is_deep m from to)

-- An edit of which each path is at or under one path leaves what stands at and under another that is apart from it.
abbrev pub EditsLeaveTheOtherSide : Type 0
EditsLeaveTheOtherSide = (c : Command ℕ) (m n : Plain ℕ) (one other q : Path) → begins one other ≡ false → begins other one ≡ false
    → list_all (begins one) (touched c m) ≡ true → done c m ≡ Ok n → begins other q ≡ true → n q ≡ m q

-- ---- entries and lists
-- The entries of a tree build it again, memory aside.
abbrev pub EntriesBuildAgain : Type 0
EntriesBuildAgain = (tree : FinMap path_cmp (Entry ℕ)) (rows : Rows ℕ) (built : Result (FinMap path_cmp (Entry ℕ)) Refusal) → Same (at (rooted_rows rows)) (get tree)
    → is_tree rows ≡ true → Builds rows built → IfOk built (λ t. t ≡ tree) × IfErr built (λ e. e ≡ Memory)

-- An inverse that is made of the list of what was removed does the same.
abbrev pub RemovedListsUndoTheSame : Type 0
RemovedListsUndoTheSame = (path : Path) (node rows : Rows ℕ) (i : TreeInverse) → IsSound node → top_path node ≡ [] → IsPartList path node rows → PutsBack rows i
    → IsSameInverse (inverses.Removed path node) i

-- The list of what was removed is one of an inverse, where no path has more than 64 elements.
abbrev pub RemovedListsAreWhole : Type 0
RemovedListsAreWhole = (path : Path) (node rows : Rows ℕ) → IsSound node → top_path node ≡ [] → IsPartList path node rows
    → list_all (λ r. is_short r.0) rows ≡ true → is_removed rows ≡ true

-- ---- chunks that are counted
-- The chunks that go and come where an inverse is undone make the difference of those before and after it.
abbrev pub UndoesBalanceTheChunks : Type 0
UndoesBalanceTheChunks = (count : List ℕ → ℕ) (i : TreeInverse) (old new : FinMap path_cmp (Entry ℕ)) → IsAdditive count → Fits i (get old)
    → Same (get new) (after_undo i (get old))
    → count (all_chunks (rows_of_map new)) + count (dropped_by i old) ≡ count (all_chunks (rows_of_map old)) + count (put_back_by i)

-- So they do of an edit, whose inverse leads from the new tree to the old.
abbrev pub EditsBalanceTheChunks : Type 0
EditsBalanceTheChunks = (count : List ℕ → ℕ) (i : TreeInverse) (old new : FinMap path_cmp (Entry ℕ)) → IsAdditive count → TakesBack i (get old) (get new)
    → count (all_chunks (rows_of_map old)) + count (dropped_by i new) ≡ count (all_chunks (rows_of_map new)) + count (put_back_by i)
