-- A move or a removal whose place is kept by an empty directory, until it stands or is taken back.
use Rattle.std.specs.Prelude.{◌≡◌, ℕ, Bool, true, false, List, Result, Ok, Err}
use Rattle.std.specs.FinMap as fin
use Rattle.gs_base.specs.declared.refusal.Refusal.{Refusal}
use Rattle.gs_path.specs.Path.{Path, path_cmp}
use Rattle.gs_refs.specs.Counts.{lowered_each, raised_each}
use Rattle.gs_tree.specs.Chunks.{chunks_under, part_chunks}
use Rattle.gs_tree.specs.Find.{Rows, at}
use Rattle.gs_tree.specs.Plain.{Same}
use Rattle.gs_tree.specs.Places.{IsTakenOut, given_up}
use Rattle.gs_tree.specs.Entry.{Entry}
use Rattle.gs_tree.specs.declared.inverse.TreeInverse.{TreeInverse}
use Rattle.gs_edit.specs.View.{NamesView}
use Rattle.gs_edit.specs.Edits.{Applies, AppliesRows}
use Rattle.gs_edit.specs.declared.edit.Edit.{Edit}
use Rattle.gs_edit.specs.declared.edit.Edit.TheVariants as edits

-- an edit that moves something
abbrev pub is_move : Edit → Bool
is_move (edits.Mkdirs p) = false
is_move (edits.Create p) = false
is_move (edits.Rename from to) = true
is_move (edits.Hide p moment number) = true
is_move (edits.Unhide p) = true
is_move (edits.Remove p) = false
is_move (edits.AddChunk p chunk) = false
is_move (edits.Cow p index old new) = false
is_move (edits.Snapshot from to) = false
is_move (edits.Forget chunks) = false

-- names that are those of a move, once the place that it kept is given up
abbrev pub IsClosed : Result TreeInverse Refusal → NamesView → NamesView → Type 0
IsClosed made now after = Same (fin.get after.tree) (given_up made (fin.get now.tree)) × (after.refs ≡ now.refs)

-- a move is made in the rows of a tree, once the place that it kept is given up
abbrev pub AppliesMove : Edit → fin.FinMap path_cmp (Entry ℕ) → Result TreeInverse Refusal → fin.FinMap path_cmp (Entry ℕ) → Type 0
AppliesMove edit old made now = is_move edit ≡ true → (after : fin.FinMap path_cmp (Entry ℕ)) → Same (fin.get after) (given_up made (fin.get now))
    → AppliesRows edit (fin.entries old) made (fin.entries after)

-- What is hidden at a path has left an empty directory there, and each of its chunks has a reference less for each time that
-- it stood in it. These references can be given back.
pub record TakesOut (p : Path) (old : NamesView) (node : Rows ℕ) (chunks : List ℕ) (new : NamesView) : Type 0 where
  pub tree : IsTakenOut p (at node) (fin.get old.tree) (fin.get new.tree)
  pub stood : chunks ≡ chunks_under p (fin.entries old.tree)
  pub part : part_chunks node ≡ chunks
  pub lowered : lowered_each old.refs chunks ≡ Ok new.refs
  pub raised : raised_each new.refs chunks ≡ Ok old.refs

-- or the removal is refused, and nothing has changed
abbrev pub IsNotRemoved : Path → NamesView → Refusal → NamesView → Type 0
IsNotRemoved p old e new = Applies {I = Unit {0}} (edits.Remove p) old (Err e) new
