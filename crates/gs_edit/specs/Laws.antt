-- What the laws of names say.
use Rattle.std.specs.Prelude.{◌≡◌, ◌&&◌, ◌==◌, ◌++◌, ◌∷◌, ℕ, List, [], true, is_some, Result, Ok, IfErr}
use Rattle.std.specs.List.{list_any}
use Rattle.std.specs.Ordering.{eq_by_cmp, nat_cmp}
use Rattle.std.specs.FinMap.{get, entries}
use Rattle.gs_base.specs.declared.refusal.Refusal.{Refusal}
use Rattle.gs_base.specs.declared.refusal.Refusal.TheVariants.{Memory}
use Rattle.gs_path.specs.Path.{Path}
use Rattle.gs_refs.specs.Counts.{Counts, occurrences}
use Rattle.gs_tree.specs.Find.{Rows, IsWithin, most_elements}
use Rattle.gs_tree.specs.Chunks.{all_chunks}
use Rattle.gs_edit.specs.View.{NamesView}
use Rattle.gs_edit.specs.Names.{NamesTakenBack, IsCounted}
use Rattle.gs_edit.specs.Plain.{set_chunk_rows}
use Rattle.gs_edit.specs.Mapped.{mapped_rows, mapped_edit}
use Rattle.gs_edit.specs.Scan.{left, Scans}
use Rattle.gs_edit.specs.Sweep.{named_each, edits_of, Sweeps, IsSwept}
use Rattle.gs_edit.specs.Edits.{Applies}
use Rattle.gs_edit.specs.Listed.{has_short_paths, IsListOf}
use Rattle.gs_edit.specs.declared.edit.Edit.{Edit}
use Rattle.gs_edit.specs.declared.edit.Inverse.{Inverse}
use Rattle.gs_edit.specs.declared.listed.ListedInverse.{ListedInverse}
use Rattle.gs_edit.specs.declared.scan.Scan.{Scan}

-- ---- scans
-- The edits of a scan are accepted one after the other, and take out all that goes.
abbrev pub ScansSweep : Type 0
ScansSweep = (moment : ℕ) (names : NamesView) (scan : Scan) → IsCounted names → Scans moment (entries names.tree) names.refs (Ok scan)
    → Sweeps moment (entries names.tree) (named_each (edits_of scan) (entries names.tree) names.refs)

-- Each of them, in its turn, is refused for want of memory alone.
abbrev pub EditsOfScansAreAccepted : Type 0
EditsOfScansAreAccepted = (moment : ℕ) (names mid new : NamesView) (scan : Scan) (front : List Edit) (next : Edit) (rest : List Edit) (result : Result Inverse Refusal)
    → IsCounted names → Scans moment (entries names.tree) names.refs (Ok scan) → edits_of scan ≡ front ++ next ∷ rest
    → named_each front (entries names.tree) names.refs ≡ Ok (entries mid.tree, mid.refs) → Applies next mid result new → IfErr result (λ e. e ≡ Memory)

-- The chunks that are forgotten are the listed ones that stand in none of the files that are left.
abbrev pub ForgottenChunksStandNowhere : Type 0
ForgottenChunksStandNowhere = (moment : ℕ) (names : NamesView) (scan : Scan) → IsCounted names → Scans moment (entries names.tree) names.refs (Ok scan)
    → (chunk : ℕ) → list_any (eq_by_cmp nat_cmp chunk) scan.forgotten.items
    ≡ (is_some (get names.refs chunk) && (occurrences chunk (all_chunks (left moment (entries names.tree))) == 0))

-- A scan at the same moment finds nothing afterwards.
abbrev pub SweptNamesHaveNothingToGo : Type 0
SweptNamesHaveNothingToGo = (moment : ℕ) (old : Rows ℕ) (new : Rows ℕ × Counts) (scan : Scan) → IsSwept moment old new → Scans moment new.0 new.1 (Ok scan)
    → (scan.removed.items ≡ []) × (scan.forgotten.items ≡ [])

-- ---- the rows of an edit
-- Rows with the texts of chunks in the place of their handles go through the same change of a chunk.
abbrev pub ChangedChunksFollowTexts : Type 0 → Type 0 → Type 0
ChangedChunksFollowTexts A B = (text : A → B) (rows : Rows A) (p : Path) (index : ℕ) (chunk : A)
    → set_chunk_rows (mapped_rows text rows) p index (text chunk) ≡ mapped_edit text (set_chunk_rows rows p index chunk)

-- ---- inverses as lists
-- Where no path of the names has more than 64 elements before an edit, none that it removed has.
abbrev pub ListsOfShortNamesAreShort : Type 0
ListsOfShortNamesAreShort = (i : Inverse) (list : ListedInverse) (old new : NamesView) → NamesTakenBack i old new → IsWithin most_elements (get old.tree) → IsListOf i list
    → has_short_paths list ≡ true
