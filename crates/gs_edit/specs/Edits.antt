-- What an edit answers and leaves.
use Rattle.std.specs.Prelude.{◌≡◌, ◌⊎◌, ◌&&◌, ◌==◌, ◌-◌, ℕ, Bool, true, false, nat_lt, nat_le, if◌then◌else◌, Option, Some, None, Result, Ok, Err, is_none, is_ok, slice_get}
use Rattle.std.specs.FinMap as fin
use Rattle.gs_base.specs.declared.refusal.Refusal.{Refusal}
use Rattle.gs_base.specs.declared.refusal.Refusal.TheVariants.{Memory, BadLine}
use Rattle.gs_refs.specs.Counts.{Counts, count_or_zero, last_count, taken_each, raised_each, lowered_each}
use Rattle.gs_tree.specs.Find.{Rows, at}
use Rattle.gs_tree.specs.Edits.{chunks_in}
use Rattle.gs_tree.specs.Chunks.{chunks_under, visible_chunks_under}
use Rattle.gs_edit.specs.Plain.{mkdirs_rows, create_rows, rename_rows, hide_rows, unhide_rows, add_chunk_rows, set_chunk_rows, remove_rows, snapshot_rows}
use Rattle.gs_edit.specs.View.{NamesView}
use Rattle.gs_edit.specs.declared.edit.Edit.{Edit}
use Rattle.gs_edit.specs.declared.edit.Edit.TheVariants as edits

-- what an edit makes of a plain tree
abbrev pub edited : Edit → Rows ℕ → Result (Rows ℕ) Refusal
edited (edits.Mkdirs p) rows = mkdirs_rows rows p
edited (edits.Create p) rows = create_rows rows p
edited (edits.Rename from to) rows = rename_rows rows from to
edited (edits.Hide p moment number) rows = hide_rows rows p moment.0 number
edited (edits.Unhide p) rows = unhide_rows rows p
edited (edits.Remove p) rows = remove_rows rows p
edited (edits.AddChunk p chunk) rows = add_chunk_rows rows p chunk
edited (edits.Cow p index old new) rows = set_chunk_rows rows p index new
edited (edits.Snapshot from to) rows = snapshot_rows rows from to
edited (edits.Forget chunks) rows = Ok rows

-- a chunk is referred to, at most as often as a count can say
abbrev pub has_reference : Option ℕ → Bool
has_reference None = false
has_reference (Some n) = nat_lt 0 n && nat_le n last_count

-- a place holds this chunk, or there is no such place
abbrev pub holds_chunk : Option ℕ → ℕ → Bool
holds_chunk None chunk = true
holds_chunk (Some own) chunk = own == chunk

-- Whether an edit is given what it asks for: a new chunk that isn't listed; the chunk that stands in the place of the new
-- one, which has a reference; a reference for each time that a chunk stands in what is removed.
abbrev pub admits : Edit → Rows ℕ → Counts → Bool
admits (edits.Mkdirs p) rows refs = true
admits (edits.Create p) rows refs = true
admits (edits.Rename from to) rows refs = true
admits (edits.Hide p moment number) rows refs = true
admits (edits.Unhide p) rows refs = true
admits (edits.Remove p) rows refs = is_ok (lowered_each refs (chunks_under p rows))
admits (edits.AddChunk p chunk) rows refs = is_none (fin.get refs chunk)
admits (edits.Cow p index old new) rows refs = is_none (fin.get refs new) && (holds_chunk (slice_get (chunks_in (at rows p)) index) old && has_reference (fin.get refs old))
admits (edits.Snapshot from to) rows refs = true
admits (edits.Forget chunks) rows refs = true

-- one reference of a chunk goes to another that wasn't listed
abbrev pub handed_over : Counts → ℕ → ℕ → Counts
handed_over refs old new = fin.insert (fin.insert refs new 1) old (count_or_zero (fin.get refs old) - 1)

-- What an edit makes of the counts: a snapshot raises those of the chunks that it copies, once for each time that one
-- stands there, and a remove lowers those of what goes.
abbrev pub counted : Edit → Rows ℕ → Counts → Result Counts Refusal
counted (edits.Mkdirs p) rows refs = Ok refs
counted (edits.Create p) rows refs = Ok refs
counted (edits.Rename from to) rows refs = Ok refs
counted (edits.Hide p moment number) rows refs = Ok refs
counted (edits.Unhide p) rows refs = Ok refs
counted (edits.Remove p) rows refs = lowered_each refs (chunks_under p rows)
counted (edits.AddChunk p chunk) rows refs = Ok (fin.insert refs chunk 1)
counted (edits.Cow p index old new) rows refs = Ok (handed_over refs old new)
counted (edits.Snapshot from to) rows refs = raised_each refs (visible_chunks_under from rows)
counted (edits.Forget chunks) rows refs = taken_each refs chunks.items

abbrev pub with_counts : Result (Rows ℕ) Refusal → Result Counts Refusal → Result (Rows ℕ × Counts) Refusal
with_counts (Err e) refs = Err e
with_counts (Ok rows) (Err e) = Err e
with_counts (Ok rows) (Ok refs) = Ok (rows, refs)

-- What an edit makes of the tree and the counts: BadLine where it isn't given what it asks for, else the tree's refusal,
-- else that of the counts.
abbrev pub named : Edit → Rows ℕ → Counts → Result (Rows ℕ × Counts) Refusal
named edit rows refs = if admits edit rows refs then with_counts (edited edit rows) (counted edit rows refs) else Err BadLine

-- the same of names
abbrev pub renamed : Edit → NamesView → Result (Rows ℕ × Counts) Refusal
renamed edit names = named edit (fin.entries names.tree) names.refs

-- the edit and its refusal, or want of memory; a refusal changes nothing
abbrev pub Applies : {I : Type 0} → Edit → NamesView → Result I Refusal → NamesView → Type 0
Applies edit old (Ok i) new = renamed edit old ≡ Ok (fin.entries new.tree, new.refs)
Applies edit old (Err e) new = ((renamed edit old ≡ Err e) ⊎ (e ≡ Memory)) × (new ≡ old)

-- an edit of the tree that leaves the counts
abbrev pub KeepsRefs : Edit → Type 0
KeepsRefs edit = (rows : Rows ℕ) (refs : Counts) → named edit rows refs ≡ with_counts (edited edit rows) (Ok refs)

-- the plain tree's edit and its refusal, or want of memory
abbrev pub AppliesRows : {I : Type 0} → Edit → Rows ℕ → Result I Refusal → Rows ℕ → Type 0
AppliesRows edit old (Ok i) new = edited edit old ≡ Ok new
AppliesRows edit old (Err e) new = ((edited edit old ≡ Err e) ⊎ (e ≡ Memory)) × (new ≡ old)
