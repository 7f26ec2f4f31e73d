-- The edits that are settled at once, at all places of a tree.
use Rattle.std.specs.Prelude.{[], ◌++◌, ◌+◌, ◌∷◌, ◌≡◌, ◌≢◌, ◌==◌, if◌then◌else◌, List, None, Ok, Option, Some, codes, filter_map, map, refl, ℕ}
use Rattle.std.specs.FinMap as fin
use Rattle.gs_base.specs.declared.numbers.ReqId.{ReqId}
use Rattle.gs_edit.specs.View.{NamesView}
use Rattle.gs_path.specs.Path.{Path}
use Rattle.gs_laws_plain.specs.commands.Commands.{Command, EditChunk, Texts, all_commanded, but_edit, edit_at}
use Rattle.gs_laws_plain.specs.commands.Edits.{shown}
use Rattle.gs_laws_plain.specs.commands.OnePlace.{edits_of_place, standing_at}
use Rattle.gs_replica.specs.Stands.{Edit, replica_of}
use Rattle.gs_replica.specs.declared.op.Op.{Op}
use Rattle.gs_replica.specs.declared.op.Op.TheVariants as ops
use Rattle.gs_tree.specs.Edits.{chunks_in}
use Rattle.gs_tree.specs.Entry.{Dir, File}
use Rattle.gs_tree.specs.Find.{Rows}

-- a place of a file, and the chunk there
pub record Place : Type 0 where
  pub path : Path
  pub index : ℕ
  pub chunk : ℕ

-- those of a file, from this index on
abbrev pub places_from : Path → ℕ → List ℕ → List Place
places_from p from [] = []
places_from p from (chunk ∷ chunks) = record { path = p; index = from; chunk = chunk } ∷ places_from p (from + 1) chunks

abbrev pub places_in : Rows ℕ → List Place
places_in [] = []
places_in (row ∷ rows) = places_from row.0 0 (chunks_in (Some row.1)) ++ places_in rows

-- the edits that come to each chunk, at its places
abbrev pub settling : (ℕ → List Edit) → List Place → List Command
settling more [] = []
settling more (place ∷ places) = edits_of_place place.path place.index (more place.chunk) ++ settling more places

abbrev pub settling_in : (ℕ → List Edit) → NamesView → List Command
settling_in more names = settling more (places_in (fin.entries names.tree))

-- edits come only to chunks that stand at one place
abbrev pub AreAlone : NamesView → (ℕ → List Edit) → Type 0
AreAlone names more = (chunk : ℕ) (p q : Path) (index place : ℕ) → more chunk ≢ [] → standing_at names p index ≡ Some chunk → standing_at names q place ≡ Some chunk → (q ≡ p) × (place ≡ index)

abbrev pub bytes_of : ℕ → List Edit → List ℕ
bytes_of size edits = (replica_of size edits).bytes

-- They lead from the texts of what was settled to those of what is settled then.
abbrev pub EditsOfPlacesAreCommands : Type 0
EditsOfPlacesAreCommands = (size : ℕ) (settled more : ℕ → List Edit) (names : NamesView) (kept : Option Texts) → AreAlone names more →
    all_commanded size (settling_in more names) (shown (λ chunk. bytes_of size (settled chunk)) kept names) ≡ Ok (shown (λ chunk. bytes_of size (settled chunk ++ more chunk)) kept names)

abbrev pub edits_of : (ℕ → List Edit) → Option ℕ → List Edit
edits_of more None = []
edits_of more (Some chunk) = more chunk

abbrev pub op_of : Edit → Op × List ℕ
op_of edit = (edit.op, edit.bytes)

-- each place has the edits of its chunk, once and in their order, and nothing else is among them
abbrev pub EachPlaceHasItsEdits : Type 0
EachPlaceHasItsEdits = (more : ℕ → List Edit) (names : NamesView) (p : Path) (index : ℕ) → filter_map (edit_at p index) (settling_in more names) ≡ map op_of (edits_of more (standing_at names p index))

abbrev pub NothingElse : Type 0
NothingElse = (more : ℕ → List Edit) (names : NamesView) → filter_map but_edit (settling_in more names) ≡ []

-- ---- Worked: a file of two chunks, of which the second is edited

abbrev two_places : Rows ℕ
two_places = ([], Dir) ∷ (codes "f" ∷ [], File (7 ∷ 8 ∷ [])) ∷ []

abbrev an_edit : ReqId → Edit
an_edit req = record { req = req; op = ops.Append; bytes = 5 ∷ [] }

abbrev more_of_the_second : ReqId → ℕ → List Edit
more_of_the_second req chunk = if chunk == 8 then an_edit req ∷ [] else []

the_second_is_edited : (req : ReqId) → settling (more_of_the_second req) (places_in two_places) ≡ EditChunk (codes "f" ∷ []) 1 ops.Append (5 ∷ []) ∷ []
the_second_is_edited req = refl
