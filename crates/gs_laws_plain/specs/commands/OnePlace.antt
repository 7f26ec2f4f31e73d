-- An edit of the text of a chunk that stands at one place is the command that edits that place.
use Rattle.std.specs.Prelude.{[], ◌++◌, ◌∷◌, ◌≡◌, ◌≢◌, List, Ok, Option, Some, map, slice_get, ℕ}
use Rattle.std.specs.FinMap as fin
use Rattle.gs_edit.specs.View.{NamesView}
use Rattle.gs_path.specs.Path.{Path}
use Rattle.gs_laws_plain.specs.commands.Commands.{Command, EditChunk, Texts, all_commanded}
use Rattle.gs_laws_plain.specs.commands.Edits.{shown}
use Rattle.gs_replica.specs.Stands.{Edit, edited_bytes, replica_of}
use Rattle.gs_replica.specs.declared.op.Op.{Op}
use Rattle.gs_tree.specs.Edits.{chunks_in}

-- the chunk at a place of a file
abbrev pub standing_at : NamesView → Path → ℕ → Option ℕ
standing_at names p index = slice_get (chunks_in (fin.get names.tree p)) index

-- a chunk stands at this place, and at no other
pub record StandsAlone (names : NamesView) (chunk : ℕ) (p : Path) (index : ℕ) : Type 0 where
  pub here : standing_at names p index ≡ Some chunk
  pub alone : (q : Path) (place : ℕ) → standing_at names q place ≡ Some chunk → (q ≡ p) × (place ≡ index)

-- the other texts stay
abbrev pub KeepOthers : (ℕ → List ℕ) → (ℕ → List ℕ) → ℕ → Type 0
KeepOthers text next chunk = (other : ℕ) → other ≢ chunk → next other ≡ text other

abbrev pub OneEditIsACommand : Type 0
OneEditIsACommand = (size : ℕ) (text next : ℕ → List ℕ) (names : NamesView) (kept : Option Texts) (chunk : ℕ) (p : Path) (index : ℕ) (op : Op) (bytes : List ℕ) →
    StandsAlone names chunk p index → next chunk ≡ edited_bytes size op bytes (text chunk) → KeepOthers text next chunk →
    all_commanded size (EditChunk p index op bytes ∷ []) (shown text kept names) ≡ Ok (shown next kept names)

-- the edits of a place, one after the other
abbrev pub edits_of_place : Path → ℕ → List Edit → List Command
edits_of_place p index edits = map (λ (e : Edit). EditChunk p index e.op e.bytes) edits

-- Where the text of a chunk is what a list of edits leaves, and then what more of them leave, these are commands in their order.
abbrev pub EditsOfAPlaceAreCommands : Type 0
EditsOfAPlaceAreCommands = (size : ℕ) (text next : ℕ → List ℕ) (names : NamesView) (kept : Option Texts) (chunk : ℕ) (p : Path) (index : ℕ) (settled edits : List Edit) →
    StandsAlone names chunk p index → text chunk ≡ (replica_of size settled).bytes → next chunk ≡ (replica_of size (settled ++ edits)).bytes → KeepOthers text next chunk →
    all_commanded size (edits_of_place p index edits) (shown text kept names) ≡ Ok (shown next kept names)
