-- Where an edit of names is made, its command leads from texts to texts.
use Rattle.std.specs.Prelude.{[], ◌∷◌, ◌≡◌, List, None, Ok, Option, Some, ℕ}
use Rattle.std.specs.FinMap as fin
use Rattle.gs_edit.specs.Machine.{Plain}
use Rattle.gs_edit.specs.Mapped.{mapped_rows}
use Rattle.gs_edit.specs.View.{NamesView}
use Rattle.gs_laws_plain.specs.commands.Commands.{Texts, all_commanded, command_of_edit}
use Rattle.gs_master_record.specs.Plain.{PlainEdit}
use Rattle.gs_master_record.specs.Plain as entries
use Rattle.gs_master_spec.specs.Undoing.{edited_names}

-- A chunk that is added has no text, and one that takes the place of another has its text.
abbrev pub KeepsText : (ℕ → List ℕ) → PlainEdit → Type 0
KeepsText text (entries.AddChunk p chunk) = text chunk ≡ []
KeepsText text (entries.Cow p index old new) = text new ≡ text old
KeepsText text edit = Unit {0}

-- the names with the texts of their chunks, and a kept tree
abbrev pub shown : (ℕ → List ℕ) → Option Texts → NamesView → Plain (List ℕ)
shown text kept names = record { tree = mapped_rows text (fin.entries names.tree); kept = kept }

abbrev pub listed : {A : Type 0} → Option A → List A
listed None = []
listed (Some x) = x ∷ []

abbrev pub EditsAreCommands : Type 0
EditsAreCommands = (size : ℕ) (text : ℕ → List ℕ) (edit : PlainEdit) (kept : Option Texts) (old new : NamesView) → KeepsText text edit → edited_names edit old ≡ Ok new →
    all_commanded size (listed (command_of_edit edit)) (shown text kept old) ≡ Ok (shown text kept new)
