-- What the records of a store say is commands of the plain machine, over texts that none of them changes.
use Rattle.std.specs.Prelude.{[], ◌∷◌, ◌≡◌, List, None, Ok, Option, Some, filter_map, option_map, ℕ}
use Rattle.std.specs.FinMap as fin
use Rattle.std.specs.List.{AllByRecursion}
use Rattle.gs_edit.specs.Machine.{Plain}
use Rattle.gs_edit.specs.Mapped.{mapped_rows}
use Rattle.gs_edit.specs.View.{NamesView}
use Rattle.gs_journal.specs.declared.version.Version.TheVariants.{Two}
use Rattle.gs_laws_master.specs.Promises.{IsKept}
use Rattle.gs_laws_plain.specs.commands.Commands.{Texts, all_commanded, command_of}
use Rattle.gs_laws_plain.specs.commands.Edits.{KeepsText, listed, shown}
use Rattle.gs_master_record.specs.Writable.{IsEntry}
use Rattle.gs_master_record.specs.Plain.{PlainEntry}
use Rattle.gs_master_record.specs.Plain as entries
use Rattle.gs_master_record.specs.declared.checkpoint.Phase.{Phase}
use Rattle.gs_master_record.specs.declared.checkpoint.Phase.TheVariants.{Ordinary, Upgrade, Rolling}
use Rattle.gs_master_spec.specs.Applied.{applied, replayed}
use Rattle.gs_master_spec.specs.Whole.{checkpoint_of}
use Rattle.gs_master_spec.specs.Durable.{Durable}
use Rattle.gs_master_spec.specs.Undoing.{all_undone}

-- the text of each chunk now, and as it stood at the last prepare
pub record Telling : Type 0 where
  pub now : ℕ → List ℕ
  pub before : ℕ → List ℕ

-- while an upgrade stands a tree is kept: that to which what takes edits back leads
abbrev pub kept_in : (ℕ → List ℕ) → Phase → Option NamesView → Option Texts
kept_in before Ordinary names = None
kept_in before Upgrade names = option_map (λ (n : NamesView). mapped_rows before (fin.entries n.tree)) names
kept_in before Rolling names = option_map (λ (n : NamesView). mapped_rows before (fin.entries n.tree)) names

-- the plain machine that is shown by what is durable, with these texts
abbrev pub machine_of : Telling → Durable → Plain (List ℕ)
machine_of t d = shown t.now (kept_in t.before d.phase (all_undone d.inverses d.names)) d.names

-- behind a prepare the texts of then are those that are now, and behind a rollback those that are now are those of then
abbrev pub texts_behind : PlainEntry → Telling → Telling
texts_behind (entries.Prepare epoch moment chunks) t = record { now = t.now; before = t.now }
texts_behind (entries.RollbackCommit epoch answers) t = record { now = t.before; before = t.before }
texts_behind entry t = t

abbrev pub KeepsTexts : Telling → PlainEntry → Type 0
KeepsTexts t (entries.Edited by edit) = KeepsText t.now edit
KeepsTexts t entry = Unit {0}

-- a checkpoint tells what it meets
abbrev pub IsOwn : PlainEntry → Durable → Type 0
IsOwn (entries.Whole c) d = c ≡ checkpoint_of d
IsOwn entry d = Unit {0}

-- a record is its command, if it is one
abbrev pub RecordIsCommand : PlainEntry → Type 0
RecordIsCommand entry = (size : ℕ) (t : Telling) (d next : Durable) → IsKept d → IsOwn entry d → KeepsTexts t entry → applied d entry ≡ Some next →
    all_commanded size (listed (command_of entry)) (machine_of t d) ≡ Ok (machine_of (texts_behind entry t) next)

-- ---- records one after the other

abbrev pub texts_behind_all : List PlainEntry → Telling → Telling
texts_behind_all [] t = t
texts_behind_all (entry ∷ records) t = texts_behind_all records (texts_behind entry t)

-- a checkpoint among them tells what it meets, and each keeps the texts in its turn
abbrev pub KeepTexts : List PlainEntry → Telling → Durable → Type 0
KeepTexts [] t d = Unit {0}
KeepTexts (entry ∷ records) t d = IsOwn entry d × KeepsTexts t entry × ((mid : Durable) → applied d entry ≡ Some mid → KeepTexts records (texts_behind entry t) mid)

-- Records that can be written, and that lead from what stands to what is durable behind them, are their commands in this order.
abbrev pub RecordsAreCommands : Type 0
RecordsAreCommands = (size : ℕ) (t : Telling) (records : List PlainEntry) (d next : Durable) → IsKept d → AllByRecursion (IsEntry Two) records → KeepTexts records t d → replayed d records ≡ Some next →
    all_commanded size (filter_map command_of records) (machine_of t d) ≡ Ok (machine_of (texts_behind_all records t) next)
