-- What makes a step one of the plain machine: edits are settled at places, and records lead on behind them.
use Rattle.std.specs.Prelude.{[], ◌++◌, ◌∷◌, ◌||◌, ◌≡◌, Bool, List, Ok, Some, filter_map, map, true, ℕ}
use Rattle.std.specs.List.{AllByRecursion, list_all}
use Rattle.std.specs.FinMap as fin
use Rattle.gs_journal.specs.declared.version.Version.TheVariants.{Two}
use Rattle.gs_laws_master.specs.Promises.{IsKept, goes_on_within}
use Rattle.gs_laws_plain.specs.commands.Commands.{Command, all_commanded, but_edit, command_of, edit_at}
use Rattle.gs_laws_plain.specs.commands.Places.{AreAlone, Place, op_of, places_in}
use Rattle.gs_laws_plain.specs.commands.Records.{KeepTexts, Telling, kept_in, texts_behind_all}
use Rattle.gs_master_record.specs.Plain.{Finalize, PlainEntry, Prepare, RollbackCommit}
use Rattle.gs_master_record.specs.Writable.{IsEntry}
use Rattle.gs_master_record.specs.declared.entry.Answered.{Answered}
use Rattle.gs_master_spec.specs.Applied.{applied, is_whole_entry, replayed}
use Rattle.gs_master_spec.specs.Undoing.{all_undone}
use Rattle.gs_path.specs.Path.{Path}
use Rattle.gs_laws_chunks.specs.accounts.Accounts.{Account, settled_edits, text_of}
use Rattle.gs_laws_runs.specs.plain.Settling.{newly_settled, settled_at}
use Rattle.gs_laws_runs.specs.plain.Views.{chunk_at, plain_kept, plain_view, texts_of}

-- the text of each chunk once more is settled, and the one of the last prepare
abbrev pub texts_between : ℕ → Account → Account → Telling
texts_between size a b = record { now = λ chunk. text_of size (settled_edits a chunk ++ newly_settled a b chunk); before = λ chunk. text_of size (a.before chunk) }

-- this holds of each chunk that stands in a file
abbrev pub OfEachPlace : Account → (ℕ → Type 0) → Type 0
OfEachPlace a P = AllByRecursion (λ (place : Place). P place.chunk) (places_in (fin.entries a.durable.names.tree))

-- Edits are settled of chunks alone that stand at one place; the records, which can be written, lead on, and change no text but at a rollback; and the
-- texts that are told behind them, now and of the last prepare, are those of the account then.
pub record GoesPlainly (size : ℕ) (a b : Account) (records : List PlainEntry) : Type 0 where
  pub stands : IsKept a.durable
  pub alone : AreAlone a.durable.names (newly_settled a b)
  pub written : AllByRecursion (IsEntry Two) records
  pub keep : KeepTexts records (texts_between size a b) a.durable
  pub replays : replayed a.durable records ≡ Some b.durable
  pub texts : OfEachPlace b (λ chunk. (texts_behind_all records (texts_between size a b)).now chunk ≡ (texts_of size b).now chunk)
  pub kept : kept_in (texts_behind_all records (texts_between size a b)).before b.durable.phase (all_undone b.durable.inverses b.durable.names) ≡ plain_kept size b

-- commands lead from plain view to plain view: those that edit no text are what these records say, and at each place those that edit its text are the edits
-- that are settled there
pub record AreCommandsOf (size : ℕ) (a b : Account) (records : List PlainEntry) : Type 0 where
  pub commands : List Command
  pub leads : all_commanded size commands (plain_view size a) ≡ Ok (plain_view size b)
  pub others : filter_map but_edit commands ≡ filter_map command_of records
  pub edits : (p : Path) (index : ℕ) → filter_map (edit_at p index) commands ≡ map op_of (settled_at a b (chunk_at a p index))

-- So such a step is commands.
abbrev pub StepsOfAccountsLead : Type 0
StepsOfAccountsLead = (size : ℕ) (a b : Account) (records : List PlainEntry) → GoesPlainly size a b records → AreCommandsOf size a b records

-- ---- where no upgrade begins or ends

abbrev pub is_within : PlainEntry → Bool
is_within entry = goes_on_within entry || is_whole_entry entry

-- of each chunk that stands behind it what was settled is a beginning of what is settled then
abbrev pub Grow : Account → Account → Type 0
Grow a b = OfEachPlace b (λ chunk. settled_edits a chunk ++ newly_settled a b chunk ≡ settled_edits b chunk)

pub record GrowsPlainly (size : ℕ) (a b : Account) (records : List PlainEntry) : Type 0 where
  pub stands : IsKept a.durable
  pub within : list_all is_within records ≡ true
  pub alone : AreAlone a.durable.names (newly_settled a b)
  pub written : AllByRecursion (IsEntry Two) records
  pub keep : KeepTexts records (texts_between size a b) a.durable
  pub replays : replayed a.durable records ≡ Some b.durable
  pub grows : Grow a b
  pub before : b.before ≡ a.before

abbrev pub GrowingStepsLead : Type 0
GrowingStepsLead = (size : ℕ) (a b : Account) (records : List PlainEntry) → GrowsPlainly size a b records → AreCommandsOf size a b records

-- ---- where one does: by one record

pub record EndsBy (a b : Account) (entry : PlainEntry) : Type 0 where
  pub stands : IsKept a.durable
  pub alone : AreAlone a.durable.names (newly_settled a b)
  pub written : IsEntry Two entry
  pub applies : applied a.durable entry ≡ Some b.durable

-- At a prepare what the account has of each chunk that stands has the text that is settled then.
abbrev pub PreparesLead : Type 0
PreparesLead = (size : ℕ) (a b : Account) (epoch moment chunks : ℕ) → EndsBy a b (Prepare epoch moment chunks) → Grow a b →
    OfEachPlace a (λ chunk. text_of size (settled_edits a chunk ++ newly_settled a b chunk) ≡ text_of size (b.before chunk)) → AreCommandsOf size a b (Prepare epoch moment chunks ∷ [])

abbrev pub FinalizesLead : Type 0
FinalizesLead = (size : ℕ) (a b : Account) (epoch : ℕ) → EndsBy a b (Finalize epoch) → Grow a b → AreCommandsOf size a b (Finalize epoch ∷ [])

-- Where a rollback is committed what is settled then of each chunk that stands has the text of the prepare.
abbrev pub CommitsLead : Type 0
CommitsLead = (size : ℕ) (a b : Account) (epoch : ℕ) (answers : List Answered) → EndsBy a b (RollbackCommit epoch answers) →
    OfEachPlace b (λ chunk. text_of size (a.before chunk) ≡ text_of size (settled_edits b chunk)) → AreCommandsOf size a b (RollbackCommit epoch answers ∷ [])

-- ---- Worked
a_prepare_is_not_within : (epoch moment chunks : ℕ) → is_within (Prepare epoch moment chunks) ≡ true → ⊥
a_prepare_is_not_within epoch moment chunks is = cc
