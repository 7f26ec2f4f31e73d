-- A step of a store on the side of its tree: edits are settled at places, and records are written behind them.
use Rattle.std.specs.Prelude.{◌++◌, ◌≡◌, List, Ok, Some, filter_map, map, ℕ}
use Rattle.std.specs.List.{AllByRecursion}
use Rattle.gs_edit.specs.Machine.{Plain}
use Rattle.gs_journal.specs.declared.version.Version.TheVariants.{Two}
use Rattle.gs_laws_master.specs.Promises.{IsKept}
use Rattle.gs_path.specs.Path.{Path}
use Rattle.gs_laws_plain.specs.commands.Commands.{Command, all_commanded, but_edit, command_of, edit_at}
use Rattle.gs_laws_plain.specs.commands.Places.{AreAlone, bytes_of, edits_of, op_of}
use Rattle.gs_laws_plain.specs.commands.Records.{KeepTexts, Telling, machine_of, texts_behind_all}
use Rattle.gs_laws_plain.specs.commands.OnePlace.{standing_at}
use Rattle.gs_master_record.specs.Plain.{PlainEntry}
use Rattle.gs_master_record.specs.Writable.{IsEntry}
use Rattle.gs_replica.specs.Stands.{Edit}
use Rattle.gs_master_spec.specs.Applied.{replayed}
use Rattle.gs_master_spec.specs.Durable.{Durable}

-- Commands that lead from one plain machine to another. Of them those that edit no text are what these records say, and at each place those that edit its
-- text are the edits that come to its chunk.
pub record AreSteps (size : ℕ) (m n : Plain (List ℕ)) (records : List PlainEntry) (d : Durable) (more : ℕ → List Edit) : Type 0 where
  pub commands : List Command
  pub leads : all_commanded size commands m ≡ Ok n
  pub others : filter_map but_edit commands ≡ filter_map command_of records
  pub edits : (p : Path) (index : ℕ) → filter_map (edit_at p index) commands ≡ map op_of (edits_of more (standing_at d.names p index))

-- the texts of what is settled
abbrev pub telling : ℕ → (ℕ → List Edit) → (ℕ → List ℕ) → Telling
telling size settled before = record { now = λ chunk. bytes_of size (settled chunk); before = before }

-- More edits are settled of chunks that stand at one place each, and then records lead on that can be written, and that keep those texts.
abbrev pub StepsLead : Type 0
StepsLead = (size : ℕ) (settled more : ℕ → List Edit) (before : ℕ → List ℕ) (records : List PlainEntry) (d next : Durable) → IsKept d → AreAlone d.names more → AllByRecursion (IsEntry Two) records →
    KeepTexts records (telling size (λ chunk. settled chunk ++ more chunk) before) d → replayed d records ≡ Some next →
    AreSteps size (machine_of (telling size settled before) d) (machine_of (texts_behind_all records (telling size (λ chunk. settled chunk ++ more chunk) before)) next) records d more
