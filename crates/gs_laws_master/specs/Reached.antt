-- What a restart makes of what is kept, of which records it reads it, and what a rollback leads back to.
use Rattle.std.specs.Prelude.{◌≡◌, ◌⊎◌, ◌++◌, ℕ, true, List, [], ◌∷◌, Some, Ok, if◌then◌else◌, refl, take}
use Rattle.std.specs.List.{list_any, AllByRecursion}
use Rattle.gs_base.specs.declared.config.Config.{Config}
use Rattle.gs_base.specs.declared.numbers.Moment.{Moment}
use Rattle.gs_journal.specs.declared.version.Version.{Version}
use Rattle.gs_journal.specs.declared.version.Version.TheVariants.{Two}
use Rattle.gs_master_record.specs.Encoding.{new_store}
use Rattle.gs_master_record.specs.Plain.{PlainEntry, Finalize, Prepare, RollbackBegin, RollbackCommit, Whole}
use Rattle.gs_master_record.specs.Writable.{IsEntry}
use Rattle.gs_master_spec.specs.Applied.{applied, is_whole_entry, records_behind, replayed}
use Rattle.gs_master_spec.specs.Durable.{Durable, start}
use Rattle.gs_master_spec.specs.Handling.{fresh, granted, pressed, proposals, recover, reopened, restarted}
use Rattle.gs_master_spec.specs.State.{State, Log, Turn, and_then, for_each}
use Rattle.gs_master_spec.specs.Whole.{checkpoint_of}
use Rattle.gs_master_record.specs.declared.entry.Answered.{Answered}
use Rattle.gs_laws_master.specs.Promises.{IsKept, IsOfKept, IsRolledBack, goes_on_within}
use Rattle.gs_laws_master.specs.Standing.{AreCounters, Event, IsFirm, IsNamed, run_of, turn_of}

-- ---- the master that is opened

-- what stands is opened as a firm master
abbrev pub OpensFirm : Type 0
OpensFirm = (config : Config) (d : Durable) (log : Log) → IsKept d → AreCounters d → IsFirm (reopened config (restarted d log)).after

-- So is what records lead to from a new store, where each can be written in version 2 and each checkpoint among them is that of something
-- that stood: the master that is recovered from them is firm, also where they are written anew, as those of version 1 are.
abbrev pub RecoversFirm : Type 0
RecoversFirm = (config : Config) (version : Version) (entries : List PlainEntry) (log : Log) (t : Turn) → AllByRecursion IsOfKept entries → AllByRecursion (IsEntry Two) entries →
    recover config version entries log ≡ Ok t → IsFirm t.after

-- ---- the records that a disk holds

-- of these records those from the last checkpoint on, or all where none is among them
abbrev pub from_last : List PlainEntry → List PlainEntry
from_last [] = []
from_last (entry ∷ entries) = if list_any is_whole_entry entries then from_last entries else entry ∷ entries

-- what is opened of these alone is what is opened of all
abbrev pub SameFromLast : Type 0
SameFromLast = (config : Config) (version : Version) (entries : List PlainEntry) (log : Log) (d : Durable) → replayed start entries ≡ Some d →
    recover config version (from_last entries) log ≡ recover config version entries log

-- So a restart at the end of a run reads what is durable from the run's last checkpoint and the records behind it.
abbrev pub RunsRecoverFromLast : Type 0
RunsRecoverFromLast = (config : Config) (log now : Log) (events : List Event) → AllByRecursion IsNamed events → let t = run_of config (fresh log) events in
    recover config Two (from_last t.records) now ≡ Ok (reopened config (restarted t.after.durable (record now { records = records_behind t.records })))

-- So it is of a disk from event to event, also behind restarts: if what it holds comes to what is durable, so do what it held and the event's
-- records behind it, from the last checkpoint on.
abbrev pub HoldsDurable : List PlainEntry → State → Type 0
HoldsDurable held s = replayed start held ≡ Some s.durable

abbrev pub DisksHold : Type 0
DisksHold = (config : Config) (held : List PlainEntry) (s : State) (event : Event) → IsNamed event → IsFirm s → HoldsDurable held s → let t = turn_of config s event in HoldsDurable (from_last (held ++ t.records)) t.after

-- And where it holds only the event's records before a place, whichever, that comes to something durable all the same, read from the last
-- checkpoint on: to what these records make of what was durable.
pub record ComesBack (held : List PlainEntry) (s : State) (entries : List PlainEntry) : Type 0 where
  pub durable : Durable
  pub made : replayed s.durable entries ≡ Some durable
  pub read : replayed start (from_last (held ++ entries)) ≡ Some durable

abbrev pub DisksHoldAtPlaces : Type 0
DisksHoldAtPlaces = (config : Config) (held : List PlainEntry) (s : State) (event : Event) (place : ℕ) → IsNamed event → IsFirm s → HoldsDurable held s → ComesBack held s (take place (turn_of config s event).records)

-- So it is of those of all steps of a tick, where memory for its checkpoint is wanting.
abbrev pub DisksHoldAtStepPlaces : Type 0
DisksHoldAtStepPlaces = (held : List PlainEntry) (s : State) (moment : Moment) (place : ℕ) → IsFirm s → HoldsDurable held s → ComesBack held s (take place (and_then (for_each s (proposals s) (pressed moment)) granted).records)

-- ---- a rollback

-- records that go on within an upgrade and can be written, and among them checkpoints, each of what stands where it is written
abbrev pub GoWithin : Durable → List PlainEntry → Type 0
GoWithin d [] = Unit {0}
GoWithin d (entry ∷ entries) = (((goes_on_within entry ≡ true) × IsEntry Two entry) ⊎ (entry ≡ Whole (checkpoint_of d))) × ((next : Durable) → applied d entry ≡ Some next → GoWithin next entries)

-- also through these a rollback leads back to what was prepared
abbrev pub RollsBackThrough : Type 0
RollsBackThrough = (d prepared rolling next : Durable) (epoch moment chunks last : ℕ) (entries : List PlainEntry) (answers : List Answered) → IsKept d → applied d (Prepare epoch moment chunks) ≡ Some prepared
    → GoWithin prepared entries → replayed prepared entries ≡ Some rolling → applied rolling (RollbackCommit last answers) ≡ Some next →
    IsRolledBack d next last answers

-- ---- examples

all_where_none_is : from_last (Finalize 2 ∷ RollbackBegin 4 ∷ []) ≡ Finalize 2 ∷ RollbackBegin 4 ∷ []
all_where_none_is = refl

from_the_last_of_two : from_last (Whole new_store ∷ Finalize 2 ∷ Whole new_store ∷ RollbackBegin 4 ∷ []) ≡ Whole new_store ∷ RollbackBegin 4 ∷ []
from_the_last_of_two = refl

the_last_alone : from_last (Finalize 2 ∷ Whole new_store ∷ []) ≡ Whole new_store ∷ []
the_last_alone = refl
