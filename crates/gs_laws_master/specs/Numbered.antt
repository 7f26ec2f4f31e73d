-- The numbers of deletions that hidden names tell.
use Rattle.std.specs.Prelude.{◌≡◌, ℕ, Bool, true, false, List, codes, Option, Some, None, is_some, refl}
use Rattle.std.specs.FinMap as fin
use Rattle.std.specs.List.{list_all, AllByRecursion}
use Rattle.gs_path.specs.Element.{hidden_parts}
use Rattle.gs_path.specs.Path.{Name, Path}
use Rattle.gs_edit.specs.View.{NamesView}
use Rattle.gs_journal.specs.declared.version.Version.TheVariants.{Two}
use Rattle.gs_master_record.specs.Plain.{PlainEntry, Whole}
use Rattle.gs_master_record.specs.Writable.{IsEntry}
use Rattle.gs_master_spec.specs.Applied.{applied, is_whole_entry, replayed}
use Rattle.gs_master_spec.specs.Durable.{Durable, is_given, start}
use Rattle.gs_master_spec.specs.Undoing.{all_undone}
use Rattle.gs_master_spec.specs.Whole.{checkpoint_of}
use Rattle.gs_base.specs.declared.config.Config.{Config}
use Rattle.gs_master_spec.specs.Handling.{fresh}
use Rattle.gs_master_spec.specs.State.{State, Log}
use Rattle.gs_laws_master.specs.Promises.{IsKept}
use Rattle.gs_laws_master.specs.Standing.{Event, IsFirm, IsNamed, run_of, turn_of}

-- the number that a hidden name tells was given; any other name tells none
abbrev pub is_numbered : ℕ → Name → Bool
is_numbered next name = is_given_in (hidden_parts name)
  where
    is_given_in : Option (ℕ × ℕ × Name) → Bool
    is_given_in None = true
    is_given_in (Some parts) = is_given next parts.1

-- so is each that stands
abbrev pub AreNumbered : ℕ → NamesView → Type 0
AreNumbered next names = (path : Path) → is_some (fin.get names.tree path) ≡ true → list_all (is_numbered next) path ≡ true

-- now, and in the names to which a rollback leads back
pub record HasNumbers (d : Durable) : Type 0 where
  pub now : AreNumbered d.next_hidden d.names
  pub before : (names : NamesView) → all_undone d.inverses d.names ≡ Some names → AreNumbered d.next_hidden names

-- A record that can be written keeps it,
abbrev pub KeepsNumbers : PlainEntry → Type 0
KeepsNumbers entry = (d next : Durable) → IsEntry Two entry → IsKept d → HasNumbers d → applied d entry ≡ Some next → HasNumbers next

abbrev pub RecordsKeepNumbers : Type 0
RecordsKeepNumbers = (entry : PlainEntry) → is_whole_entry entry ≡ false → KeepsNumbers entry

-- and so does the checkpoint of what stands.
abbrev pub TellsNumbers : Type 0
TellsNumbers = (d next : Durable) → IsKept d → HasNumbers d → applied d (Whole (checkpoint_of d)) ≡ Some next → HasNumbers next

-- a checkpoint among records is that of something of which it is so
abbrev pub IsOfNumbered : PlainEntry → Type 0
IsOfNumbered (Whole c) = (d : Durable) × (IsKept d × (HasNumbers d × (c ≡ checkpoint_of d)))
IsOfNumbered entry = Unit {0}

-- So it is of whatever such records lead to from a new store.
abbrev pub LeadsToNumbers : Type 0
LeadsToNumbers = (entries : List PlainEntry) (d : Durable) → AllByRecursion IsOfNumbered entries → AllByRecursion (IsEntry Two) entries → replayed start entries ≡ Some d → HasNumbers d

-- ---- events

-- each event of a firm master keeps it
abbrev pub EventsKeepNumbers : Type 0
EventsKeepNumbers = (config : Config) (s : State) (event : Event) → IsNamed event → IsFirm s → HasNumbers s.durable → HasNumbers (turn_of config s event).after.durable

-- So it is at the end of every run from a new store.
abbrev pub RunsKeepNumbers : Type 0
RunsKeepNumbers = (config : Config) (log : Log) (events : List Event) → AllByRecursion IsNamed events → HasNumbers (run_of config (fresh log) events).after.durable

-- ---- examples

a_number_that_was_given : is_numbered 13 (codes ".deleted.00000000000000000005.00000000000000000012.f") ≡ true
a_number_that_was_given = refl

a_number_to_come : is_numbered 12 (codes ".deleted.00000000000000000005.00000000000000000012.f") ≡ false
a_number_to_come = refl

a_name_without_one : is_numbered 12 (codes "f") ≡ true
a_name_without_one = refl
