-- Which settled views have members.
use Rattle.std.specs.Prelude.{◌≡◌, ◌⊎◌, ◌≤◌, ◌<◌, ◌^◌, ℕ, true, false, List, [], ◌∷◌, Some, None, refl, take}
use Rattle.std.specs.FinMap as fin
use Rattle.std.specs.List.{AllByRecursion}
use Rattle.gs_base.specs.declared.config.Config.{Config}
use Rattle.gs_base.specs.declared.numbers.Moment.{Moment}
use Rattle.gs_master_record.specs.Plain.{PlainEntry, Whole}
use Rattle.gs_master_spec.specs.Applied.{applied, is_whole_entry, may_restore, replayed}
use Rattle.gs_master_spec.specs.Durable.{Durable, Settled}
use Rattle.gs_master_spec.specs.Handling.{fresh, granted, pressed, proposals}
use Rattle.gs_master_spec.specs.State.{State, Log, and_then, for_each}
use Rattle.gs_master_spec.specs.Whole.{checkpoint_of, is_empty}
use Rattle.gs_master_spec.specs.declared.asking.Prepared.{Prepared}
use Rattle.gs_laws_master.specs.Promises.{IsKept}
use Rattle.gs_laws_master.specs.Standing.{Event, IsNamed, run_of, turn_of}
use Rattle.gs_laws_master.specs.Written.{AreHeardIn, IsHeardIn, IsSteady}

-- Each settled view has a member, but for that of a chunk which is listed without a reference: of such a chunk a rollback may be committed
-- though nobody has told of it.
abbrev pub HasMember : Durable → ℕ → Settled → Type 0
HasMember d chunk settled = (is_empty settled.view.members ≡ false) ⊎ (fin.get d.names.refs chunk ≡ Some 0)

abbrev pub HaveMembers : Durable → Type 0
HaveMembers d = (chunk : ℕ) (settled : Settled) → fin.get d.chunks chunk ≡ Some settled → HasMember d chunk settled

-- So each chunk with a reference that is settled has a member.
abbrev pub SettledHaveMembers : Type 0
SettledHaveMembers = (d : Durable) (chunk count : ℕ) (settled : Settled) → HaveMembers d → fin.get d.names.refs chunk ≡ Some count → 1 ≤ count → fin.get d.chunks chunk ≡ Some settled → is_empty settled.view.members ≡ false

-- A record keeps it,
abbrev pub RecordsKeepMembers : Type 0
RecordsKeepMembers = (entry : PlainEntry) (d next : Durable) → is_whole_entry entry ≡ false → IsKept d → HaveMembers d → applied d entry ≡ Some next → HaveMembers next

-- and so does the checkpoint of what stands.
abbrev pub TellsMembers : Type 0
TellsMembers = (d next : Durable) → IsKept d → HaveMembers d → applied d (Whole (checkpoint_of d)) ≡ Some next → HaveMembers next

-- So does each event of a steady master,
abbrev pub EventsKeepMembers : Type 0
EventsKeepMembers = (config : Config) (s : State) (event : Event) → IsNamed event → IsHeardIn s event → IsSteady s → HaveMembers s.durable → HaveMembers (turn_of config s event).after.durable

-- also its records before a place, whichever,
abbrev pub EventsKeepMembersAtPlaces : Type 0
EventsKeepMembersAtPlaces = (config : Config) (s : State) (event : Event) (place : ℕ) (d : Durable) → IsNamed event → IsHeardIn s event → IsSteady s → HaveMembers s.durable → replayed s.durable (take place (turn_of config s event).records) ≡ Some d → HaveMembers d

-- and those of all steps of a tick, where memory for its checkpoint is wanting.
abbrev pub StepsKeepMembersAtPlaces : Type 0
StepsKeepMembersAtPlaces = (s : State) (moment : Moment) (place : ℕ) (d : Durable) → IsSteady s → HaveMembers s.durable → replayed s.durable (take place (and_then (for_each s (proposals s) (pressed moment)) granted).records) ≡ Some d → HaveMembers d

-- So it is at the end of every run from a new store.
abbrev pub RunsHaveMembers : Type 0
RunsHaveMembers = (config : Config) (log : Log) (events : List Event) → log.size ≤ log.limit → log.limit < 2 ^ 32 → AllByRecursion IsNamed events → AreHeardIn config (fresh log) events → HaveMembers (run_of config (fresh log) events).after.durable

-- ---- examples

abbrev on_server_1 : Prepared
on_server_1 = record { view = record { stamp = record { epoch = 0; version = 5 }; count = 2; members = 1 ∷ []; term = None }; holders = [] }

nobody_for_a_chunk_without_a_reference : may_restore (Some on_server_1) 0 [] ≡ true
nobody_for_a_chunk_without_a_reference = refl

somebody_for_one_with_a_reference : may_restore (Some on_server_1) 1 [] ≡ false
somebody_for_one_with_a_reference = refl
