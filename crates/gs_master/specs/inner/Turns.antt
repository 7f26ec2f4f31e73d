-- How the steps of an event follow the definition of its turn.
use Rattle.std.specs.Prelude.{◌≡◌, ◌⊎◌, ◌≤◌, ◌++◌, true, false, List, [], map, fold, Some, None, Result, Ok, Err}
use Rattle.std.specs.List.{AllByRecursion, list_any}
use Rattle.gs_base.specs.declared.refusal.Refusal.{Refusal}
use Rattle.gs_base.specs.declared.refusal.Refusal.TheVariants as refusals
use Rattle.gs_journal.specs.declared.version.Version.TheVariants.{Two}
use Rattle.gs_msg.specs.declared.message.Message.{Message}
use Rattle.gs_master_record.specs.Plain.{PlainEntry, plain}
use Rattle.gs_master_record.specs.Writable.{IsEntry}
use Rattle.gs_master_spec.specs.Applied.{replayed}
use Rattle.gs_master_spec.specs.Durable.{Durable}
use Rattle.gs_master.specs.inner.Events.{KeepsBack, log_behind}
use Rattle.gs_master_state.specs.inner.Plans.{fault_of, log_of}
use Rattle.gs_master_state.specs.inner.Recorded.{durable_of}
use Rattle.gs_master_spec.specs.State.{State, Plan, Turn, fits, first_said}
use Rattle.gs_master_state.specs.inner.TakingBack.{RoomForAll, comes_alone}
use Rattle.gs_master.specs.declared.event.Event.{Event}

-- the master as an event has left it so far
abbrev pub state_at : Event → State
state_at e = record { durable = durable_of e.recorded; volatile = e.memory.now; log = log_of e.log; fault = fault_of e.fault }

-- what takes its records back has its room, and each record has taken bytes
pub record IsUnderWay (e : Event) : Type 0 where
  pub room : RoomForAll e.recorded e.undos.items
  pub counted : e.log.records ≤ e.log.size

-- some record of these doesn't fit what it meets, or can't be written
abbrev pub AreUnfit : List PlainEntry → Durable → Type 0
AreUnfit records d = (replayed d records ≡ None) ⊎ ¬ AllByRecursion (IsEntry Two) records

-- where no record stands there needs to be no room
abbrev pub HaveRoom : List PlainEntry → Event → Type 0
HaveRoom records e = (records ≡ []) ⊎ (fits (log_of e.log) records ≡ true)

-- records are applied one after the other, and stand behind the others
pub record AreEntered (records : List PlainEntry) (old new : Event) : Type 0 where
  pub replays : replayed (durable_of old.recorded) records ≡ Some (durable_of new.recorded)
  pub are_entries : AllByRecursion (IsEntry Two) records
  pub room : HaveRoom records old
  pub entries : map plain new.entries.items ≡ map plain old.entries.items ++ records
  pub log : log_of new.log ≡ fold log_behind (log_of old.log) records

-- Full only where the journal has no room for all of them, BadLine only where one is unfit, and else memory is wanting
abbrev pub WhyNotAll : List PlainEntry → Event → Refusal → Type 0
WhyNotAll records old e =
    (e ≡ refusals.Memory) ⊎ (((e ≡ refusals.Full) × (fits (log_of old.log) records ≡ false)) ⊎ ((e ≡ refusals.BadLine) × AreUnfit records (durable_of old.recorded)))

abbrev pub EntersAll : List PlainEntry → Event → Result (Unit {0}) Refusal → Event → Type 0
EntersAll records old (Ok _) new = AreEntered records old new
EntersAll records old (Err e) new = WhyNotAll records old e

-- A turn is done from the state that stood: each record fits what it meets, and stands behind those before it.
pub record IsTurned (t : Turn) (old new : Event) : Type 0 where
  pub after : state_at new ≡ t.after
  pub replays : replayed (durable_of old.recorded) t.records ≡ Some (durable_of new.recorded)
  pub are_entries : AllByRecursion (IsEntry Two) t.records
  pub room : HaveRoom t.records old
  pub log : log_of new.log ≡ fold log_behind (log_of old.log) t.records
  pub entries : map plain new.entries.items ≡ map plain old.entries.items ++ t.records
  pub sent : new.sent.items ≡ old.sent.items ++ t.sent
  pub said : new.said ≡ first_said old.said t.said

abbrev pub WhyNotTurned : Turn → Event → Refusal → Type 0
WhyNotTurned t old e = WhyNotAll t.records old e

abbrev pub EventSteps : Turn → Event → Result (Unit {0}) Refusal → Event → Type 0
EventSteps t old (Ok _) new = IsTurned t old new
EventSteps t old (Err e) new = WhyNotTurned t old e

-- what a step leaves: all that was done can be taken back still, and what was to be sent is to be sent still
pub record GoesBack (old new : Event) : Type 0 where
  pub keeps : KeepsBack old new
  pub ready : IsUnderWay new
  pub fault : new.fault ≡ old.fault
  pub sent : (more : List Message) × (new.sent.items ≡ old.sent.items ++ more)

-- its records come with others
pub record ComesWithOthers (p : Plan) : Type 0 where
  pub records : list_any comes_alone p.records ≡ false
