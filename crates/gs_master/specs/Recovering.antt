-- What the records of an open journal tell, and the master that it is from then on.
use Rattle.std.specs.Prelude.{◌≡◌, ◌⊎◌, ◌<◌, ℕ, false, true, List, [], Some, None, Result, Ok, Err, refl}
use Rattle.gs_base.specs.declared.config.Config.{Config}
use Rattle.gs_base.specs.declared.refusal.Refusal.{Refusal}
use Rattle.gs_base.specs.declared.refusal.Refusal.TheVariants as refusals
use Rattle.gs_journal.specs.Journal.{State as Journal, Stands, Stays, checkpointed, failures_of_both}
use Rattle.gs_master_guard.specs.Reading.{AreRecordsOf}
use Rattle.gs_journal.specs.Records.{Text, fresh}
use Rattle.gs_journal.specs.declared.version.Version.{Version}
use Rattle.gs_journal.specs.declared.version.Version.TheVariants as versions
use Rattle.gs_master_record.specs.Plain.{PlainEntry}
use Rattle.gs_master_spec.specs.Applied.{records_behind, replayed}
use Rattle.gs_master_spec.specs.Durable.{Durable, start}
use Rattle.gs_master_spec.specs.Handling.{checkpoint_body, recover, restarted, written}
use Rattle.gs_master.specs.Journaled.{IsLogOf}
use Rattle.gs_master_state.specs.inner.Plans.{log_of}
use Rattle.gs_master_state.specs.inner.Recorded.{durable_of}
use Rattle.gs_master.specs.inner.Renewing.{BreaksLast, Renews}
use Rattle.gs_master_plan.specs.Renewable.{renewal_refusal}
use Rattle.gs_master.specs.inner.StartingOver.{IsBegun}
use Rattle.gs_master_spec.specs.State.{Log, Turn}
use Rattle.gs_master.specs.inner.Turns.{IsUnderWay, state_at}
use Rattle.gs_master.specs.declared.event.Event.{Event}

-- ---- entries

-- what the records of a text come to
pub record TellsDurable (text : Text) (entries : List PlainEntry) (d : Durable) : Type 0 where
  pub records : AreRecordsOf text.0 text.1 entries
  pub replays : replayed start entries ≡ Some d

-- what is told where a disk failed: what was told, or in the place of a text of version 1 the checkpoint of that
abbrev pub TellsStill : Text → Text → Type 0
TellsStill old new =
    (new ≡ old) ⊎ ((entries : List PlainEntry) × (durable : Durable) × TellsDurable old entries durable × (old.0 ≡ versions.One) × (new ≡ checkpointed (checkpoint_body durable)))

-- ---- the room

-- the journal as the master sees it; how many records stand behind its last checkpoint, they tell
abbrev pub log_in : {D : Type 0} → Journal D → Log
log_in j = record { records = 0; size = j.size; limit = j.limit; generation = j.generation }

abbrev pub log_behind_last : {D : Type 0} → Journal D → List PlainEntry → Log
log_behind_last j entries = record (log_in j) { records = records_behind entries }

-- ---- before anything is written

-- the master as a restart leaves it, where an event begins
pub record IsRestarted (d : Durable) (log : Log) (e : Event) : Type 0 where
  pub state : state_at e ≡ restarted d log
  pub begun : IsBegun e
  pub ready : IsUnderWay e
  pub sent : e.sent.items ≡ []

-- that of the records of a journal
pub record IsRested {D : Type 0} (j : Journal D) (entries : List PlainEntry) (e : Event) : Type 0 where
  pub durable : Durable
  pub replays : replayed start entries ≡ Some durable
  pub state : state_at e ≡ restarted durable (log_behind_last j entries)
  pub begun : IsBegun e
  pub ready : IsUnderWay e
  pub sent : e.sent.items ≡ []

-- BadLine where a record doesn't fit what it meets, memory aside
abbrev pub Rests : {D : Type 0} → Journal D → List PlainEntry → Result Event Refusal → Type 0
Rests j entries (Ok e) = IsRested j entries e
Rests j entries (Err e) = (e ≡ refusals.Memory) ⊎ ((e ≡ refusals.BadLine) × (replayed start entries ≡ None))

-- ---- a journal of version 1

-- a checkpoint of what stands is written to the other disk, and what it doesn't tell is given up
pub record IsAnew {D : Type 0} (seen : D → List ℕ) (may_leave : D → List ℕ → Type 0) (failures : D → ℕ) (old : Event) (old_journal : Journal D) (new : Event) (new_journal : Journal D) : Type 0 where
  pub unrefused : renewal_refusal (state_at old) ≡ None
  pub after : state_at new ≡ (written (state_at old)).after
  pub begun : IsBegun new
  pub ready : IsUnderWay new
  pub renews : Renews seen may_leave failures old_journal (checkpoint_body (durable_of old.recorded)) new_journal
  pub log : IsLogOf (log_of new.log) new_journal

-- memory is wanting, or something stands against it, and nothing is written; or a disk failed at it
abbrev pub WhyNotAnew : {D : Type 0} → (D → List ℕ) → (D → ℕ) → Event → Journal D → Refusal → Journal D → Type 0
WhyNotAnew seen failures old old_journal e new_journal =
    ((new_journal ≡ old_journal) × ((e ≡ refusals.Memory) ⊎ (renewal_refusal (state_at old) ≡ Some e)))
    ⊎ ((e ≡ refusals.Device) × BreaksLast seen failures old_journal [] (checkpoint_body (durable_of old.recorded)) new_journal)

abbrev pub WritesAnew : {D : Type 0} → (D → List ℕ) → (D → List ℕ → Type 0) → (D → ℕ) → Event → Journal D → Result (Unit {0}) Refusal → Event → Journal D → Type 0
WritesAnew seen may_leave failures old old_journal (Ok _) new new_journal = IsAnew seen may_leave failures old old_journal new new_journal
WritesAnew seen may_leave failures old old_journal (Err e) new new_journal = WhyNotAnew seen failures old old_journal e new_journal

-- nothing is written to one of version 2
abbrev pub Updates : {D : Type 0} → (D → List ℕ) → (D → List ℕ → Type 0) → (D → ℕ) → Version → Event → Journal D → Result (Unit {0}) Refusal → Event → Journal D → Type 0
Updates seen may_leave failures versions.One old old_journal result new new_journal = WritesAnew seen may_leave failures old old_journal result new new_journal
Updates seen may_leave failures versions.Two old old_journal (Ok _) new new_journal = (new ≡ old) × (new_journal ≡ old_journal)
Updates seen may_leave failures versions.Two old old_journal (Err e) new new_journal = ⊥

-- ---- what a journal is opened with

-- what is left of the journal: one of version 2 stays, and in one of version 1 the checkpoint stands alone
abbrev pub IsLeft : {D : Type 0} → (D → List ℕ) → (D → List ℕ → Type 0) → (D → ℕ) → Version → Durable → Journal D → Journal D → Type 0
IsLeft seen may_leave failures versions.One d old new = Renews seen may_leave failures old (checkpoint_body d) new
IsLeft seen may_leave failures versions.Two d old new = Stays old new × (Stands seen may_leave new × (failures_of_both failures new ≡ failures_of_both failures old))

-- the master is what its definition says, and knows its journal's room
pub record IsRecovered {D : Type 0} (seen : D → List ℕ) (may_leave : D → List ℕ → Type 0) (failures : D → ℕ) (config : Config) (old new : Journal D) (e : Event) : Type 0 where
  pub entries : List PlainEntry
  pub durable : Durable
  pub tells : TellsDurable old.text entries durable
  pub turn : Turn
  pub recovers : recover config old.text.0 entries (log_in old) ≡ Ok turn
  pub after : state_at e ≡ turn.after
  pub sent : e.sent.items ≡ turn.sent
  pub begun : IsBegun e
  pub ready : IsUnderWay e
  pub journal : IsLeft seen may_leave failures old.text.0 durable old new
  pub log : IsLogOf (log_of e.log) new

-- nothing was written, and the journal stands open
pub record StaysOpen {D : Type 0} (failures : D → ℕ) (old new : Journal D) : Type 0 where
  pub stays : Stays old new
  pub is_open : new.is_failed ≡ false
  pub quiet : failures_of_both failures new ≡ failures_of_both failures old

-- a disk failed: what stood stands, or the checkpoint alone
pub record BreaksOff {D : Type 0} (failures : D → ℕ) (old new : Journal D) : Type 0 where
  pub cause : failures_of_both failures old < failures_of_both failures new
  pub closed : new.is_failed ≡ true
  pub text : TellsStill old.text new.text

-- The records are those of no entries, or what they are doesn't let the master be opened; or memory is wanting. Then nothing was
-- written. Or a disk failed.
abbrev pub WhyNotTold : Config → Text → Log → Refusal → Type 0
WhyNotTold config text log e =
    (e ≡ refusals.Memory)
    ⊎ (((e ≡ refusals.BadLine) × ((entries : List PlainEntry) → ¬ AreRecordsOf text.0 text.1 entries))
    ⊎ ((entries : List PlainEntry) × AreRecordsOf text.0 text.1 entries × (recover config text.0 entries log ≡ Err e)))

abbrev pub WhyNotRecovered : {D : Type 0} → (D → ℕ) → Config → Journal D → Journal D → Refusal → Type 0
WhyNotRecovered failures config old new e =
    (StaysOpen failures old new × WhyNotTold config old.text (log_in old) e) ⊎ ((e ≡ refusals.Device) × BreaksOff failures old new)

abbrev pub Recovers : {D : Type 0} → (D → List ℕ) → (D → List ℕ → Type 0) → (D → ℕ) → Config → Journal D → Journal D → Result Event Refusal → Type 0
Recovers seen may_leave failures config old new (Ok e) = IsRecovered seen may_leave failures config old new e
Recovers seen may_leave failures config old new (Err e) = WhyNotRecovered failures config old new e

-- ---- examples

a_new_store : TellsDurable fresh [] start
a_new_store = record { records = record { written = refl; are_entries = tt }; replays = refl }
