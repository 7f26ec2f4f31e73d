-- What the records of an event become at the journal, and what is left of the event where a disk fails at one of them.
use Rattle.std.specs.Prelude.{◌≡◌, ◌⊎◌, ◌+◌, ◌<◌, ◌≤◌, ◌++◌, ℕ, true, false, List, [], length, map, take, sum_by, Option, Some}
use Rattle.gs_base.specs.declared.numbers.ReqId.{ReqId}
use Rattle.gs_journal.specs.Journal.{State as Journal, Stands, counting, failures_of_both, record_size, text_size}
use Rattle.gs_journal.specs.Records.{Entry, Text, generation_of, standing}
use Rattle.gs_master_record.specs.Plain.{plain}
use Rattle.gs_master_spec.specs.Durable.{Durable}
use Rattle.gs_master_spec.specs.Outcomes.{cut, cut_refusal, unsure}
use Rattle.gs_master_state.specs.inner.Plans.{fault_of, log_of}
use Rattle.gs_master_spec.specs.State.{Log, State}
use Rattle.gs_master.specs.inner.Turns.{state_at}
use Rattle.gs_master.specs.declared.event.Event.{Event}

-- ---- what is seen of a journal

-- what its disks say
abbrev pub text_seen : {D : Type 0} → (D → List ℕ) → Journal D → Text
text_seen seen j = standing (seen j.first) (seen j.second)

-- a journal is as its disks are seen, and has no more bytes than what it says takes
pub record IsAsSeen {D : Type 0} (seen : D → List ℕ) (j : Journal D) : Type 0 where
  pub text : text_seen seen j ≡ j.text
  pub size : length (counting (seen j.first) (seen j.second)) ≡ j.size
  pub generation : generation_of (counting (seen j.first) (seen j.second)) ≡ j.generation
  pub whole : j.size ≡ text_size j.text

-- ---- several records at a journal

-- it is open, and has room for them all
pub record IsReadyFor {D : Type 0} (j : Journal D) (records : List Entry) : Type 0 where
  pub is_open : j.is_failed ≡ false
  pub room : (records ≡ []) ⊎ (j.size + sum_by record_size records ≤ j.limit)

-- they stand behind those that stood
pub record Gains {D : Type 0} (seen : D → List ℕ) (may_leave : D → List ℕ → Type 0) (failures : D → ℕ) (old : Journal D) (records : List Entry) (new : Journal D) : Type 0 where
  pub text : new.text ≡ (old.text.0, old.text.1 ++ records)
  pub size : new.size ≡ old.size + sum_by record_size records
  pub limit : new.limit ≡ old.limit
  pub generation : new.generation ≡ old.generation
  pub is_open : new.is_failed ≡ false
  pub quiet : failures_of_both failures new ≡ failures_of_both failures old
  pub stands : Stands seen may_leave old → Stands seen may_leave new

-- of these records those before a place stand behind a text, and that one stands or doesn't
abbrev pub StandUpTo : List Entry → ℕ → Text → Text → Type 0
StandUpTo records place old new = (new ≡ (old.0, old.1 ++ take place records)) ⊎ (new ≡ (old.0, old.1 ++ take (place + 1) records))

-- a disk failed at the one at a place, and so the journal is left and its disks are seen
pub record Breaks {D : Type 0} (seen : D → List ℕ) (failures : D → ℕ) (old : Journal D) (records : List Entry) (place : ℕ) (new : Journal D) : Type 0 where
  pub cause : failures_of_both failures old < failures_of_both failures new
  pub closed : new.is_failed ≡ true
  pub text : StandUpTo records place old.text new.text
  pub shown : StandUpTo records place old.text (text_seen seen new)

-- the master knows the journal's room
pub record IsLogOf {D : Type 0} (log : Log) (j : Journal D) : Type 0 where
  pub is_open : j.is_failed ≡ false
  pub size : log.size ≡ j.size
  pub limit : log.limit ≡ j.limit
  pub generation : log.generation ≡ j.generation

-- ---- the end of an event

-- the state before it
abbrev pub stood_before : Durable → Log → Event → State
stood_before before first e = record { durable = before; volatile = e.memory.before; log = first; fault = fault_of e.fault }

-- nothing of it is taken back any more
pub record IsOver (e : Event) : Type 0 where
  pub undos : e.undos.items ≡ []
  pub entries : e.entries.items ≡ []
  pub written : e.written.items ≡ []
  pub memory : e.memory ≡ record (e.memory) { before = e.memory.now; keeps_calls = false; asked = [] }

-- all its records are written
pub record IsWhole (old new : Event) : Type 0 where
  pub over : IsOver new
  pub after : state_at new ≡ state_at old
  pub sends : new.sent.items ≡ old.sent.items
  pub says : new.said ≡ old.said

-- a disk failed at one of them: that one and those behind it never were, nor what was kept in memory alone
pub record IsCutAt (before : Durable) (first : Log) (caller : Option ReqId) (place : ℕ) (old new : Event) : Type 0 where
  pub over : IsOver new
  pub within : place < length old.entries.items
  pub after : state_at new ≡ cut (stood_before before first old) (map plain old.entries.items) place
  pub sends : new.sent.items ≡ unsure caller
  pub says : new.said ≡ Some (cut_refusal caller)

-- and so they are at the journal, if the master knew its room
abbrev pub AreWritten : {D : Type 0} → (D → List ℕ) → (D → List ℕ → Type 0) → (D → ℕ) → Log → Event → Journal D → Event → Journal D → Type 0
AreWritten seen may_leave failures first old old_journal new new_journal =
    IsWhole old new × (IsLogOf first old_journal → Gains seen may_leave failures old_journal old.written.items new_journal × IsLogOf (log_of new.log) new_journal)

abbrev pub AreCut : {D : Type 0} → (D → List ℕ) → (D → ℕ) → Durable → Log → Option ReqId → ℕ → Event → Journal D → Event → Journal D → Type 0
AreCut seen failures before first caller place old old_journal new new_journal =
    IsCutAt before first caller place old new × (IsLogOf first old_journal → Breaks seen failures old_journal old.written.items place new_journal)
