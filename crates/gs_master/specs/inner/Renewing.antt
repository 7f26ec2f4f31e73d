-- What a checkpoint behind the records of an event makes of the master and of its journal, and what is left of both where a disk
-- fails.
use Rattle.std.specs.Prelude.{◌≡◌, ◌⊎◌, ◌+◌, ◌<◌, ◌++◌, ℕ, true, false, List, [], ◌∷◌, length, map, Some, None}
use Rattle.gs_journal_disk.specs.Disk.{LeavesPairs}
use Rattle.gs_journal.specs.Journal.{State as Journal, IsStillOrNext, LeavesCounting, MakesCheckpoint, Stands, checkpointed, failures_of_both}
use Rattle.gs_journal.specs.Records.{Entry, Text}
use Rattle.gs_journal.specs.declared.version.Version.TheVariants.{Two}
use Rattle.gs_master_record.specs.Plain.{PlainEntry, Whole, plain}
use Rattle.gs_master_record.specs.Writable.{IsEntry}
use Rattle.gs_master_spec.specs.Durable.{Durable}
use Rattle.gs_master_spec.specs.Handling.{checkpoint_body, written}
use Rattle.gs_master.specs.Journaled.{Breaks, IsLogOf, IsOver, stood_before, text_seen}
use Rattle.gs_master_spec.specs.Outcomes.{cut, cut_refusal, unsure}
use Rattle.gs_master_state.specs.inner.Plans.{log_of}
use Rattle.gs_master_state.specs.inner.Recorded.{durable_of}
use Rattle.gs_master_spec.specs.State.{Log, is_failed}
use Rattle.gs_master.specs.inner.Turns.{state_at}
use Rattle.gs_master_spec.specs.Whole.{checkpoint_of}
use Rattle.gs_master.specs.declared.event.Event.{Event}

-- ---- at the master

-- the records of an event, with the checkpoint behind them
abbrev pub and_checkpoint : Event → List PlainEntry
and_checkpoint e = map plain e.entries.items ++ Whole (checkpoint_of (durable_of e.recorded)) ∷ []

-- all of them are written, and the checkpoint is one that is read again
pub record IsRenewed (old new : Event) : Type 0 where
  pub over : IsOver new
  pub after : state_at new ≡ (written (state_at old)).after
  pub is_entry : IsEntry Two (Whole (checkpoint_of (durable_of old.recorded)))
  pub sends : new.sent.items ≡ old.sent.items
  pub says : new.said ≡ old.said

-- a disk failed at one of them: that one and those behind it never were, nor what was kept in memory alone
pub record IsCutAnew (before : Durable) (first : Log) (place : ℕ) (old new : Event) : Type 0 where
  pub over : IsOver new
  pub within : place < length (and_checkpoint old)
  pub after : state_at new ≡ cut (stood_before before first old) (and_checkpoint old) place
  pub sends : new.sent.items ≡ unsure None
  pub says : new.said ≡ Some (cut_refusal None)

-- ---- at the journal

-- the checkpoint stands alone
pub record Renews {D : Type 0} (seen : D → List ℕ) (may_leave : D → List ℕ → Type 0) (failures : D → ℕ) (old : Journal D) (body : List ℕ) (new : Journal D) : Type 0 where
  pub made : MakesCheckpoint old body new
  pub is_open : new.is_failed ≡ false
  pub quiet : failures_of_both failures new ≡ failures_of_both failures old
  pub stands : Stands seen may_leave new

-- behind a text these records stand, or a checkpoint stands in the place of all
abbrev pub StandOrNot : List Entry → List ℕ → Text → Text → Type 0
StandOrNot records body old new = (new ≡ (old.0, old.1 ++ records)) ⊎ (new ≡ checkpointed body)

-- a disk failed at the checkpoint, and so the journal is left and its disks are seen
pub record BreaksLast {D : Type 0} (seen : D → List ℕ) (failures : D → ℕ) (old : Journal D) (records : List Entry) (body : List ℕ) (new : Journal D) : Type 0 where
  pub cause : failures_of_both failures old < failures_of_both failures new
  pub closed : new.is_failed ≡ true
  pub text : StandOrNot records body old.text new.text
  pub shown : StandOrNot records body old.text (text_seen seen new)

-- a disk failed at one of the records, or at the checkpoint behind them
abbrev pub BreaksAnew : {D : Type 0} → (D → List ℕ) → (D → ℕ) → Journal D → List Entry → List ℕ → ℕ → Journal D → Type 0
BreaksAnew seen failures old records body place new =
    ((place < length records) × Breaks seen failures old records place new) ⊎ ((place ≡ length records) × BreaksLast seen failures old records body new)

-- No record stands before the checkpoint: nothing is written, or a crash leaves what stood or the checkpoint, each in its generation. The disk that
-- counted is left as it was.
abbrev pub LeavesAnew : {D : Type 0} → (D → List ℕ) → (D → ℕ) → (D → ℕ → List ℕ → Type 0) → Durable → Journal D → Journal D → Type 0
LeavesAnew seen moment left_since durable old new =
    (new ≡ old)
    ⊎ (LeavesPairs moment left_since old.first old.second new.first new.second (IsStillOrNext old.text old.generation (checkpointed (checkpoint_body durable)))
    × LeavesCounting seen old new)

-- ---- at both, if the master knew the journal's room

abbrev pub AreRenewed : {D : Type 0} → (D → List ℕ) → (D → List ℕ → Type 0) → (D → ℕ) → Log → Event → Journal D → Event → Journal D → Type 0
AreRenewed seen may_leave failures first old old_journal new new_journal =
    IsRenewed old new
    × (IsLogOf first old_journal → Renews seen may_leave failures old_journal (checkpoint_body (durable_of old.recorded)) new_journal × IsLogOf (log_of new.log) new_journal)

abbrev pub AreCutAnew : {D : Type 0} → (D → List ℕ) → (D → ℕ) → Durable → Log → ℕ → Event → Journal D → Event → Journal D → Type 0
AreCutAnew seen failures before first place old old_journal new new_journal =
    IsCutAnew before first place old new
    × (IsLogOf first old_journal → BreaksAnew seen failures old_journal old.written.items (checkpoint_body (durable_of old.recorded)) place new_journal)
    × IsEntry Two (Whole (checkpoint_of (durable_of old.recorded)))
