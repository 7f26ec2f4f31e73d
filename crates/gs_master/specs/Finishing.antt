-- What an event that is finished leaves at the master and at its journal.
use Rattle.std.specs.Prelude.{◌≡◌, ◌⊎◌, ◌≤◌, ◌++◌, ◌∷◌, ◌&&◌, ℕ, true, false, List, [], map, Option, Some, None, is_none, Result, Ok, Err}
use Rattle.std.specs.List.{AllByRecursion}
use Rattle.std.specs.declared.alloc.AllocError.{AllocError}
use Rattle.gs_base.specs.declared.numbers.ReqId.{ReqId}
use Rattle.gs_base.specs.declared.refusal.Refusal.{Refusal}
use Rattle.gs_journal.specs.Journal.{State as Journal}
use Rattle.gs_journal.specs.declared.version.Version.TheVariants.{Two}
use Rattle.gs_master_record.specs.Encoding.{encoded}
use Rattle.gs_master_record.specs.Plain.{Whole}
use Rattle.gs_master_record.specs.Writable.{IsEntry}
use Rattle.gs_master_spec.specs.Applied.{replayed}
use Rattle.gs_master_spec.specs.Durable.{Durable}
use Rattle.gs_master_spec.specs.Handling.{checkpoint_body, due, written}
use Rattle.gs_master.specs.Journaled.{Breaks, Gains, IsLogOf}
use Rattle.gs_master_spec.specs.Outcomes.{IsCut, IsDone}
use Rattle.gs_master_state.specs.inner.Plans.{fault_of, log_of}
use Rattle.gs_master_state.specs.inner.Recorded.{durable_of}
use Rattle.gs_master.specs.inner.Renewing.{BreaksAnew, Renews}
use Rattle.gs_master_plan.specs.Renewable.{IsBehind, IsRenewalOf, refusal_beforehand, renewal_refusal}
use Rattle.gs_master.specs.inner.StartingOver.{IsBegun}
use Rattle.gs_master_spec.specs.State.{State, Turn}
use Rattle.gs_master.specs.inner.Turns.{WhyNotTurned, state_at}
use Rattle.gs_master_spec.specs.Whole.{checkpoint_of}
use Rattle.gs_master.specs.declared.event.Event.{Event}
use Rattle.gs_master_plan.specs.declared.checkpoint.Renewal.{Renewal}
use Rattle.gs_master.specs.declared.turn.Turn.{Turn as Told}

-- nothing is under way, so the next event begins here
pub record IsAtRest (e : Event) : Type 0 where
  pub begun : IsBegun e
  pub sent : e.sent.items ≡ []
  pub counted : e.log.records ≤ e.log.size

-- the turn is done, and its records stand behind the others
pub record IsFinished {D : Type 0} (seen : D → List ℕ) (may_leave : D → List ℕ → Type 0) (failures : D → ℕ) (t : Turn) (begun : Event) (old : Journal D) (told : Told) (e : Event) (new : Journal D) : Type 0 where
  pub done : IsDone t told.sent.items told.said (state_at e)
  pub replays : replayed (durable_of begun.recorded) t.records ≡ Some (durable_of e.recorded)
  pub are_entries : AllByRecursion (IsEntry Two) t.records
  pub fault : fault_of e.fault ≡ fault_of begun.fault
  pub still : t.records ≡ [] → new ≡ old
  pub gains : IsLogOf (log_of begun.log) old → Gains seen may_leave failures old (map (encoded Two) t.records) new × IsLogOf (log_of e.log) new

-- a disk failed at the record at a place
pub record IsCutShort {D : Type 0} (seen : D → List ℕ) (failures : D → ℕ) (caller : Option ReqId) (t : Turn) (place : ℕ) (begun : Event) (old : Journal D) (told : Told) (e : Event) (new : Journal D) : Type 0 where
  pub cut : IsCut (state_at begun) caller t place told.sent.items told.said (state_at e)
  pub replays : (last : Durable) × (replayed (durable_of begun.recorded) t.records ≡ Some last)
  pub are_entries : AllByRecursion (IsEntry Two) t.records
  pub breaks : IsLogOf (log_of begun.log) old → Breaks seen failures old (map (encoded Two) t.records) place new

-- or nothing has happened
abbrev pub Finishes : {D : Type 0} → (D → List ℕ) → (D → List ℕ → Type 0) → (D → ℕ) → Option ReqId → Turn → Event → Journal D → Result Told Refusal → Event → Journal D → Type 0
Finishes seen may_leave failures caller t begun old (Ok told) e new =
    IsFinished seen may_leave failures t begun old told e new ⊎ ((place : ℕ) × IsCutShort seen failures caller t place begun old told e new)
Finishes seen may_leave failures caller t begun old (Err refusal) e new = WhyNotTurned t begun refusal × ((state_at e ≡ state_at begun) × (new ≡ old))

-- ---- with a checkpoint behind its records

-- these steps, and a checkpoint of what they leave
abbrev pub and_checkpoint : Turn → Turn
and_checkpoint steps = record steps { after = (written steps.after).after; records = steps.records ++ Whole (checkpoint_of steps.after.durable) ∷ [] }

-- all is written, and the checkpoint is one that is read again
pub record IsFinishedAnew {D : Type 0} (seen : D → List ℕ) (may_leave : D → List ℕ → Type 0) (failures : D → ℕ) (steps : Turn) (begun : Event) (old : Journal D) (told : Told) (e : Event) (new : Journal D) : Type 0 where
  pub done : IsDone (and_checkpoint steps) told.sent.items told.said (state_at e)
  pub replays : replayed (durable_of begun.recorded) steps.records ≡ Some steps.after.durable
  pub are_entries : AllByRecursion (IsEntry Two) steps.records
  pub is_entry : IsEntry Two (Whole (checkpoint_of steps.after.durable))
  pub fault : steps.after.fault ≡ fault_of begun.fault
  pub renews : IsLogOf (log_of begun.log) old → Renews seen may_leave failures old (checkpoint_body steps.after.durable) new × IsLogOf (log_of e.log) new

-- a disk failed at a record, or at the checkpoint, which would be read again
pub record IsCutShortAnew {D : Type 0} (seen : D → List ℕ) (failures : D → ℕ) (steps : Turn) (place : ℕ) (begun : Event) (old : Journal D) (told : Told) (e : Event) (new : Journal D) : Type 0 where
  pub cut : IsCut (state_at begun) None (and_checkpoint steps) place told.sent.items told.said (state_at e)
  pub replays : replayed (durable_of begun.recorded) steps.records ≡ Some steps.after.durable
  pub are_entries : AllByRecursion (IsEntry Two) steps.records
  pub is_entry : IsEntry Two (Whole (checkpoint_of steps.after.durable))
  pub breaks : IsLogOf (log_of begun.log) old → BreaksAnew seen failures old (map (encoded Two) steps.records) (checkpoint_body steps.after.durable) place new

abbrev pub FinishesAnew : {D : Type 0} → (D → List ℕ) → (D → List ℕ → Type 0) → (D → ℕ) → Turn → Event → Journal D → Told → Event → Journal D → Type 0
FinishesAnew seen may_leave failures steps begun old told e new =
    IsFinishedAnew seen may_leave failures steps begun old told e new ⊎ ((place : ℕ) × IsCutShortAnew seen failures steps place begun old told e new)

-- All that the checkpoint takes which a tick writes here; none where it isn't due, or something stands against it; or one is due, nothing is
-- known beforehand that stands against it, and memory is wanting for it.
abbrev pub MakesDue : {D : Type 0} → State → Journal D → Result (Option Renewal) AllocError → Type 0
MakesDue s j (Ok (Some r)) = (due s ≡ true) × (IsRenewalOf s r × IsBehind j r)
MakesDue s j (Ok None) = (due s && is_none (renewal_refusal s)) ≡ false
MakesDue s j (Err e) = (due s ≡ true) × (refusal_beforehand s ≡ None)
