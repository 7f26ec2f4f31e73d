-- What a tick and a checkpoint answer.
use Rattle.std.specs.Prelude.{◌≡◌, ◌⊎◌, ◌&&◌, ◌<◌, ◌++◌, ℕ, Bool, true, false, not, List, length, map, Some, None, is_none, Result, Ok, Err}
use Rattle.std.specs.List.{AllByRecursion}
use Rattle.gs_base.specs.declared.numbers.Moment.{Moment}
use Rattle.gs_base.specs.declared.refusal.Refusal.{Refusal}
use Rattle.gs_base.specs.declared.refusal.Refusal.TheVariants as refusals
use Rattle.gs_journal.specs.Journal.{checkpointed, failures_of_both}
use Rattle.gs_journal.specs.Records.{Text}
use Rattle.gs_journal.specs.declared.version.Version.TheVariants.{Two}
use Rattle.gs_master_record.specs.Encoding.{encoded}
use Rattle.gs_master_record.specs.Plain.{Whole}
use Rattle.gs_master_record.specs.Writable.{IsEntry}
use Rattle.gs_master_spec.specs.Applied.{replayed}
use Rattle.gs_master_spec.specs.Handling.{checkpoint, checkpoint_body, due, granted, pressed, proposals, tick}
use Rattle.gs_master.specs.Journaled.{IsAsSeen, IsLogOf}
use Rattle.gs_master.specs.Masters.{MasterAnswers, IsAnswered, IsAnsweredUnsure, LeavesText, MasterOf, WhyNot}
use Rattle.gs_master_spec.specs.Outcomes.{IsDone}
use Rattle.gs_master_plan.specs.Renewable.{refusal_beforehand, renewal_refusal}
use Rattle.gs_master_spec.specs.State.{State, Turn, and_then, for_each, is_failed, unmoved}
use Rattle.gs_master_spec.specs.Whole.{checkpoint_of}
use Rattle.gs_master.specs.declared.turn.Turn.{Turn as Told}

-- what a tick does before it writes a checkpoint
abbrev pub pressed_all : State → Moment → Turn
pressed_all s moment = and_then (for_each s (proposals s) (pressed moment)) granted

-- A checkpoint is written behind the records of these steps. Each of those fits what it meets, and the checkpoint stands alone, and can be read
-- again. The journal is as its disks are seen, and the master knows its room.
pub record IsAnsweredAnew {D : Type 0} (seen : D → List ℕ) (failures : D → ℕ) (t steps : Turn) (old : MasterOf D) (told : Told) (new : MasterOf D) : Type 0 where
  pub done : IsDone t told.sent.items told.said new.state
  pub fit : replayed old.state.durable steps.records ≡ Some steps.after.durable
  pub are_entries : AllByRecursion (IsEntry Two) steps.records
  pub is_entry : IsEntry Two (Whole (checkpoint_of steps.after.durable))
  pub text : new.journal.text ≡ checkpointed (checkpoint_body steps.after.durable)
  pub fault : new.state.fault ≡ old.state.fault
  pub as_seen : IsAsSeen seen new.journal
  pub known : IsLogOf new.state.log new.journal
  pub quiet : failures_of_both failures new.journal ≡ failures_of_both failures old.journal
  pub config : new.config ≡ old.config

-- What a failure leaves of a text where a checkpoint was to be written behind the records of these steps: at one of those as ever; at the checkpoint
-- they all stand behind the others, or it stands in the place of all.
abbrev pub LeavesAnew : Turn → ℕ → Text → Text → Type 0
LeavesAnew steps place old new =
    ((place < length steps.records) × LeavesText steps.records place old new)
    ⊎ ((place ≡ length steps.records) × ((new ≡ (old.0, old.1 ++ map (encoded Two) steps.records)) ⊎ (new ≡ checkpointed (checkpoint_body steps.after.durable))))

-- with a checkpoint or without: it is done, or cut where a disk failed
abbrev pub AnswersAs : {D : Type 0} → (D → List ℕ) → (D → ℕ) → Bool → Turn → Turn → MasterOf D → Told → MasterOf D → Type 0
AnswersAs seen failures true t steps old told new =
    IsAnsweredAnew seen failures t steps old told new ⊎ ((place : ℕ) × IsAnsweredUnsure seen failures (LeavesAnew steps) None t place old told new)
AnswersAs seen failures false t steps old told new =
    IsAnswered seen failures t old told new ⊎ ((place : ℕ) × IsAnsweredUnsure seen failures (LeavesText t.records) None t place old told new)

-- a checkpoint of this state is written where none stands against it
abbrev pub is_written : State → Bool
is_written s = is_none (renewal_refusal s)

-- whether a tick writes one
abbrev pub writes_one : State → Turn → Bool
writes_one s steps = not (is_failed s.fault) && (due steps.after && is_written steps.after)

-- the steps are done, and the checkpoint is written if it is due; or all is cut where a disk failed
abbrev pub AnswersWhole : {D : Type 0} → (D → List ℕ) → (D → ℕ) → Moment → MasterOf D → Told → MasterOf D → Type 0
AnswersWhole seen failures moment old told new =
    let steps = pressed_all old.state moment in AnswersAs seen failures (writes_one old.state steps) (tick old.state moment) steps old told new

-- these steps, where memory was wanting for a checkpoint
abbrev pub lacking : Turn → Turn
lacking steps = record steps { said = Some refusals.Memory }

-- Where memory is wanting for a checkpoint that is due, and nothing is known beforehand that stands against one, the steps are done without it, and
-- that is said. Where it is wanting for the steps, nothing has happened.
abbrev pub AnswersTick : {D : Type 0} → (D → List ℕ) → (D → ℕ) → Moment → MasterOf D → Result Told Refusal → MasterOf D → Type 0
AnswersTick seen failures moment old (Ok told) new =
    let steps = pressed_all old.state moment in
    AnswersWhole seen failures moment old told new
    ⊎ ((is_failed old.state.fault ≡ false) × (due steps.after ≡ true) × (refusal_beforehand steps.after ≡ None) × MasterAnswers seen failures None (lacking steps) old (Ok told) new)
AnswersTick seen failures moment old (Err refusal) new = WhyNot (pressed_all old.state moment) old.state refusal × (new ≡ old)

-- a checkpoint is written, or it is said why none is; or a disk failed at it; or memory is wanting, nothing is known beforehand that stands against
-- one, and nothing has happened
abbrev pub AnswersCheckpoint : {D : Type 0} → (D → List ℕ) → (D → ℕ) → MasterOf D → Result Told Refusal → MasterOf D → Type 0
AnswersCheckpoint seen failures old (Ok told) new = AnswersAs seen failures (is_written old.state) (checkpoint old.state) (unmoved old.state) old told new
AnswersCheckpoint seen failures old (Err refusal) new = (refusal ≡ refusals.Memory) × (refusal_beforehand old.state ≡ None) × (new ≡ old)
