-- What the master does, move by move: of each the turn that it makes of a state.
use Rattle.std.specs.Prelude.{◌+◌, ℕ, Bool, false, List, [], ◌∷◌, Option, None, if◌then◌else◌}
use Rattle.std.specs.FinMap as fin
use Rattle.gs_base.specs.declared.config.Config.{Config}
use Rattle.gs_base.specs.declared.epoch.EpochEnd.TheVariants as ends
use Rattle.gs_base.specs.declared.numbers.Moment.{Moment}
use Rattle.gs_base.specs.declared.numbers.ReqId.{ReqId}
use Rattle.gs_base.specs.declared.refusal.Refusal.{Refusal}
use Rattle.gs_edit.specs.View.{NamesView}
use Rattle.gs_lease.specs.declared.view.Purpose.{Purpose}
use Rattle.gs_lease.specs.declared.view.View.{View}
use Rattle.gs_msg.specs.declared.answer.Answer.{Answer}
use Rattle.gs_msg.specs.declared.answer.Answer.TheVariants as answers
use Rattle.gs_msg.specs.declared.message.Message.{Message}
use Rattle.gs_path.specs.Path.{Path}
use Rattle.gs_master_record.specs.Plain.{PlainEdit, AddChunk, Snapshot, Prepare, Finalize, RollbackBegin, RollbackCommit}
use Rattle.gs_master_spec.specs.Beginning.{begin_at, copy_plan, create_plan, next_stamp, waits_from_now, waits_on}
use Rattle.gs_master_spec.specs.Calls.{accept_plan}
use Rattle.gs_master_spec.specs.Chunks.{settling}
use Rattle.gs_master_spec.specs.Durable.{prepared_view}
use Rattle.gs_master_spec.specs.Handling.{written}
use Rattle.gs_master_spec.specs.Hearing.{ask_plan, is_with_sealed, send_plan, sends}
use Rattle.gs_master_spec.specs.Settling.{edit_plan, end_plan, replace_plan, settle_plan}
use Rattle.gs_master_spec.specs.State.{State, Plan, Turn, turned, joined, answered, end_changes, refusal_plan}
use Rattle.gs_master_spec.specs.Upgrades.{accepted_plan, answers_for, chunk_count, tell_all, told_of}
use Rattle.gs_master_spec.specs.Working.{begin_pending, scan_plan}
use Rattle.gs_master_spec.specs.declared.asking.Asking.{Asking}
use Rattle.gs_master_spec.specs.declared.change.Change.TheVariants as changes
use Rattle.gs_master_spec.specs.declared.pending.Waiting.{Waiting}
use Rattle.gs_master_spec.specs.declared.pending.Waiting.TheVariants as waits

-- beside what is begun, a call waits from now on, or one that has waited waits for this now
pub data Beside : Type 0 where
  Alone : Beside
  FromNow : ReqId → Waiting → Beside
  Further : ReqId → Waiting → Beside

abbrev pub with_beside : Beside → Plan → Plan
with_beside Alone plan = plan
with_beside (FromNow req waiting) plan = waits_from_now plan req waiting
with_beside (Further req waiting) plan = waits_on plan req waiting

pub data Move : Type 0 where
  -- a view of a chunk is proposed
  Begins : (chunk : ℕ) → Purpose → Option ReqId → Beside → Move
  -- a new chunk is made on these servers, or as a copy of a chunk by its view
  Makes : (targets : List ℕ) → ReqId → Path → Move
  Copies : (old : ℕ) → View → ReqId → Beside → Move
  -- an answer is heard, so that this is asked now
  Hears : (chunk : ℕ) → Asking → Move
  -- the source of a copy is told to send it
  Sends : (chunk : ℕ) → Asking → (source target : ℕ) → Move
  -- a chunk is settled on a view
  Settles : (chunk : ℕ) → Asking → (carried : Bool) → View → Move
  -- the names are edited: by a call at once, by an extend or a snapshot that has waited, by the master for a copy on write, by a scan
  Edits : ReqId → PlainEdit → Answer → Move
  Extends : ReqId → Path → (chunk : ℕ) → View → Move
  CopiesTree : ReqId → (from to : Path) → Move
  Replaces : Path → (index old new : ℕ) → Move
  Scans : (removed : List Path) → (forgotten : List ℕ) → Move
  -- a call is refused, or answered without a record; one that has waited ends
  Refuses : ReqId → Refusal → (ends : Bool) → Move
  Answers : ReqId → Answer → (ends : Bool) → Move
  -- a call waits from now on, for what is begun next
  Waits : ReqId → Waiting → Move
  -- a server has these chunks as they were sealed
  Restores : (server : ℕ) → (chunks : List ℕ) → Move
  -- messages are sent, and nothing changes
  Says : List Message → Move
  -- an upgrade is being prepared from now on, or isn't
  Flags : ReqId → (preparing : Bool) → (epoch : ℕ) → Move
  Prepares : ReqId → Moment → Move
  Finalizes : ReqId → Move
  BeginsRollback : Move
  TellsRollback : ReqId → (epoch : ℕ) → Move
  CommitsRollback : ReqId → NamesView → Move
  -- a checkpoint is written
  Checkpoints : Move

-- the plan of a move, in the state that it meets
abbrev pub plan_of_refusal : State → ReqId → Refusal → Bool → Plan
plan_of_refusal s req refusal ends = refusal_plan s req refusal (if ends then end_changes s req else []) None

abbrev pub plan_of_answer : State → ReqId → Answer → Bool → Plan
plan_of_answer s req answer ends = if ends then end_plan s req answer else answered s req answer

abbrev pub plan_of_begin : State → ℕ → Purpose → Option ReqId → Beside → Plan
plan_of_begin s chunk purpose call beside = with_beside beside (begin_at s chunk purpose call)

abbrev pub plan_of_make : State → List ℕ → ReqId → Path → Plan
plan_of_make s targets req path = waits_from_now (create_plan (next_stamp s.durable) s.durable.next_handle targets req) req (waits.Extend path s.durable.next_handle)

abbrev pub plan_of_copy : State → ℕ → View → ReqId → Beside → Plan
plan_of_copy s old view req beside = with_beside beside (copy_plan (next_stamp s.durable) old view s.durable.next_handle req)

abbrev pub plan_of_settle : State → ℕ → Asking → Bool → View → Plan
plan_of_settle s chunk asking carried view = settle_plan (settling s.durable.phase (prepared_view s.durable chunk) carried chunk asking view) chunk view

abbrev pub plan_of_restore : ℕ → List ℕ → Plan
plan_of_restore server chunks = record { records = []; changes = changes.Restored server chunks ∷ []; sent = []; said = None }

abbrev pub plan_of_rollback : State → Plan
plan_of_rollback s = record { records = RollbackBegin (s.durable.epoch + 1) ∷ []; changes = []; sent = []; said = None }

abbrev pub plan_of_commit : State → ReqId → NamesView → Plan
plan_of_commit s req names =
    accepted_plan s req (RollbackCommit s.durable.epoch (answers_for (prepared_view s.durable) (told_of s) (fin.entries names.refs)) ∷ []) (changes.RolledBack ∷ []) [] s.durable.epoch

-- what a move makes of a state, and sends
abbrev pub move_turn : Config → State → Move → Turn
move_turn config s (Begins chunk purpose call beside) = turned s (plan_of_begin s chunk purpose call beside)
move_turn config s (Makes targets req path) = turned s (plan_of_make s targets req path)
move_turn config s (Copies old view req beside) = turned s (plan_of_copy s old view req beside)
move_turn config s (Hears chunk asking) = turned s (ask_plan chunk asking)
move_turn config s (Sends chunk asking source target) = turned s (send_plan chunk asking source target (is_with_sealed s.durable.phase (prepared_view s.durable chunk) source))
move_turn config s (Settles chunk asking carried view) = turned s (plan_of_settle s chunk asking carried view)
move_turn config s (Edits req edit answer) = turned s (accept_plan req edit answer)
move_turn config s (Extends req path chunk view) = turned s (edit_plan req (AddChunk path chunk) (answers.Location chunk view s.durable.epoch) (changes.Place chunk ∷ []))
move_turn config s (CopiesTree req from to) = turned s (edit_plan req (Snapshot from to) answers.Nothing [])
move_turn config s (Replaces path index old new) = turned s (replace_plan path index old new)
move_turn config s (Scans removed forgotten) = turned s (scan_plan removed forgotten)
move_turn config s (Refuses req refusal ends) = turned s (plan_of_refusal s req refusal ends)
move_turn config s (Answers req answer ends) = turned s (plan_of_answer s req answer ends)
move_turn config s (Waits req waiting) = turned s (begin_pending req waiting)
move_turn config s (Restores server chunks) = turned s (plan_of_restore server chunks)
move_turn config s (Says messages) = sends s messages
move_turn config s (Flags req preparing epoch) = turned s (accepted_plan s req [] (changes.Prepare preparing ∷ []) [] epoch)
move_turn config s (Prepares req moment) =
    turned s (accepted_plan s req (Prepare (s.durable.epoch + 1) moment.0 (chunk_count s) ∷ []) (changes.Prepare false ∷ []) (tell_all config (s.durable.epoch + 1) ends.Prepare) (s.durable.epoch + 1))
move_turn config s (Finalizes req) = turned s (accepted_plan s req (Finalize (s.durable.epoch + 1) ∷ []) [] (tell_all config (s.durable.epoch + 1) ends.Finalize) (s.durable.epoch + 1))
move_turn config s BeginsRollback = turned s (plan_of_rollback s)
move_turn config s (TellsRollback req epoch) = turned s (accepted_plan s req [] [] (tell_all config epoch ends.Rollback) epoch)
move_turn config s (CommitsRollback req names) = turned s (plan_of_commit s req names)
move_turn config s Checkpoints = written s

-- ---- chains

-- A turn is a chain of moves, of each of which this holds in the state that it meets. What the turn says to nobody is left open.
pub data Chain (config : Config) (Holds : State → Move → Type 0) : State → Turn → Type 0 where
  Rests : (s : State) → (said : Option Refusal) → Chain config Holds s (record { after = s; records = []; sent = []; said = said })
  Moves : (s : State) → (move : Move) → (said : Option Refusal) → Holds s move → Chain config Holds s (record (move_turn config s move) { said = said })
  Then : (s : State) → (t next : Turn) → Chain config Holds s t → Chain config Holds t.after next → Chain config Holds s (joined t next)
