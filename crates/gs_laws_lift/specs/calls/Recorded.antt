-- For which call a record is written: an edit of the tree, a chunk that is put into a file, a scan, the end of an epoch.
use Rattle.std.specs.Prelude.{◌≡◌, List, Ok, refl, ℕ}
use Rattle.std.specs.List.{AllByRecursion}
use Rattle.gs_base.specs.declared.config.Config.{Config}
use Rattle.gs_base.specs.declared.numbers.ReqId.{ReqId}
use Rattle.gs_msg.specs.declared.call.Call.{Call}
use Rattle.gs_msg.specs.declared.call.Call.TheVariants as calls
use Rattle.gs_msg.specs.declared.message.Message.{Message}
use Rattle.gs_path.specs.Path.{Path}
use Rattle.gs_master_record.specs.Plain.{AddChunk, Cow, Create, Edited, Finalize, Forget, Hide, Mkdirs, PlainEdit, PlainEntry, Prepare, Remove, Rename, RollbackBegin, RollbackCommit, Snapshot, Unhide}
use Rattle.gs_laws_lift.specs.copies.Held.{IsIn}
use Rattle.gs_laws_moves.specs.moves.Epochs.{EndsOnce}
use Rattle.gs_laws_moves.specs.moves.ForCalls.{HasChunks, IsEditOf, IsMadeWellFor, IsNew, StandsAt}
use Rattle.gs_lease.specs.declared.view.View.{View}
use Rattle.gs_msg.specs.declared.answer.Answer.TheVariants as answers
use Rattle.gs_laws_moves.specs.moves.Guards.{Heard, IsLocatedBy}
use Rattle.gs_laws_moves.specs.moves.Moves.{Chain, Move, move_turn}
use Rattle.gs_master_spec.specs.Settling.{own_request}
use Rattle.gs_master_spec.specs.State.{State, Turn, reply_to}
use Rattle.gs_laws_lift.specs.calls.Waits.{AreAskedFor, HearsOneOf, WasCalled, WasToWrite}

-- A move of the turn, with the moves before and after it. The entry is one of its records, and the turn sends what the move sends.
pub record IsWrittenWithin (config : Config) (heard : Heard) (s : State) (t : Turn) (entry : PlainEntry) : Type 0 where
  pub before : Turn
  pub first : Chain config (IsMadeWellFor config heard) s before
  pub move : Move
  pub made : IsMadeWellFor config heard before.after move
  pub among : IsIn entry (move_turn config before.after move).records
  pub sends : (m : Message) → IsIn m (move_turn config before.after move).sent → IsIn m t.sent
  pub next : Turn
  pub rest : Chain config (IsMadeWellFor config heard) (move_turn config before.after move).after next
  pub last : t.after ≡ next.after

-- A chunk is added for a call to extend the file, after its last chunk. After the move it stands at the place that the call named, and is settled on the view that the call is told.
pub record IsAddedFor (all : List (ReqId × Call)) (config : Config) (heard : Heard) (s : State) (t : Turn) (req : ReqId) (path : Path) (chunk : ℕ) (entry : PlainEntry) : Type 0 where
  pub within : IsWrittenWithin config heard s t entry
  pub index : ℕ
  pub view : View
  pub epoch : ℕ
  pub was : WasCalled all req (calls.Extend path index)
  pub had : HasChunks within.before.after.durable.names path index
  pub here : StandsAt (move_turn config within.before.after within.move).after.durable.names path index chunk
  pub says : IsIn (reply_to req (Ok (answers.Location chunk view epoch))) t.sent
  pub located : IsLocatedBy (move_turn config within.before.after within.move).after chunk view epoch

-- A chunk takes the place of another for a call to find that place for writing. The other stood there before.
pub record IsReplacedFor (all : List (ReqId × Call)) (config : Config) (heard : Heard) (s : State) (t : Turn) (path : Path) (index old new : ℕ) (entry : PlainEntry) : Type 0 where
  pub within : IsWrittenWithin config heard s t entry
  pub req : ReqId
  pub was : WasToWrite all req path index
  pub stood : StandsAt within.before.after.durable.names path index old
  pub here : StandsAt (move_turn config within.before.after within.move).after.durable.names path index new

-- An edit of the tree is the one that a call of this request asks for.
pub record IsEditedFor (all : List (ReqId × Call)) (config : Config) (heard : Heard) (s : State) (t : Turn) (req : ReqId) (edit : PlainEdit) : Type 0 where
  pub within : IsWrittenWithin config heard s t (Edited req edit)
  pub call : Call
  pub was : WasCalled all req call
  pub edits : IsEditOf within.before.after call edit

-- a scan is called, and the call is new
abbrev pub IsScanned : Heard → State → Type 0
IsScanned heard s = (req : ReqId) × IsNew heard s req calls.Scan

-- this is called, and the call is new
abbrev pub IsCalledNow : Heard → State → Call → Type 0
IsCalledNow heard s call = (req : ReqId) × IsNew heard s req call

-- each record is for its call; of those of refusals, views, holders and checkpoints nothing is said
abbrev pub IsRecordedFor : List (ReqId × Call) → Config → Heard → State → Turn → PlainEntry → Type 0
IsRecordedFor all config heard s t (Edited by (AddChunk path chunk)) = IsAddedFor all config heard s t by path chunk (Edited by (AddChunk path chunk))
IsRecordedFor all config heard s t (Edited by (Cow path index old new)) = (by ≡ own_request) × IsReplacedFor all config heard s t path index old new (Edited by (Cow path index old new))
IsRecordedFor all config heard s t (Edited by (Remove path)) = (by ≡ own_request) × IsScanned heard s
IsRecordedFor all config heard s t (Edited by (Forget chunks)) = (by ≡ own_request) × IsScanned heard s
IsRecordedFor all config heard s t (Edited by (Mkdirs path)) = IsEditedFor all config heard s t by (Mkdirs path)
IsRecordedFor all config heard s t (Edited by (Create path)) = IsEditedFor all config heard s t by (Create path)
IsRecordedFor all config heard s t (Edited by (Rename from to)) = IsEditedFor all config heard s t by (Rename from to)
IsRecordedFor all config heard s t (Edited by (Hide path moment number)) = IsEditedFor all config heard s t by (Hide path moment number)
IsRecordedFor all config heard s t (Edited by (Unhide path)) = IsEditedFor all config heard s t by (Unhide path)
IsRecordedFor all config heard s t (Edited by (Snapshot from to)) = IsEditedFor all config heard s t by (Snapshot from to)
IsRecordedFor all config heard s t (Prepare epoch moment chunks) = IsCalledNow heard s calls.PrepareCommit
IsRecordedFor all config heard s t (Finalize epoch) = IsCalledNow heard s calls.Finalize
IsRecordedFor all config heard s t (RollbackBegin epoch) = IsCalledNow heard s calls.RollbackBegin
IsRecordedFor all config heard s t (RollbackCommit epoch answers) = IsCalledNow heard s calls.RollbackCommit
IsRecordedFor all config heard s t entry = Unit {0}

-- ---- what is to hold

-- This holds of each record of a turn, where calls wait as they were heard.
abbrev pub RecordsAreFor : Type 0
RecordsAreFor = (all : List (ReqId × Call)) (config : Config) (heard : Heard) (s : State) (t : Turn) → EndsOnce config (IsMadeWellFor config heard) s t → HearsOneOf all heard → AreAskedFor all s → AllByRecursion (IsRecordedFor all config heard s t) t.records

-- ---- examples

a_finalize_is_called : (all : List (ReqId × Call)) (config : Config) (heard : Heard) (s : State) (t : Turn) → IsRecordedFor all config heard s t (Finalize 2) ≡ IsCalledNow heard s calls.Finalize
a_finalize_is_called all config heard s t = refl
