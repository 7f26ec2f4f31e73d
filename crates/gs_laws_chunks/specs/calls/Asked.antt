-- For which calls the master of a store does what it does: calls that were sent, those that wait, and the turn of each step.
use Rattle.std.specs.Prelude.{◌<◌, ◌^◌, ◌≡◌, ◌⊎◌, List, None, Ok, Option, Some, false, refl, take, true, ℕ}
use Rattle.std.specs.List.{AllByRecursion}
use Rattle.gs_base.specs.declared.config.Config.{Config}
use Rattle.gs_base.specs.declared.numbers.ClientId.{ClientId}
use Rattle.gs_base.specs.declared.numbers.ReqId.{ReqId}
use Rattle.gs_journal.specs.Records.{fresh, standing}
use Rattle.gs_master.specs.Masters.{MasterOf}
use Rattle.gs_laws_lift.specs.copies.Held.{IsIn}
use Rattle.gs_laws_lift.specs.calls.Ended.{IsAnsweredOnly, epoch_told}
use Rattle.gs_laws_lift.specs.calls.Events.{IsAskedTurn}
use Rattle.gs_laws_lift.specs.calls.Recorded.{IsRecordedFor}
use Rattle.gs_laws_lift.specs.calls.Waits.{AreAskedFor, WasCalled}
use Rattle.gs_laws_moves.specs.moves.Guards.{Heard}
use Rattle.gs_laws_moves.specs.moves.Laws.{said_from}
use Rattle.gs_master_record.specs.Plain.{PlainEntry}
use Rattle.gs_master_spec.specs.Applied.{replayed}
use Rattle.gs_master_spec.specs.Durable.{Durable}
use Rattle.gs_master_spec.specs.State.{State, Turn, is_failed}
use Rattle.gs_msg.specs.declared.answer.Answer.TheVariants as answers
use Rattle.gs_msg.specs.declared.body.Body.TheVariants as bodies
use Rattle.gs_msg.specs.declared.call.Call.{Call}
use Rattle.gs_msg.specs.declared.event.DiskId.{DiskId}
use Rattle.gs_msg.specs.declared.event.Happening.{Happening}
use Rattle.gs_msg.specs.declared.event.Happening.TheVariants as happenings
use Rattle.gs_msg.specs.declared.message.Message.{Message}
use Rattle.gs_msg.specs.declared.node.NodeId.TheVariants as nodes
use Rattle.gs_nodes.specs.declared.place.MasterPlace.{MasterPlace}
use Rattle.gs_nodes.specs.declared.place.MasterPlace.TheVariants.{Closed, Standing}
use Rattle.gs_world.specs.Histories.{Begins, History}
use Rattle.gs_world.specs.Runs.{Comes, Goes, RunsTo, Step, Takes}
use Rattle.gs_world.specs.Sent.{IsSent, Sent, message_of}
use Rattle.gs_laws_world.specs.steady.Saying.{IsStepWithin}
use Rattle.gs_laws_world.specs.steady.Through.{LastsThrough, TellsAt, TurnsAt}

-- ---- calls

-- its client has sent the master a message by which it calls this under this request
pub record IsCallSent (sent : Sent) (req : ReqId) (call : Call) : Type 0 where
  pub message : Message
  pub there : IsSent message sent
  pub to : message.to ≡ nodes.Master
  pub from : message.from ≡ nodes.Client req.client
  pub is : message.body ≡ bodies.Call req call

-- each of these calls was sent so
abbrev pub WereSent : Sent → List (ReqId × Call) → Type 0
WereSent sent all = (req : ReqId) (call : Call) → WasCalled all req call → IsCallSent sent req call

-- what comes at a step, as the master hears it
abbrev pub heard_of : Option Message → Heard
heard_of None = None
heard_of (Some message) = said_from message.from message.body

abbrev pub heard_at : Step → Sent → Heard
heard_at (Comes event) sent = by event.happening
  where
    by : Happening → Heard
    by (happenings.Deliver id) = heard_of (message_of sent id)
    by happening = None
heard_at (Takes client) sent = None

-- ---- calls that wait

-- Each call that waits was sent, and waits at the place that it named.
pub record WaitAsSent (sent : Sent) (s : State) : Type 0 where
  pub all : List (ReqId × Call)
  pub were : WereSent sent all
  pub asked : AreAskedFor all s

-- This holds at a master of which no disk has failed. Where one has failed after the record of an extend, the file has one chunk more than the call named that still waits. But such a master does nothing more.
abbrev pub WaitAt : {D : Type 0} → Sent → MasterPlace D → Type 0
WaitAt sent (Standing m) = WaitAsSent sent m.state ⊎ (is_failed m.state.fault ≡ true)
WaitAt sent place = Unit {0}

-- ---- the turn of a step

-- What the turn tells, records and leaves waiting is for the call that comes at the step, or for one that was sent before and has waited.
pub record IsForCalls {D : Type 0} (step : Step) (old : History D) (m : MasterOf D) (t : Turn) : Type 0 where
  pub all : List (ReqId × Call)
  pub were : WereSent old.sent all
  pub turn : IsAskedTurn all m.config (heard_at step old.sent) m.state t

-- So many records of the turn of the step stand after what was told before, and each of them is for its call.
pub record StandForCalls {D : Type 0} (step : Step) (old : History D) (d e : Durable) : Type 0 where
  pub m : MasterOf D
  pub t : Turn
  pub at : old.nodes.master ≡ Standing m
  pub turns : TurnsAt step old m t
  pub many : ℕ
  pub stand : replayed d (take many t.records) ≡ Some e
  pub calls : IsForCalls step old m t
  pub records : AllByRecursion (IsRecordedFor calls.all m.config (heard_at step old.sent) m.state t) (take many t.records)

-- At the step the call comes whose record this is: to commit a prepare, to finalize, or to begin or commit a rollback. It is answered the epoch of the record, and nothing else.
pub record IsEndCalled {D : Type 0} (step : Step) (old : History D) (entry : PlainEntry) (t : Turn) : Type 0 where
  pub from : ℕ
  pub req : ReqId
  pub call : Call
  pub epoch : ℕ
  pub comes : heard_at step old.sent ≡ Some (from, bodies.Call req call)
  pub tells : epoch_told call entry ≡ Some epoch
  pub answered : IsAnsweredOnly req (Ok (answers.Epoch epoch)) t.sent

-- a record by which an epoch ends, or a rollback is done: it is the own record of some call
abbrev pub IsEnd : PlainEntry → Type 0
IsEnd entry = (call : Call) × (epoch : ℕ) × (epoch_told call entry ≡ Some epoch)

module _ {D : Type 0} (seen : D → List ℕ) (failures : D → ℕ) (armed : DiskId → ℕ → MasterPlace D → MasterPlace D) where
  -- ---- runs

  -- a failure of a disk that is arranged changes nothing that its disks tell, and nothing that the master has in memory
  pub record ArmsAlone : Type 0 where
    pub lasts : (disk : DiskId) (call : ℕ) (place : MasterPlace D) → LastsThrough seen place → LastsThrough seen (armed disk call place)
    pub told : (d : Durable) (disk : DiskId) (call : ℕ) (place : MasterPlace D) → TellsAt seen place d → TellsAt seen (armed disk call place) d
    pub memory : (disk : DiskId) (call : ℕ) (place : MasterPlace D) (m : MasterOf D) → armed disk call place ≡ Standing m → (was : MasterOf D) × (place ≡ Standing was) × (m.state ≡ was.state)

  -- A store has begun over disks that said nothing, and has come to this world by steps that are within their types, whatever disks of its master failed.
  pub record HasRun (now : History D) : Type 0 where
    pub config : Config
    pub clients : ℕ
    pub disks : D × D
    pub begun : History D
    pub steps : List Step
    pub arms : ArmsAlone
    pub few : clients < 2 ^ 32
    pub new : standing (seen disks.0) (seen disks.1) ≡ fresh
    pub begins : Begins seen failures armed config clients disks begun
    pub runs : RunsTo seen failures armed steps begun now
    pub within : AllByRecursion IsStepWithin steps

  -- ---- what is to hold

  -- Each call that waits was sent, in each world of a run.
  abbrev pub CallsWaitAsSent : Type 0
  CallsWaitAsSent = (now : History D) → HasRun now → WaitAt now.sent now.nodes.master

  -- Each turn that a master may make at a step is for its calls, if no disk of it has failed.
  abbrev pub TurnsAreForCalls : Type 0
  TurnsAreForCalls = (now : History D) (step : Step) (m : MasterOf D) (t : Turn) → HasRun now → IsStepWithin step → now.nodes.master ≡ Standing m → is_failed m.state.fault ≡ false → TurnsAt step now m t → IsForCalls step now m t

  -- Each record that stands after a step is for its call, also where a disk fails at the step.
  abbrev pub RecordsAreForCalls : Type 0
  RecordsAreForCalls = (now next : History D) (step : Step) (d e : Durable) → HasRun now → IsStepWithin step → Goes seen failures armed step now next → TellsAt seen now.nodes.master d → TellsAt seen next.nodes.master e → (e ≡ d) ⊎ StandForCalls step now d e

  -- The call that ends an epoch comes at the step that records it.
  abbrev pub EndsAreCalled : Type 0
  EndsAreCalled = (now : History D) (step : Step) (m : MasterOf D) (t : Turn) (entry : PlainEntry) → HasRun now → IsStepWithin step → now.nodes.master ≡ Standing m → is_failed m.state.fault ≡ false → TurnsAt step now m t → IsEnd entry → IsIn entry t.records → IsEndCalled step now entry t

-- ---- examples

nothing_is_heard_where_a_client_takes_its_answer : (client : ClientId) (sent : Sent) → heard_at (Takes client) sent ≡ None
nothing_is_heard_where_a_client_takes_its_answer client sent = refl

disks_that_wait_let_no_call_wait : {D : Type 0} (sent : Sent) (first second : D) → WaitAt sent (Closed first second)
disks_that_wait_let_no_call_wait sent first second = tt
