-- Where a client is told that a chunk is. At a step of the run the chunk stood at the place that its call named.
use Rattle.std.specs.Prelude.{[], ◌∷◌, ◌≡◌, ◌⊎◌, List, Some, false, take, ℕ}
use Rattle.std.specs.List.{AllByRecursion}
use Rattle.gs_base.specs.declared.numbers.ReqId.{ReqId}
use Rattle.gs_lease.specs.declared.view.View.{View}
use Rattle.gs_master.specs.Masters.{MasterOf}
use Rattle.gs_laws_lift.specs.calls.Told.{IsAtPlaceOf, IsToldFor}
use Rattle.gs_laws_moves.specs.moves.Locations.{IsToldIn, IsToldOnlyIf, KeepsLocation}
use Rattle.gs_master_spec.specs.Applied.{replayed}
use Rattle.gs_master_spec.specs.Durable.{Durable}
use Rattle.gs_master_spec.specs.State.{Turn, is_failed}
use Rattle.gs_msg.specs.declared.call.Call.{Call}
use Rattle.gs_msg.specs.declared.event.DiskId.{DiskId}
use Rattle.gs_msg.specs.declared.message.Message.{Message}
use Rattle.gs_nodes.specs.declared.place.MasterPlace.{MasterPlace}
use Rattle.gs_nodes.specs.declared.place.MasterPlace.TheVariants.{Standing}
use Rattle.gs_world.specs.Histories.{History}
use Rattle.gs_world.specs.Runs.{RunsTo, Step}
use Rattle.gs_world.specs.Sent.{IsSent}
use Rattle.gs_laws_world.specs.steady.Saying.{IsStepWithin}
use Rattle.gs_laws_world.specs.steady.Through.{TellsAt, TurnsAt}
use Rattle.gs_laws_chunks.specs.calls.Asked.{HasRun, IsCallSent, WereSent, heard_at}

-- A move of the turn of a step tells so, at a master of which no disk had failed. It tells a call that was sent before, and that comes at the step or has waited.
-- Right after the move the chunk stands at the path and the index that this call named.
pub record IsToldAt {D : Type 0} (step : Step) (old : History D) (req : ReqId) (chunk : ℕ) (view : View) (epoch : ℕ) : Type 0 where
  pub m : MasterOf D
  pub t : Turn
  pub at : old.nodes.master ≡ Standing m
  pub sound : is_failed m.state.fault ≡ false
  pub turns : TurnsAt step old m t
  pub all : List (ReqId × Call)
  pub were : WereSent old.sent all
  pub told : IsToldFor all m.config (heard_at step old.sent) m.state t req chunk view epoch

-- The client of this request had sent a call under it. By the names to which so many of the records of the turn of a step lead, the chunk stands at the path and the index that this call named.
pub record StoodAt {D : Type 0} (step : Step) (old : History D) (req : ReqId) (chunk : ℕ) : Type 0 where
  pub m : MasterOf D
  pub t : Turn
  pub at : old.nodes.master ≡ Standing m
  pub turns : TurnsAt step old m t
  pub call : Call
  pub sent : IsCallSent old.sent req call
  pub many : ℕ
  pub durable : Durable
  pub stand : replayed m.state.durable (take many t.records) ≡ Some durable
  pub here : IsAtPlaceOf durable.names chunk call

-- The chunk stood there wherever it is told so.
abbrev pub ToldStoodThere : Type 0 → Type 0
ToldStoodThere D = (step : Step) (old : History D) (req : ReqId) (chunk : ℕ) (view : View) (epoch : ℕ) → IsToldAt step old req chunk view epoch → StoodAt step old req chunk

module _ {D : Type 0} (seen : D → List ℕ) (failures : D → ℕ) (armed : DiskId → ℕ → MasterPlace D → MasterPlace D) where
  -- it was told so at one of the steps of a run
  abbrev pub WasTold : (steps : List Step) (old new : History D) → RunsTo seen failures armed steps old new → ReqId → ℕ → View → ℕ → Type 0
  WasTold [] old new runs req chunk view epoch = ⊥
  WasTold (step ∷ steps) old new (mid, goes, rest) req chunk view epoch = IsToldAt step old req chunk view epoch ⊎ WasTold steps mid new rest req chunk view epoch

  -- ---- what is to hold

  -- Each reply in a world of a run was told so at a step of this run, whether it was delivered or not.
  abbrev pub RepliesWereTold : Type 0
  RepliesWereTold = (now : History D) (r : HasRun seen failures armed now) (message : Message) → IsSent message now.sent → IsToldOnlyIf (WasTold r.steps r.begun now r.runs) message.body

  -- So was each that the master keeps, also one of which a disk has failed.
  abbrev pub KeptWereTold : Type 0
  KeptWereTold = (now : History D) (r : HasRun seen failures armed now) (m : MasterOf D) (req : ReqId) (chunk : ℕ) (view : View) (epoch : ℕ) → now.nodes.master ≡ Standing m → KeepsLocation m.state req chunk view epoch → WasTold r.steps r.begun now r.runs req chunk view epoch

  -- So was each that its disks tell.
  abbrev pub DisksWereTold : Type 0
  DisksWereTold = (now : History D) (r : HasRun seen failures armed now) (d : Durable) (req : ReqId) (chunk : ℕ) (view : View) (epoch : ℕ) → TellsAt seen now.nodes.master d → IsToldIn d.replies req chunk view epoch → WasTold r.steps r.begun now r.runs req chunk view epoch

  -- A request that nobody had called yet is told so at one of the steps since.
  abbrev pub NewWereToldSince : Type 0
  NewWereToldSince = (mid now : History D) (r : HasRun seen failures armed mid) (steps : List Step) (runs : RunsTo seen failures armed steps mid now) (message : Message) → AllByRecursion IsStepWithin steps → IsSent message now.sent →
      IsToldOnlyIf (λ req chunk view epoch. ((call : Call) → IsCallSent mid.sent req call → ⊥) → WasTold steps mid now runs req chunk view epoch) message.body
