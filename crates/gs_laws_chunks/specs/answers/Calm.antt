-- That no prepare is begun while a client only looks.
use Rattle.std.specs.Prelude.{◌≡◌, ◌⊎◌, List, Result, false, refl, true, ℕ}
use Rattle.std.proofs.Common.{inr}
use Rattle.std.specs.List.{AllByRecursion}
use Rattle.gs_base.specs.declared.numbers.ClientId.{ClientId}
use Rattle.gs_base.specs.declared.numbers.ReqId.{ReqId}
use Rattle.gs_base.specs.declared.refusal.Refusal.{Refusal}
use Rattle.gs_master_spec.specs.Durable.{Durable}
use Rattle.gs_master_spec.specs.Handling.{fresh}
use Rattle.gs_master_spec.specs.State.{Log, State, is_failed}
use Rattle.gs_msg.specs.declared.answer.Answer.{Answer}
use Rattle.gs_msg.specs.declared.call.Call.{Call}
use Rattle.gs_msg.specs.declared.event.DiskId.{DiskId}
use Rattle.gs_msg.specs.declared.event.Event.{Event}
use Rattle.gs_nodes.specs.declared.place.MasterPlace.{MasterPlace}
use Rattle.gs_nodes.specs.declared.place.MasterPlace.TheVariants.{Standing}
use Rattle.gs_world.specs.Histories.{Happens, History}
use Rattle.gs_world.specs.Runs.{RunsTo, Step}
use Rattle.gs_laws_chunks.specs.answers.Answered.{AnswersNow}
use Rattle.gs_laws_chunks.specs.answers.Behind.{is_halt}
use Rattle.gs_laws_chunks.specs.answers.Resting.{IsLooking, IsStill}
use Rattle.gs_laws_world.specs.steady.Saying.{IsStepWithin, KeepsTypes}
use Rattle.gs_laws_world.specs.steady.Through.{LastsThrough}

-- a disk has failed, or no prepare is begun
abbrev pub IsCalm : State → Type 0
IsCalm s = (is_failed s.fault ≡ true) ⊎ (s.volatile.is_preparing ≡ false)

abbrev pub IsCalmAt : {D : Type 0} → MasterPlace D → Type 0
IsCalmAt (Standing m) = IsCalm m.state
IsCalmAt place = Unit {0}

-- ---- what is to hold

module _ {D : Type 0} (seen : D → List ℕ) (failures : D → ℕ) (armed : DiskId → ℕ → MasterPlace D → MasterPlace D) where
  -- So it stays as long as the client only looks.
  abbrev pub StaysCalm : Type 0
  StaysCalm = (d : Durable) (client : ClientId) (number : ℕ) (steps : List Step) (old new : History D) → RunsTo seen failures armed steps old new → AllByRecursion IsStepWithin steps → AllByRecursion (IsLooking client) steps → KeepsTypes old → LastsThrough seen old.nodes.master →
      IsStill d client number old → IsCalmAt old.nodes.master → IsCalmAt new.nodes.master

  -- So it is right after the event at which the commit of a prepare, or of a rollback, is answered.
  abbrev pub CommitsAreCalm : Type 0
  CommitsAreCalm = (now next : History D) (event : Event) (said : Result (Unit {0}) Refusal) (h : Happens seen failures armed event now said next) (req : ReqId) (call : Call) (answer : Answer) → is_halt call ≡ true → LastsThrough seen now.nodes.master →
      AnswersNow now event h.outcome req call answer → IsCalmAt next.nodes.master

-- ---- Worked
a_new_master_is_calm : (log : Log) → IsCalm (fresh log)
a_new_master_is_calm log = inr refl
