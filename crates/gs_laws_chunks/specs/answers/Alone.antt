-- Calls of which each new one is answered at once and by itself: what their clients have as replies.
use Rattle.std.specs.Prelude.{◌∷◌, ◌≡◌, ◌⊎◌, Err, List, Result, Some, true, ℕ}
use Rattle.std.specs.List.{AllByRecursion}
use Rattle.gs_base.specs.declared.config.Config.{Config}
use Rattle.gs_base.specs.declared.numbers.Moment.{Moment}
use Rattle.gs_base.specs.declared.numbers.ReqId.{ReqId}
use Rattle.gs_base.specs.declared.refusal.Refusal.{Refusal}
use Rattle.gs_client.specs.Nodes.{Node}
use Rattle.gs_client.specs.declared.link.Reply.{Reply}
use Rattle.gs_client.specs.declared.link.Reply.TheVariants as replies
use Rattle.gs_msg.specs.declared.answer.Answer.{Answer}
use Rattle.gs_msg.specs.declared.call.Call.{Call}
use Rattle.gs_msg.specs.declared.event.DiskId.{DiskId}
use Rattle.gs_master_spec.specs.Handling.{new_call}
use Rattle.gs_master_spec.specs.State.{State}
use Rattle.gs_nodes.specs.Happenings.{client_in}
use Rattle.gs_nodes.specs.declared.place.MasterPlace.{MasterPlace}
use Rattle.gs_world.specs.Histories.{History}
use Rattle.gs_world.specs.Runs.{RunsTo, Step}
use Rattle.gs_laws_moves.specs.answers.AtOnce.{AnswersAlone}
use Rattle.gs_laws_chunks.specs.answers.Answered.{AsksFresh, GoesBy, Passes, SaidBy, WasAnswered, WasSaid, spares_master}
use Rattle.gs_laws_chunks.specs.answers.Asked.{AreAsked}
use Rattle.gs_laws_chunks.specs.answers.Behind.{asks_call}
use Rattle.gs_laws_chunks.specs.answers.Replied.{AreReplied}
use Rattle.gs_laws_chunks.specs.answers.Served.{AreServed, IsOfServer, IsUnjudged}
use Rattle.gs_laws_world.specs.steady.Saying.{IsStepWithin, KeepsTypes}
use Rattle.gs_laws_world.specs.steady.Through.{LastsThrough}

-- By each new one its request gets one reply, no other call is answered, and none begins to wait: so it is of look-ups, of steps of an upgrade, and of changes of the tree that wait for nothing.
abbrev pub IsAnsweredAlone : Call → Type 0
IsAnsweredAlone call = (config : Config) (s : State) (req : ReqId) (moment : Moment) → (result : Result Answer Refusal) × AnswersAlone req result s (new_call config s req moment call)

-- ---- what is to hold

module _ {D : Type 0} (seen : D → List ℕ) (failures : D → ℕ) (armed : DiskId → ℕ → MasterPlace D → MasterPlace D) where
  -- Where a client has an answer to such a call behind some steps, and has asked nothing else since, that was made in them, for this call.
  abbrev pub LoneAnswersAreMade : Type 0
  LoneAnswersAreMade = (old asked new : History D) (moment : Moment) (req : ReqId) (call : Call) (steps : List Step) (node : Node) (answer : Answer) → AreAsked seen old → AsksFresh seen failures armed old moment req call asked → IsAnsweredAlone call →
      (runs : RunsTo seen failures armed steps asked new) → AllByRecursion (λ step. spares_master step ≡ true) steps → client_in new.nodes.clients req.client ≡ Some node → node.last ≡ req.number → node.reply ≡ Some (replies.Answer answer) →
      (made : WasAnswered seen failures armed steps asked new req call answer) × GoesBy seen failures armed (λ h. Passes seen failures armed h steps asked new runs) steps asked new req call answer made

  -- Where it has a refusal, it was refused so in the turn of that call at an event since, or the master tells that without judging the call.
  abbrev pub LoneRefusalsAreMade : Type 0
  LoneRefusalsAreMade = (old asked new : History D) (moment : Moment) (req : ReqId) (call : Call) (steps : List Step) (node : Node) (refusal : Refusal) → AreAsked seen old → AreServed old → KeepsTypes old → LastsThrough seen old.nodes.master →
      AsksFresh seen failures armed old moment req call asked → IsAnsweredAlone call → (runs : RunsTo seen failures armed steps asked new) → AllByRecursion (λ step. spares_master step ≡ true) steps → AllByRecursion IsStepWithin (asks_call moment req call ∷ steps) →
      client_in new.nodes.clients req.client ≡ Some node → node.last ≡ req.number → node.reply ≡ Some (replies.Refused refusal) →
      IsUnjudged refusal ⊎ ((made : WasSaid seen failures armed steps asked new req call (Err refusal)) × SaidBy seen failures armed (λ h. Passes seen failures armed h steps asked new runs) steps asked new req call (Err refusal) made)

  -- And it has no reply of a server.
  abbrev pub LoneCallsAreForTheMaster : Type 0
  LoneCallsAreForTheMaster = (old asked new : History D) (moment : Moment) (req : ReqId) (call : Call) (steps : List Step) (node : Node) (reply : Reply) → AreAsked seen old → AreServed old → AreReplied old → KeepsTypes old → LastsThrough seen old.nodes.master →
      AsksFresh seen failures armed old moment req call asked → IsAnsweredAlone call → RunsTo seen failures armed steps asked new → AllByRecursion (λ step. spares_master step ≡ true) steps → AllByRecursion IsStepWithin (asks_call moment req call ∷ steps) →
      client_in new.nodes.clients req.client ≡ Some node → node.last ≡ req.number → node.reply ≡ Some reply → IsOfServer reply → ⊥
