-- A number that its client hasn't used yet: nothing is asked under it.
use Rattle.std.specs.Prelude.{◌<◌, ◌≡◌, List, Some, ℕ}
use Rattle.std.specs.List.{AllByRecursion}
use Rattle.gs_base.specs.declared.numbers.ClientId.{ClientId}
use Rattle.gs_base.specs.declared.numbers.ReqId.{ReqId}
use Rattle.gs_client.specs.Nodes.{Node}
use Rattle.gs_client.specs.declared.link.Reply.TheVariants as replies
use Rattle.gs_lease.specs.declared.view.View.{View}
use Rattle.gs_msg.specs.declared.answer.Answer.TheVariants as answers
use Rattle.gs_msg.specs.declared.call.Call.{Call}
use Rattle.gs_msg.specs.declared.event.DiskId.{DiskId}
use Rattle.gs_nodes.specs.Happenings.{client_in}
use Rattle.gs_nodes.specs.declared.place.MasterPlace.{MasterPlace}
use Rattle.gs_world.specs.Histories.{History}
use Rattle.gs_world.specs.Runs.{RunsTo, Step}
use Rattle.gs_laws_chunks.specs.accounts.Accounts.{Account}
use Rattle.gs_laws_chunks.specs.accounts.OnePlace.{IsUnasked}
use Rattle.gs_laws_chunks.specs.accounts.Running.{IsReached, Setup}
use Rattle.gs_laws_chunks.specs.calls.Asked.{HasRun, IsCallSent}
use Rattle.gs_laws_chunks.specs.calls.Told.{WasTold}
use Rattle.gs_laws_world.specs.steady.Saying.{IsStepWithin}

-- Such a client is there, and the number is above all that it has used.
pub record IsFresh {D : Type 0} (h : History D) (req : ReqId) : Type 0 where
  pub node : Node
  pub there : client_in h.nodes.clients req.client ≡ Some node
  pub above : node.last < req.number

-- In each world of a run no message asks for an edit under such a number,
abbrev pub EditsAreUsed : {D : Type 0} → Setup D → Type 0
EditsAreUsed {D} x = (now : History D) (a : Account) (req : ReqId) → IsReached x now a → IsFresh now req → IsUnasked now.sent req

module _ {D : Type 0} (seen : D → List ℕ) (failures : D → ℕ) (armed : DiskId → ℕ → MasterPlace D → MasterPlace D) where
  -- and none calls under it.
  abbrev pub CallsAreUsed : Type 0
  CallsAreUsed = (now : History D) (req : ReqId) → HasRun seen failures armed now → IsFresh now req → (call : Call) → IsCallSent now.sent req call → ⊥

  -- A client hasn't used a number yet, and has a location as the reply to it behind some steps: it was told so at one of these steps.
  abbrev pub LocationsAreToldSince : Type 0
  LocationsAreToldSince = (mid now : History D) (r : HasRun seen failures armed mid) (steps : List Step) (runs : RunsTo seen failures armed steps mid now) (client : ClientId) (number : ℕ) (node : Node) (chunk : ℕ) (view : View) (epoch : ℕ) → AllByRecursion IsStepWithin steps →
      IsFresh mid (record { client = client; number = number }) → client_in now.nodes.clients client ≡ Some node → node.last ≡ number → node.reply ≡ Some (replies.Answer (answers.Location chunk view epoch)) →
      WasTold seen failures armed steps mid now runs (record { client = client; number = number }) chunk view epoch
