-- What keeps to its types in a store: what is said, what servers count, and what is asked.
use Rattle.std.specs.Prelude.{◌≡◌, ◌<◌, ◌^◌, ℕ, List, [], ◌∷◌, Some, slice_get, refl}
use Rattle.gs_base.specs.Told.{IsNumber}
use Rattle.gs_base.specs.declared.numbers.ClientId.{ClientId}
use Rattle.gs_client.specs.Nodes.{Node}
use Rattle.gs_edit.specs.View.{NamesView}
use Rattle.gs_laws_master.specs.Standing.{IsNamedBody}
use Rattle.gs_laws_master.specs.Written.{IsHeardBody}
use Rattle.gs_msg.specs.declared.body.Body.{Body}
use Rattle.gs_msg.specs.declared.event.DiskId.{DiskId}
use Rattle.gs_msg.specs.declared.event.Happening.{Happening}
use Rattle.gs_msg.specs.declared.event.Happening.TheVariants as happenings
use Rattle.gs_msg.specs.declared.message.Message.{Message}
use Rattle.gs_msg.specs.declared.message.MsgId.{MsgId}
use Rattle.gs_msg.specs.declared.node.NodeId.{NodeId}
use Rattle.gs_msg.specs.declared.node.NodeId.TheVariants as nodes
use Rattle.gs_server.specs.Servers.{Server}
use Rattle.gs_laws_server.specs.servers.Counted.{IsCountedBody, IsCountedServer}
use Rattle.gs_nodes.specs.declared.place.MasterPlace.{MasterPlace}
use Rattle.gs_world.specs.Histories.{History}
use Rattle.gs_laws_world.specs.lasting.Lasting.{failures_at}
use Rattle.gs_world.specs.Runs.{Goes, Step, Comes, Takes}
use Rattle.gs_world.specs.Sent.{message_of}
use Rattle.gs_laws_world.specs.steady.Asking.{MayBeAsked}

-- ---- what stands

-- a master that hears it hears what is named and within its types, whatever names it has
pub record MayBeHeard (body : Body) : Type 0 where
  pub named : IsNamedBody body
  pub heard : (names : NamesView) → IsHeardBody names body

-- what may be said to a node: to a server, counts of 64 bits
abbrev pub MayBeSaid : NodeId → Body → Type 0
MayBeSaid nodes.Master body = MayBeHeard body
MayBeSaid (nodes.Server id) body = IsCountedBody body
MayBeSaid (nodes.Client id) body = Unit {0}

-- All that was sent may be said to its receiver, each server counts in 64 bits, and each client's number has 32.
pub record KeepsTypes {D : Type 0} (h : History D) : Type 0 where
  pub sent : (id : MsgId) (message : Message) → message_of h.sent id ≡ Some message → MayBeSaid message.to message.body
  pub servers : (id : ℕ) (s : Server) → slice_get h.nodes.servers id ≡ Some s → IsCountedServer s
  pub clients : (place : ℕ) (n : Node) → slice_get h.nodes.clients place ≡ Some n → n.id.0 < 2 ^ 32

-- ---- what happens

-- what a client asks, and its number
abbrev pub IsAskedWithin : Happening → Type 0
IsAskedWithin (happenings.Ask req request) = IsNumber req.number × MayBeAsked request
IsAskedWithin happening = Unit {0}

-- so is each step, and its moment is a number
abbrev pub IsStepWithin : Step → Type 0
IsStepWithin (Comes event) = IsNumber event.moment.0 × IsAskedWithin event.happening
IsStepWithin (Takes client) = Unit {0}

-- steps in none of which a disk of the master fails
module _ {D : Type 0} (seen : D → List ℕ) (failures : D → ℕ) (armed : DiskId → ℕ → MasterPlace D → MasterPlace D) where
  abbrev pub RunsQuietly : List Step → History D → History D → Type 0
  RunsQuietly [] old new = new ≡ old
  RunsQuietly (step ∷ steps) old new =
      (mid : History D) × Goes seen failures armed step old mid × (failures_at failures mid.nodes.master ≡ failures_at failures old.nodes.master) × RunsQuietly steps mid new

-- ---- examples

-- what is said to a client is of no account, nor is what a client takes out
a_client_may_be_told : (client : ClientId) (body : Body) → MayBeSaid (nodes.Client client) body
a_client_may_be_told client body = tt

a_reply_may_be_taken : (client : ClientId) → IsStepWithin (Takes client)
a_reply_may_be_taken client = tt

no_step_is_quiet : {D : Type 0} (seen : D → List ℕ) (failures : D → ℕ) (h : History D) → RunsQuietly seen failures (λ disk call place. place) [] h h
no_step_is_quiet seen failures h = refl
