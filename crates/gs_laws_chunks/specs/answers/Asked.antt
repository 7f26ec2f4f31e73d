-- Which calls clients have made, and what of them there is: calls that were sent, replies that were sent or are kept, and calls that wait.
use Rattle.std.specs.Prelude.{[], ◌+◌, ◌∷◌, ◌≤◌, ◌≡◌, List, None, Ok, Option, Some, refl, slice_get, true, ℕ}
use Rattle.std.proofs.Common.{arith, subst}
use Rattle.std.specs.List.{AllByRecursion}
use Rattle.gs_base.specs.declared.config.Config.{Config}
use Rattle.gs_base.specs.declared.numbers.ReqId.{ReqId}
use Rattle.gs_client.specs.Nodes.{Node}
use Rattle.gs_journal.specs.Faults.{Failing}
use Rattle.gs_journal.specs.Records.{fresh, standing}
use Rattle.gs_msg.specs.declared.answer.Answer.TheVariants as answers
use Rattle.gs_msg.specs.declared.body.Body.TheVariants as bodies
use Rattle.gs_msg.specs.declared.event.DiskId.{DiskId}
use Rattle.gs_msg.specs.declared.message.Message.{Message}
use Rattle.gs_msg.specs.declared.message.MsgId.{MsgId}
use Rattle.gs_msg.specs.declared.body.Body.{Body}
use Rattle.gs_msg.specs.declared.node.NodeId.{NodeId}
use Rattle.gs_msg.specs.declared.node.NodeId.TheVariants as nodes
use Rattle.gs_master_spec.specs.Durable.{Durable}
use Rattle.gs_master_spec.specs.State.{State}
use Rattle.gs_master_spec.specs.Volatile.{is_pending}
use Rattle.gs_laws_moves.specs.answers.Concerned.{Keeps}
use Rattle.gs_nodes.specs.Happenings.{client_in}
use Rattle.gs_nodes.specs.declared.place.MasterPlace.{MasterPlace}
use Rattle.gs_nodes.specs.declared.place.MasterPlace.TheVariants.{Standing}
use Rattle.gs_shell_desk.specs.Ways.{way_of}
use Rattle.gs_shell_desk.specs.declared.desk.Desk.{Desk}
use Rattle.gs_laws_chunks.specs.desks.Reached.{history}
use Rattle.gs_laws_chunks.specs.desks.Within.{IsReachedWithin}
use Rattle.gs_world.specs.Histories.{Begins, History, arms, failures_of, seen_of}
use Rattle.gs_world.specs.Runs.{RunsTo, Step}
use Rattle.gs_world.specs.Sent.{message_of}
use Rattle.gs_laws_world.specs.steady.Saying.{IsStepWithin, KeepsTypes}
use Rattle.gs_laws_world.specs.steady.Through.{LastsThrough, TellsAt}

-- ---- what was asked

-- there is such a client, and it has asked under this number or a greater one
pub record HasAsked (clients : List Node) (req : ReqId) : Type 0 where
  pub node : Node
  pub there : client_in clients req.client ≡ Some node
  pub number : req.number ≤ node.last

-- a call is its client's own, of such a request; and so is a reply
abbrev pub SaysOf : (ReqId → Type 0) → NodeId → Body → Type 0
SaysOf P from (bodies.Call req call) = (from ≡ nodes.Client req.client) × P req
SaysOf P from (bodies.Reply req result) = P req
SaysOf P from body = Unit {0}

-- each reply that the master keeps is to such a request, and each call that waits is one
pub record KeepsOf (P : ReqId → Type 0) (s : State) : Type 0 where
  pub durable : (req : ReqId) → Keeps s.durable.replies req → P req
  pub memory : (req : ReqId) → Keeps s.volatile.replies req → P req
  pub waits : (req : ReqId) → is_pending s.volatile.pending req ≡ true → P req

abbrev pub KeepsOfAt : {D : Type 0} → (ReqId → Type 0) → MasterPlace D → Type 0
KeepsOfAt P (Standing m) = KeepsOf P m.state
KeepsOfAt P place = Unit {0}

-- clients are numbered from 1, and each waits for what it has asked last
pub record IsNumbered (place : ℕ) (n : Node) : Type 0 where
  pub id : n.id.0 ≡ place + 1
  pub waits : (number : ℕ) → n.waiting ≡ Some number → number ≡ n.last

-- ---- what is to hold

module _ {D : Type 0} (seen : D → List ℕ) where
  -- Each call and each reply that was ever sent is of a request that its client has asked; so is each reply that the master keeps, in memory, on record, or by what its disks tell; and so is each call that waits.
  pub record AreAsked (h : History D) : Type 0 where
    pub sent : (id : MsgId) (message : Message) → message_of h.sent id ≡ Some message → SaysOf (HasAsked h.nodes.clients) message.from message.body
    pub master : KeepsOfAt (HasAsked h.nodes.clients) h.nodes.master
    pub told : (d : Durable) → TellsAt seen h.nodes.master d → (req : ReqId) → Keeps d.replies req → HasAsked h.nodes.clients req
    pub numbered : (place : ℕ) (n : Node) → slice_get h.nodes.clients place ≡ Some n → IsNumbered place n

  -- Over disks that said nothing a store begins so.
  abbrev pub BeginsAsked : Type 0
  BeginsAsked = (failures : D → ℕ) (armed : DiskId → ℕ → MasterPlace D → MasterPlace D) (config : Config) (clients : ℕ) (disks : D × D) (new : History D) → standing (seen disks.0) (seen disks.1) ≡ fresh →
      Begins seen failures armed config clients disks new → AreAsked new

-- So it stays, whatever happens and whatever disks of the master fail, while what is asked is within its types: where failures of disks are arranged,
abbrev pub StaysAsked : Type 0 → Type 0
StaysAsked D = (seen : D → List ℕ) (failures : D → ℕ) (steps : List Step) (old new : History (Failing D)) → RunsTo (seen_of seen) (failures_of failures) arms steps old new → AllByRecursion IsStepWithin steps → KeepsTypes old →
    LastsThrough (seen_of seen) old.nodes.master → AreAsked (seen_of seen) old → AreAsked (seen_of seen) new

-- and where none are.
abbrev pub StaysAskedUnarmed : Type 0 → Type 0
StaysAskedUnarmed D = (seen : D → List ℕ) (failures : D → ℕ) (armed : DiskId → ℕ → MasterPlace D → MasterPlace D) (steps : List Step) (old new : History D) → ((disk : DiskId) (call : ℕ) (place : MasterPlace D) → armed disk call place ≡ place) →
    RunsTo seen failures armed steps old new → AllByRecursion IsStepWithin steps → KeepsTypes old → LastsThrough seen old.nodes.master → AreAsked seen old → AreAsked seen new

-- So it is of the store that a script leaves.
abbrev pub ScriptsAsked : Type 0 → Type 0
ScriptsAsked D = (seen : D → List ℕ) (failures : D → ℕ) (config : Config) (disks : D × D) (desk : Desk D) (r : IsReachedWithin seen failures config disks desk) → standing (seen disks.0) (seen disks.1) ≡ fresh → AreAsked seen (history r.sent (way_of desk.wire))

-- ---- examples: a client that has asked under number 7 last

abbrev a_client : Node
a_client = record { id = record { 0 = 1 }; last = 7; waiting = Some 7; reply = None }

abbrev a_request : ℕ → ReqId
a_request number = record { client = record { 0 = 1 }; number = number }

it_has_asked_under_a_lower_one : HasAsked (a_client ∷ []) (a_request 3)
it_has_asked_under_a_lower_one = record { node = a_client; there = refl; number = omega arith }

it_has_not_asked_under_the_next : HasAsked (a_client ∷ []) (a_request 8) → ⊥
it_has_not_asked_under_the_next has = (let same : has.node ≡ a_client = node_is has.there in let low : 8 ≤ 7 = subst (λ (n : Node). 8 ≤ n.last) same has.number in omega arith)
  where
    node_is : {a b : Node} → ◌≡◌ {A = Option Node} (Some b) (Some a) → a ≡ b
    node_is is = cc

nobody_else_has : (number : ℕ) → HasAsked (a_client ∷ []) (record { client = record { 0 = 2 }; number = number }) → ⊥
nobody_else_has number has = never has.there
  where
    never : {a : Node} → ◌≡◌ {A = Option Node} None (Some a) → ⊥
    never is = cc

-- a reply to it may be in the store, and none to the next one
a_reply_to_it : (from : NodeId) → SaysOf (HasAsked (a_client ∷ [])) from (bodies.Reply (a_request 3) (Ok answers.Nothing))
a_reply_to_it from = it_has_asked_under_a_lower_one

no_reply_to_the_next : (from : NodeId) → SaysOf (HasAsked (a_client ∷ [])) from (bodies.Reply (a_request 8) (Ok answers.Nothing)) → ⊥
no_reply_to_the_next from said = it_has_not_asked_under_the_next said
