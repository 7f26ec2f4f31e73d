-- What a client has as its reply was sent to it, for what it has asked last.
use Rattle.std.specs.Prelude.{◌≡◌, List, Ok, Some, refl, slice_get, ℕ}
use Rattle.gs_base.specs.declared.config.Config.{Config}
use Rattle.gs_base.specs.declared.numbers.ClientId.{ClientId}
use Rattle.gs_base.specs.declared.numbers.ReqId.{ReqId}
use Rattle.gs_client.specs.Nodes.{Node, answered}
use Rattle.gs_client.specs.declared.link.Reply.{Reply}
use Rattle.gs_client.specs.declared.link.Reply.TheVariants as replies
use Rattle.gs_msg.specs.declared.body.Body.{Body}
use Rattle.gs_msg.specs.declared.body.Body.TheVariants as bodies
use Rattle.gs_msg.specs.declared.event.DiskId.{DiskId}
use Rattle.gs_msg.specs.declared.message.Message.{Message}
use Rattle.gs_nodes.specs.Happenings.{client_in}
use Rattle.gs_nodes.specs.declared.place.MasterPlace.{MasterPlace}
use Rattle.gs_replica.specs.declared.op.EditOutcome.{EditOutcome}
use Rattle.gs_world.specs.Histories.{Begins, History}
use Rattle.gs_world.specs.Runs.{RunsTo, Step}
use Rattle.gs_world.specs.Sent.{IsSent, Sent}
use Rattle.gs_laws_chunks.specs.answers.Asked.{IsNumbered}

-- A message says this in reply to a request: an answer, what an edit came to, a part of a chunk, or a refusal in the place of one.
abbrev pub SaysReply : ReqId → Reply → Body → Type 0
SaysReply req reply (bodies.Reply other result) = (other ≡ req) × (reply ≡ answered replies.Answer result)
SaysReply req reply (bodies.Done other result) = (other ≡ req) × (reply ≡ answered replies.Outcome result)
SaysReply req reply (bodies.Bytes other result) = (other ≡ req) × (reply ≡ answered replies.Given result)
SaysReply req reply body = ⊥

-- such a message was sent
pub record WasReplied (sent : Sent) (req : ReqId) (reply : Reply) : Type 0 where
  pub message : Message
  pub was : IsSent message sent
  pub says : SaysReply req reply message.body

-- Whatever a client has as its reply was sent for the number that it has used last. Clients are numbered from 1, and each waits for that number alone.
pub record AreReplied {D : Type 0} (h : History D) : Type 0 where
  pub numbered : (place : ℕ) (n : Node) → slice_get h.nodes.clients place ≡ Some n → IsNumbered place n
  pub replied : (client : ClientId) (n : Node) (reply : Reply) → client_in h.nodes.clients client ≡ Some n → n.reply ≡ Some reply → WasReplied h.sent (record { client = client; number = n.last }) reply

-- ---- what is to hold

module _ {D : Type 0} (seen : D → List ℕ) (failures : D → ℕ) (armed : DiskId → ℕ → MasterPlace D → MasterPlace D) where
  -- So a store begins,
  abbrev pub BeginsReplied : Type 0
  BeginsReplied = (config : Config) (clients : ℕ) (disks : D × D) (new : History D) → Begins seen failures armed config clients disks new → AreReplied new

  -- and so it stays over each run.
  abbrev pub StaysReplied : Type 0
  StaysReplied = (steps : List Step) (old new : History D) → RunsTo seen failures armed steps old new → AreReplied old → AreReplied new

-- ---- Worked
an_outcome_is_said : (req : ReqId) (outcome : EditOutcome) → SaysReply req (replies.Outcome outcome) (bodies.Done req (Ok outcome))
an_outcome_is_said req outcome = (refl, refl)
