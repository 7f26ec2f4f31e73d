-- What the reply to a request of a caller is from, by what its history took in that request.
use Rattle.std.specs.Prelude.{◌≡◌, ◌++◌, ◌∷◌, ◌+◌, ◌≤◌, ℕ, List, [], Bool, true, false, Option, Some, None, Err, refl, ⊤}
use Rattle.gs_base.specs.declared.numbers.ClientId.{ClientId}
use Rattle.gs_base.specs.declared.numbers.Moment.{Moment}
use Rattle.gs_base.specs.declared.numbers.ReqId.{ReqId}
use Rattle.gs_base.specs.declared.refusal.Refusal.{Refusal}
use Rattle.gs_base.specs.declared.refusal.Refusal.TheVariants as refusals
use Rattle.gs_client.specs.Nodes.{answered}
use Rattle.gs_client.specs.declared.link.Reply.{Reply}
use Rattle.gs_client.specs.declared.link.Reply.TheVariants as replies
use Rattle.gs_msg.specs.declared.body.Body.{Body}
use Rattle.gs_msg.specs.declared.body.Body.TheVariants as bodies
use Rattle.gs_msg.specs.declared.event.Happening.TheVariants as happenings
use Rattle.gs_msg.specs.declared.event.Request.{Request}
use Rattle.gs_msg.specs.declared.sent.Sent.{Sent}
use Rattle.gs_cluster_core.specs.declared.role.Role.{Role}
use Rattle.gs_cluster_core.specs.declared.role.Role.TheVariants.{Client}
use Rattle.gs_cluster_history.specs.Histories.{Among, Entry, Kept, doer}
use Rattle.gs_cluster_history.specs.declared.took.Took.TheVariants.{Heard, Did}
use Rattle.gs_cluster_node.specs.Nodes.{last_clock}
use Rattle.gs_cluster.specs.Calling.{asking, most_vain, takes_memory}

-- which request a message answers, and with what; of what no client is sent none
abbrev pub brought : Body → Option (ReqId × Reply)
brought (bodies.Reply req result) = Some (req, answered replies.Answer result)
brought (bodies.Done req result) = Some (req, answered replies.Outcome result)
brought (bodies.Bytes req result) = Some (req, answered replies.Given result)
brought body = None

-- which client a node is
abbrev pub client_of : {D : Type 0} → Role D → Option ClientId
client_of (Client node) = Some node.id
client_of role = None

-- A message that was taken brings a reply to the request of this number of this client.
pub record IsBrought (took : List Entry) (client : Option ClientId) (number : ℕ) (reply : Reply) : Type 0 where
  pub entry : Entry
  pub among : Among took entry
  pub sent : Sent
  pub heard : entry.took ≡ Heard sent
  pub req : ReqId
  pub brings : brought sent.message.body ≡ Some (req, reply)
  pub mine : client ≡ Some req.client
  pub numbered : req.number ≡ number

-- none of what was taken brings one
abbrev pub IsSilent : List Entry → Option ClientId → ℕ → Type 0
IsSilent took client number = (reply : Reply) → IsBrought took client number reply → ⊥

-- a node's own refusal of what its client asks: memory is wanting, the number isn't above its last one, or it is no client
abbrev pub is_own : Refusal → Bool
is_own refusals.Memory = true
is_own refusals.Old = true
is_own refusals.Stray = true
is_own refusal = false

module _ {D : Type 0} (moment : Moment) (req : ReqId) (request : Request) (old : Kept (Role D)) (before : ℕ) (reply : Reply) (new : Kept (Role D)) (after : ℕ) where
  -- the question stands first, and behind it what was heard
  pub record Question (took heard : List Entry) : Type 0 where
    pub entry : Entry
    pub asked : entry.took ≡ Did (asking moment req request)
    pub first : took ≡ entry ∷ heard

  -- what a reply is from, where the history took this
  pub data Source (took : List Entry) : Type 0 where
    -- a message brings it
    Message : (heard : List Entry) → Question took heard → IsBrought heard (client_of old.past.core) req.number reply → Source took
    -- a message brings one, and memory is wanting for its copy
    NoCopy : (came : Reply) (heard : List Entry) → Question took heard → IsBrought heard (client_of old.past.core) req.number came → takes_memory came ≡ true → reply ≡ replies.Refused refusals.Memory → Source took
    -- what it asks is refused at its own node, of which the history tells; nothing is heard
    Own : (refusal : Refusal) (question : Question took []) → question.entry.outcome ≡ Err refusal → is_own refusal ≡ true → reply ≡ replies.Refused refusal → Source took
    -- its clock is at its last value
    Exhausted : new.past.clock ≡ last_clock → reply ≡ replies.Refused refusals.Exhausted → Source took
    -- no message brings one, and it has asked in vain so often
    Lost : (heard : List Entry) → Question took heard → IsSilent heard (client_of old.past.core) req.number → before + most_vain ≤ after → reply ≡ replies.Lost → Source took
    -- it isn't the client of this request, and nothing is taken
    Stray : took ≡ [] → (doer (happenings.Ask req request) ≡ Some old.me → ⊥) → reply ≡ replies.Refused refusals.Stray → Source took

  -- nothing is taken, or the question first
  abbrev pub AsksFirst : List Entry → Type 0
  AsksFirst [] = ⊤
  AsksFirst (entry ∷ heard) = entry.took ≡ Did (asking moment req request)

  -- The history grows by what it takes in the request, and the reply is from that. The node stays the same client.
  pub record Answered : Type 0 where
    pub took : List Entry
    pub grows : new.entries ≡ old.entries ++ took
    pub asks : AsksFirst took
    pub from : Source took
    pub stays : client_of new.past.core ≡ client_of old.past.core

-- Worked: what the master answers to a call, and what no client is sent.
it_brings_a_refusal : (req : ReqId) → brought (bodies.Reply req (Err refusals.NoReplica)) ≡ Some (req, replies.Refused refusals.NoReplica)
it_brings_a_refusal req = refl

it_brings_nothing : (req : ReqId) (bytes : List ℕ) → brought (bodies.Push req bytes) ≡ None
it_brings_nothing req bytes = refl
