-- For which request a part of a chunk is given, and when.
use Rattle.std.specs.Prelude.{◌++◌, ◌<◌, ◌∷◌, ◌≡◌, List, Ok, Result, Some, ℕ}
use Rattle.gs_base.specs.declared.numbers.Moment.{Moment}
use Rattle.gs_base.specs.declared.numbers.ReqId.{ReqId}
use Rattle.gs_base.specs.declared.numbers.Stamp.{Stamp}
use Rattle.gs_base.specs.declared.refusal.Refusal.{Refusal}
use Rattle.gs_client.specs.Nodes.{Node}
use Rattle.gs_client.specs.declared.link.Reply.TheVariants as replies
use Rattle.gs_msg.specs.declared.body.Body.TheVariants as bodies
use Rattle.gs_msg.specs.declared.body.Given.{Given}
use Rattle.gs_msg.specs.declared.chunk.Asked.{Asked}
use Rattle.gs_msg.specs.declared.chunk.Chunk.TheVariants as chunks
use Rattle.gs_msg.specs.declared.event.Event.{Event}
use Rattle.gs_msg.specs.declared.event.Happening.TheVariants as happenings
use Rattle.gs_msg.specs.declared.event.Request.{Request}
use Rattle.gs_msg.specs.declared.event.Request.TheVariants as requests
use Rattle.gs_msg.specs.declared.message.Message.{Message}
use Rattle.gs_msg.specs.declared.message.MsgId.{MsgId}
use Rattle.gs_msg.specs.declared.node.NodeId.TheVariants as nodes
use Rattle.gs_nodes.specs.Happenings.{client_in}
use Rattle.gs_world.specs.Histories.{Happens, History}
use Rattle.gs_world.specs.Runs.{Comes, Step}
use Rattle.gs_world.specs.Sent.{message_of}
use Rattle.gs_laws_world.specs.steady.Asking.{asks_at}
use Rattle.gs_laws_world.specs.steady.Unarmed.{IsUnarmed}
use Rattle.gs_laws_chunks.specs.accounts.Accounts.{Account}
use Rattle.gs_laws_chunks.specs.accounts.Reading.{GivesBytes, sent_at}
use Rattle.gs_laws_chunks.specs.accounts.Running.{IsReached, Moves, Runs, Setup}

module _ {D : Type 0} (x : Setup D) where
  -- A client asks under a number that is fresh, and is taken.
  pub record AsksForAPart (old : History D) (a : Account) (moment : Moment) (req : ReqId) (request : Request) (asked : History D) (b : Account) : Type 0 where
    pub node : Node
    pub there : client_in old.nodes.clients req.client ≡ Some node
    pub fresh : node.last < req.number
    pub moves : Moves x (Comes (asks_at moment req request)) old a asked b
    pub happens : Happens x.seen x.failures x.armed (asks_at moment req request) old (Ok tt) asked

  -- At one of some steps a server is asked for this part of a chunk, under this stamp and in this epoch, for this request; and it gives this.
  pub record WasGiven (steps : List Step) (old : History D) (a : Account) (new : History D) (b : Account) (req : ReqId) (to handle : ℕ) (stamp : Stamp) (epoch : ℕ) (want : Asked) (given : Given) : Type 0 where
    pub before : List Step
    pub now : History D
    pub c : Account
    pub event : Event
    pub said : Result (Unit {0}) Refusal
    pub next : History D
    pub d : Account
    pub after : List Step
    pub parts : steps ≡ before ++ Comes event ∷ after
    pub first : Runs x before old a now c
    pub moves : Moves x (Comes event) now c next d
    pub happens : Happens x.seen x.failures x.armed event now said next
    pub rest : Runs x after next d new b
    pub id : MsgId
    pub message : Message
    pub comes : event.happening ≡ happenings.Deliver id
    pub was : message_of now.sent id ≡ Some message
    pub to_it : message.to ≡ nodes.Server to
    pub asks : message.body ≡ bodies.About handle (chunks.Fetch req stamp epoch want)
    pub gives : GivesBytes (sent_at happens.outcome) req given

  -- ---- what is to hold

  -- Where a client has asked for a part of a chunk, and has been given something behind some steps, and has asked nothing else since, that was given in them, for this very request: no part is older than its request.
  abbrev pub PartsAreGiven : Type 0
  PartsAreGiven = IsUnarmed x.armed → (old asked new : History D) (a b c : Account) (moment : Moment) (req : ReqId) (to handle : ℕ) (stamp : Stamp) (epoch : ℕ) (want : Asked) (steps : List Step) (node : Node) (given : Given) → IsReached x old a →
      AsksForAPart old a moment req (requests.Fetch to handle stamp epoch want) asked b → Runs x steps asked b new c → client_in new.nodes.clients req.client ≡ Some node → node.last ≡ req.number → node.reply ≡ Some (replies.Given given) →
      WasGiven steps asked b new c req to handle stamp epoch want given
