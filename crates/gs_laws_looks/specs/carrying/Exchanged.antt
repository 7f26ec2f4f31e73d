-- What a desk carries for a client that reads is a request with its reply, and nothing else is asked of the master meanwhile.
use Rattle.std.specs.Prelude.{◌<◌, ◌≡◌, List, Ok, Some, ℕ}
use Rattle.std.specs.List.{AllByRecursion}
use Rattle.gs_base.specs.Told.{IsNumber}
use Rattle.gs_base.specs.declared.numbers.ClientId.{ClientId}
use Rattle.gs_base.specs.declared.numbers.Moment.{Moment}
use Rattle.gs_base.specs.declared.numbers.ReqId.{ReqId}
use Rattle.gs_client.specs.Nodes.{Node}
use Rattle.gs_client.specs.declared.link.Reply.{Reply}
use Rattle.gs_client.specs.declared.link.Reply.TheVariants as replies
use Rattle.gs_msg.specs.declared.event.Request.{Request}
use Rattle.gs_nodes.specs.Happenings.{client_in}
use Rattle.gs_shell_desk.specs.Ways.{Carries, Way}
use Rattle.gs_world.specs.Histories.{Happens, History}
use Rattle.gs_world.specs.Runs.{Comes, RunsTo, Step}
use Rattle.gs_world.specs.Sent.{Sent}
use Rattle.gs_laws_chunks.specs.answers.Resting.{IsLooking}
use Rattle.gs_laws_world.specs.steady.Asking.{MayBeAsked, asks_at}
use Rattle.gs_laws_chunks.specs.desks.Reached.{Covers, history}
use Rattle.gs_laws_world.specs.steady.Unarmed.{unarmed}
use Rattle.gs_laws_world.specs.steady.Saying.{IsStepWithin}

module _ {D : Type 0} (seen : D → List ℕ) (failures : D → ℕ) where
  -- steps at which nothing is asked of the master but look-ups of this client, and it isn't started again
  pub record Looks (client : ClientId) (old new : History D) : Type 0 where
    pub steps : List Step
    pub runs : RunsTo seen failures unarmed steps old new
    pub within : AllByRecursion IsStepWithin steps
    pub looking : AllByRecursion (IsLooking client) steps

  -- A client asks under a number that is fresh, is taken, and has this reply behind such steps, having asked nothing else since.
  pub record HasReply (client : ClientId) (old : History D) (request : Request) (reply : Reply) (new : History D) : Type 0 where
    pub moment : Moment
    pub req : ReqId
    pub own : req.client ≡ client
    pub node : Node
    pub there : client_in old.nodes.clients req.client ≡ Some node
    pub fresh : node.last < req.number
    pub asked : History D
    pub happens : Happens seen failures unarmed (asks_at moment req request) old (Ok tt) asked
    pub asks : IsStepWithin (Comes (asks_at moment req request))
    pub behind : Looks client asked new
    pub last : Node
    pub found : client_in new.nodes.clients client ≡ Some last
    pub number : last.last ≡ req.number
    pub has : last.reply ≡ Some reply

  -- what a reader takes of a request: an answer of the master or a part of a chunk that came to it; of what else there is, that nothing but look-ups was asked of the master meanwhile
  abbrev pub Went : ClientId → History D → Request → Reply → History D → Type 0
  Went client old request (replies.Answer answer) new = HasReply client old request (replies.Answer answer) new
  Went client old request (replies.Given given) new = HasReply client old request (replies.Given given) new
  Went client old request reply new = Looks client old new

  -- So it is in a store; then the client takes the reply, and all that is under way was sent.
  pub record IsExchanged (client : ClientId) (old : Way D) (sent : Sent) (request : Request) (reply : Reply) (new : Way D) : Type 0 where
    pub mid : History D
    pub went : Went client (history sent old) request reply mid
    pub after : Sent
    pub taken : Looks client mid (history after new)
    pub covers : Covers after new
    pub moment : new.moment ≡ old.moment

  -- ---- what is to hold

  -- So it is of each look-up, and of each fetch, that a desk carries for a client, within its types.
  abbrev pub LooksAreCarried : Type 0
  LooksAreCarried = (sent : Sent) (old new : Way D) (req : ReqId) (request : Request) (reply : Reply) → Covers sent old → IsNumber old.moment.0 → IsNumber req.number × MayBeAsked request → IsLooking req.client (Comes (asks_at old.moment req request)) →
      Carries seen failures req request old reply new → IsExchanged req.client old sent request reply new
