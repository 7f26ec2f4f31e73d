-- What a desk carries for a client, whatever it asks: a call that waits and an edit too.
use Rattle.std.proofs.Common.{inl, inr}
use Rattle.std.specs.Prelude.{[], ◌<◌, ◌∷◌, ◌≡◌, ◌⊎◌, Err, List, Ok, Some, refl, unwrap_or, ℕ}
use Rattle.std.specs.List.{AllByRecursion}
use Rattle.gs_base.specs.Told.{IsNumber}
use Rattle.gs_base.specs.declared.numbers.ClientId.{ClientId}
use Rattle.gs_base.specs.declared.numbers.Moment.{Moment}
use Rattle.gs_base.specs.declared.numbers.ReqId.{ReqId}
use Rattle.gs_base.specs.declared.refusal.Refusal.{Refusal}
use Rattle.gs_client.specs.Nodes.{Node}
use Rattle.gs_client.specs.declared.link.Reply.{Reply}
use Rattle.gs_client.specs.declared.link.Reply.TheVariants as replies
use Rattle.gs_msg.specs.declared.event.Happening.{Happening}
use Rattle.gs_msg.specs.declared.event.Happening.TheVariants as happenings
use Rattle.gs_msg.specs.declared.event.Request.{Request}
use Rattle.gs_nodes.specs.Happenings.{client_in}
use Rattle.gs_shell_desk.specs.Ways.{Carries, Way}
use Rattle.gs_world.specs.Histories.{Happens, History}
use Rattle.gs_world.specs.Runs.{Comes, RunsTo, Step, Takes}
use Rattle.gs_world.specs.Sent.{Sent}
use Rattle.gs_laws_chunks.specs.answers.Changed.{IsAt}
use Rattle.gs_laws_chunks.specs.desks.Reached.{Covers, history}
use Rattle.gs_laws_world.specs.steady.Asking.{MayBeAsked, asks_at}
use Rattle.gs_laws_world.specs.steady.Saying.{IsStepWithin}
use Rattle.gs_laws_world.specs.steady.Unarmed.{unarmed}

-- a message is delivered, or a node ticks
abbrev pub Delivers : Step → Type 0
Delivers (Comes event) = by event.happening
  where
    by : Happening → Type 0
    by (happenings.Deliver message) = Unit {0}
    by (happenings.Tick node) = Unit {0}
    by happening = ⊥
Delivers (Takes client) = ⊥

module _ {D : Type 0} (seen : D → List ℕ) (failures : D → ℕ) where
  -- steps at which nothing else happens
  pub record OnlyDelivers (old new : History D) : Type 0 where
    pub steps : List Step
    pub runs : RunsTo seen failures unarmed steps old new
    pub within : AllByRecursion IsStepWithin steps
    pub only : AllByRecursion Delivers steps

  -- A client asks under a number that is fresh, and is taken. Behind that come deliveries and ticks alone. What it is replied then is what it has; where it has nothing the request is lost.
  pub record WasAsked (client : ClientId) (old : History D) (request : Request) (reply : Reply) (new : History D) : Type 0 where
    pub moment : Moment
    pub req : ReqId
    pub own : req.client ≡ client
    pub node : Node
    pub there : client_in old.nodes.clients req.client ≡ Some node
    pub fresh : node.last < req.number
    pub asked : History D
    pub happens : Happens seen failures unarmed (asks_at moment req request) old (Ok tt) asked
    pub asks : IsStepWithin (Comes (asks_at moment req request))
    pub behind : OnlyDelivers asked new
    pub last : Node
    pub found : client_in new.nodes.clients client ≡ Some last
    pub number : last.last ≡ req.number
    pub has : reply ≡ unwrap_or last.reply replies.Lost

  -- Or the client is refused at once, since memory is wanting, or it can't ask so; and that is all that happens.
  pub record WasRefused (client : ClientId) (old : History D) (request : Request) (reply : Reply) (new : History D) : Type 0 where
    pub moment : Moment
    pub req : ReqId
    pub own : req.client ≡ client
    pub refusal : Refusal
    pub happens : Happens seen failures unarmed (asks_at moment req request) old (Err refusal) new
    pub asks : IsStepWithin (Comes (asks_at moment req request))
    pub is : reply ≡ replies.Refused refusal

  -- where it was asked, the client takes its reply at once
  abbrev pub WasAskedAndTaken : (client : ClientId) (old : History D) (request : Request) (reply : Reply) (new : History D) → Type 0
  WasAskedAndTaken client old request reply new = (mid : History D) × WasAsked client old request reply mid × RunsTo seen failures unarmed (Takes client ∷ []) mid new

  -- it is asked at this moment, and all steps behind that are at it
  abbrev pub IsAsOf : (now : Moment) (client : ClientId) (old : History D) (request : Request) (reply : Reply) (new : History D) → WasAskedAndTaken client old request reply new ⊎ WasRefused client old request reply new → Type 0
  IsAsOf now client old request reply new (inl (mid, was, takes)) = (was.moment ≡ now) × AllByRecursion (IsAt now) was.behind.steps
  IsAsOf now client old request reply new (inr refused) = Unit {0}

  -- So it is in a store, all at one moment; and all that is under way then was sent.
  pub record IsAnswered (client : ClientId) (old : Way D) (sent : Sent) (request : Request) (reply : Reply) (new : Way D) : Type 0 where
    pub after : Sent
    pub went : WasAskedAndTaken client (history sent old) request reply (history after new) ⊎ WasRefused client (history sent old) request reply (history after new)
    pub covers : Covers after new
    pub moment : new.moment ≡ old.moment
    pub moments : IsAsOf old.moment client (history sent old) request reply (history after new) went

  -- ---- what is to hold

  -- So it is of each request that a desk carries for a client, within its types, and of each reply.
  abbrev pub RequestsAreCarried : Type 0
  RequestsAreCarried = (sent : Sent) (old new : Way D) (req : ReqId) (request : Request) (reply : Reply) → Covers sent old → IsNumber old.moment.0 → IsNumber req.number × MayBeAsked request → Carries seen failures req request old reply new →
      IsAnswered req.client old sent request reply new

-- ---- Worked
nothing_happens : {D : Type 0} (seen : D → List ℕ) (failures : D → ℕ) (h : History D) → OnlyDelivers seen failures h h
nothing_happens seen failures h = record { steps = []; runs = refl; within = tt; only = tt }
