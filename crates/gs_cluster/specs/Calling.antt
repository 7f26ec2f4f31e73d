-- What a request of a caller comes to.
use Rattle.std.specs.Prelude.{◌≡◌, ◌⊎◌, ◌+◌, ◌≤◌, ◌++◌, ℕ, zero, suc, Bool, true, false, List, [], ◌∷◌, Option, Some, None, Result, Ok, Err}
use Rattle.gs_base.specs.declared.numbers.Moment.{Moment}
use Rattle.gs_base.specs.declared.numbers.ReqId.{ReqId}
use Rattle.gs_base.specs.declared.refusal.Refusal.{Refusal}
use Rattle.gs_base.specs.declared.refusal.Refusal.TheVariants as refusals
use Rattle.gs_client.specs.Nodes.{silent}
use Rattle.gs_client.specs.declared.link.Reply.{Reply}
use Rattle.gs_client.specs.declared.link.Reply.TheVariants as replies
use Rattle.gs_msg.specs.declared.answer.Answer.{Answer}
use Rattle.gs_msg.specs.declared.answer.Answer.TheVariants as answers
use Rattle.gs_msg.specs.declared.body.Given.{Given}
use Rattle.gs_msg.specs.declared.body.Given.TheVariants as givens
use Rattle.gs_msg.specs.declared.event.Event.{Event}
use Rattle.gs_msg.specs.declared.event.Happening.TheVariants as happenings
use Rattle.gs_msg.specs.declared.event.Request.{Request}
use Rattle.gs_msg.specs.declared.node.NodeId.TheVariants as ids
use Rattle.gs_msg.specs.declared.sent.Sent.{Sent}
use Rattle.gs_cluster_core.specs.Roles.{DoesAs}
use Rattle.gs_cluster_core.specs.declared.role.Role.{Role}
use Rattle.gs_cluster_core.specs.declared.role.Role.TheVariants.{Client}
use Rattle.gs_cluster_history.specs.Histories.{Kept, doer}
use Rattle.gs_cluster_history.specs.declared.took.Took.TheVariants.{Heard, Did}
use Rattle.gs_cluster_node.specs.Nodes.{Stepped, last_clock}

-- what came back to a client since it asked, if something did
abbrev pub reply_of : {D : Type 0} → Role D → Option Reply
reply_of (Client node) = node.reply
reply_of role = None

-- A copy of it takes memory: of what has a path, names, a status or bytes.
abbrev pub refusal_takes_memory : Refusal → Bool
refusal_takes_memory (refusals.Pending path) = true
refusal_takes_memory refusal = false

abbrev pub answer_takes_memory : Answer → Bool
answer_takes_memory (answers.Path path) = true
answer_takes_memory (answers.Names names) = true
answer_takes_memory (answers.Status status) = true
answer_takes_memory answer = false

abbrev pub given_takes_memory : Given → Bool
given_takes_memory (givens.Bytes bytes) = true
given_takes_memory given = false

abbrev pub takes_memory : Reply → Bool
takes_memory (replies.Answer answer) = answer_takes_memory answer
takes_memory (replies.Outcome outcome) = false
takes_memory (replies.Given given) = given_takes_memory given
takes_memory (replies.Refused refusal) = refusal_takes_memory refusal
takes_memory replies.Lost = false

-- it is given, or memory is wanting for its copy
abbrev pub Replied : {D : Type 0} → Role D → Option Reply → Type 0
Replied role None = reply_of role ≡ None
Replied role (Some reply) = (came : Reply) × (reply_of role ≡ Some came) × ((reply ≡ came) ⊎ ((reply ≡ replies.Refused refusals.Memory) × (takes_memory came ≡ true)))

abbrev pub asking : Moment → ReqId → Request → Event
asking moment req request = record { moment = moment; happening = happenings.Ask req request }

-- So often it asks in vain, one time after the other, before it gives a request up.
abbrev pub most_vain : ℕ
most_vain = 8

module _ {D : Type 0} (seen : D → List ℕ) (failures : D → ℕ) where
  abbrev Node : Type 0
  Node = Kept (Role D)

  -- it hears some messages, one after the other
  abbrev pub HearsThem : List Sent → Node → Node → Type 0
  HearsThem [] old new = new ≡ old
  HearsThem (sent ∷ rest) old new = (said : Result (Unit {0}) Refusal) × (mid : Node) × Stepped (DoesAs seen failures) old (Heard sent) said mid × HearsThem rest mid new

  -- It hears messages until there is a reply, which is given; or its clock is at its last value; or nothing has come, and it has asked in vain so often. The
  -- numbers are how often it has asked in vain, over its life.
  pub record HearsAll (old : Node) (before : ℕ) (reply : Reply) (new : Node) (after : ℕ) : Type 0 where
    pub messages : List Sent
    pub hears : HearsThem messages old new
    pub counts : before ≤ after
    pub ends : Replied new.past.core (Some reply)
        ⊎ (((reply ≡ replies.Refused refusals.Exhausted) × (new.past.clock ≡ last_clock))
        ⊎ ((reply ≡ replies.Lost) × (reply_of new.past.core ≡ None) × (before + most_vain ≤ after)))

  -- It asks, and hears until there is a reply or it has asked in vain for long; or what it asks is refused, of which the history tells; or nothing happens,
  -- since the clock is at its last value, or it isn't the client of this request.
  pub data Carries (moment : Moment) (req : ReqId) (request : Request) (old : Node) (before : ℕ) (reply : Reply) (new : Node) (after : ℕ) : Type 0 where
    Asked : (asked : Node) → Stepped (DoesAs seen failures) old (Did (asking moment req request)) (Ok tt) asked → HearsAll asked before reply new after
        → Carries moment req request old before reply new after
    Refused : (refusal : Refusal) → Stepped (DoesAs seen failures) old (Did (asking moment req request)) (Err refusal) new → reply ≡ replies.Refused refusal → after ≡ before
        → Carries moment req request old before reply new after
    Exhausted : new ≡ old → old.past.clock ≡ last_clock → reply ≡ replies.Refused refusals.Exhausted → after ≡ before → Carries moment req request old before reply new after
    Stray : new ≡ old → (doer (happenings.Ask req request) ≡ Some old.me → ⊥) → reply ≡ replies.Refused refusals.Stray → after ≡ before → Carries moment req request old before reply new after

-- so many clients that have asked nothing, and have no history
abbrev pub fresh_clients : {D : Type 0} → ℕ → List (Kept (Role D))
fresh_clients zero = []
fresh_clients (suc many) = fresh_clients many ++ record { me = ids.Client (record { 0 = many + 1 }); past = record { core = Client (silent (record { 0 = many + 1 })); clock = 0; sent = [] }; entries = [] } ∷ []
