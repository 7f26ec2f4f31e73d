-- What a node took and did, and what that leaves.
use Rattle.std.specs.Prelude.{◌≡◌, ◌<◌, ◌++◌, ℕ, List, [], ◌∷◌, map, Option, Some, None, Result, Ok, Err, slice_get, refl}
use Rattle.gs_base.specs.declared.numbers.Moment.{Moment}
use Rattle.gs_base.specs.declared.refusal.Refusal.{Refusal}
use Rattle.gs_msg.specs.Nodes.{as_node}
use Rattle.gs_msg.specs.declared.event.Happening.{Happening}
use Rattle.gs_msg.specs.declared.event.Happening.TheVariants as happenings
use Rattle.gs_msg.specs.declared.message.Message.{Message}
use Rattle.gs_msg.specs.declared.node.NodeId.{NodeId}
use Rattle.gs_msg.specs.declared.node.NodeId.TheVariants as ids
use Rattle.gs_msg.specs.declared.sent.Sent.{Sent}
use Rattle.gs_cluster_history.specs.declared.took.Took.{Took}
use Rattle.gs_cluster_history.specs.declared.took.Took.TheVariants.{Heard, Did}

-- a message as its sender's list keeps it
pub record Listed : Type 0 where
  pub clock : ℕ
  pub moment : Moment
  pub message : Message

abbrev pub listed : ℕ → Moment → Message → Listed
listed clock moment message = record { clock = clock; moment = moment; message = message }

-- a message on its way, as that list keeps it
abbrev pub listing : Sent → Listed
listing s = listed s.clock s.moment s.message

-- what goes out, and what is said; or the event is refused
abbrev pub Upshot : Type 0
Upshot = Result (List Message × Option Refusal) Refusal

-- of a refused event nothing goes out
abbrev pub out_of : Upshot → List Message
out_of (Ok (messages, said)) = messages
out_of (Err refusal) = []

abbrev pub met_by : Option Refusal → Result (Unit {0}) Refusal
met_by None = Ok tt
met_by (Some refusal) = Err refusal

abbrev pub said_of : Upshot → Result (Unit {0}) Refusal
said_of (Ok (messages, said)) = met_by said
said_of (Err refusal) = Err refusal

-- What a node took, at which clock, and what came of it.
pub record Entry : Type 0 where
  pub clock : ℕ
  pub took : Took
  pub outcome : Upshot

abbrev pub moment_of : Took → Moment
moment_of (Heard sent) = sent.moment
moment_of (Did event) = event.moment

-- whose own event it is: one that asks, or whose clock ticks
abbrev pub doer : Happening → Option NodeId
doer (happenings.Ask req request) = Some (ids.Client req.client)
doer (happenings.Tick node) = Some (as_node node)
doer happening = None

-- A message is taken at a clock above its own; an event of a node's own is done by that node.
abbrev pub MayTake : NodeId → ℕ → Took → Type 0
MayTake me clock (Heard sent) = sent.clock < clock
MayTake me clock (Did event) = doer event.happening ≡ Some me

-- what a node is, its clock, and all that it has sent
pub record Past (C : Type 0) : Type 0 where
  pub core : C
  pub clock : ℕ
  pub sent : List Listed

-- a node by its number, with what it is by now
pub record Line (C : Type 0) : Type 0 where
  pub me : NodeId
  pub past : Past C

-- a node as it is kept, with its history
pub record Kept (C : Type 0) : Type 0 where
  pub me : NodeId
  pub past : Past C
  pub entries : List Entry

abbrev pub line_of : {C : Type 0} → Kept C → Line C
line_of k = record { me = k.me; past = k.past }

abbrev pub Among : {A : Type 0} → List A → A → Type 0
Among xs x = (k : ℕ) × (slice_get xs k ≡ Some x)

-- For what a node does with what it takes: what it is before, what comes of it, and what it is after.
module _ {C : Type 0} (Does : Took → C → Upshot → C → Type 0) where
  -- one event: what it sends stands behind what it has sent, with the event's clock and moment
  pub record Takes (me : NodeId) (old : Past C) (e : Entry) (new : Past C) : Type 0 where
    pub does : Does e.took old.core e.outcome new.core
    pub clock : new.clock ≡ e.clock
    pub later : old.clock < e.clock
    pub may : MayTake me e.clock e.took
    pub sent : new.sent ≡ old.sent ++ map (listed e.clock (moment_of e.took)) (out_of e.outcome)

  -- one after the other
  abbrev pub Leads : NodeId → Past C → List Entry → Past C → Type 0
  Leads me old [] new = new ≡ old
  Leads me old (e ∷ es) new = (mid : Past C) × Takes me old e mid × Leads me mid es new

  -- For how a node begins: what it is, and what it has sent at first.
  module _ (Starts : NodeId → C → List Message → Type 0) where
    -- at clock 0, and the first messages at moment 0
    pub record Begins (me : NodeId) (p : Past C) : Type 0 where
      pub first : List Message
      pub starts : Starts me p.core first
      pub clock : p.clock ≡ 0
      pub sent : p.sent ≡ map (listed 0 (record { 0 = 0 })) first

    -- The history leads from how the node began to what it is.
    pub record IsKept (k : Kept C) : Type 0 where
      pub begun : Past C
      pub begins : Begins k.me begun
      pub leads : Leads k.me begun k.entries k.past

-- Worked: what is sent at an event refused by its node, and what is said there.
nothing_goes_out : (e : Refusal) → out_of (Err e) ≡ []
nothing_goes_out e = refl

it_is_met_by : (m : Message) (e : Refusal) → said_of (Ok (m ∷ [], Some e)) ≡ Err e
it_is_met_by m e = refl
