-- A node that is kept: what holds of it whenever nobody works on it, and what its calls come to.
use Rattle.std.specs.Prelude.{◌≡◌, ◌+◌, ◌++◌, ℕ, List, [], ◌∷◌, max, map, Option, Some, None, Result, Ok, Err, length, slice_get, refl}
use Rattle.gs_base.specs.declared.refusal.Refusal.{Refusal}
use Rattle.gs_base.specs.declared.refusal.Refusal.TheVariants as refusals
use Rattle.gs_msg.specs.declared.event.Event.{Event}
use Rattle.gs_msg.specs.declared.message.Message.{Message}
use Rattle.gs_msg.specs.declared.node.NodeId.{NodeId}
use Rattle.gs_msg.specs.declared.node.NodeId.TheVariants as ids
use Rattle.gs_msg.specs.declared.sent.Sent.{Sent}
use Rattle.gs_cluster_channel.specs.Settled.{Hearing, Putting}
use Rattle.gs_cluster_history.specs.declared.took.Took.{Took}
use Rattle.gs_cluster_history.specs.declared.took.Took.TheVariants.{Heard, Did}
use Rattle.gs_cluster_history.specs.Histories.{Among, Entry, IsKept, Kept, Listed, Takes, Upshot, doer, listing, said_of}

-- the clock of a node that has had all
abbrev pub last_clock : ℕ
last_clock = 18446744073709551615

-- ---- what holds of a node

-- A message on its way into this node stands in the list of what was sent by that one.
pub record IsListed (from to : NodeId) (sent : List Listed) (x : Sent) : Type 0 where
  pub sender : x.from ≡ from
  pub receiver : x.message.to ≡ to
  pub at : slice_get sent x.place ≡ Some (listing x)

-- All that the ways have put stands in what their node has sent.
abbrev pub AllListed : NodeId → List Listed → List Putting → Type 0
AllListed me sent ways = (way : Putting) → Among ways way → (x : Sent) → Among way.put x → IsListed me way.to sent x

abbrev pub HaveSentNothing : List Putting → Type 0
HaveSentNothing ways = (way : Putting) → Among ways way → way.put ≡ []

-- where the ways lead
abbrev pub leads_of : List Putting → List NodeId
leads_of ways = map (λ (w : Putting). w.to) ways

-- the messages that were taken
abbrev pub heard_in : Took → List Sent → List Sent
heard_in (Heard sent) rest = sent ∷ rest
heard_in (Did event) rest = rest

abbrev pub heard_of : List Entry → List Sent
heard_of [] = []
heard_of (e ∷ es) = heard_in e.took (heard_of es)

-- The history leads to what the node is; its ways, one to each of all nodes, have put what it has sent, and its ear has taken what
-- the history took, in its order. The ear has all parts of its channel but those that the ways into it have.
pub record IsSound {C : Type 0} (Does : Took → C → Upshot → C → Type 0) (Starts : NodeId → C → List Message → Type 0) (all : List NodeId) (k : Kept C) (ways : List Putting) (ear : Hearing) : Type 0 where
  pub kept : IsKept Does Starts k
  pub mine : Among all k.me
  pub leads : leads_of ways ≡ all
  pub put : AllListed k.me k.past.sent ways
  pub me : ear.me ≡ k.me
  pub heard : ear.taken ≡ heard_of k.entries
  pub whole : ear.parts + length all ≡ 1024

-- ---- what is done

-- above the node's clock and the message's
abbrev pub next_clock : ℕ → Took → ℕ
next_clock clock (Heard sent) = max clock sent.clock + 1
next_clock clock (Did event) = clock + 1

module _ {C : Type 0} (Does : Took → C → Upshot → C → Type 0) where
  -- One event more, of the core under this history, with what it says.
  pub record Stepped (old : Kept C) (took : Took) (said : Result (Unit {0}) Refusal) (new : Kept C) : Type 0 where
    pub entry : Entry
    pub takes : Takes Does old.me old.past entry new.past
    pub of : entry.took ≡ took
    pub clock : entry.clock ≡ next_clock old.past.clock took
    pub says : said ≡ said_of entry.outcome
    pub me : new.me ≡ old.me
    pub entries : new.entries ≡ old.entries ++ entry ∷ []

  -- An event of its own: done, or refused with nothing changed where the clock is at its last value, or the event isn't its own.
  abbrev pub Steps : Kept C → Event → Result (Result (Unit {0}) Refusal) Refusal → Kept C → Type 0
  Steps old event (Ok said) new = Stepped old (Did event) said new
  Steps old event (Err refusals.Exhausted) new = (new ≡ old) × (old.past.clock ≡ last_clock)
  Steps old event (Err refusals.Stray) new = (new ≡ old) × (doer event.happening ≡ Some old.me → ⊥)
  Steps old event (Err refusal) new = ⊥

  -- A message that waited, and its event; or none waited; or, with nothing taken, the clock is at its last value.
  abbrev pub Receives : Kept C → Result (Option (Result (Unit {0}) Refusal)) Refusal → Kept C → Type 0
  Receives old (Ok (Some said)) new = (sent : Sent) × Stepped old (Heard sent) said new
  Receives old (Ok None) new = new ≡ old
  Receives old (Err refusals.Exhausted) new = (new ≡ old) × (old.past.clock ≡ last_clock)
  Receives old (Err refusal) new = ⊥

-- Worked: a node at clock 3, and one that has sent nothing, with two ways.
its_own_event : (event : Event) → next_clock 3 (Did event) ≡ 4
its_own_event event = refl

two_ways : leads_of (record { to = ids.Master; put = [] } ∷ record { to = ids.Server 0; put = [] } ∷ []) ≡ ids.Master ∷ ids.Server 0 ∷ []
two_ways = refl
