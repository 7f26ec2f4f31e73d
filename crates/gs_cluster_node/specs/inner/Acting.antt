-- What one event makes of a core and its history.
use Rattle.std.specs.Prelude.{◌≡◌, ◌+◌, ◌<◌, ◌++◌, ℕ, List, [], ◌∷◌, Some, Result, length, slice_get, slice_set, Bool}
use Rattle.gs_base.specs.declared.numbers.Moment.{Moment}
use Rattle.gs_base.specs.declared.refusal.Refusal.{Refusal}
use Rattle.gs_msg.specs.declared.message.Message.{Message}
use Rattle.gs_msg.specs.declared.node.NodeId.{NodeId}
use Rattle.gs_msg.specs.declared.sent.Sent.{Sent}
use Rattle.gs_cluster_channel.specs.Settled.{Putting, puts}
use Rattle.gs_cluster_history.specs.declared.took.Took.{Took}
use Rattle.gs_cluster_history.specs.Histories.{Among, Entry, Listed, Upshot, listed, listing, moment_of, out_of, said_of}
use Rattle.gs_cluster_history.specs.Logs.{sent_at}
use Rattle.gs_cluster_node.specs.Nodes.{AllListed, last_clock, leads_of}
use Rattle.gs_cluster_node.specs.declared.node.Diary.{Diary}
use Rattle.gs_cluster_notes.specs.Notes.{Keeps}

-- The count is of what was sent, as long as it is below the greatest number.
abbrev pub Counts : ℕ → List Listed → Type 0
Counts count sent = count < last_clock → count ≡ length sent

-- These messages are the node's own, and stand in what it has sent.
abbrev pub AllOwn : NodeId → List Listed → List Sent → Type 0
AllOwn me sent xs = (x : Sent) → Among xs x → (x.from ≡ me) × (slice_get sent x.place ≡ Some (listing x))

-- What a node keeps of what it did is of its history.
pub record Agrees (me : NodeId) (diary : Diary) : Type 0 where
  pub counts : Counts diary.count diary.log.sent
  pub waits : AllOwn me diary.log.sent diary.waiting.items
  pub own : AllOwn me diary.log.sent diary.asked.items
  pub keeps : Keeps diary.notes diary.log.entries diary.log.sent

pub record Acts {C : Type 0} (Does : Took → C → Upshot → C → Type 0) (took : Took) (clock : ℕ) (old : C) (entries : List Entry) (sent : List Listed)
    (out : List Message) (moment : Moment) (said : Result (Unit {0}) Refusal) (new : C) (new_entries : List Entry) (new_sent : List Listed) : Type 0 where
  pub entry : Entry
  pub of : entry.took ≡ took
  pub at : entry.clock ≡ clock
  pub does : Does took old entry.outcome new
  pub goes_on : new_entries ≡ entries ++ entry ∷ []
  pub lists : new_sent ≡ sent ++ sent_at entry
  pub sends : out ≡ out_of entry.outcome
  pub when : moment ≡ moment_of took
  pub says : said ≡ said_of entry.outcome

-- a message is put into the way to its receiver, if there is one and it has room
pub record PutOn (x : Sent) (old new : List Putting) : Type 0 where
  pub at : ℕ
  pub way : Putting
  pub there : slice_get old at ≡ Some way
  pub to : way.to ≡ x.message.to
  pub done : Bool
  pub then : new ≡ slice_set old at (puts done x way)

-- the ways lead where they led, and what they have put stands in this list
abbrev pub Routes : NodeId → List Listed → List Putting → List Putting → Type 0
Routes me sent old new = AllListed me sent new × (leads_of new ≡ leads_of old)

-- these messages stand in a list, from this place on
abbrev pub AreAt : List Listed → ℕ → ℕ → Moment → List Message → Type 0
AreAt sent place clock moment messages = (k : ℕ) (m : Message) → slice_get messages k ≡ Some m → slice_get sent (place + k) ≡ Some (listed clock moment m)

-- what goes out is of no matter to who asks what was said
abbrev pub Goes : {C : Type 0} → (Took → C → Upshot → C → Type 0) → Took → ℕ → C → List Entry → List Listed → Result (Unit {0}) Refusal → C → List Entry → List Listed → Type 0
Goes Does took clock old entries sent said new new_entries new_sent =
    (out : List Message) × (moment : Moment) × Acts Does took clock old entries sent out moment said new new_entries new_sent
