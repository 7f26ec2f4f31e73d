-- Why a call answers that no replica was reached (28), or that it isn't sure whether what it asked for stands (29): which of the replies that came in it
-- that is from.
use Rattle.std.specs.Prelude.{◌≡◌, ◌∷◌, ℕ, List, [], Bool, true, false, not}
use Rattle.std.specs.List.{AllByRecursion}
use Rattle.gs_base.specs.declared.refusal.Refusal.{Refusal}
use Rattle.gs_base.specs.declared.refusal.Refusal.TheVariants as refusals
use Rattle.gs_path.specs.Path.{Path}
use Rattle.gs_msg.specs.declared.answer.Answer.TheVariants as answers
use Rattle.gs_msg.specs.declared.call.Call.TheVariants as calls
use Rattle.gs_msg.specs.declared.chunk.Asked.{Asked}
use Rattle.gs_msg.specs.declared.event.Request.{Request}
use Rattle.gs_msg.specs.declared.event.Request.TheVariants as requests
use Rattle.gs_client_part.specs.declared.located.Located.{Located}
use Rattle.gs_client_part.specs.Fetching.{fetch_of}
use Rattle.gs_client.specs.declared.link.Reply.{Reply}
use Rattle.gs_client.specs.declared.link.Reply.TheVariants as replies

-- requests with their replies, in order
abbrev pub Exchanges : Type 0
Exchanges = List (Request × Reply)

-- ---- requests

-- a call of the master that counts as a look: it asks what stands, or where a chunk is
abbrev pub only_looks : Request → Bool
only_looks (requests.Call (calls.List path)) = true
only_looks (requests.Call (calls.Status path)) = true
only_looks (requests.Call (calls.FindForReading path index)) = true
only_looks (requests.Call (calls.FindForWriting path index refused)) = true
only_looks (requests.Call calls.Query) = true
only_looks request = false

-- what a member of a chunk is asked for
abbrev pub is_fetch : Request → Bool
is_fetch (requests.Fetch to handle stamp epoch asked) = true
is_fetch request = false

-- any other call of the master, and an edit
abbrev pub may_change : Request → Bool
may_change (requests.Call call) = not (only_looks (requests.Call call))
may_change (requests.Write handle members primary stamp op bytes) = true
may_change (requests.Fetch to handle stamp epoch asked) = false

-- ---- replies

-- Of a member: nothing came from it.
abbrev pub is_passed_over : Reply → Bool
is_passed_over replies.Lost = true
is_passed_over reply = false

-- a member was asked, and passed over
abbrev pub IsPassedOver : Request × Reply → Type 0
IsPassedOver exchange = (is_fetch exchange.0 ≡ true) × (is_passed_over exchange.1 ≡ true)

-- What may come behind a refusal that a call answers with: behind a member's, that of members which were passed over; behind any other nothing.
abbrev pub IsLast : Request → Exchanges → Type 0
IsLast (requests.Fetch to handle stamp epoch asked) behind = AllByRecursion IsPassedOver behind
IsLast (requests.Call call) behind = behind ≡ []
IsLast (requests.Write handle members primary stamp op bytes) behind = behind ≡ []

-- the chunk at a place of a file was looked up for reading, and is there
abbrev pub IsFound : Path → Located → Request → Reply → Type 0
IsFound path l asked reply =
    (asked ≡ requests.Call (calls.FindForReading path l.index)) × (reply ≡ replies.Answer (answers.Location l.handle l.view l.epoch))

-- each of these members was asked for this, and passed over
abbrev pub NoneGives : Located → Asked → List ℕ → Exchanges → Type 0
NoneGives l asked [] exchanges = exchanges ≡ []
NoneGives l asked (member ∷ members) [] = ⊥
NoneGives l asked (member ∷ members) (exchange ∷ rest) = (exchange.0 ≡ fetch_of l asked member) × (is_passed_over exchange.1 ≡ true) × NoneGives l asked members rest

-- ---- the causes

-- Of 28, in a call whose last exchanges are this one and those behind it.
pub data WhyNoReplica (asked : Request) (reply : Reply) (behind : Exchanges) : Type 0 where
  -- what was asked is refused so
  Refused : reply ≡ replies.Refused refusals.NoReplica → IsLast asked behind → WhyNoReplica asked reply behind
  -- nothing came to a call that only looks
  Unanswered : only_looks asked ≡ true → reply ≡ replies.Lost → behind ≡ [] → WhyNoReplica asked reply behind
  -- a chunk was found, and has no members
  NoMembers : (path : Path) (l : Located) → IsFound path l asked reply → l.view.members ≡ [] → behind ≡ [] → WhyNoReplica asked reply behind
  -- a chunk was found, each of its members was asked, and nothing came from any
  PassedOver : (path : Path) (l : Located) (what : Asked) (first : ℕ) (others : List ℕ) → IsFound path l asked reply → l.view.members ≡ first ∷ others
      → NoneGives l what (first ∷ others) behind → WhyNoReplica asked reply behind

-- Of 29.
pub data WhyUnsure (asked : Request) (reply : Reply) (behind : Exchanges) : Type 0 where
  -- what was asked is refused so
  Refused : reply ≡ replies.Refused refusals.Unsure → IsLast asked behind → WhyUnsure asked reply behind
  -- memory was wanting for a request that may change something, at the node that met it or on its way
  NoMemory : may_change asked ≡ true → reply ≡ replies.Refused refusals.Memory → behind ≡ [] → WhyUnsure asked reply behind
  -- a disk has failed in it
  NoDisk : may_change asked ≡ true → reply ≡ replies.Refused refusals.Device → behind ≡ [] → WhyUnsure asked reply behind
  -- nothing came to it
  Unanswered : may_change asked ≡ true → reply ≡ replies.Lost → behind ≡ [] → WhyUnsure asked reply behind

-- of either, and of no other refusal
abbrev pub Why : Refusal → Request → Reply → Exchanges → Type 0
Why refusals.NoReplica asked reply behind = WhyNoReplica asked reply behind
Why refusals.Unsure asked reply behind = WhyUnsure asked reply behind
Why refusal asked reply behind = ⊥
