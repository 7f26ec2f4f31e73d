-- Histories that match, and their merging by clocks into one run.
use Rattle.std.specs.Prelude.{◌≡◌, ◌+◌, ◌==◌, ◌≤◌, ℕ, zero, suc, List, [], ◌∷◌, map, length, Option, Some, None, if◌then◌else◌, cond, nat_le, slice_get, slice_set, refl}
use Rattle.gs_msg.specs.declared.event.Event.{Event}
use Rattle.gs_msg.specs.declared.event.Happening.TheVariants as happenings
use Rattle.gs_msg.specs.declared.message.Message.{Message}
use Rattle.gs_msg.specs.declared.node.NodeId.{NodeId}
use Rattle.gs_cluster_history.specs.declared.took.Took.{Took}
use Rattle.gs_cluster_history.specs.declared.took.Took.TheVariants.{Heard, Did}
use Rattle.gs_cluster_history.specs.Histories.{Among, Begins, Entry, IsKept, Kept, Line, Past, Takes, Upshot, line_of, listing}

-- ---- what matches

-- What a node took was sent to it: it stands, with its clock and moment, in its sender's list.
abbrev pub Stands : {C : Type 0} → List (Line C) → NodeId → Took → Type 0
Stands {C} lines me (Heard sent) = (sent.message.to ≡ me) × (l : Line C) × Among lines l × (l.me ≡ sent.from) × (slice_get l.past.sent sent.place ≡ Some (listing sent))
Stands lines me (Did event) = Unit {0}

abbrev pub lines_of : {C : Type 0} → List (Kept C) → List (Line C)
lines_of ks = map line_of ks

abbrev pub Matches : {C : Type 0} → List (Kept C) → Type 0
Matches {C} ks = (k : Kept C) → Among ks k → (e : Entry) → Among k.entries e → Stands (lines_of ks) k.me e.took

-- ---- the merging

-- an entry of the history at this place of a list
pub record Place : Type 0 where
  pub at : ℕ
  pub entry : Entry

-- the one of the lesser clock, the former of equal ones
abbrev pub lesser : ℕ → Entry → Option Place → Option Place
lesser i e None = Some (record { at = i; entry = e })
lesser i e (Some p) = if nat_le e.clock p.entry.clock then Some (record { at = i; entry = e }) else Some p

-- the next of some histories of which this much is left, the first of them at this place
abbrev pub least : ℕ → List (List Entry) → Option Place
least i [] = None
least i ([] ∷ rests) = least (suc i) rests
least i ((e ∷ es) ∷ rests) = lesser i e (least (suc i) rests)

abbrev pub behind_first : List Entry → List Entry
behind_first [] = []
behind_first (e ∷ es) = es

-- the first entry of this history is taken
abbrev pub without_first : List (List Entry) → ℕ → List (List Entry)
without_first [] i = []
without_first (rest ∷ rests) zero = behind_first rest ∷ rests
without_first (rest ∷ rests) (suc i) = rest ∷ without_first rests i

abbrev pub count : List (List Entry) → ℕ
count [] = 0
count (rest ∷ rests) = length rest + count rests

-- the next one, and what comes of the rest
abbrev pub next_and : (List (List Entry) → List Place) → List (List Entry) → Option Place → List Place
next_and go_on rests None = []
next_and go_on rests (Some p) = p ∷ go_on (without_first rests p.at)

-- so many entries by (clock, history), as long as there are some
abbrev pub merged_from : ℕ → List (List Entry) → List Place
merged_from zero rests = []
merged_from (suc n) rests = next_and (merged_from n) rests (least 0 rests)

-- all of them
abbrev pub merged : List (List Entry) → List Place
merged rests = merged_from (count rests) rests

-- ---- the run

-- a message that is taken is delivered, by its sender and its place there, at the moment at which it was sent
abbrev pub event_of : Took → Event
event_of (Heard sent) = record { moment = sent.moment; happening = happenings.Deliver (record { sender = sent.from; place = sent.place }) }
event_of (Did event) = event

-- the entries of one history
abbrev pub mine : ℕ → List Place → List Entry
mine i [] = []
mine i (p ∷ ps) = cond (p.at == i) (p.entry ∷ mine i ps) (mine i ps)

-- clocks never fall from this on
abbrev pub Rises : ℕ → List Place → Type 0
Rises clock [] = Unit {0}
Rises clock (p ∷ ps) = (clock ≤ p.entry.clock) × Rises p.entry.clock ps

module _ {C : Type 0} (Does : Took → C → Upshot → C → Type 0) where
  -- One node takes an entry, and the others stay as they are. A message that it takes has been sent by then.
  pub record Comes (p : Place) (old new : List (Line C)) : Type 0 where
    pub line : Line C
    pub after : Past C
    pub at : slice_get old p.at ≡ Some line
    pub takes : Takes Does line.me line.past p.entry after
    pub known : Stands old line.me p.entry.took
    pub rest : new ≡ slice_set old p.at (record { me = line.me; past = after })

  -- one after the other
  abbrev pub RunsAll : List Place → List (Line C) → List (Line C) → Type 0
  RunsAll [] old new = new ≡ old
  RunsAll (p ∷ ps) old new = (mid : List (Line C)) × Comes p old mid × RunsAll ps mid new

  -- For how a node begins: each history leads from there.
  module _ (Starts : NodeId → C → List Message → Type 0) where
    abbrev pub AllKept : List (Kept C) → Type 0
    AllKept ks = (k : Kept C) → Among ks k → IsKept Does Starts k

    -- these are the nodes as they began
    pub record AreBegun (ks : List (Kept C)) (begun : List (Line C)) : Type 0 where
      pub nodes : map (λ (l : Line C). l.me) begun ≡ map (λ (k : Kept C). k.me) ks
      pub begins : (l : Line C) → Among begun l → Begins Does Starts l.me l.past

  -- The places are a run of all nodes from how they began to what they are, in which each history stands in its order, and clocks rise.
  pub record IsRunOf (ks : List (Kept C)) (begun : List (Line C)) (places : List Place) : Type 0 where
    pub runs : RunsAll places begun (lines_of ks)
    pub each : (i : ℕ) (k : Kept C) → slice_get ks i ≡ Some k → mine i places ≡ k.entries
    pub rises : Rises 0 places

-- the entries of all histories, by clocks
abbrev pub places_of : {C : Type 0} → List (Kept C) → List Place
places_of {C} ks = merged (map (λ (k : Kept C). k.entries) ks)

-- Worked: of two histories, the first has entries at clocks 1 and 4, the second at 3 and 4.
module _ (t : Took) (u : Upshot) where
  abbrev e : ℕ → Entry
  e clock = record { clock = clock; took = t; outcome = u }

  abbrev at : ℕ → ℕ → Place
  at i clock = record { at = i; entry = e clock }

  merged_by_clock : merged ((e 1 ∷ e 4 ∷ []) ∷ (e 3 ∷ e 4 ∷ []) ∷ []) ≡ at 0 1 ∷ at 1 3 ∷ at 0 4 ∷ at 1 4 ∷ []
  merged_by_clock = refl
