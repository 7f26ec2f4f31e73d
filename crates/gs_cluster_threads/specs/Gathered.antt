-- What a cluster comes to when its threads have ended.
use Rattle.std.specs.Prelude.{◌≡◌, ℕ, List, map, length, Result, Ok, Err, ⊤}
use Rattle.gs_base.specs.declared.refusal.Refusal.{Refusal}
use Rattle.gs_base.specs.declared.refusal.Refusal.TheVariants as refusals
use Rattle.gs_msg.specs.declared.message.Message.{Message}
use Rattle.gs_msg.specs.declared.node.NodeId.{NodeId}
use Rattle.gs_cluster_history.specs.declared.took.Took.{Took}
use Rattle.gs_cluster_history.specs.Histories.{Among, Kept, Upshot}
use Rattle.gs_cluster_history.specs.Merging.{AllKept, Matches}
use Rattle.gs_cluster_notes.specs.Notes.{AllKeep}
use Rattle.gs_cluster_notes.specs.declared.notes.Notes.{Notes}
use Rattle.gs_cluster_threads.specs.declared.gathering.Gathered.{Gathered}
use Rattle.gs_cluster_threads.specs.declared.gathering.Member.{Member}

-- All is well, or memory is wanting. A store is given only where as many are given as there have to be, and `Stray` is said only where they aren't.
abbrev pub EndsAs : {A : Type 0} → (A → Type 0) → ℕ → ℕ → Result A Refusal → Type 0
EndsAs Well many all (Ok a) = (many ≡ all) × Well a
EndsAs Well many all (Err refusals.Memory) = ⊤
EndsAs Well many all (Err refusals.Stray) = many ≡ all → ⊥
EndsAs Well many all (Err refusal) = ⊥

abbrev pub member_of : {C : Type 0} → Kept C → Member C
member_of k = record { me = k.me; core = k.past.core }

-- These notes are of these nodes, each of the one in its place.
abbrev pub AllTell : {C : Type 0} → List (Kept C) → List Notes → Type 0
AllTell {C} nodes notes = AllKeep notes (map (λ (k : Kept C). k.entries) nodes) (map (λ (k : Kept C). k.past.sent) nodes)

module _ {C : Type 0} (Does : Took → C → Upshot → C → Type 0) (Starts : NodeId → C → List Message → Type 0) (all : List NodeId) where
  -- The members are all nodes, in the order of their numbers, these among them. Each node's history leads to what it is, the histories
  -- match, and the notes are of them.
  pub record IsWhole (given : List (Kept C)) (members : List (Member C)) (notes : List Notes) : Type 0 where
    pub nodes : List (Kept C)
    pub among : (k : Kept C) → Among given k → Among nodes k
    pub numbers : map (λ (k : Kept C). k.me) nodes ≡ all
    pub kept : AllKept Does Starts nodes
    pub match : Matches nodes
    pub are : members ≡ map member_of nodes
    pub told : AllTell nodes notes

  -- of so many nodes, these among them
  abbrev pub Gathers : ℕ → List (Kept C) → Result (Gathered C) Refusal → Type 0
  Gathers many given result = EndsAs (λ (g : Gathered C). IsWhole given g.members.items g.notes.items) many (length all) result
