-- Places for nodes, one for each number.
use Rattle.std.specs.Prelude.{◌≡◌, ◌+◌, ℕ, suc, List, [], ◌∷◌, Option, Some, None, length, map, slice_get}
use Rattle.gs_msg.specs.declared.node.NodeId.{NodeId}
use Rattle.gs_cluster_history.specs.Histories.{Among, Kept}

-- how many are empty
abbrev pub holes : {X : Type 0} → List (Option X) → ℕ
holes [] = 0
holes (None ∷ xs) = suc (holes xs)
holes (Some x ∷ xs) = holes xs

-- a node stands in the place of its number only
pub record Holds {C : Type 0} (all : List NodeId) (places : List (Option (Kept C))) : Type 0 where
  pub long : length places ≡ length all
  pub own : (i : ℕ) (k : Kept C) → slice_get places i ≡ Some (Some k) → slice_get all i ≡ Some k.me

-- one of those that were empty has this node
pub record Takes {C : Type 0} (all : List NodeId) (node : Kept C) (old new : List (Option (Kept C))) : Type 0 where
  pub holds : Holds all new
  pub fewer : holes new + 1 ≡ holes old
  pub here : Among new (Some node)
  pub stay : (k : Kept C) → Among old (Some k) → Among new (Some k)

-- those are these in the order of their numbers
pub record InOrder {C : Type 0} (all : List NodeId) (given nodes : List (Kept C)) : Type 0 where
  pub numbers : map (λ (k : Kept C). k.me) nodes ≡ all
  pub among : (k : Kept C) → Among given k → Among nodes k
