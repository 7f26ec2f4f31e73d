-- Ears and ways of nodes that are taken apart.
use Rattle.std.specs.Prelude.{◌≡◌, ◌++◌, ◌+◌, List, [], ◌∷◌, length, map, ⊤}
use Rattle.gs_msg.specs.declared.message.Message.{Message}
use Rattle.gs_msg.specs.declared.node.NodeId.{NodeId}
use Rattle.gs_msg.specs.declared.sent.Sent.{Sent}
use Rattle.gs_cluster_channel.specs.Settled.{Hearing, Putting}
use Rattle.gs_cluster_history.specs.declared.took.Took.{Took}
use Rattle.gs_cluster_history.specs.Histories.{Among, Kept, Upshot}
use Rattle.gs_cluster_node.specs.Nodes.{IsSound, leads_of}

module _ {C : Type 0} (Does : Took → C → Upshot → C → Type 0) (Starts : NodeId → C → List Message → Type 0) (all : List NodeId) where
  -- these are the ways and the ears of the nodes, in their order
  abbrev pub AreApart : List (Kept C) → List (List Putting) → List Hearing → Type 0
  AreApart [] [] [] = ⊤
  AreApart (k ∷ ks) (r ∷ rows) (e ∷ ears) = IsSound Does Starts all k r e × AreApart ks rows ears
  AreApart ks rows ears = ⊥

-- all that it has taken was put into a way to its node
abbrev pub IsPutBy : List (List Putting) → Hearing → Type 0
IsPutBy rows e = (x : Sent) → Among e.taken x → (r : List Putting) × Among rows r × (w : Putting) × Among r w × (w.to ≡ e.me) × Among w.put x

-- each row has lost its last way
abbrev pub Splits : List (List Putting) → List (List Putting) → List Putting → Type 0
Splits [] [] [] = ⊤
Splits (r ∷ rows) (l ∷ left) (w ∷ column) = (r ≡ l ++ w ∷ []) × Splits rows left column
Splits rows left column = ⊥

-- each row has a way to the node of each ear, in their order, and the ears have all parts but those of the ways
pub record AreAll (ears : List Hearing) (rows : List (List Putting)) : Type 0 where
  pub leads : (r : List Putting) → Among rows r → leads_of r ≡ map (λ (e : Hearing). e.me) ears
  pub whole : (e : Hearing) → Among ears e → e.parts + length rows ≡ 1024
