-- Nodes as they begin.
use Rattle.std.specs.Prelude.{List, [], map}
use Rattle.gs_msg.specs.declared.message.Message.{Message}
use Rattle.gs_msg.specs.declared.node.NodeId.{NodeId}
use Rattle.gs_cluster_channel.specs.Named.{IsNamed}
use Rattle.gs_cluster_channel.specs.Names.{Name}
use Rattle.gs_cluster_history.specs.Histories.{Kept}
use Rattle.gs_cluster_history.specs.Logs.{first_sent}
use Rattle.gs_cluster_threads.specs.declared.wiring.Seed.{Seed}

abbrev pub numbers_of : {C : Type 0} → List (Seed C) → List NodeId
numbers_of {C} seeds = map (λ (s : Seed C). s.line.me) seeds

-- The channel into it has the name that stands for its number, and it may begin so.
pub record MayBegin {C : Type 0} (Starts : NodeId → C → List Message → Type 0) (names : NodeId → Name) (s : Seed C) : Type 0 where
  pub named : IsNamed names s.line.me s.line.pass
  pub starts : Starts s.line.me s.core s.turn.sent.items

-- a node that has taken nothing, and sent what it sends at first
abbrev pub fresh : {C : Type 0} → Seed C → Kept C
fresh s = record { me = s.line.me; past = record { core = s.core; clock = 0; sent = first_sent s.turn }; entries = [] }
