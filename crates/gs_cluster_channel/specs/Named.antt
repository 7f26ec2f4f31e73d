-- Passes of named channels.
use Rattle.std.specs.Prelude.{◌≡◌}
use Rattle.crossbeam_channel.specs.Claims.{Pass, no_key, view}
use Rattle.gs_msg.specs.declared.node.NodeId.{NodeId}
use Rattle.gs_msg.specs.declared.sent.Sent.{Sent}
use Rattle.gs_cluster_channel.specs.declared.hand.Hand.{Hand}
use Rattle.gs_cluster_channel.specs.Names.{Name}

abbrev pub no_name : Name
no_name = record { table = (no_key {X = Sent}).table_id; key = no_key {X = Sent} }

-- what a pass knows
abbrev pub known : Pass Sent Hand → Hand
known p = view p

-- the pass is one to the channel into this node
abbrev pub IsNamed : (NodeId → Name) → NodeId → Pass Sent Hand → Type 0
IsNamed names to p = (p.table_id ≡ (names to).table) × (p.me.0.of ≡ (names to).key)
