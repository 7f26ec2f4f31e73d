-- Nodes before they have their ways.
use Rattle.std.specs.Prelude.{◌≡◌, ◌+◌, ℕ, List, [], length}
use Rattle.gs_msg.specs.declared.message.Message.{Message}
use Rattle.gs_msg.specs.declared.node.NodeId.{NodeId}
use Rattle.gs_cluster_channel.specs.Settled.{Putting}
use Rattle.gs_cluster_history.specs.Histories.{Among, Kept}
use Rattle.gs_cluster_history.specs.Logs.{first_sent}
use Rattle.gs_cluster_threads.specs.declared.wiring.Berth.{Berth}
use Rattle.gs_cluster_threads.specs.declared.wiring.Seed.{Seed}

-- with the ear of its channel, of which this many parts are left
abbrev pub berthed : {N C : Type 0} → ℕ → Seed C → Berth N C
berthed parts s = record { ear = record { me = s.line.me; parts = parts; taken = [] }; core = s.core; turn = s.turn }

abbrev pub with_parts : {N C : Type 0} → ℕ → Berth N C → Berth N C
with_parts parts b = record { ear = record { me = b.ear.me; parts = parts; taken = b.ear.taken }; core = b.core; turn = b.turn }

abbrev pub way_into : {N C : Type 0} → Berth N C → Putting
way_into b = record { to = b.ear.me; put = [] }

-- it may begin, has heard nothing, and its ear has all parts but those of the ways into it
pub record Fits {N C : Type 0} (Starts : NodeId → C → List Message → Type 0) (all : List NodeId) (b : Berth N C) : Type 0 where
  pub starts : Starts b.ear.me b.core b.turn.sent.items
  pub mine : Among all b.ear.me
  pub nothing : b.ear.taken ≡ []
  pub whole : b.ear.parts + length all ≡ 1024

abbrev pub begun : {N C : Type 0} → Berth N C → Kept C
begun b = record { me = b.ear.me; past = record { core = b.core; clock = 0; sent = first_sent b.turn }; entries = [] }
