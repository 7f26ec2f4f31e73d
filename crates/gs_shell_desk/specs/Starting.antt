-- A store over the disks of a journal.
use Rattle.std.specs.Prelude.{◌≡◌, ℕ, false, List, [], None, Ok}
use Rattle.gs_base.specs.declared.config.Config.{Config}
use Rattle.gs_client.specs.declared.client.Client.{Client}
use Rattle.gs_master.specs.declared.turn.Turn.{Turn}
use Rattle.gs_nodes.specs.Happenings.{Opens}
use Rattle.gs_nodes.specs.Nodes.{Nodes, new_nodes}
use Rattle.gs_nodes.specs.declared.place.MasterPlace.{MasterPlace}
use Rattle.gs_shell_desk.specs.Ways.{DeliversWhole, SendsAll, Way, way_of}
use Rattle.gs_shell_desk.specs.declared.desk.Desk.{Desk}

-- a client that has asked nothing
abbrev pub new_client : ℕ → Config → Client
new_client number config = record { last = record { client = record { 0 = number }; number = 0 }; chunk = config.chunk }

-- at moment 0, where nothing is under way or held back
abbrev pub begun : {D : Type 0} → Nodes D → Way D
begun nodes = record { nodes = nodes; moment = record { 0 = 0 }; queue = []; kind = None; held = []; drops = 0; is_short = false }

-- The servers and one client have heard nothing; the master is what the disks tell, and what it sends at first is delivered with all
-- that follows.
pub record Starts {D : Type 0} (seen : D → List ℕ) (failures : D → ℕ) (config : Config) (disks : D × D) (new : Desk D) : Type 0 where
  pub place : MasterPlace D
  pub turn : Turn
  pub mid : Way D
  pub opens : Opens seen failures config disks (Ok turn) place
  pub sends : SendsAll turn.sent.items (begun (new_nodes config 1 place)) mid
  pub delivers : DeliversWhole seen failures mid (way_of new.wire)
  pub client : new.caller.client ≡ new_client 1 config
