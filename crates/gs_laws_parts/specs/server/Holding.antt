-- What servers hold of a chunk: the first edits of a view's list, and of a quiet chunk all of it.
use Rattle.std.specs.Prelude.{◌≡◌, ◌≤◌, ℕ, ◌++◌, true, List, Some, is_some}
use Rattle.gs_replica.specs.Stands.{Edit}
use Rattle.gs_store.specs.Slots.{count_of}
use Rattle.gs_store.specs.Standing.{StandsIn}
use Rattle.gs_server.specs.Servers.{Server}
use Rattle.gs_server.specs.Runs.{slot_in}
use Rattle.gs_laws_chunk.specs.machine.Stamps.{stamp_at}
use Rattle.gs_laws_chunk.specs.machine.Machine.{ChunkWorld}
use Rattle.gs_laws_parts.specs.server.Showing.{Setting}

-- a live replica stands for the first edits of the list of a view that was settled, or is
pub record HoldsFirst (c : Setting) (chunk : ℕ) (w : ChunkWorld) (s : Server) : Type 0 where
  pub stamp : ℕ
  pub settled : stamp ≤ w.entry.view.stamp
  pub edits : List Edit
  pub rest : List Edit
  pub begins : w.known.list stamp ≡ edits ++ rest
  pub stands : StandsIn c.block c.size (slot_in chunk s) edits

-- a server that has a live replica under the stamp of the view that is settled in a world
pub record IsUnder (chunk : ℕ) (w : ChunkWorld) (s : Server) : Type 0 where
  pub promise : (slot_in chunk s).promise ≡ stamp_at w.entry.view.stamp
  pub live : is_some (slot_in chunk s).live ≡ true

-- it has all of that view's list, as many edits as the view counts
pub record HoldsAll (c : Setting) (chunk : ℕ) (w : ChunkWorld) (s : Server) : Type 0 where
  pub stands : StandsIn c.block c.size (slot_in chunk s) (w.known.list w.entry.view.stamp)
  pub counts : count_of (slot_in chunk s).live ≡ Some w.entry.view.count
