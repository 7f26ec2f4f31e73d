-- What a server that survives an upgrade keeps of the prepared list.
use Rattle.std.specs.Prelude.{◌≡◌, ◌<◌, ◌+◌, ℕ, true, List, is_some}
use Rattle.gs_replica.specs.Stands.{Edit}
use Rattle.gs_store.specs.Slots.{sealed_of}
use Rattle.gs_store.specs.Moves.{sound_image}
use Rattle.gs_store.specs.Standing.{StandsIn, StoodIn, LiveUndamaged}
use Rattle.gs_server.specs.Servers.{Server}
use Rattle.gs_server.specs.Runs.{slot_in}
use Rattle.gs_laws_chunk.specs.machine.Stamps.{start_of, stamp_at}
use Rattle.gs_laws_parts.specs.server.Showing.{Setting}

-- By the epoch that it knows: until it learns of the prepare its live replica stands for the list, under the prepared stamp; then what it
-- has sealed does, and can be made live; and behind the rollback its live replica does again, under the first stamp of that epoch. No
-- block of these is damaged.
pub record KeepsPrepared (c : Setting) (chunk : ℕ) (s : Server) (upgrade prepared : ℕ) (edits : List Edit) : Type 0 where
  pub unlearned : s.kept.epoch < upgrade → ((slot_in chunk s).promise ≡ stamp_at prepared) × StandsIn c.block c.size (slot_in chunk s) edits × LiveUndamaged (slot_in chunk s).live
  pub learned : s.kept.epoch ≡ upgrade → StoodIn c.block c.size (slot_in chunk s) edits × (is_some (sound_image (sealed_of (slot_in chunk s))) ≡ true)
  pub rolled : s.kept.epoch ≡ upgrade + 1 → ((slot_in chunk s).promise ≡ stamp_at (start_of (upgrade + 1))) × StandsIn c.block c.size (slot_in chunk s) edits × LiveUndamaged (slot_in chunk s).live
