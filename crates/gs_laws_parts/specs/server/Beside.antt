-- A server to which nothing happens while the machine goes on.
use Rattle.std.specs.Prelude.{◌≡◌, ◌⊎◌, ◌<◌, Bool, ℕ, true, false, None, is_some, ◌≤◌}
use Rattle.gs_store.specs.Standing.{LiveUndamaged}
use Rattle.gs_server.specs.Servers.{Server}
use Rattle.gs_server.specs.Runs.{slot_in}
use Rattle.gs_base.specs.declared.epoch.EpochEnd.TheVariants.{Prepare}
use Rattle.gs_base.specs.declared.numbers.Stamp.{Stamp}
use Rattle.gs_laws_chunk.specs.machine.Stamps.{stamp_at}
use Rattle.gs_laws_chunk.specs.machine.Machine.{Member, CopyIn, ChunkWorld, WasTold}
use Rattle.gs_laws_chunk.specs.machine.Events.{marked, Leads}
use Rattle.gs_laws_chunk.specs.machine.Laws.{IsReached, is_member}

-- Its member is as before, but for what only the proof sees: at a prepare those are intact which are whole.
abbrev pub IsSameMember : Member → Bool → Member → Type 0
IsSameMember m whole n = (n ≡ m) ⊎ (n ≡ marked m whole)

-- a member of the settled view with a live replica of which no block is damaged
pub record IsWholeAt (chunk : ℕ) (w : ChunkWorld) (s : Server) : Type 0 where
  pub member : is_member w s.me ≡ true
  pub live : is_some (slot_in chunk s).live ≡ true
  pub undamaged : LiveUndamaged (slot_in chunk s).live

-- a prepare between two worlds
abbrev pub HasPrepared : ChunkWorld → ChunkWorld → Type 0
HasPrepared w last = (x : ℕ) × (w.entry.epoch < x) × (x ≤ last.entry.epoch) × (last.known.how x ≡ Prepare)

-- What a server may be marked whole by: it is, in the settled view of a master that isn't rolling back, and of an earlier epoch.
pub record MayBeWhole (chunk : ℕ) (w : ChunkWorld) (s : Server) : Type 0 where
  pub still : w.entry.is_rolling ≡ false
  pub before : (w.members s.me).epoch < w.entry.epoch
  pub whole : IsWholeAt chunk w s

-- A copy of a chunk under another handle: where it was asked for, nobody might number edits in the old one's settled view, under this
-- stamp, and this server was a member. The machine of the new chunk brings the list of that view under the new stamp.
pub record IsCopyOf (old now : ChunkWorld) (at stamp : Stamp) (w : ChunkWorld) (me : ℕ) : Type 0 where
  pub reached : IsReached old
  pub leads : Leads old now
  pub quiet : old.entry.view.holder ≡ None
  pub member : is_member old me ≡ true
  pub at_is : at ≡ stamp_at old.entry.view.stamp
  pub new_stamp : ℕ
  pub stamp_is : stamp ≡ stamp_at new_stamp
  pub told : WasTold w me (CopyIn new_stamp (old.known.list old.entry.view.stamp) None)
