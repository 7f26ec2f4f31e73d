-- What happens at a server, event by event.
use Rattle.std.specs.Prelude.{◌≡◌, ◌≤◌, ℕ, ◌+◌, ◌==◌, ◌&&◌, Bool, true, false, List, [], ◌∷◌, Option, Some, None, is_some, Result, Ok, Err, refl}
use Rattle.gs_base.specs.declared.numbers.Moment.{Moment}
use Rattle.gs_base.specs.declared.numbers.Stamp.{Stamp}
use Rattle.gs_base.specs.declared.numbers.ReqId.{ReqId}
use Rattle.gs_base.specs.declared.epoch.EpochEnd.TheVariants.{Prepare, Rollback}
use Rattle.gs_base.specs.declared.refusal.Refusal.{Refusal}
use Rattle.gs_msg.specs.declared.message.Message.{Message}
use Rattle.gs_msg.specs.declared.node.NodeId.TheVariants as nodes
use Rattle.gs_msg.specs.declared.body.Body.{Body}
use Rattle.gs_msg.specs.declared.body.Body.TheVariants as bodies
use Rattle.gs_msg.specs.declared.chunk.Chunk.{Chunk}
use Rattle.gs_msg.specs.declared.chunk.Chunk.TheVariants as chunks
use Rattle.gs_replica.specs.Stands.{IsTouched}
use Rattle.gs_store.specs.Slots.{Slot, is_taken}
use Rattle.gs_store.specs.Stores.{slot_of}
use Rattle.gs_store.specs.Standing.{struck_by_damage}
use Rattle.gs_store.specs.Calls.{Call, called, LeadsTo}
use Rattle.gs_server_lease.specs.Leases.{moment_of}
use Rattle.gs_server.specs.Servers.{Server, new, store_of, handle, tick, restart, lose, damage, learn}

-- a message comes, time goes on, the server starts again, or what it keeps of a chunk is lost or damaged
pub data Event : Type 0 where
  Hears : Message → Moment → Event
  Ticks : Moment → Event
  Restarts : Event
  Loses : ℕ → Event
  Damages : ℕ → ℕ → Event

-- a loss or a damage that is refused changes nothing
abbrev pub unless_refused : Server → Result Server Refusal → Server
unless_refused s (Ok after) = after
unless_refused s (Err refusal) = s

-- the server behind an event; one for which memory is wanting is as if it hadn't come
abbrev pub behind : Event → Server → Server
behind (Hears message moment) s = (handle s message moment).after
behind (Ticks moment) s = (tick s moment).after
behind Restarts s = restart s
behind (Loses handle) s = unless_refused s (lose handle s)
behind (Damages handle block) s = unless_refused s (damage handle block s)

-- and behind all of them, one after the other
abbrev pub behind_all : List Event → Server → Server
behind_all [] s = s
behind_all (e ∷ events) s = behind_all events (behind e s)

abbrev pub slot_in : ℕ → Server → Slot
slot_in handle s = slot_of handle (store_of s)

-- What becomes of a chunk's slot is what one call of it makes, or it stays.
abbrev pub BecomesBy : ℕ → ℕ → Slot → Option Call → Slot → Type 0
BecomesBy block chunk s None after = after ≡ s
BecomesBy block chunk s (Some c) after = called block chunk c s ≡ Ok after

pub record IsByOneCall (handle : ℕ) (s after : Server) : Type 0 where
  pub call : Option Call
  pub is : BecomesBy s.block s.chunk (slot_in handle s) call (slot_in handle after)

-- or what some calls of it make, one after the other
pub record IsByCalls (handle : ℕ) (s after : Server) : Type 0 where
  pub calls : List Call
  pub leads : LeadsTo s.block s.chunk (slot_in handle s) calls (slot_in handle after)

-- an event takes a chunk's lease of a stamp, which wasn't the last one taken
pub record TakesLease (handle : ℕ) (stamp : Stamp) (e : Event) (s : Server) : Type 0 where
  pub other : is_taken stamp (slot_in handle s).taken ≡ false
  pub taken : (slot_in handle (behind e s)).taken ≡ Some stamp

-- a server of sizes that a configuration has, which has begun with nothing, behind some events
pub record IsReached (s : Server) : Type 0 where
  pub me : ℕ
  pub block : ℕ
  pub chunk : ℕ
  pub some_block : 1 ≤ block
  pub block_fits : block ≤ 65536
  pub chunk_fits : chunk ≤ 67108864
  pub events : List Event
  pub is : s ≡ behind_all events (new me block chunk)

-- the master ends the epoch in either way
abbrev pub prepared : Server → Server
prepared s = (learn s (s.kept.epoch + 1) Prepare).after

abbrev pub rolled_back : Server → Server
rolled_back s = (learn s (s.kept.epoch + 1) Rollback).after

-- Events behind which a rollback may give something else of a chunk than before: the end of an epoch, a loss, and a copy that
-- carries a sealed image.
abbrev pub carries_seal : Chunk → Bool
carries_seal (chunks.CopyIn stamp image sealed) = is_some sealed
carries_seal chunk = false

abbrev pub reseals_by : ℕ → Server → Body → Bool
reseals_by handle s (bodies.About other chunk) = (handle == other) && carries_seal chunk
reseals_by handle s (bodies.Epoch epoch end) = epoch == s.kept.epoch + 1
reseals_by handle s body = false

abbrev pub reseals : ℕ → Event → Server → Bool
reseals handle (Hears message moment) s = reseals_by handle s message.body
reseals handle (Loses other) s = handle == other
reseals handle e s = false

abbrev pub KeepSeal : ℕ → List Event → Server → Type 0
KeepSeal handle [] s = Unit {0}
KeepSeal handle (e ∷ events) s = (reseals handle e s ≡ false) × KeepSeal handle events (behind e s)

-- no damage of a block of the chunk that no edit had touched since the seal
abbrev pub Spares : ℕ → Event → Server → Type 0
Spares handle (Damages other block) s = (handle == other) ≡ true → IsTouched (struck_by_damage (slot_in handle s)) block
Spares handle e s = Unit {0}

abbrev pub AllSpare : ℕ → List Event → Server → Type 0
AllSpare handle [] s = Unit {0}
AllSpare handle (e ∷ events) s = Spares handle e s × AllSpare handle events (behind e s)

-- Worked: a server that has heard nothing is pushed bytes, starts again, and is told of a prepare.
abbrev pushes : ReqId → Event
pushes req = Hears (record { from = nodes.Client req.client; to = nodes.Server 0; body = bodies.Push req (97 ∷ []) }) (moment_of 0)

abbrev prepares : Event
prepares = Hears (record { from = nodes.Master; to = nodes.Server 0; body = bodies.Epoch 1 Prepare }) (moment_of 0)

pushed_and_prepared : (req : ReqId) → behind_all (pushes req ∷ Restarts ∷ prepares ∷ []) (new 0 4 16) ≡ prepared (new 0 4 16)
pushed_and_prepared req = refl

an_epoch_reseals_each_chunk : reseals 7 prepares (new 0 4 16) ≡ true
an_epoch_reseals_each_chunk = refl

but_not_where_it_stands_already : reseals 7 prepares (prepared (new 0 4 16)) ≡ false
but_not_where_it_stands_already = refl

a_loss_reseals_its_own : reseals 7 (Loses 6) (new 0 4 16) ≡ false
a_loss_reseals_its_own = refl
