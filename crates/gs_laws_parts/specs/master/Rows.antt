-- What the master makes at an event of the rows that it keeps of a chunk, with the machine of that chunk.
use Rattle.std.specs.Prelude.{◌≡◌, ◌⊎◌, ◌<◌, ◌≤◌, ℕ, Bool, true, false, None, Some, is_some, List}
use Rattle.std.specs.FinMap as fin
use Rattle.std.specs.List.{AllByRecursion}
use Rattle.gs_base.specs.declared.config.Config.{Config}
use Rattle.gs_base.specs.declared.numbers.Stamp.{Stamp}
use Rattle.gs_laws_chunk.specs.machine.Laws.{world_of}
use Rattle.gs_laws_chunk.specs.machine.Machine.{ChunkWorld}
use Rattle.gs_laws_chunk.specs.machine.Mastering.{NonePrepared}
use Rattle.gs_laws_chunk.specs.machine.Stamps.{stamp_at}
use Rattle.gs_laws_parts.specs.master.Families.{Alive, Family, FamilyGoes, HeardOf, Life, MarksOf, Unborn}
use Rattle.gs_laws_moves.specs.moves.Epochs.{EndsOnce, EpochGoes, prepares, rolls_back}
use Rattle.gs_laws_moves.specs.moves.Guards.{Heard}
use Rattle.gs_laws_moves.specs.moves.Laws.{IsMadeWell}
use Rattle.gs_msg.specs.declared.body.Body.{Body}
use Rattle.gs_msg.specs.declared.body.Body.TheVariants as bodies
use Rattle.gs_msg.specs.declared.message.Message.{Message}
use Rattle.gs_master_spec.specs.Durable.{Durable, Settled, is_listed, is_rolling}
use Rattle.gs_master_spec.specs.State.{State, Turn}

-- a chunk that is known and has no row is settled on no view but that of its birth
abbrev pub IsFirst : ℕ → Durable → ChunkWorld → Type 0
IsFirst chunk d w = w.entry.is_known ≡ true → fin.get d.chunks chunk ≡ None → w.known.view ≡ w.known.born

-- What a step of the master makes of what the records tell of a chunk. A view that appears where none was told is a later one. One that is settled, of a chunk that is forgotten then, is
-- one in which nobody may number. Where a rollback is committed it is accepted at this step, within the epoch, and nothing is settled beside; and each view that it gives back is told, and
-- no other, of a chunk that a file has then. An epoch begins by a prepare where one is accepted alone: then nothing is settled beside, and of each chunk that was known a view is told.
pub record RowsGo (chunk : ℕ) (d e : Durable) (w v : ChunkWorld) : Type 0 where
  pub epochs : EpochGoes d e
  pub appears : (y : Settled) → fin.get d.chunks chunk ≡ None → fin.get e.chunks chunk ≡ Some y → w.known.view < v.known.view
  pub first : IsFirst chunk d w → IsFirst chunk e v
  pub fades : v.entry.is_known ≡ false → w.known.view < v.known.view → v.known.holder v.known.view ≡ None
  pub back : w.known.top < v.known.view → (rolls_back d e ≡ true) × (v.known.current ≡ w.known.current) × ((w.known.view ≡ w.known.top) ⊎ (v.known.stood w.known.top ≡ false))
  pub given : w.known.top < v.known.view → v.known.stood v.known.view ≡ true → is_some (fin.get e.chunks chunk) ≡ true
  pub returned : w.known.top < v.known.view → is_some (fin.get e.chunks chunk) ≡ true → v.known.stood v.known.view ≡ true
  pub listed : w.known.top < v.known.view → is_some (fin.get e.chunks chunk) ≡ true → is_listed e chunk ≡ true
  pub unprepared : prepares d e ≡ false → NonePrepared w v
  pub prepared : prepares d e ≡ true → v.entry.was_known ≡ true → (is_some (fin.get d.chunks chunk) ≡ true) × (w.entry.is_known ≡ true) × (v.entry.prepared.stamp ≡ w.known.view) × (v.known.view ≡ w.known.view)

-- ---- copies

-- A copy of the chunk is asked for under a view that stood at the beginning of these moves, or was settled since: nobody may number in it. The chunk was known then, and a file has it.
pub record IsCopiedSince (chunk : ℕ) (d : Durable) (low : ℕ) (was_known : Bool) (w : ChunkWorld) (at : Stamp) : Type 0 where
  pub t : ℕ
  pub known : was_known ≡ true
  pub is : at ≡ stamp_at t
  pub since : low ≤ t
  pub within : t ≤ w.known.view
  pub free : w.known.holder t ≡ None
  pub stood : w.known.stood t ≡ true
  pub late : w.known.born < t
  pub listed : is_listed d chunk ≡ true

abbrev pub CopiesSince : ℕ → Durable → ℕ → Bool → ChunkWorld → Body → Type 0
CopiesSince chunk d low was_known w (bodies.MakeCopy old at new stamp) = old ≡ chunk → IsCopiedSince chunk d low was_known w at
CopiesSince chunk d low was_known w body = Unit {0}

-- so it is of all that is sent to copy the chunk
abbrev pub AreCopiedSince : ℕ → Durable → ℕ → Bool → ChunkWorld → List Message → Type 0
AreCopiedSince chunk d low was_known w messages = AllByRecursion (λ (m : Message). CopiesSince chunk d low was_known w m.body) messages

-- ---- all chunks

-- so it is of one that lives, and of one that is born; nothing is rolled back then
abbrev pub RowsIn : (chunk : ℕ) (s u : State) (messages : List Message) → Life chunk s → Life chunk u → Type 0
RowsIn chunk s u messages (Alive a) (Alive b) = RowsGo chunk s.durable u.durable a.world b.world × AreCopiedSince chunk u.durable a.world.known.view a.world.entry.is_known b.world messages
RowsIn chunk s u messages (Unborn k) (Alive b) = RowsGo chunk s.durable u.durable (world_of b.reached.0) b.world × (is_rolling s.durable.phase ≡ false) × AreCopiedSince chunk u.durable 0 true b.world messages
RowsIn chunk s u messages life (Unborn k) = Unit {0}

pub record FamilyRows (keeps : ℕ → Bool) (whole : ℕ → ℕ → Bool) (s u : State) (messages : List Message) (family : Family s) : Type 0 where
  pub goes : FamilyGoes keeps whole s u messages family
  pub rows : (chunk : ℕ) → RowsIn chunk s u messages (family chunk) (goes.last chunk)

-- So it is over each turn that ends one epoch at most.
abbrev pub FamiliesGoByRows : Type 0
FamiliesGoByRows = (keeps : ℕ → Bool) (whole : ℕ → ℕ → Bool) (config : Config) (heard : Heard) (s : State) (t : Turn) (family : Family s) → ((chunk : ℕ) → HeardOf chunk s heard (family chunk)) → ((chunk : ℕ) → MarksOf chunk s (whole chunk) (family chunk))
    → EndsOnce config (IsMadeWell config heard) s t → FamilyRows keeps whole s t.after t.sent family
