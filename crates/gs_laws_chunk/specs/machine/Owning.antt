-- What holds of each edit of a list by the edits before it: it stays where the lists of a chunk go on.
use Rattle.std.specs.Prelude.{◌≡◌, ◌⊎◌, ◌++◌, ◌∷◌, [], ℕ, List, Some, slice_get, take}
use Rattle.gs_replica.specs.Stands.{Edit}
use Rattle.gs_laws_chunk.specs.machine.Machine.{Known, ChunkWorld}
use Rattle.gs_laws_chunk.specs.machine.Events.{Leads}
use Rattle.gs_laws_chunk.specs.machine.Laws.{Birth, world_of}
use Rattle.gs_laws_chunk.specs.machine.Mastering.{AreOfMaster}

-- where it is told what holds of an edit behind some others
module _ (Own : List Edit → Edit → Type 0) where
  -- it holds of each edit of a list behind those before it,
  abbrev pub IsOwnList : List Edit → Type 0
  IsOwnList edits = (place : ℕ) (edit : Edit) → slice_get edits place ≡ Some edit → Own (take place edits) edit

  -- and of each list of a chunk.
  abbrev pub AreOwn : Known → Type 0
  AreOwn k = (t : ℕ) → IsOwnList (k.list t)

  -- It holds of a beginning of a list,
  abbrev pub BeginningsOwn : Type 0
  BeginningsOwn = (many : ℕ) (edits : List Edit) → IsOwnList edits → IsOwnList (take many edits)

  -- of a chunk that is born with such edits,
  abbrev pub BornOwn : Birth → Type 0
  BornOwn b = IsOwnList b.origin → AreOwn (world_of b).known

  -- where the master's events lead,
  abbrev pub MastersOwn : ChunkWorld → ChunkWorld → Type 0
  MastersOwn w v = (leads : Leads w v) → AreOfMaster w v leads → AreOwn w.known → AreOwn v.known

  -- and where each list is as it was, or has one more edit, of which it holds.
  abbrev pub AddsOwn : List Edit → List Edit → Type 0
  AddsOwn old new = (new ≡ old) ⊎ ((edit : Edit) × (new ≡ old ++ edit ∷ []) × Own old edit)

  abbrev pub ServersOwn : ChunkWorld → ChunkWorld → Type 0
  ServersOwn w v = ((t : ℕ) → AddsOwn (w.known.list t) (v.known.list t)) → AreOwn w.known → AreOwn v.known
