-- How what is told of a chunk beside the nodes, its lists and counts by stamp, agrees with what its machine knows.
use Rattle.std.specs.Prelude.{◌≡◌, ◌⊎◌, ◌<◌, ◌≤◌, ◌++◌, ℕ, false, true, List, [], None, Option, Some, take}
use Rattle.gs_base.specs.declared.numbers.Stamp.{Stamp}
use Rattle.gs_lease.specs.declared.view.View.{View}
use Rattle.gs_replica.specs.Stands.{Edit}
use Rattle.gs_laws_chunk.specs.machine.Stamps.{stamp_at}
use Rattle.gs_laws_chunk.specs.machine.Machine.{ChunkWorld}
use Rattle.gs_laws_chunk.specs.machine.Laws.{BeginsList as Begins, Birth, least_of}

-- The edits of each chunk under each stamp; and of which chunk, under which stamp, this one is a copy, if it is one.
abbrev pub Lists : Type 0
Lists = ℕ → Stamp → List Edit

-- what is copied, or none
abbrev pub edits_copied : Lists → Option (ℕ × Stamp) → List Edit
edits_copied list None = []
edits_copied list (Some source) = list source.0 source.1

-- A view that no records tell behind any step, since it was settled and given up within one: as long as it is the last the master knows the chunk no more; nobody
-- may number in it, and its list begins that of the last lower one that stood.
pub record IsUnseen (w : ChunkWorld) (t : ℕ) : Type 0 where
  pub gone : w.entry.view.stamp ≡ t → w.entry.is_known ≡ false
  pub free : w.known.holder t ≡ None
  pub lower : ℕ
  pub below : lower < t
  pub last : (s : ℕ) → w.known.stood s ≡ true → s < t → s ≤ lower
  pub begins : Begins (w.known.list lower) (w.known.list t)

-- Of a stamp that stood, behind that of the birth, the list is the machine's. The list of the birth is what was copied, or empty.
pub record ListsShow (list : Lists) (copied : Option (ℕ × Stamp)) (chunk : ℕ) (b : Birth) (w : ChunkWorld) : Type 0 where
  pub own : (t : ℕ) → w.known.stood t ≡ true → w.known.born < t → (list chunk (stamp_at t) ≡ w.known.list t) ⊎ IsUnseen w t
  pub origin : edits_copied list copied ≡ b.origin

-- so many edits each server has had under each stamp
abbrev pub CountsShow : (ℕ → ℕ → Stamp → ℕ) → ℕ → ChunkWorld → Type 0
CountsShow reached chunk w = (server t : ℕ) → reached chunk server (stamp_at t) ≡ w.known.reached server t

-- Edits are the first ones of a list of the chunk's own, or of the chunk of which it is a copy.
pub record BeginsList (list : Lists) (copied : Option (ℕ × Stamp)) (chunk : ℕ) (edits : List Edit) : Type 0 where
  pub source : ℕ
  pub stamp : Stamp
  pub own : (source ≡ chunk) ⊎ (copied ≡ Some (source, stamp))
  pub behind : List Edit
  pub beginning : list source stamp ≡ edits ++ behind

-- the edits that are settled in a view
abbrev pub settled_in : Lists → (ℕ → ℕ → Stamp → ℕ) → ℕ → View → List Edit
settled_in list reached chunk view = take (least_of (λ server. reached chunk server view.stamp) view.members view.count) (list chunk view.stamp)
