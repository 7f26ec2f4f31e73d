-- Room of several chunks that is given up.
use Rattle.std.specs.Prelude.{◌≡◌, ℕ, List, [], Option, None, map}
use Rattle.std.specs.List.{All, flat_map}
use Rattle.std.specs.Ordering.{nat_cmp}
use Rattle.std.specs.FinMap as fin
use Rattle.gs_base_table.specs.Slots.{HasRoom, live}
use Rattle.gs_master_state.specs.declared.undo.ChunkBefore.{ChunkBefore}
use Rattle.gs_master_state.specs.declared.undo.Undo.{Undo}
use Rattle.gs_master_state.specs.declared.undo.Undo.TheVariants as undos

-- these chunks have no room any more, and none has been made
pub record GivesUpEach {V : Type 0} (old new : List (ℕ × Option V)) (chunks : List ℕ) : Type 0 where
  pub none : All (λ chunk. HasRoom nat_cmp new chunk → ⊥) chunks
  pub fewer : (other : ℕ) → HasRoom nat_cmp new other → HasRoom nat_cmp old other

-- of these chunks none has room at which nothing stands
abbrev pub HaveNoFreeRoom : {V : Type 0} → List (ℕ × Option V) → List ℕ → Type 0
HaveNoFreeRoom slots chunks = All (λ chunk. fin.get (live nat_cmp slots) chunk ≡ None → HasRoom nat_cmp slots chunk → ⊥) chunks

-- and no room has been made
pub record ReleasesEach {V : Type 0} (old new : List (ℕ × Option V)) (chunks : List ℕ) : Type 0 where
  pub none : HaveNoFreeRoom new chunks
  pub fewer : (other : ℕ) → HasRoom nat_cmp new other → HasRoom nat_cmp old other

abbrev pub chunks_in : List ChunkBefore → List ℕ
chunks_in forgotten = map (λ (stood : ChunkBefore). stood.chunk) forgotten

-- what a record forgot
abbrev pub forgotten_in : Undo → List ChunkBefore
forgotten_in (undos.Edit before) = before.forgotten.items
forgotten_in _ = []

-- the chunks that records forgot
abbrev pub all_forgotten : List Undo → List ℕ
all_forgotten stood = flat_map (λ undo. chunks_in (forgotten_in undo)) stood
