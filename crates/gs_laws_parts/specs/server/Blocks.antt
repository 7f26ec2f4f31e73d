-- Of which texts the blocks of a text are: those of a list are blocks of replicas.
use Rattle.std.specs.Prelude.{◌≡◌, ◌⊎◌, ℕ, ◌++◌, List, [], ◌∷◌, Some}
use Rattle.gs_block.specs.Stored.{block_at}
use Rattle.gs_replica.specs.Stands.{Edit, replica_of}
use Rattle.gs_store.specs.Slots.{Live, Slot}
use Rattle.gs_laws_parts.specs.server.Showing.{Setting}

-- each block of a new text is as in a replica, or as in the old text
abbrev pub BlocksOf : ℕ → List ℕ → List ℕ → List ℕ → Type 0
BlocksOf size new held old = (i : ℕ) → (block_at size i new ≡ block_at size i held) ⊎ (block_at size i new ≡ block_at size i old)

-- a live replica has each block of what a list gives that another list doesn't give
pub record HoldsBlocks (block size : ℕ) (s : Slot) (old new : List Edit) : Type 0 where
  pub live : Live
  pub held : s.live ≡ Some live
  pub blocks : BlocksOf block (replica_of size new).bytes live.replica.held.chunk.bytes (replica_of size old).bytes

-- a list of a view has one edit more, which a server's live replica has taken
pub record TakesEdit (c : Setting) (s : Slot) (old new : List Edit) : Type 0 where
  pub edit : Edit
  pub is : new ≡ old ++ edit ∷ []
  pub holds : HoldsBlocks c.block c.size s old new

-- where something happens at a server a list stays, or it is so
abbrev pub GoesOn : Setting → Slot → List Edit → List Edit → Type 0
GoesOn c s old new = (new ≡ old) ⊎ TakesEdit c s old new
