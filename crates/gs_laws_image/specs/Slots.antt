-- What the slots of a store's servers keep, and what is said of the images that copies carry.
use Rattle.std.specs.Prelude.{◌≡◌, ◌+◌, ℕ, List, [], ◌∷◌}
use Rattle.std.specs.List.{AllByRecursion}
use Rattle.gs_msg.specs.declared.body.Body.{Body}
use Rattle.gs_msg.specs.declared.body.Body.TheVariants as bodies
use Rattle.gs_msg.specs.declared.chunk.Chunk.{Chunk}
use Rattle.gs_msg.specs.declared.chunk.Chunk.TheVariants as chunks
use Rattle.gs_server.specs.Servers.{Server, restart}
use Rattle.gs_store.specs.Calls.{SealedBy}
use Rattle.gs_server_image.specs.Writable.{IsServer, IsServerTold}
use Rattle.gs_store_image.specs.StoreWritable.{AreSlotsOf}

-- A sealed image that is carried was sealed under no stamp above that of the copy.
abbrev pub IsSealedAbout : Chunk → Type 0
IsSealedAbout (chunks.CopyIn stamp image sealed) = SealedBy stamp sealed
IsSealedAbout said = Unit {0}

abbrev pub IsSealedBody : Body → Type 0
IsSealedBody (bodies.About handle said) = IsSealedAbout said
IsSealedBody body = Unit {0}

-- a server of this number and these sizes, each slot of which is one of a store of the sizes
pub record IsServerOf (me block chunk : ℕ) (s : Server) : Type 0 where
  pub me_is : s.me ≡ me
  pub block_is : s.block ≡ block
  pub chunk_is : s.chunk ≡ chunk
  pub slots : AreSlotsOf s.block s.chunk s.kept.slots

-- servers so, numbered from here on
abbrev pub AreServersOf : ℕ → ℕ → ℕ → List Server → Type 0
AreServersOf block chunk me [] = Unit {0}
AreServersOf block chunk me (s ∷ ss) = IsServerOf me block chunk s × AreServersOf block chunk (me + 1) ss

-- what stands in memory of it is read again, where it can be written
abbrev pub IsServerHeld : Server → Type 0
IsServerHeld s = IsServerTold s → AreSlotsOf s.block s.chunk s.kept.slots → IsServer s.me s.block s.chunk (restart s)

-- a restart drops nothing of them, as right behind one
abbrev pub AreRestarted : List Server → Type 0
AreRestarted servers = AllByRecursion (λ s. restart s ≡ s) servers
