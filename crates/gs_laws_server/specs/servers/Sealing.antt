-- What copies bring to a server.
use Rattle.std.specs.Prelude.{◌≡◌, ◌≤◌, ℕ, true, List, [], Some, None, refl}
use Rattle.gs_base.specs.declared.numbers.Moment.{Moment}
use Rattle.gs_base.specs.declared.numbers.Stamp.{Stamp}
use Rattle.gs_base.specs.Stamps.{is_before}
use Rattle.gs_block.specs.Stored.{digests_of, count_of}
use Rattle.gs_replica.specs.Copies.{Image, SealedImage}
use Rattle.gs_replica.specs.Stands.{Edit, IsTaken, replica_of}
use Rattle.gs_msg.specs.declared.node.NodeId.{NodeId}
use Rattle.gs_msg.specs.declared.chunk.Chunk.TheVariants.{CopyIn}
use Rattle.gs_server.specs.Servers.{Server, handle_chunk}
use Rattle.gs_server.specs.Runs.{slot_in}

-- a server of sizes that a configuration has
pub record HasSizes (s : Server) : Type 0 where
  pub some_block : 1 ≤ s.block
  pub block_fits : s.block ≤ 65536
  pub chunk_fits : s.chunk ≤ 67108864

-- an image is what a list of edits gives, each of which is accepted in turn
pub record IsImageOf (image : Image) (edits : List Edit) (s : Server) : Type 0 where
  pub taken : IsTaken s.chunk edits
  pub is : image ≡ replica_of s.chunk edits

-- and of a sealed one with the digests of its blocks
pub record IsSealedOf (sealed : SealedImage) (edits : List Edit) (s : Server) : Type 0 where
  pub image : IsImageOf sealed.image edits s
  pub digests : sealed.digests ≡ digests_of s.block (replica_of s.chunk edits).bytes

-- a server takes a copy of a chunk, under a stamp above the promise, which carries a sealed image that a list of edits gives
pub record TakesSealed (handle : ℕ) (edits : List Edit) (s after : Server) : Type 0 where
  pub from : NodeId
  pub stamp : Stamp
  pub image : Image
  pub sealed : SealedImage
  pub moment : Moment
  pub sizes : HasSizes s
  pub above : is_before (slot_in handle s).promise stamp ≡ true
  pub is_sealed : IsSealedOf sealed edits s
  pub taken : (handle_chunk s from handle (CopyIn stamp image (Some sealed)) moment).said ≡ None
  pub is : after ≡ (handle_chunk s from handle (CopyIn stamp image (Some sealed)) moment).after

-- Worked: no edits give no bytes, which have no digests.
of_no_edits : (replica_of 16 []).bytes ≡ []
unfolding replica_of
of_no_edits = refl

without_digests : digests_of 4 [] ≡ []
unfolding count_of
without_digests = refl
