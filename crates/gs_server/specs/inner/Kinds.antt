-- Kinds of messages about one chunk.
use Rattle.std.specs.Prelude.{Bool, true, false}
use Rattle.gs_msg.specs.declared.chunk.Chunk.{Chunk}
use Rattle.gs_msg.specs.declared.chunk.Chunk.TheVariants as chunks

-- of its replica, and not of a lease or of the edits under it
abbrev pub is_of_replica : Chunk → Bool
is_of_replica (chunks.Create stamp) = true
is_of_replica (chunks.Advance stamp) = true
is_of_replica (chunks.Drop epoch promise) = true
is_of_replica (chunks.Fetch req stamp epoch asked) = true
is_of_replica (chunks.CopyOut stamp target with_sealed) = true
is_of_replica (chunks.CopyIn stamp image sealed) = true
is_of_replica chunk = false
