-- The kind of what is said.
use Rattle.std.specs.Prelude.{◌≡◌, ℕ, refl}
use Rattle.gs_base.specs.declared.numbers.Stamp.{Stamp}
use Rattle.gs_msg.specs.declared.kind.Kind.{Kind}
use Rattle.gs_msg.specs.declared.kind.Kind.TheVariants as kinds
use Rattle.gs_msg.specs.declared.chunk.Chunk.{Chunk}
use Rattle.gs_msg.specs.declared.chunk.Chunk.TheVariants as chunks
use Rattle.gs_msg.specs.declared.body.Body.{Body}
use Rattle.gs_msg.specs.declared.body.Body.TheVariants as bodies

abbrev pub chunk_kind : Chunk → Kind
chunk_kind (chunks.Create stamp) = kinds.Create
chunk_kind (chunks.Advance stamp) = kinds.Advance
chunk_kind (chunks.Promised stamp count carried) = kinds.Promised
chunk_kind (chunks.Unpromised stamp refusal) = kinds.Unpromised
chunk_kind (chunks.Grant grant) = kinds.Grant
chunk_kind (chunks.Renew stamp) = kinds.Renew
chunk_kind (chunks.Renewed stamp end) = kinds.Renewed
chunk_kind (chunks.Edit req stamp op) = kinds.Edit
chunk_kind (chunks.Forward stamp number req op bytes) = kinds.Forward
chunk_kind (chunks.Ack stamp count) = kinds.Ack
chunk_kind (chunks.Nack stamp refusal) = kinds.Nack
chunk_kind (chunks.Fetch req stamp epoch asked) = kinds.Fetch
chunk_kind (chunks.CopyOut stamp target with_sealed) = kinds.CopyOut
chunk_kind (chunks.CopyIn stamp image sealed) = kinds.CopyIn
chunk_kind (chunks.Drop epoch promise) = kinds.Drop
chunk_kind (chunks.Bad stamp) = kinds.Bad

abbrev pub kind_of : Body → Kind
kind_of (bodies.About handle chunk) = chunk_kind chunk
kind_of (bodies.Call req call) = kinds.Call
kind_of (bodies.Reply req result) = kinds.Reply
kind_of (bodies.Push req bytes) = kinds.Push
kind_of (bodies.Done req result) = kinds.Done
kind_of (bodies.Bytes req result) = kinds.Bytes
kind_of (bodies.MakeCopy handle at new_handle stamp) = kinds.MakeCopy
kind_of (bodies.Report epoch replicas) = kinds.Report
kind_of (bodies.Epoch epoch end) = kinds.Epoch
kind_of (bodies.Learned epoch handles) = kinds.Learned
kind_of (bodies.Behind epoch) = kinds.Behind

what_is_said_of_a_chunk : (handle : ℕ) (stamp : Stamp) → kind_of (bodies.About handle (chunks.Bad stamp)) ≡ kinds.Bad
what_is_said_of_a_chunk handle stamp = refl
