-- Each edit of a chunk's lists is the one that its request asks for, behind the edits before it.
use Rattle.std.specs.Prelude.{◌≡◌, ◌≤◌, ℕ, false, List, Some, length}
use Rattle.gs_base.specs.declared.config.Config.{Config}
use Rattle.gs_base.specs.declared.numbers.ReqId.{ReqId}
use Rattle.gs_base.specs.declared.numbers.Stamp.{Stamp}
use Rattle.gs_replica.specs.Stands.{Edit, replica_of}
use Rattle.gs_msg.specs.Ops.{in_replica, length_of}
use Rattle.gs_msg.specs.declared.body.Body.TheVariants as bodies
use Rattle.gs_msg.specs.declared.chunk.Chunk.TheVariants as chunks
use Rattle.gs_msg.specs.declared.event.Request.TheVariants as requests
use Rattle.gs_msg.specs.declared.message.Message.{Message}
use Rattle.gs_msg.specs.declared.op.Op.{Op}
use Rattle.gs_server_lease.specs.Numbering.{is_passed, is_too_long, numbered_op}
use Rattle.gs_server.specs.Edits.{applied_bytes}
use Rattle.gs_world.specs.Histories.{History}
use Rattle.gs_world.specs.Runs.{Step}
use Rattle.gs_world.specs.Sent.{IsSent, Sent}
use Rattle.gs_laws_chunk.specs.machine.Machine.{ChunkWorld}
use Rattle.gs_laws_chunk.specs.machine.Owning.{AreOwn, IsOwnList}
use Rattle.gs_laws_parts.specs.server.Requests.{Asked, IsOfOneEdit, bytes_in, named}
use Rattle.gs_laws_lift.specs.stores.Going.{AllSent}
use Rattle.gs_laws_lift.specs.stores.Joint.{GoesBy}
use Rattle.gs_laws_lift.specs.stores.Living.{ComesAlive}
use Rattle.gs_laws_lift.specs.stores.Showing.{IsAlive}

-- what a primary numbers for an operation that is asked for, behind these edits of a chunk of a size: a pad where a record doesn't fit
abbrev pub numbered_behind : ℕ → List Edit → Op → Op
numbered_behind size before op = numbered_op size (length (replica_of size before).bytes) op

-- The edit is what a primary numbers for an operation behind a text of so many bytes: a pad where a record doesn't fit, and none where the chunk is full, or where the record is longer than it may be.
pub record IsNumberedOp (size stored : ℕ) (op : Op) (edit : Edit) : Type 0 where
  pub is : edit.op ≡ in_replica (numbered_op size stored op)
  pub long : length edit.bytes ≡ length_of (numbered_op size stored op)
  pub short : is_too_long size op ≡ false
  pub fits : is_passed size stored op ≡ false

-- The edit is the one that its request asks for: what a primary numbers for that operation behind the edits before it, with the bytes of the request. The text before it is within the size.
pub record IsAskedEdit (bytes : ReqId → List ℕ) (asked : ℕ → Asked) (size : ℕ) (before : List Edit) (edit : Edit) : Type 0 where
  pub handle : ℕ
  pub members : List ℕ
  pub primary : ℕ
  pub stamp : Stamp
  pub op : Op
  pub asks : named asked edit.req ≡ Some (requests.Write handle members primary stamp op (bytes_in asked edit.req))
  pub numbered : IsNumberedOp size (length (replica_of size before).bytes) op edit
  pub has : edit.bytes ≡ applied_bytes (numbered_behind size before op) (bytes edit.req)
  pub within : length (replica_of size before).bytes ≤ size

-- a message was sent that asks for an edit of this request
pub record WasAskedFor (sent : Sent) (edit : Edit) : Type 0 where
  pub message : Message
  pub was : IsSent message sent
  pub handle : ℕ
  pub stamp : Stamp
  pub op : Op
  pub says : message.body ≡ bodies.About handle (chunks.Edit edit.req stamp op)

-- So it stays at each step of a store in which all that was sent for a request is of its one edit;
abbrev pub OwningGoesOn : {D : Type 0} → (D → List ℕ) → Config → (ReqId → List ℕ) → (ℕ → Asked) → Type 0
OwningGoesOn {D} seen config bytes asked = (born chunk : ℕ) (step : Step) (old new : History D) (w v : ChunkWorld) → AllSent (IsOfOneEdit asked) old.sent → GoesBy seen config bytes born chunk step old new w v
    → AreOwn (IsAskedEdit bytes asked config.chunk) w.known → AreOwn (IsAskedEdit bytes asked config.chunk) v.known

abbrev pub AskingGoesOn : {D : Type 0} → (D → List ℕ) → Config → (ReqId → List ℕ) → (ℕ → Asked) → Type 0
AskingGoesOn {D} seen config bytes asked = (born chunk : ℕ) (step : Step) (old new : History D) (w v : ChunkWorld) → AllSent (IsOfOneEdit asked) old.sent → GoesBy seen config bytes born chunk step old new w v
    → AreOwn (λ before edit. WasAskedFor old.sent edit) w.known → AreOwn (λ before edit. WasAskedFor new.sent edit) v.known

-- and so it is of a chunk that is born with such edits.
abbrev pub NewbornsOwn : {D : Type 0} → (D → List ℕ) → Config → (ReqId → List ℕ) → (ℕ → Asked) → Type 0
NewbornsOwn {D} seen config bytes asked = (chunk : ℕ) (old new : History D) (b : IsAlive seen config bytes chunk new) → ComesAlive seen config bytes chunk old new b
    → IsOwnList (IsAskedEdit bytes asked config.chunk) b.reached.0.origin → AreOwn (IsAskedEdit bytes asked config.chunk) b.world.known

abbrev pub NewbornsAsked : {D : Type 0} → (D → List ℕ) → Config → (ReqId → List ℕ) → Type 0
NewbornsAsked {D} seen config bytes = (chunk : ℕ) (old new : History D) (b : IsAlive seen config bytes chunk new) → ComesAlive seen config bytes chunk old new b
    → IsOwnList (λ before edit. WasAskedFor old.sent edit) b.reached.0.origin → AreOwn (λ before edit. WasAskedFor new.sent edit) b.world.known
