-- Why something happens to a chunk at a server, and what its lists get then.
use Rattle.std.specs.Prelude.{◌≡◌, ◌≤◌, ◌==◌, ◌⊎◌, ◌++◌, ℕ, Bool, true, false, cond, List, [], ◌∷◌, length, Option, Some, None}
use Rattle.gs_base.specs.declared.numbers.ReqId.{ReqId}
use Rattle.gs_base.specs.declared.numbers.Stamp.{Stamp}
use Rattle.gs_replica.specs.Stands.{Edit, replica_of}
use Rattle.gs_msg.specs.declared.body.Body.{Body}
use Rattle.gs_msg.specs.declared.body.Body.TheVariants as bodies
use Rattle.gs_msg.specs.declared.chunk.Chunk.{Chunk}
use Rattle.gs_msg.specs.declared.chunk.Chunk.TheVariants as chunks
use Rattle.gs_msg.specs.declared.op.Op.{Op}
use Rattle.gs_server_lease.specs.Numbering.{is_passed, is_too_long, numbered_op}
use Rattle.gs_store.specs.Calls.{Call}
use Rattle.gs_server.specs.Servers.{Server}
use Rattle.gs_server.specs.Runs.{Event, Hears, Ticks, Restarts, Loses, Damages}
use Rattle.gs_laws_server.specs.servers.Calling.{call_by}
use Rattle.gs_laws_chunk.specs.machine.Stamps.{stamp_at}
use Rattle.gs_laws_chunk.specs.machine.Machine.{Member}
use Rattle.gs_laws_parts.specs.server.Showing.{Setting, Says}

-- a client's edit is heard; or the replica is lost or damaged; or it is anything else
pub data Cause : Type 0 where
  Edits : (stamp : Stamp) → (req : ReqId) → (op : Op) → Cause
  Strikes : Cause
  Calm : Cause

-- whether the replica is spared
abbrev pub spares : Cause → Bool
spares Strikes = false
spares (Edits stamp req op) = true
spares Calm = true

-- of a message about the chunk, and of any
abbrev pub cause_of : Chunk → Cause
cause_of (chunks.Edit req stamp op) = Edits stamp req op
cause_of said = Calm

abbrev pub cause_in : ℕ → Body → Cause
cause_in chunk (bodies.About handle said) = cond (chunk == handle) (cause_of said) Calm
cause_in chunk body = Calm

-- of all that happens at a server: a loss or damage that is refused strikes nothing
abbrev pub struck_by : Option Call → Cause
struck_by None = Calm
struck_by (Some call) = Strikes

abbrev pub cause_by : ℕ → Event → Server → Cause
cause_by chunk (Hears message moment) s = cause_in chunk message.body
cause_by chunk (Ticks moment) s = Calm
cause_by chunk Restarts s = Calm
cause_by chunk (Loses handle) s = struck_by (call_by chunk (Loses handle) s)
cause_by chunk (Damages handle block) s = struck_by (call_by chunk (Damages handle block) s)

-- The client's edit is numbered under the promise, which is the stamp that it was asked for under: the list of that view has it behind
-- its edits, and so has the live replica. It is the edit of the request, or a pad where the record doesn't fit; no record is longer than it may be, and no full chunk
-- passes it. The text before it is within the size.
pub record NumbersEdit (c : Setting) (m n : Member) (asked : Stamp) (req : ReqId) (op : Op) (stamp : ℕ) (old new : List Edit) : Type 0 where
  pub edit : Edit
  pub is : new ≡ old ++ edit ∷ []
  pub under : stamp ≡ m.promise
  pub had : m.live ≡ Some old
  pub has : n.live ≡ Some new
  pub asked_is : asked ≡ stamp_at stamp
  pub says : Says c req (numbered_op c.size (length (replica_of c.size old).bytes) op) edit
  pub short : is_too_long c.size op ≡ false
  pub fits : is_passed c.size (length (replica_of c.size old).bytes) op ≡ false
  pub within : length (replica_of c.size old).bytes ≤ c.size

-- So each list stays, but where a client's edit is heard. The members are the server before and behind.
abbrev pub Numbers : Cause → Setting → Member → Member → ℕ → List Edit → List Edit → Type 0
Numbers (Edits asked req op) c m n stamp old new = (new ≡ old) ⊎ NumbersEdit c m n asked req op stamp old new
Numbers cause c m n stamp old new = new ≡ old
