-- Where an edit stands that was asked for of a chunk.
use Rattle.std.specs.Prelude.{[], ◌+◌, ◌∷◌, ◌≡◌, List, Some, refl, slice_get, take, ℕ}
use Rattle.gs_base.specs.declared.numbers.ReqId.{ReqId}
use Rattle.gs_base.specs.declared.numbers.Stamp.{Stamp}
use Rattle.gs_msg.specs.declared.body.Body.TheVariants as bodies
use Rattle.gs_msg.specs.declared.chunk.Chunk.TheVariants as chunks
use Rattle.gs_msg.specs.declared.message.Message.{Message}
use Rattle.gs_msg.specs.declared.op.Op.{Op}
use Rattle.gs_replica.specs.Stands.{Edit}
use Rattle.gs_world.specs.Histories.{History}
use Rattle.gs_world.specs.Runs.{Step}
use Rattle.gs_world.specs.Sent.{IsSent, Sent}
use Rattle.gs_laws_chunks.specs.accounts.Accounts.{Account}
use Rattle.gs_laws_chunks.specs.accounts.Running.{IsReached, Runs, Setup}

-- a message was sent that asks for an edit of this request in this chunk
pub record IsAskedOf (sent : Sent) (chunk : ℕ) (req : ReqId) : Type 0 where
  pub message : Message
  pub stamp : Stamp
  pub op : Op
  pub was : IsSent message sent
  pub says : message.body ≡ bodies.About chunk (chunks.Edit req stamp op)

-- no message asks for an edit of this request, in any chunk
abbrev pub IsUnasked : Sent → ReqId → Type 0
IsUnasked sent req = (chunk : ℕ) → IsAskedOf sent chunk req → ⊥

-- the edit of a request stands at a place of a list
pub record StandsAt (edits : List Edit) (req : ReqId) (place : ℕ) : Type 0 where
  pub edit : Edit
  pub stands : slice_get edits place ≡ Some edit
  pub is : edit.req ≡ req

-- Take any two lists of a chunk, of one world of a run and of a later one, or of the same. If both have the edit of a request that was asked for of this chunk, they have it at one place, behind the same edits.
abbrev pub EditsHaveOnePlace : {D : Type 0} → Setup D → Type 0
EditsHaveOnePlace {D} x = (now later : History D) (a b : Account) (steps : List Step) (chunk : ℕ) (req : ReqId) (one other : Stamp) (place another : ℕ) → IsReached x now a → Runs x steps now a later b → IsAskedOf later.sent chunk req →
    StandsAt (a.list chunk one) req place → StandsAt (b.list chunk other) req another → (another ≡ place) × (take (place + 1) (b.list chunk other) ≡ take (place + 1) (a.list chunk one))

-- ---- Worked
an_edit_alone_stands_first : (edit : Edit) → StandsAt (edit ∷ []) edit.req 0
an_edit_alone_stands_first edit = record { edit = edit; stands = refl; is = refl }
