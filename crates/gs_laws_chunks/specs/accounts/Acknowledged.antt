-- What it means that an edit was told done.
use Rattle.std.specs.Prelude.{[], ◌+◌, ◌∷◌, ◌≡◌, ◌≢◌, ◌⊎◌, Bool, List, Ok, Option, Some, false, length, refl, slice_get, take, true, ℕ}
use Rattle.gs_base.specs.Stamps.{is_before}
use Rattle.gs_base.specs.declared.epoch.EpochEnd.{EpochEnd}
use Rattle.gs_base.specs.declared.numbers.ReqId.{ReqId}
use Rattle.gs_base.specs.declared.numbers.Stamp.{Stamp}
use Rattle.gs_msg.specs.declared.chunk.Chunk.TheVariants as chunks
use Rattle.gs_msg.specs.declared.message.Message.{Message}
use Rattle.gs_msg.specs.declared.op.Op.{Op}
use Rattle.gs_server_lease.specs.Numbering.{is_passed, is_too_long}
use Rattle.gs_laws_chunks.specs.accounts.Accounts.{Account, settled_edits, text_of}
use Rattle.gs_laws_chunks.specs.accounts.Running.{IsReached, Runs, Setup}
use Rattle.gs_laws_lift.specs.stores.Owning.{IsNumberedOp}
use Rattle.gs_world.specs.Runs.{Step}
use Rattle.gs_world.specs.Sent.{IsSent, Sent}
use Rattle.gs_master_spec.specs.Durable.{Durable, is_listed, start}
use Rattle.gs_msg.specs.declared.body.Body.TheVariants as bodies
use Rattle.gs_base.specs.declared.epoch.EpochEnd.TheVariants as ends
use Rattle.gs_replica.specs.declared.op.Op.{Op as Applied}
use Rattle.gs_replica.specs.declared.op.Op.TheVariants as applied
use Rattle.gs_replica.specs.declared.op.EditOutcome.{EditOutcome}
use Rattle.gs_replica.specs.declared.op.EditOutcome.TheVariants as outcomes
use Rattle.gs_replica.specs.Stands.{Edit, outcome_at}
use Rattle.gs_world.specs.Histories.{History}

-- a client was told that the edit of its request is done
abbrev pub WasDone : Sent → ReqId → EditOutcome → Type 0
WasDone sent req outcome = (message : Message) × IsSent message sent × (message.body ≡ bodies.Done req (Ok outcome))

-- bytes were pushed for a request
abbrev pub WasPushed : Sent → ReqId → Type 0
WasPushed sent req = (message : Message) × (bytes : List ℕ) × IsSent message sent × (message.body ≡ bodies.Push req bytes)

-- the edit of a request stands at a place of a list, and at no other
pub record StandsOnce (edits : List Edit) (req : ReqId) (place : ℕ) : Type 0 where
  pub edit : Edit
  pub stands : slice_get edits place ≡ Some edit
  pub is : edit.req ≡ req
  pub once : (other : ℕ) (another : Edit) → slice_get edits other ≡ Some another → another.req ≡ req → other ≡ place

-- the bytes that an edit takes of those that were pushed: a pad takes none
abbrev pub taken_bytes : Applied → List ℕ → List ℕ
taken_bytes applied.Pad bytes = []
taken_bytes op bytes = bytes

-- The edit is the one that was asked for, behind the edits before it: a message was sent that asks for the edit of this request, and each that was ever sent asks for it in this chunk,
-- under this stamp, and by the operation for which it is numbered; and if it is no pad, bytes were pushed for the request, and all that ever were are the ones that it has.
pub record IsAskedHere (size : ℕ) (sent : Sent) (chunk : ℕ) (req : ReqId) (stamp : Stamp) (before : List Edit) (edit : Edit) : Type 0 where
  pub was : (message : Message) × (op : Op) × IsSent message sent × (message.body ≡ bodies.About chunk (chunks.Edit req stamp op))
  pub asked : (message : Message) (handle : ℕ) (under : Stamp) (op : Op) → IsSent message sent → message.body ≡ bodies.About handle (chunks.Edit req under op)
      → (handle ≡ chunk) × (under ≡ stamp) × IsNumberedOp size (length (text_of size before)) op edit
  pub pushed : (message : Message) (bytes : List ℕ) → IsSent message sent → message.body ≡ bodies.Push req bytes → edit.bytes ≡ taken_bytes edit.op bytes
  pub had : edit.op ≢ applied.Pad → WasPushed sent req

-- The edit was numbered under this stamp, which is the one under which it was asked for: it stands in the list of this one, at one place, and in that of no
-- lower one. It is the one that was asked for. An append was answered with how many bytes stood before it.
pub record IsNumbered (size : ℕ) (sent : Sent) (a : Account) (chunk : ℕ) (req : ReqId) (outcome : EditOutcome) : Type 0 where
  pub stamp : Stamp
  pub place : ℕ
  pub once : StandsOnce (a.list chunk stamp) req place
  pub first : (lower : Stamp) (other : ℕ) (another : Edit) → is_before lower stamp ≡ true → slice_get (a.list chunk lower) other ≡ Some another → another.req ≢ req
  pub asked : IsAskedHere size sent chunk req stamp (take place (a.list chunk stamp)) once.edit
  pub answered : outcome ≡ outcome_at once.edit.op (length (text_of size (take place (a.list chunk stamp))))

-- A record passed the chunk, whose text was full: no list of the chunk has an edit of its request. A message was sent that asks for the edit of this request under this stamp, and each
-- that was ever sent asks to append a record of some bytes, no longer than a quarter of a chunk, in this chunk, under this stamp. The full text is that of the first edits of the chunk's list under it.
pub record PassedFull (size : ℕ) (sent : Sent) (a : Account) (chunk : ℕ) (req : ReqId) (outcome : EditOutcome) : Type 0 where
  pub padded : outcome ≡ outcomes.Padded
  pub stamp : Stamp
  pub was : (message : Message) × (op : Op) × IsSent message sent × (message.body ≡ bodies.About chunk (chunks.Edit req stamp op))
  pub asked : (message : Message) (handle : ℕ) (under : Stamp) (op : Op) → IsSent message sent → message.body ≡ bodies.About handle (chunks.Edit req under op)
      → (handle ≡ chunk) × (under ≡ stamp) × (is_too_long size op ≡ false) × (is_passed size size op ≡ true)
  pub count : ℕ
  pub full : length (text_of size (take count (a.list chunk stamp))) ≡ size
  pub none : (under : Stamp) (place : ℕ) (edit : Edit) → slice_get (a.list chunk under) place ≡ Some edit → edit.req ≢ req

-- the epoch of a stamp was ended by a rollback
abbrev pub is_undone : Durable → Stamp → Bool
is_undone d stamp = is_rollback (slice_get d.ends stamp.epoch)
  where
    is_rollback : Option EpochEnd → Bool
    is_rollback (Some ends.Rollback) = true
    is_rollback end = false

-- it is settled now at the same place, there alone, with the same edits before it
pub record IsSettledStill (a now : Account) (chunk : ℕ) (req : ReqId) (stamp : Stamp) (place : ℕ) : Type 0 where
  pub same : take (place + 1) (settled_edits now chunk) ≡ take (place + 1) (a.list chunk stamp)
  pub once : StandsOnce (settled_edits now chunk) req place

module _ {D : Type 0} (x : Setup D) where
  -- An edit that a client was told done was numbered, once; or it passed a chunk that is full under the stamp of its request, and has no edit of it, in this world and in each later one. What was numbered is settled in this world and in each later one in which a file has
  -- the chunk, unless the upgrade within which it was numbered was rolled back.
  abbrev pub DoneStays : Type 0
  DoneStays = (now later : History D) (a b : Account) (steps : List Step) (req : ReqId) (outcome : EditOutcome) → IsReached x now a → Runs x steps now a later b → WasDone now.sent req outcome →
      (chunk : ℕ) × ((PassedFull x.config.chunk now.sent a chunk req outcome × PassedFull x.config.chunk later.sent b chunk req outcome)
      ⊎ ((numbered : IsNumbered x.config.chunk now.sent a chunk req outcome)
      × (is_listed b.durable chunk ≡ true → is_undone b.durable numbered.stamp ≡ false → IsSettledStill a b chunk req numbered.stamp numbered.place)))

  -- Whoever is told twice that the edit of one request is done is told the same outcome. Of refusals before or behind it nothing is said.
  abbrev pub RepeatsAreAlike : Type 0
  RepeatsAreAlike = (now : History D) (a : Account) (req : ReqId) (one other : EditOutcome) → IsReached x now a → WasDone now.sent req one → WasDone now.sent req other → one ≡ other

-- ---- Worked
no_epoch_has_ended : (stamp : Stamp) → is_undone start stamp ≡ false
no_epoch_has_ended stamp = refl

an_upgrade_that_was_rolled_back : is_undone (record start { ends = ends.Prepare ∷ ends.Rollback ∷ [] }) (record { epoch = 1; version = 4 }) ≡ true
an_upgrade_that_was_rolled_back = refl

what_stood_before_it_was_not : is_undone (record start { ends = ends.Prepare ∷ ends.Rollback ∷ [] }) (record { epoch = 0; version = 3 }) ≡ false
what_stood_before_it_was_not = refl
