-- What becomes of an edit that a client was told done, by what its chunk's machine shows where it was told and later.
use Rattle.std.specs.Prelude.{◌≡◌, ◌≢◌, ◌⊎◌, ℕ, List, Some, false, slice_get, true}
use Rattle.gs_base.specs.declared.numbers.ReqId.{ReqId}
use Rattle.gs_base.specs.declared.numbers.Stamp.{Stamp}
use Rattle.gs_laws_chunks.specs.accounts.Accounts.{Account}
use Rattle.gs_laws_chunks.specs.accounts.Running.{Setup}
use Rattle.gs_laws_chunk.specs.machine.Owning.{AreOwn}
use Rattle.gs_laws_master.specs.Promises.{IsKept}
use Rattle.gs_laws_lift.specs.stores.Answers.{HasPassed}
use Rattle.gs_laws_lift.specs.stores.Going.{AllSent}
use Rattle.gs_laws_lift.specs.stores.Owning.{WasAskedFor}
use Rattle.gs_laws_lift.specs.stores.Saying.{PushRight}
use Rattle.gs_laws_lift.specs.stores.Showing.{setting}
use Rattle.gs_laws_lift.specs.stores.Telling.{EditsStandFirst}
use Rattle.gs_laws_lift.specs.stores.Waiting.{AsksFor}
use Rattle.gs_laws_parts.specs.server.Answering.{IsAnswered}
use Rattle.gs_laws_parts.specs.server.Requests.{Asked, IsOfOneEdit}
use Rattle.gs_replica.specs.Stands.{Edit}
use Rattle.gs_replica.specs.declared.op.Op.TheVariants as applied
use Rattle.gs_replica.specs.declared.op.EditOutcome.{EditOutcome}
use Rattle.gs_world.specs.Histories.{History}
use Rattle.gs_world.specs.Runs.{StaySent}
use Rattle.gs_world.specs.Sent.{Sent}
use Rattle.gs_master_spec.specs.Durable.{is_listed}
use Rattle.gs_laws_chunks.specs.accounts.Acknowledged.{IsNumbered, IsSettledStill, PassedFull, WasPushed, is_undone}
use Rattle.gs_laws_chunks.specs.accounts.Joined.{IsSeen, SeenOn}

-- bytes were pushed for each edit of a chunk's lists that is no pad
abbrev pub WerePushed : Sent → Account → ℕ → Type 0
WerePushed sent a chunk = (under : Stamp) (place : ℕ) (edit : Edit) → slice_get (a.list chunk under) place ≡ Some edit → edit.op ≢ applied.Pad → WasPushed sent edit.req

-- What a chunk's machine has done, of a request for this chunk, where edits that were asked for stand first in the views of their stamps, all that was sent for a request is of its one edit, and a message was sent for each edit, and bytes pushed for it: it was numbered, once, or passed a
-- chunk that is full under the stamp of its request, and has no edit of it, now and later; and what was numbered is settled in each later world in which a file has the chunk, unless the upgrade within which it was numbered was rolled back.
abbrev pub SeenDonesStay : {D : Type 0} → Setup D → (ReqId → List ℕ) → Type 0
SeenDonesStay {D} x bytes = (asked : ℕ → Asked) (chunk me : ℕ) (req : ReqId) (outcome : EditOutcome) (now later : History D) (a b : Account)
    → (first : IsSeen x bytes chunk now a) (last : IsSeen x bytes chunk later b) → SeenOn x bytes chunk now a later b first last → StaySent now.sent later.sent → EditsStandFirst x.seen x.config bytes asked first.alive.world.known chunk → EditsStandFirst x.seen x.config bytes asked last.alive.world.known chunk → AllSent (PushRight bytes) now.sent → AllSent (IsOfOneEdit asked) now.sent → AllSent (IsOfOneEdit asked) later.sent → AreOwn (λ before edit. WasAskedFor now.sent edit) first.alive.world.known → WerePushed now.sent a chunk → AsksFor asked chunk req → IsKept b.durable
    → IsAnswered (setting x.config bytes first.alive.reached.0.epoch) first.alive.world me req outcome ⊎ HasPassed asked chunk now.sent (setting x.config bytes first.alive.reached.0.epoch) first.alive.world req outcome
    → (PassedFull x.config.chunk now.sent a chunk req outcome × PassedFull x.config.chunk later.sent b chunk req outcome)
    ⊎ ((numbered : IsNumbered x.config.chunk now.sent a chunk req outcome) × (is_listed b.durable chunk ≡ true → is_undone b.durable numbered.stamp ≡ false → IsSettledStill a b chunk req numbered.stamp numbered.place))
