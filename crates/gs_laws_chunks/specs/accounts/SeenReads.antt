-- What a member of a view gives that was told of a chunk, by what the chunk's machine shows at the look-up and at the read.
use Rattle.gs_laws_lift.specs.stores.Left.{left_in}
use Rattle.std.specs.Prelude.{ℕ, List, Result}
use Rattle.gs_base.specs.declared.numbers.ReqId.{ReqId}
use Rattle.gs_base.specs.declared.refusal.Refusal.{Refusal}
use Rattle.gs_laws_chunks.specs.accounts.Accounts.{Account}
use Rattle.gs_laws_chunks.specs.accounts.Running.{Setup}
use Rattle.gs_lease.specs.declared.view.View.{View}
use Rattle.gs_msg.specs.declared.body.Given.{Given}
use Rattle.gs_msg.specs.declared.chunk.Asked.{Asked}
use Rattle.gs_msg.specs.declared.event.Event.{Event}
use Rattle.gs_world.specs.Histories.{Happens, History}
use Rattle.gs_laws_chunks.specs.accounts.Joined.{IsSeen, SeenOn}
use Rattle.gs_laws_chunks.specs.accounts.Reading.{GivesBytes, IsFetch, IsLegalRead, IsLookedUp, sent_at}

-- Of a chunk that is born where it is looked up, each read under what was told is legal, in whichever later world it is asked for.
abbrev pub SeenReadsAreLegal : {D : Type 0} → Setup D → (ReqId → List ℕ) → Type 0
SeenReadsAreLegal {D} x bytes = (looked now next : History D) (a b : Account) (event : Event) (said : Result (Unit {0}) Refusal) (chunk epoch : ℕ) (view : View) (req : ReqId) (asked : Asked) (given : Given)
    → (first : IsSeen x bytes chunk (left_in looked) a) (last : IsSeen x bytes chunk (left_in now) b) → SeenOn x bytes chunk (left_in looked) a (left_in now) b first last → IsLookedUp a chunk view epoch
    → (happens : Happens x.seen x.failures x.armed event now said next) → IsFetch now.sent event chunk view epoch req asked → GivesBytes (sent_at happens.outcome) req given → IsLegalRead x.config.block x.config.chunk a b chunk view asked given
