-- Under which stamps the edits of a chunk's lists were asked for.
use Rattle.std.specs.Prelude.{◌≡◌, ◌+◌, ◌<◌, ◌≤◌, ◌==◌, cond, ℕ, true, List, Option, Some, None, slice_get, take}
use Rattle.gs_base.specs.declared.config.Config.{Config}
use Rattle.gs_base.specs.declared.numbers.ReqId.{ReqId}
use Rattle.gs_base.specs.declared.numbers.Stamp.{Stamp}
use Rattle.gs_replica.specs.Stands.{Edit}
use Rattle.gs_msg.specs.declared.event.Request.{Request}
use Rattle.gs_msg.specs.declared.event.Request.TheVariants as requests
use Rattle.gs_world.specs.Histories.{History}
use Rattle.gs_laws_chunk.specs.machine.Stamps.{stamp_at}
use Rattle.gs_laws_chunk.specs.machine.Machine.{Known, ChunkWorld}
use Rattle.gs_laws_chunk.specs.machine.Laws.{IsReached}
use Rattle.gs_laws_chunk.specs.machine.Numbering.{AreNumbered, IsBehind, StandsBetween, StandsPrepared}
use Rattle.gs_laws_parts.specs.server.Requests.{Asked, IsOfOneEdit, named}
use Rattle.gs_world.specs.Runs.{Step}
use Rattle.gs_laws_lift.specs.stores.Going.{AllSent}
use Rattle.gs_laws_lift.specs.stores.Joint.{GoesBy}
use Rattle.gs_laws_lift.specs.stores.Living.{ComesAlive}
use Rattle.gs_laws_lift.specs.stores.Showing.{IsAlive}

-- the stamp that a request names, if it asks for an edit of this chunk
abbrev pub stamp_in : ℕ → Option Request → Option Stamp
stamp_in chunk (Some (requests.Write handle members primary stamp op bytes)) = cond (chunk == handle) (Some stamp) None
stamp_in chunk request = None

abbrev pub asked_under : (ℕ → Asked) → ℕ → ReqId → Option Stamp
asked_under asked chunk req = stamp_in chunk (named asked req)

-- Each edit of a chunk's lists was numbered in the view of the stamp under which its request asks for it, but those with which the chunk was born. So it stays at each
-- step of a store in which all that was sent for a request is of its one edit.
abbrev pub NumberingGoesOn : {D : Type 0} → (D → List ℕ) → Config → (ReqId → List ℕ) → (ℕ → Asked) → Type 0
NumberingGoesOn {D} seen config bytes asked = (born chunk : ℕ) (step : Step) (old new : History D) (origin : List Edit) (w v : ChunkWorld) → IsReached w → AllSent (IsOfOneEdit asked) old.sent → GoesBy seen config bytes born chunk step old new w v
    → AreNumbered (asked_under asked chunk) origin w.known → AreNumbered (asked_under asked chunk) origin v.known

-- no edit of these was asked for of a chunk
abbrev pub AskedElsewhere : (ℕ → Asked) → ℕ → List Edit → Type 0
AskedElsewhere asked chunk edits = (place : ℕ) (edit : Edit) → slice_get edits place ≡ Some edit → asked_under asked chunk edit.req ≡ None

-- the edit at a place of a list was asked for under a stamp that isn't above that of the list: the list of that view has it at the same place, behind the same edits
pub record StandsFirst (k : Known) (t place : ℕ) (stamp : Stamp) : Type 0 where
  pub number : ℕ
  pub is : stamp ≡ stamp_at number
  pub within : number ≤ t
  pub stood : k.stood number ≡ true
  pub late : k.born < number
  pub same : take (place + 1) (k.list number) ≡ take (place + 1) (k.list t)
  pub prepared : StandsPrepared k number t place
  pub between : StandsBetween k number t place

-- So no list of a lower stamp has an edit of a request of this chunk, if none with which the chunk was born is.
abbrev pub NumberedIsFirst : (ℕ → Asked) → Type 0
NumberedIsFirst asked = (chunk : ℕ) (origin : List Edit) (k : Known) → AreNumbered (asked_under asked chunk) origin k → AskedElsewhere asked chunk origin
    → (t place : ℕ) (edit : Edit) (stamp : Stamp) → slice_get (k.list t) place ≡ Some edit → asked_under asked chunk edit.req ≡ Some stamp → StandsFirst k t place stamp

-- the stamp that a request names, whichever chunk's edit it asks for
abbrev pub any_stamp : Option Request → Option Stamp
any_stamp (Some (requests.Write handle members primary stamp op bytes)) = Some stamp
any_stamp request = None

-- no edit of these was asked for under a stamp above a bound
abbrev pub AskedWithin : (ℕ → Asked) → ℕ → List Edit → Type 0
AskedWithin asked bound edits = (place : ℕ) (edit : Edit) → slice_get edits place ≡ Some edit → (number : ℕ) → any_stamp (named asked edit.req) ≡ Some (stamp_at number) → number ≤ bound

-- And no list of a view behind the birth's has an edit of any request that was asked for under a greater stamp, if those with which the chunk was born were asked for
-- under none that is above a bound, and no such view is of a stamp below it.
abbrev pub NoneIsEarlier : (ℕ → Asked) → Type 0
NoneIsEarlier asked = (chunk bound : ℕ) (origin : List Edit) (k : Known) → AreNumbered (asked_under asked chunk) origin k → IsBehind bound k → AskedWithin asked bound origin
    → (t : ℕ) → k.born < t → k.stood t ≡ true → AskedWithin asked t (k.list t)

-- No edit of a chunk's lists was asked for of another chunk, if those with which it was born weren't: so it is of a copy, which is born with a list of a chunk.
abbrev pub ListsAreElsewhere : (ℕ → Asked) → Type 0
ListsAreElsewhere asked = (chunk other : ℕ) (origin : List Edit) (k : Known) → AreNumbered (asked_under asked chunk) origin k → (other ≡ chunk → ⊥) → AskedElsewhere asked other origin → (t : ℕ) → AskedElsewhere asked other (k.list t)

-- A chunk that is born at a step, with edits or without, has no others.
abbrev pub NewbornsAreNumbered : {D : Type 0} → (D → List ℕ) → Config → (ReqId → List ℕ) → (ℕ → Asked) → Type 0
NewbornsAreNumbered {D} seen config bytes asked = (chunk : ℕ) (old new : History D) (b : IsAlive seen config bytes chunk new) → ComesAlive seen config bytes chunk old new b → AreNumbered (asked_under asked chunk) b.reached.0.origin b.world.known
