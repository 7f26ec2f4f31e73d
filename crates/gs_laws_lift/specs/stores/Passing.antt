-- A full chunk that is passed has no edit of the request.
use Rattle.std.specs.Prelude.{◌≡◌, ◌≢◌, ℕ, List, Some, slice_get}
use Rattle.gs_base.specs.declared.config.Config.{Config}
use Rattle.gs_base.specs.declared.numbers.ReqId.{ReqId}
use Rattle.gs_replica.specs.Stands.{Edit}
use Rattle.gs_replica.specs.declared.op.EditOutcome.{EditOutcome}
use Rattle.gs_world.specs.Sent.{Sent}
use Rattle.gs_laws_chunk.specs.machine.Machine.{ChunkWorld}
use Rattle.gs_laws_parts.specs.server.Requests.{Asked}
use Rattle.gs_laws_lift.specs.stores.Answers.{HasPassed}
use Rattle.gs_laws_lift.specs.stores.Showing.{setting}
use Rattle.gs_laws_lift.specs.stores.Telling.{EditsStandFirst}

-- Where a full chunk has passed on the edit for which a request asks, no list of a view has an edit of the request: it would stand in the list of the view under whose
-- stamp it was asked for, behind edits that fill the chunk, and so it would have been passed.
abbrev pub PassedHasNone : {D : Type 0} → (D → List ℕ) → Config → (ReqId → List ℕ) → (ℕ → Asked) → Type 0
PassedHasNone {D} seen config bytes asked = (born chunk : ℕ) (sent : Sent) (w : ChunkWorld) (req : ReqId) (outcome : EditOutcome) → EditsStandFirst seen config bytes asked w.known chunk → HasPassed asked chunk sent (setting config bytes born) w req outcome
    → (t place : ℕ) (edit : Edit) → slice_get (w.known.list t) place ≡ Some edit → edit.req ≢ req
