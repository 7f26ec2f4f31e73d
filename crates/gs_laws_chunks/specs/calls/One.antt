-- One request of a run is one call.
use Rattle.std.specs.Prelude.{◌≡◌, List, ℕ}
use Rattle.gs_base.specs.declared.numbers.ReqId.{ReqId}
use Rattle.gs_msg.specs.declared.body.Body.TheVariants as bodies
use Rattle.gs_msg.specs.declared.call.Call.{Call}
use Rattle.gs_msg.specs.declared.event.DiskId.{DiskId}
use Rattle.gs_msg.specs.declared.message.Message.{Message}
use Rattle.gs_nodes.specs.declared.place.MasterPlace.{MasterPlace}
use Rattle.gs_world.specs.Histories.{History}
use Rattle.gs_world.specs.Sent.{IsSent, Sent}
use Rattle.gs_laws_chunks.specs.calls.Asked.{HasRun}

-- some message was sent, by anybody to anybody, by which this is called under this request
abbrev pub IsCalledIn : Sent → ReqId → Call → Type 0
IsCalledIn sent req call = (message : Message) × IsSent message sent × (message.body ≡ bodies.Call req call)

-- All that was ever called under one request is one call.
abbrev pub AreOneCall : Sent → Type 0
AreOneCall sent = (req : ReqId) (one other : Call) → IsCalledIn sent req one → IsCalledIn sent req other → one ≡ other

-- This holds in each world of a run.
abbrev pub RequestsAreOneCall : {D : Type 0} → (D → List ℕ) → (D → ℕ) → (DiskId → ℕ → MasterPlace D → MasterPlace D) → Type 0
RequestsAreOneCall {D} seen failures armed = (now : History D) → HasRun seen failures armed now → AreOneCall now.sent
