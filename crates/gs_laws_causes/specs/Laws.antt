-- What the laws of all calls of a client say.
use Rattle.std.specs.Prelude.{Result}
use Rattle.gs_base.specs.declared.numbers.ReqId.{ReqId}
use Rattle.gs_base.specs.declared.refusal.Refusal.{Refusal}
use Rattle.gs_msg.specs.declared.event.Request.{Request}
use Rattle.gs_client_dialogue.specs.Dialogues.{FollowsDialogue}
use Rattle.gs_client.specs.Sends.{Sends, next_request}
use Rattle.gs_client.specs.Trees.{Call as AnyCall}
use Rattle.gs_client.specs.declared.client.Client.{Client}
use Rattle.gs_client.specs.declared.link.Reply.{Reply}
use Rattle.gs_laws_causes.specs.Carried.{Went}
use Rattle.gs_laws_causes.specs.Causes.{Exchanges, Why}

-- Each call is a way through its dialogue, carried by the link.
abbrev pub CallsAreWays : {L : Type 0} → (L → ReqId → Request → Reply → L → Type 0) → Type 0 → Type 0
CallsAreWays {L} carries A = (call : AnyCall A) (old : Client × L) (result : Result A Refusal) (new : Client × L) → FollowsDialogue (Sends carries) call old result new
    → Went (Sends carries) call old result new

-- Each such way is a call.
abbrev pub WaysAreCalls : {L : Type 0} → (L → ReqId → Request → Reply → L → Type 0) → Type 0 → Type 0
WaysAreCalls {L} carries A = (call : AnyCall A) (old : Client × L) (result : Result A Refusal) (new : Client × L) → Went (Sends carries) call old result new
    → FollowsDialogue (Sends carries) call old result new

-- A reply that is a cause came over the link.
abbrev pub CausesCameOverTheLink : {L : Type 0} → (L → ReqId → Request → Reply → L → Type 0) → Type 0
CausesCameOverTheLink {L} carries = (refusal : Refusal) (old : Client × L) (asked : Request) (reply : Reply) (behind : Exchanges) (new : Client × L)
    → Why refusal asked reply behind → Sends carries old asked reply new → carries old.1 (next_request old.0) asked reply new.1
