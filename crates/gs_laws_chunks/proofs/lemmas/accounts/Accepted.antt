-- A commit is accepted where for each chunk one survivor has answered, but for want of room or of memory.
use Rattle.gs_laws_lift.specs.stores.Left.{as_left}
use Rattle.gs_laws_chunks.proofs.lemmas.accounts.Well.{left_sound}
use Rattle.gs_nodes.specs.declared.place.MasterPlace.TheVariants.{Standing}
use Rattle.std.proofs.Common.{◌≡◌, ◌∙◌, inl, inr, ◌⊎◌, ℕ, true, Ok, Err, ap}
use Rattle.gs_base.specs.declared.refusal.Refusal.TheVariants as refusals
use Rattle.gs_master_spec.specs.Durable.{Durable, is_rolling}
use Rattle.gs_world.proofs.Reaching.{HaveSizes}
use Rattle.gs_laws_chunks.proofs.lemmas.accounts.Answering.{one_survivor_is_enough}
use Rattle.gs_laws_chunks.proofs.lemmas.accounts.Deciding.{decided, holds_at}
use Rattle.gs_laws_chunks.proofs.lemmas.accounts.Edits.{AreNumbered}
use Rattle.gs_laws_chunks.proofs.lemmas.accounts.Leading.{has_at}
use Rattle.gs_laws_chunks.proofs.lemmas.accounts.Telling.{now_so}
use Rattle.gs_laws_chunks.specs.accounts.Accepting.{IsDecided, SurvivorsAreAccepted, met_at}
use Rattle.gs_laws_chunks.specs.accounts.Running.{Setup}

pub survivors_are_accepted : HaveSizes → AreNumbered → {D : Type 0} (x : Setup D) → SurvivorsAreAccepted x
survivors_are_accepted sizes law {D} x prepared now next before after back step upgrade moves asks holds_if answered = by_case d.either
  where
    d : IsDecided x prepared before now after upgrade asks.req (met_at x step now next moves.steps.goes) back
    d = decided sizes law x prepared now next before after back step upgrade moves asks holds_if

    at_left : as_left now.nodes.master ≡ Standing asks.master
    at_left = ap as_left asks.there ∙ left_sound x.seen asks.master (holds_at sizes law x prepared now next before after back step upgrade moves asks holds_if).sound

    rolling : is_rolling after.durable.phase ≡ true
    rolling = ap (λ (z : Durable). is_rolling z.phase) (has_at x (as_left now.nodes.master) asks.master after.durable at_left (now_so x prepared now before after upgrade).has) ∙ asks.rolling

    by_case : (met_at x step now next moves.steps.goes ≡ Ok tt) ⊎ ((chunk : ℕ) × (met_at x step now next moves.steps.goes ≡ Err (refusals.Unrestored chunk))) ⊎ (met_at x step now next moves.steps.goes ≡ Err refusals.Full) ⊎ (met_at x step now next moves.steps.goes ≡ Err refusals.Memory)
        → (met_at x step now next moves.steps.goes ≡ Ok tt) ⊎ (met_at x step now next moves.steps.goes ≡ Err refusals.Full) ⊎ (met_at x step now next moves.steps.goes ≡ Err refusals.Memory)
    by_case (inl ok) = inl ok
    by_case (inr (inl (chunk, refused))) =
        let lowest = d.refused chunk refused in
        absurd (lowest.unnamed (one_survivor_is_enough sizes law x prepared now before after upgrade rolling answered chunk lowest.referred))
    by_case (inr (inr which)) = inr which
