-- With which refusals nodes can answer.
use Rattle.std.proofs.Common.{◌≡◌, ◌⊎◌, Some, Err, inl, inr, refl}
use Rattle.gs_base.specs.declared.refusal.Refusal.{Refusal}
use Rattle.gs_base.specs.declared.refusal.Refusal.TheVariants as refusals
use Rattle.gs_msg.specs.declared.event.Event.{Event}
use Rattle.gs_cluster_history.specs.Histories.{Kept, Upshot, doer}
use Rattle.gs_cluster_history.specs.declared.took.Took.{Took}
use Rattle.gs_cluster_node.specs.Nodes.{Receives, Steps, last_clock}

module _ {C : Type 0} (Does : Took → C → Upshot → C → Type 0) (old new : Kept C) where
  pub receives_not : (refusal : Refusal) → Receives Does old (Err refusal) new → (refusal ≡ refusals.Exhausted) × (new ≡ old) × (old.past.clock ≡ last_clock)
  receives_not refusals.Exhausted (same, last) = (refl, same, last)
  receives_not refusal none = absurd none

  pub steps_not : (event : Event) (refusal : Refusal) → Steps Does old event (Err refusal) new
      → (new ≡ old) × (((refusal ≡ refusals.Exhausted) × (old.past.clock ≡ last_clock)) ⊎ ((refusal ≡ refusals.Stray) × (doer event.happening ≡ Some old.me → ⊥)))
  steps_not event refusals.Exhausted (same, last) = (same, inl (refl, last))
  steps_not event refusals.Stray (same, other) = (same, inr (refl, other))
  steps_not event refusal none = absurd none
