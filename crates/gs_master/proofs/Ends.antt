-- What is known of an edit by its refusal, and of two plans of which the first has room.
use Rattle.std.proofs.Common.{◌≡◌, true, Some, None, Result, Ok, Err, refl, subst, sym}
use Rattle.std.specs.Prelude.{if◌then◌else◌}
use Rattle.gs_base.specs.declared.refusal.Refusal.{Refusal}
use Rattle.gs_master_spec.specs.State.{Plan, State, Turn, and_then, fits, turned}
use Rattle.gs_master_state.specs.inner.Trying.{refusal_of}
use Rattle.gs_master.specs.inner.Turns.{EventSteps, WhyNotTurned}
use Rattle.gs_master.specs.declared.event.Event.{Event}

pub refused_by : {A : Type 0} (r : Result A Refusal) (refusal : Refusal) → Some refusal ≡ refusal_of r → r ≡ Err refusal
refused_by (Ok done) refusal h = cc
refused_by (Err other) refusal h = cc

pub accepted_by : {A : Type 0} (r : Result A Refusal) → None ≡ refusal_of r → (done : A) × (r ≡ Ok done)
accepted_by (Ok done) h = (done, refl)
accepted_by (Err other) h = cc

module _ (s : State) (made plan : Plan) (next : State → Turn) (other : Turn) (same : made ≡ plan) (room : fits s.log plan.records ≡ true) where
  pub steps_with_room : (old new : Event) (result : Result (Unit {0}) Refusal) → EventSteps (and_then (turned s made) next) old result new
      → EventSteps (if fits s.log plan.records then and_then (turned s plan) next else other) old result new
  steps_with_room old new result steps =
      subst (λ b. EventSteps (if b then and_then (turned s plan) next else other) old result new) (sym room) (subst (λ p. EventSteps (and_then (turned s p) next) old result new) same steps)

  pub refused_with_room : (old : Event) (e : Refusal) → WhyNotTurned (and_then (turned s made) next) old e
      → WhyNotTurned (if fits s.log plan.records then and_then (turned s plan) next else other) old e
  refused_with_room old e why =
      subst (λ b. WhyNotTurned (if b then and_then (turned s plan) next else other) old e) (sym room) (subst (λ p. WhyNotTurned (and_then (turned s p) next) old e) same why)
