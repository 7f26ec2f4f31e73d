-- What a line may ask of a store.
use Rattle.std.specs.Prelude.{◌≡◌, ℕ, refl}
use Rattle.gs_base.specs.declared.numbers.Moment.{Moment}
use Rattle.gs_base.specs.declared.numbers.ReqId.{ReqId}
use Rattle.gs_client_dialogue.specs.Dialogues.{Ask, Dialogue, Grow, Say}
use Rattle.gs_edit.specs.View.{NamesView}
use Rattle.gs_laws_master.specs.Standing.{IsNamedCall}
use Rattle.gs_laws_master.specs.Written.{IsMet}
use Rattle.gs_msg.specs.declared.call.Call.{Call}
use Rattle.gs_msg.specs.declared.event.Event.{Event}
use Rattle.gs_msg.specs.declared.event.Happening.TheVariants as happenings
use Rattle.gs_msg.specs.declared.event.Request.{Request}
use Rattle.gs_msg.specs.declared.event.Request.TheVariants as requests

-- ---- what a dialogue asks

-- each request that it may make, whatever is answered, is such, and so is what it comes to
abbrev pub Asks : {Q R A : Type 0} → (Q → Type 0) → (A → Type 0) → Dialogue Q R A → Type 0
Asks May Ends (Say said) = Ends said
Asks {Q} {R} {A} May Ends (Ask asked more) = May asked × ((reply : R) → Asks May Ends (more reply))
Asks May Ends (Grow rest) = Asks May Ends rest

-- each request is such
abbrev pub AllAsked : {Q R A : Type 0} → (Q → Type 0) → Dialogue Q R A → Type 0
AllAsked May call = Asks May (λ said. Unit {0}) call

-- ---- what a client may ask

-- the paths of a call are by the rules; and whatever names it meets, a record can tell the place of a chunk that is to be written
pub record MayBeCalled (call : Call) : Type 0 where
  pub named : IsNamedCall call
  pub met : (names : NamesView) → IsMet names call

abbrev pub MayBeAsked : Request → Type 0
MayBeAsked (requests.Call call) = MayBeCalled call
MayBeAsked request = Unit {0}

-- a client asks, as an event
abbrev pub asks_at : Moment → ReqId → Request → Event
asks_at moment req request = record { moment = moment; happening = happenings.Ask req request }

-- ---- examples

nothing_is_asked : AllAsked {R = ℕ} {A = ℕ} MayBeAsked (Say 7)
nothing_is_asked = tt

-- whatever is answered
the_same_is_asked_again : AllAsked (λ (asked : ℕ). asked ≡ 3) (Ask 3 (λ (reply : ℕ). Ask 3 (λ (again : ℕ). Say reply)))
the_same_is_asked_again = (refl, λ reply. (refl, λ again. tt))
