-- Why no checkpoint is written, as far as that is known before one is made, and behind that.
use Rattle.std.proofs.Common.{◌≡◌, ◌⊎◌, inl, inr, ◌∙◌, ◌==◌, Bool, true, false, [], ◌∷◌, ap, refl}
use Rattle.std.specs.Prelude.{Option, Some, None, nat_lt}
use Rattle.gs_base.specs.declared.refusal.Refusal.{Refusal}
use Rattle.gs_base.specs.declared.refusal.Refusal.TheVariants as refusals
use Rattle.gs_journal.specs.Journal.{checkpoint_size, last_generation}
use Rattle.gs_master_plan.specs.Renewable.{refusal_beforehand, renewal_refusal}
use Rattle.gs_master_spec.specs.Handling.{checkpoint_body}
use Rattle.gs_master_spec.specs.State.{State, first_of, is_failed}

abbrev pub before : Bool → Bool → Bool → Option Refusal
before a b c = first_of ((a, refusals.Device) ∷ (b, refusals.Preparing) ∷ (c, refusals.Exhausted) ∷ [])

abbrev pub whole : Bool → Bool → Bool → Bool → Option Refusal
whole a b c d = first_of ((a, refusals.Device) ∷ (b, refusals.Preparing) ∷ (c, refusals.Exhausted) ∷ (d, refusals.Full) ∷ [])

-- what is known beforehand comes first
pub known_first : (a b c d : Bool) (e : Refusal) → Some e ≡ before a b c → Some e ≡ whole a b c d
known_first true b c d e is = is
known_first false true c d e is = is
known_first false false true d e is = is
known_first false false false d e is = absurd (cc)

-- where nothing is, room decides
pub room_last : (a b c d : Bool) → None ≡ before a b c → whole a b c d ≡ first_of ((d, refusals.Full) ∷ [])
room_last true b c d is = absurd (cc)
room_last false true c d is = absurd (cc)
room_last false false true d is = absurd (cc)
room_last false false false d is = refl

-- it is never memory
not_memory : (a b c d : Bool) → whole a b c d ≡ Some refusals.Memory → ⊥
not_memory true b c d is = cc
not_memory false true c d is = cc
not_memory false false true d is = cc
not_memory false false false true is = cc
not_memory false false false false is = cc

pub none_beforehand : (s : State) (e : Refusal) → e ≡ refusals.Memory → (((e ≡ refusals.Memory) × (refusal_beforehand s ≡ None)) ⊎ (renewal_refusal s ≡ Some e)) → refusal_beforehand s ≡ None
none_beforehand s e memory (inl is) = is.1
none_beforehand s e memory (inr some) =
    absurd (not_memory (is_failed s.fault) s.volatile.is_preparing (s.log.generation == last_generation) (nat_lt s.log.limit (checkpoint_size (checkpoint_body s.durable))) (some ∙ ap Some memory))
