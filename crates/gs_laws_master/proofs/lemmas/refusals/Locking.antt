-- When a call is refused for its locks.
use Rattle.std.proofs.Common.{◌≡◌, ◌&&◌, Bool, true, false, not, [], ◌∷◌, refl, ap}
use Rattle.std.specs.Prelude.{Option, Some, is_some}
use Rattle.std.proofs.lemmas.Bool.{false≢true}
use Rattle.gs_base.specs.declared.refusal.Refusal.{Refusal}
use Rattle.gs_base.specs.declared.refusal.Refusal.TheVariants as refusals
use Rattle.gs_master_spec.specs.Calls.{is_always_taken, is_any_deep, is_any_hidden, is_locked, is_work}
use Rattle.gs_master_spec.specs.Durable.{is_rolling}
use Rattle.gs_master_spec.specs.Handling.{called_unless}
use Rattle.gs_master_spec.specs.State.{first_of, is_failed}
use Rattle.gs_laws_master.specs.Promises.{LockedExactly, RefusedAtLocks}

abbrev first : Bool → Bool → Bool → Bool → Bool → Bool → Option Refusal
first failed rolling preparing deep locked hidden =
    first_of ((failed, refusals.Device) ∷ (rolling, refusals.RollingBack) ∷ (preparing, refusals.Preparing) ∷ (deep, refusals.BadPath) ∷ (locked, refusals.Locked) ∷ (hidden, refusals.HiddenName) ∷ [])

first_locked : (a b c d l h : Bool) → first a b c d l h ≡ Some refusals.Locked → ((not a && (not b && (not c && not d))) ≡ true) × (l ≡ true)
first_locked true b c d l h e = absurd cc
first_locked false true c d l h e = absurd cc
first_locked false false true d l h e = absurd cc
first_locked false false false true l h e = absurd cc
first_locked false false false false true h e = (refl, refl)
first_locked false false false false false true e = absurd cc
first_locked false false false false false false e = absurd (false≢true (ap is_some e))

locked_first : (a b c d l h : Bool) → (not a && (not b && (not c && not d))) ≡ true → l ≡ true → first a b c d l h ≡ Some refusals.Locked
locked_first true b c d l h none is = absurd (false≢true none)
locked_first false true c d l h none is = absurd (false≢true none)
locked_first false false true d l h none is = absurd (false≢true none)
locked_first false false false true l h none is = absurd (false≢true none)
locked_first false false false false true h none is = refl
locked_first false false false false false h none is = absurd (false≢true is)

pub locked_exactly : LockedExactly
locked_exactly s req call =
    let rolling = is_rolling s.durable.phase && not (is_always_taken call) in
    let preparing = s.volatile.is_preparing && is_work call in (
      first_locked (is_failed s.fault) rolling preparing (is_any_deep call) (is_locked s req call) (is_any_hidden call),
      λ h. locked_first (is_failed s.fault) rolling preparing (is_any_deep call) (is_locked s req call) (is_any_hidden call) h.0 h.1,
    )

pub refused_at_locks : RefusedAtLocks
refused_at_locks config s req moment call none is = ap (called_unless config s req moment call) ((locked_exactly s req call).1 (none, is))
