-- That a file is noted for which a snapshot waits changes nothing else of an event.
use Rattle.std.proofs.Common.{◌≡◌, [], append-nil, refl, subst, sym}
use Rattle.std.specs.Prelude.{Result, Ok, Err}
use Rattle.gs_base.specs.declared.refusal.Refusal.{Refusal}
use Rattle.gs_master_spec.specs.State.{Turn}
use Rattle.gs_master.specs.inner.Turns.{EventSteps, GoesBack, IsUnderWay}
use Rattle.gs_master.specs.declared.event.Event.{Event}

pub noted_back : (old mid : Event) → IsUnderWay old → mid ≡ record old { held_up_by = mid.held_up_by } → GoesBack old mid
noted_back old mid ready noted = subst (GoesBack old) (sym noted) (record {
  keeps = record { back = λ before back. back; leases = refl; memory = refl; from = λ before log has. record { leads = has.leads; written = has.written; log = has.log; room = has.room } };
  ready = record { room = ready.room; counted = ready.counted };
  fault = refl;
  sent = ([], sym (append-nil _));
})

-- a step behind it is a step from before it
pub noted_steps : (t : Turn) (old mid : Event) (result : Result (Unit {0}) Refusal) (new : Event) → mid ≡ record old { held_up_by = mid.held_up_by } → EventSteps t mid result new → EventSteps t old result new
noted_steps t old mid result new noted steps = by_result result (subst (λ e. EventSteps t e result new) noted steps)
  where
    by_result : (r : Result (Unit {0}) Refusal) → EventSteps t (record old { held_up_by = mid.held_up_by }) r new → EventSteps t old r new
    by_result (Ok _) k = record { after = k.after; replays = k.replays; are_entries = k.are_entries; room = k.room; log = k.log; entries = k.entries; sent = k.sent; said = k.said }
    by_result (Err e) k = k
