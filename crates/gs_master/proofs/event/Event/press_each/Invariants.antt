use Rattle.gs_master_spec.specs.Handling.{pressed}
use Rattle.gs_master_spec.specs.State.{for_each}
use Rattle.gs_master.specs.inner.Turns.{GoesBack, state_at}
use Rattle.gs_master.proofs.Composing.{LeadsOn, rest_of}
use Rattle.gs_master.proofs.event.Event.press_each.Given as goal

abbrev pub invariant-loop-proposal : goal.invariant-loop-proposal
invariant-loop-proposal l = record {
  rest : LeadsOn (for_each (state_at l.initial.self) l.proposals (pressed l.moment)) (rest_of (pressed l.moment) (state_at l.self) l.proposals l.proposal-index) l.initial.self l.self;
  back : GoesBack l.initial.self l.self;
}
