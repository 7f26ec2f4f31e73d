use Rattle.gs_master_spec.specs.Settling.{all_go_on, goes_on}
use Rattle.gs_master.specs.inner.Turns.{GoesBack, state_at}
use Rattle.gs_master_spec.specs.declared.pending.Pending.{Pending}
use Rattle.gs_master.proofs.Composing.{LeadsOn, rest_of}
use Rattle.gs_master.proofs.event.Event.all_go_on.Given as goal

abbrev pub invariant-loop-call : goal.invariant-loop-call
invariant-loop-call l = record {
  rest : LeadsOn (all_go_on l.view l.calls (state_at l.initial.self)) (rest_of (λ (p : Pending) next. goes_on next p.req l.view p.waits) (state_at l.self) l.calls l.call-index) l.initial.self l.self;
  back : GoesBack l.initial.self l.self;
}
