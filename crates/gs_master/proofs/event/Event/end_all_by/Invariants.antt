use Rattle.gs_master_spec.specs.State.{all_ended_by, ended_by}
use Rattle.gs_master.specs.inner.Turns.{GoesBack, state_at}
use Rattle.gs_master.proofs.Composing.{LeadsOn, rest_of}
use Rattle.gs_master.proofs.event.Event.end_all_by.Given as goal

abbrev pub invariant-loop-req : goal.invariant-loop-req
invariant-loop-req l = record {
  rest : LeadsOn (all_ended_by (state_at l.initial.self) l.reqs l.refusal) (rest_of (λ req next. ended_by next req l.refusal) (state_at l.self) l.reqs l.req-index) l.initial.self l.self;
  back : GoesBack l.initial.self l.self;
}
