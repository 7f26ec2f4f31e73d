use Rattle.gs_lease.specs.declared.view.Purpose.TheVariants as purposes
use Rattle.gs_master_spec.specs.Beginning.{all_begun, begun}
use Rattle.gs_master.specs.inner.Turns.{GoesBack, state_at}
use Rattle.gs_master.proofs.Composing.{LeadsOn, rest_of}
use Rattle.gs_master.proofs.event.Event.begin_all.Given as goal

abbrev pub invariant-loop-chunk : goal.invariant-loop-chunk
invariant-loop-chunk l = record {
  rest : LeadsOn (all_begun (state_at l.initial.self) l.chunks purposes.Quiet l.call) (rest_of (λ chunk next. begun next chunk purposes.Quiet l.call) (state_at l.self) l.chunks l.chunk-index) l.initial.self l.self;
  back : GoesBack l.initial.self l.self;
}
