use Rattle.std.proofs.Common.{subst}
use Rattle.std.specs.FinMap as fin
use Rattle.gs_master.specs.inner.Turns.{EventSteps, state_at}
use Rattle.gs_master_spec.specs.Working.{removed_paths, scanned}
use Rattle.gs_master.proofs.event.Event.scan.Goals as goal

pub returns-clause-steps : goal.returns-clause-steps
returns-clause-steps c =
    let s = state_at c.args.self.now in
    let paths = removed_paths c.args.moment.0 (fin.entries s.durable.names.tree) in
    let done = subst (λ removed. EventSteps (scanned s c.args.req removed c.in_ok-scan.scan.forgotten.items) c.args.self.now c.sweep.result c.sweep.new.self) c.in_ok-scan.ensures.removed c.sweep.ensures.steps in
    subst (λ forgotten. EventSteps (scanned s c.args.req paths forgotten) c.args.self.now c.sweep.result c.sweep.new.self) c.in_ok-scan.ensures.forgotten done
