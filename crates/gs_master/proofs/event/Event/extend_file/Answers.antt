use Rattle.std.proofs.Common.{subst, sym}
use Rattle.std.specs.FinMap as fin
use Rattle.gs_master_spec.specs.State.{Turn}
use Rattle.gs_master.specs.inner.Turns.{EventSteps, state_at}
use Rattle.gs_master.proofs.Lengthened.{extends_nothing}
use Rattle.gs_master.proofs.event.Event.extend_file.Goals as goal

pub returns-in-Err-clause-steps : goal.returns-in-Err-clause-steps
returns-in-Err-clause-steps c =
    let s = state_at c.args.self.now in
    subst (λ (t : Turn). EventSteps t c.args.self.now c.refuse.result c.refuse.new.self)
    (sym (extends_nothing c.args.config.now s c.args.req c.args.path c.args.index (fin.get s.durable.names.tree c.args.path) c.in-Err.refusal c.in-Err.ensures)) c.refuse.ensures.steps
