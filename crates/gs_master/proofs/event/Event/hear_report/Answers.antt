use Rattle.std.proofs.Common.{◌≡◌, ◌∙◌, ap, subst}
use Rattle.gs_master_spec.specs.Hearing.{drops, lost, made_quiet, sends}
use Rattle.gs_master_spec.specs.State.{and_then}
use Rattle.gs_master.specs.inner.Turns.{EventSteps, state_at}
use Rattle.gs_master.proofs.Composing.{steps_and}
use Rattle.gs_master.proofs.Entered.{goes_back_on}
use Rattle.gs_master.proofs.event.Event.hear_report.Goals as goal

pub returns-clause-steps : goal.returns-clause-steps
returns-clause-steps c =
    let s = state_at c.args.self.now in
    let replicas = c.args.replicas.now in
    let all : EventSteps (and_then (sends s c.in_ok-drops.drops.items) (made_quiet c.deref.result.now)) c.args.self.now c.make_quiet.result c.make_quiet.new.self =
    steps_and (sends s c.in_ok-drops.drops.items) (made_quiet c.deref.result.now) c.args.self.now c.send.new.self _ _ c.in_ok-send.ensures.steps c.make_quiet.ensures.steps in
    let dropped : c.in_ok-drops.drops.items ≡ drops s c.args.server replicas = c.in_ok-drops.ensures ∙ ap (λ x. drops x c.args.server replicas) c.standing.ensures in
    let gone : c.deref.result.now ≡ lost s c.args.server replicas = c.deref.ensures.value ∙ c.in_ok-lost.ensures ∙ ap (λ x. lost x c.args.server replicas) c.standing-2.ensures in
    subst (λ l. EventSteps (and_then (sends s (drops s c.args.server replicas)) (made_quiet l)) c.args.self.now c.make_quiet.result c.make_quiet.new.self) gone
    (subst (λ d. EventSteps (and_then (sends s d) (made_quiet c.deref.result.now)) c.args.self.now c.make_quiet.result c.make_quiet.new.self) dropped all)

pub returns-clause-back : goal.returns-clause-back
returns-clause-back c = goes_back_on _ _ _ c.send.ensures.back c.make_quiet.ensures.back
