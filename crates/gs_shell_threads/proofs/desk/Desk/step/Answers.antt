use Rattle.std.proofs.Common.{Ok, refl, subst, sym}
use Rattle.gs_shell_calls.specs.declared.answer.Answer.TheVariants as answers
use Rattle.gs_shell_grammar.specs.Grammar.{request_of}
use Rattle.gs_shell_threads.specs.Lines.{Comes}
use Rattle.gs_shell_threads.proofs.Stepping.{asks_as_ever}
use Rattle.gs_shell_threads.proofs.desk.Desk.step.Goals as goal

pub returns-in-At : goal.returns-in-At
unfolding Comes
returns-in-At g c =
    subst (λ x. Comes g.D.Disk.seen g.D.Disk.failures (request_of x) c.args.self.now (Ok answers.Done) (record { caller = c.args.self.now.caller; link = c.at.new.self })) (sym c.in-At.is)
    (refl, (refl, c.at.ensures.node, c.at.ensures.moment))

pub returns-in-Upgrade : goal.returns-in-Upgrade
unfolding Comes
returns-in-Upgrade g c = subst (λ x. Comes g.D.Disk.seen g.D.Disk.failures (request_of x) c.args.self.now c.upgrade.result c.upgrade.new.self) (sym c.in-Upgrade.is) c.upgrade.ensures

pub returns-in-Step : goal.returns-in-Step
unfolding Comes
returns-in-Step g c = subst (λ x. Comes g.D.Disk.seen g.D.Disk.failures (request_of x) c.args.self.now c.step_upgrade.result c.step_upgrade.new.self) (sym c.in-Step.is) c.step_upgrade.ensures

pub returns-in_default : goal.returns-in_default
unfolding Comes
returns-in_default g c =
    asks_as_ever c.args.self.now.caller.client.chunk c.args.command _ _ c.args.self.now.link c.ask.new.link c.ask.result c.in_default.not-At c.in_default.not-Upgrade c.in_default.not-Step c.ask.ensures
