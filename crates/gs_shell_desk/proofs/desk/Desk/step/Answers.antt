use Rattle.std.proofs.Common.{subst, sym}
use Rattle.gs_shell_grammar.specs.Grammar.{request_of}
use Rattle.gs_shell_desk.specs.Lines.{Comes}
use Rattle.gs_shell_desk.proofs.Stepping.{asks_something}
use Rattle.gs_shell_desk.proofs.desk.Desk.step.Goals as goal

pub returns-in-Beat : goal.returns-in-Beat
unfolding Comes
returns-in-Beat g c = subst (λ x. Comes g.D.Disk.seen g.D.Disk.failures (request_of x) c.args.self.now c.beat.result c.beat.new.self) (sym c.in-Beat.is) (c.beat.ensures.client, c.beat.ensures.does)

pub returns-in-Tick : goal.returns-in-Tick
unfolding Comes
returns-in-Tick g c = subst (λ x. Comes g.D.Disk.seen g.D.Disk.failures (request_of x) c.args.self.now c.tick.result c.tick.new.self) (sym c.in-Tick.is) (c.tick.ensures.client, c.tick.ensures.does)

pub returns-in-At : goal.returns-in-At
unfolding Comes
returns-in-At g c = subst (λ x. Comes g.D.Disk.seen g.D.Disk.failures (request_of x) c.args.self.now c.set_moment.result c.set_moment.new.self) (sym c.in-At.is) (c.set_moment.ensures.client, c.set_moment.ensures.does)

pub returns-in-Restart : goal.returns-in-Restart
unfolding Comes
returns-in-Restart g c = subst (λ x. Comes g.D.Disk.seen g.D.Disk.failures (request_of x) c.args.self.now c.restart.result c.restart.new.self) (sym c.in-Restart.is) (c.restart.ensures.client, c.restart.ensures.does)

pub returns-in-Lose : goal.returns-in-Lose
unfolding Comes
returns-in-Lose g c = subst (λ x. Comes g.D.Disk.seen g.D.Disk.failures (request_of x) c.args.self.now c.lose.result c.lose.new.self) (sym c.in-Lose.is) (c.lose.ensures.client, c.lose.ensures.does)

pub returns-in-Damage : goal.returns-in-Damage
unfolding Comes
returns-in-Damage g c = subst (λ x. Comes g.D.Disk.seen g.D.Disk.failures (request_of x) c.args.self.now c.damage.result c.damage.new.self) (sym c.in-Damage.is) (c.damage.ensures.client, c.damage.ensures.does)

pub returns-in-Hold : goal.returns-in-Hold
unfolding Comes
returns-in-Hold g c = subst (λ x. Comes g.D.Disk.seen g.D.Disk.failures (request_of x) c.args.self.now c.hold.result c.hold.new.self) (sym c.in-Hold.is) (c.hold.ensures.client, c.hold.ensures.does)

pub returns-in-Deliver : goal.returns-in-Deliver
unfolding Comes
returns-in-Deliver g c = subst (λ x. Comes g.D.Disk.seen g.D.Disk.failures (request_of x) c.args.self.now c.hand_over.result c.hand_over.new.self) (sym c.in-Deliver.is) (c.hand_over.ensures.client, c.hand_over.ensures.does)

pub returns-in_default : goal.returns-in_default
unfolding Comes
returns-in_default g c =
    asks_something c.args.self.now.caller.client.chunk c.args.command _ _ _
    c.in_default.not-Beat c.in_default.not-Tick c.in_default.not-At c.in_default.not-Restart c.in_default.not-Lose c.in_default.not-Damage c.in_default.not-Hold c.in_default.not-Deliver
    c.ask.ensures
