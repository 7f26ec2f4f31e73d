use Rattle.gs_cluster.proofs.Hearing.{is_lost, is_replied, looks_no_more, looks_on, none_heard}
use Rattle.gs_cluster.proofs.caller.Caller.wait.Goals as goal

pub loop-init : goal.loop-init
loop-init g c = none_heard g.D.Disk.seen g.D.Disk.failures c.args.self.now.node c.args.self.now.patience c.begin.new.self c.begin.ensures

pub look-requires : goal.look-requires
look-requires g c = c.loop.invariant.few

pub loop-preserved : goal.loop-preserved
loop-preserved g c =
    looks_on g.D.Disk.seen g.D.Disk.failures c.args.self.now.node c.loop.node c.look.new.node c.args.self.now.patience.vain c.loop.patience c.look.new.patience c.look.result tt c.loop.invariant c.look.ensures c.in-Ok.is

pub returns-in-Some-reply_at-clause-hears : goal.returns-in-Some-reply_at-clause-hears
returns-in-Some-reply_at-clause-hears g c =
    is_replied g.D.Disk.seen g.D.Disk.failures c.args.self.now.node c.loop.node c.args.self.now.patience.vain c.loop.patience c.core.result.now c.reply_at.result c.in-Some-reply_at.reply c.loop.invariant c.core.ensures c.reply_at.ensures c.in-Some-reply_at.is

pub returns-then-is_over-clause-hears : goal.returns-then-is_over-clause-hears
returns-then-is_over-clause-hears g c =
    is_lost g.D.Disk.seen g.D.Disk.failures c.args.self.now.node c.loop.node c.args.self.now.patience.vain c.loop.patience c.core.result.now c.loop.invariant c.core.ensures c.in_default.ensures (c.is_over.ensures.0 c.if-is_over.true)

pub returns-in-Err-clause-hears : goal.returns-in-Err-clause-hears
returns-in-Err-clause-hears g c =
    looks_no_more g.D.Disk.seen g.D.Disk.failures c.args.self.now.node c.loop.node c.look.new.node c.args.self.now.patience.vain c.loop.patience c.look.new.patience c.look.result c.in-Err.refusal c.loop.invariant c.look.ensures c.in-Err.is
