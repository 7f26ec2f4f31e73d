use Rattle.gs_journal_disk.specs.Disk.{Cut}
use Rattle.gs_journal_disk.proofs.Moments.{stepped, stepped_through}
use Rattle.gs_journal_disk.proofs.Steps.{cut_same}
use Rattle.gs_journal_disk.proofs.stage.keep_front.Goals as goal

pub returns-in_err-cut-clause-any_moment : goal.returns-in_err-cut-clause-any_moment
returns-in_err-cut-clause-any_moment g c =
    let d = g.D.Disk in
    stepped d.seen d.may_leave d.moment d.left_since (Cut c.args.len) _ _ (cut_same _) c.requires.durable (g.met.D.Disk.only_now c.args.disk.now) c.cut.ensures.time c.cut.ensures.crash

pub returns-clause-any_moment : goal.returns-clause-any_moment
returns-clause-any_moment g c =
    let d = g.D.Disk in
    stepped_through d.seen d.may_leave d.moment d.left_since (Cut c.args.len) _ _ _ (cut_same _) c.requires.durable (g.met.D.Disk.only_now c.args.disk.now) c.cut.ensures.time c.cut.ensures.crash c.sync.ensures.time
    c.sync.ensures.crash
