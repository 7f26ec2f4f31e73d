use Rattle.gs_journal_disk.proofs.Moments.{started}
use Rattle.gs_journal_disk.proofs.stage.settle_both.Goals as goal

pub returns-in_err-settle-clause-left_first : goal.returns-in_err-settle-clause-left_first
returns-in_err-settle-clause-left_first g c =
    c.settle.ensures.any_moment

pub returns-in_err-settle-clause-left_second : goal.returns-in_err-settle-clause-left_second
returns-in_err-settle-clause-left_second g c =
    let d = g.D.Disk in started d.moment d.left_since c.args.second.now _ (g.met.D.Disk.only_now c.args.second.now)
