use Rattle.gs_journal_disk.proofs.Moments.{nothing_more, goes_on}
use Rattle.gs_journal.proofs.start.read_all.Goals as goal

pub returns-in_err-size-clause-any_moment : goal.returns-in_err-size-clause-any_moment
returns-in_err-size-clause-any_moment g c =
    let d = g.D.Disk in nothing_more d.seen d.may_leave d.moment d.left_since _ _ (g.met.D.Disk.only_now c.args.disk.now) c.length.ensures.time c.length.ensures.crash

pub returns-in_err-bytes-clause-any_moment : goal.returns-in_err-bytes-clause-any_moment
returns-in_err-bytes-clause-any_moment g c =
    let d = g.D.Disk in nothing_more d.seen d.may_leave d.moment d.left_since _ _ (g.met.D.Disk.only_now c.args.disk.now) c.length.ensures.time c.length.ensures.crash

pub returns-in_err-read-clause-any_moment : goal.returns-in_err-read-clause-any_moment
returns-in_err-read-clause-any_moment g c =
    let d = g.D.Disk in
    goes_on d.moment d.left_since _ _ _ _ _ (nothing_more d.seen d.may_leave d.moment d.left_since _ _ (g.met.D.Disk.only_now c.args.disk.now) c.length.ensures.time c.length.ensures.crash) c.read.ensures.time
    (λ x left. c.length.ensures.crash x (c.read.ensures.crash x left))

pub returns-clause-any_moment : goal.returns-clause-any_moment
returns-clause-any_moment g c =
    let d = g.D.Disk in
    goes_on d.moment d.left_since _ _ _ _ _ (nothing_more d.seen d.may_leave d.moment d.left_since _ _ (g.met.D.Disk.only_now c.args.disk.now) c.length.ensures.time c.length.ensures.crash) c.read.ensures.time
    (λ x left. c.length.ensures.crash x (c.read.ensures.crash x left))
