use Rattle.gs_journal_disk.proofs.Moments.{weaker}
use Rattle.gs_journal.proofs.Crash.{appended, append_leaves}
use Rattle.gs_journal.proofs.ends.append_to.Goals as goal

pub returns-in_err-open_behind-clause-any_moment : goal.returns-in_err-open_behind-clause-any_moment
returns-in_err-open_behind-clause-any_moment g c =
    weaker g.D.Disk.moment g.D.Disk.left_since _ _ _ _ c.open_behind.ensures.any_moment (append_leaves _ _ c.requires.rest c.args.entry.now c.bytes.ensures.fits _ c.bytes.ensures.written)

pub returns-clause-any_moment : goal.returns-clause-any_moment
returns-clause-any_moment g c =
    weaker g.D.Disk.moment g.D.Disk.left_since _ _ _ _ c.open_behind.ensures.any_moment (append_leaves _ _ c.requires.rest c.args.entry.now c.bytes.ensures.fits _ c.bytes.ensures.written)

pub returns-clause-rest : goal.returns-clause-rest
returns-clause-rest g c = (appended _ _ c.requires.rest c.args.entry.now c.bytes.ensures.fits _ c.bytes.ensures.written _ c.in_ok-open_behind.ensures.seen).0

pub returns-clause-added : goal.returns-clause-added
returns-clause-added g c = (appended _ _ c.requires.rest c.args.entry.now c.bytes.ensures.fits _ c.bytes.ensures.written _ c.in_ok-open_behind.ensures.seen).1
