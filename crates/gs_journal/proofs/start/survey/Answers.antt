use Rattle.gs_journal_disk.proofs.Moments.{both}
use Rattle.gs_journal.proofs.start.survey.Goals as goal

pub returns-in_err-first_bytes-clause-left_first : goal.returns-in_err-first_bytes-clause-left_first
returns-in_err-first_bytes-clause-left_first g c =
    let d = g.D.Disk in both d.moment d.left_since _ _ _ _ _ _ c.settle_both.ensures.left_first c.read_all.ensures.any_moment (λ x left. left) c.settle_both.ensures.crash_first

pub returns-in_err-first_bytes-clause-left_second : goal.returns-in_err-first_bytes-clause-left_second
returns-in_err-first_bytes-clause-left_second g c =
    c.settle_both.ensures.left_second

pub returns-in_err-second_bytes-clause-left_first : goal.returns-in_err-second_bytes-clause-left_first
returns-in_err-second_bytes-clause-left_first g c =
    let d = g.D.Disk in both d.moment d.left_since _ _ _ _ _ _ c.settle_both.ensures.left_first c.read_all.ensures.any_moment (λ x left. left) c.settle_both.ensures.crash_first

pub returns-in_err-second_bytes-clause-left_second : goal.returns-in_err-second_bytes-clause-left_second
returns-in_err-second_bytes-clause-left_second g c =
    let d = g.D.Disk in both d.moment d.left_since _ _ _ _ _ _ c.settle_both.ensures.left_second c.read_all-2.ensures.any_moment (λ x left. left) c.settle_both.ensures.crash_second

pub returns-in_err-place-clause-left_first : goal.returns-in_err-place-clause-left_first
returns-in_err-place-clause-left_first g c =
    let d = g.D.Disk in both d.moment d.left_since _ _ _ _ _ _ c.settle_both.ensures.left_first c.read_all.ensures.any_moment (λ x left. left) c.settle_both.ensures.crash_first

pub returns-in_err-place-clause-left_second : goal.returns-in_err-place-clause-left_second
returns-in_err-place-clause-left_second g c =
    let d = g.D.Disk in both d.moment d.left_since _ _ _ _ _ _ c.settle_both.ensures.left_second c.read_all-2.ensures.any_moment (λ x left. left) c.settle_both.ensures.crash_second

pub returns-clause-left_first : goal.returns-clause-left_first
returns-clause-left_first g c =
    let d = g.D.Disk in both d.moment d.left_since _ _ _ _ _ _ c.settle_both.ensures.left_first c.read_all.ensures.any_moment (λ x left. left) c.settle_both.ensures.crash_first

pub returns-clause-left_second : goal.returns-clause-left_second
returns-clause-left_second g c =
    let d = g.D.Disk in both d.moment d.left_since _ _ _ _ _ _ c.settle_both.ensures.left_second c.read_all-2.ensures.any_moment (λ x left. left) c.settle_both.ensures.crash_second
