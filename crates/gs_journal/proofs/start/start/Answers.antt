use Rattle.gs_journal.proofs.Opening.{surveyed, put_right_then}
use Rattle.gs_journal.proofs.start.start.Goals as goal

pub returns-in_err-place-clause-any_moment : goal.returns-in_err-place-clause-any_moment
returns-in_err-place-clause-any_moment g c =
    let d = g.D.Disk in
    surveyed d.seen d.may_leave d.moment d.left_since c.args.first.now c.args.second.now (g.met.D.Disk.shows c.args.first.now) (g.met.D.Disk.shows c.args.second.now) _ _ c.survey.ensures.left_first c.survey.ensures.left_second

pub returns-in_err-place-2-clause-any_moment : goal.returns-in_err-place-2-clause-any_moment
returns-in_err-place-2-clause-any_moment g c =
    let d = g.D.Disk in
    put_right_then d.seen d.may_leave d.moment d.left_since c.args.first.now c.args.second.now (g.met.D.Disk.shows c.args.first.now) (g.met.D.Disk.shows c.args.second.now) _ _ _ _
    c.survey.ensures.seen_first c.survey.ensures.seen_second c.survey.ensures.left_first c.survey.ensures.left_second c.put_right.ensures.left_first c.put_right.ensures.left_second

pub returns-clause-any_moment : goal.returns-clause-any_moment
returns-clause-any_moment g c =
    let d = g.D.Disk in
    put_right_then d.seen d.may_leave d.moment d.left_since c.args.first.now c.args.second.now (g.met.D.Disk.shows c.args.first.now) (g.met.D.Disk.shows c.args.second.now) _ _ _ _
    c.survey.ensures.seen_first c.survey.ensures.seen_second c.survey.ensures.left_first c.survey.ensures.left_second c.put_right.ensures.left_first c.put_right.ensures.left_second
