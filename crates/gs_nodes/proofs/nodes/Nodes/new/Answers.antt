use Rattle.std.proofs.Common.{rules, ◌≡◌, IfErr, Err, sym, subst, inr}
use Rattle.gs_nodes.specs.Crashing.{SurvivesUnopened}
use Rattle.gs_nodes.specs.Happenings.{WhyNotBegun}
use Rattle.gs_nodes.proofs.Surviving.{untouched}
use Rattle.gs_nodes.proofs.nodes.Nodes.new.Goals as goal

pub returns-in_err-master-clause-refused : goal.returns-in_err-master-clause-refused
returns-in_err-master-clause-refused g c =
    let e : c.from_residual.result ≡ Err c.in_err-master.field-0.0 = search rules in
    subst (λ r. IfErr r (WhyNotBegun g.D.Disk.seen g.D.Disk.failures c.args.config c.args.disks)) (sym e) (inr c.in_err-master.ensures.refused)

pub returns-in_err-master-clause-survives_refused : goal.returns-in_err-master-clause-survives_refused
returns-in_err-master-clause-survives_refused g c =
    let d = g.D.Disk in
    let e : c.from_residual.result ≡ Err c.in_err-master.field-0.0 = search rules in
    subst (λ r. IfErr r (λ u. SurvivesUnopened d.seen d.may_leave d.moment d.left_since c.args.disks u.first u.second)) (sym e)
    (record { any_moment = c.in_err-master.ensures.any_moment_refused; lasts = c.in_err-master.ensures.lasts })

pub returns-in_default-clause-survives_refused : goal.returns-in_default-clause-survives_refused
returns-in_default-clause-survives_refused g c =
    let d = g.D.Disk in untouched d.seen d.may_leave d.moment d.left_since g.met.D.Disk.only_now c.args.disks.0 c.args.disks.1
