use Rattle.std.proofs.Common.{◌≡◌, ◌∙◌, Err, length, rules, sym}
use Rattle.gs_cluster_core.specs.Roles.{DoesAs, StartsAs}
use Rattle.gs_cluster_core.specs.declared.role.Role.{Role}
use Rattle.gs_cluster_history.specs.Setting.{all_ids}
use Rattle.gs_cluster_threads.specs.Gathered.{IsWhole}
use Rattle.gs_cluster_threads.specs.declared.gathering.Gathered.{Gathered}
use Rattle.gs_cluster_threads.proofs.Hosting.{refused_alike}
use Rattle.gs_cluster.specs.Finished.{HasWholeRun}
use Rattle.gs_cluster.proofs.Noted.{finishes, for_none}
use Rattle.gs_cluster.proofs.gathering.gather.Goals as goal

pub returns-in_err-gathered : goal.returns-in_err-gathered
returns-in_err-gathered g c =
    let seen = g.D.Disk.seen in
    let failures = g.D.Disk.failures in
    let setting = g.N.Plan.setting in
    let all = length (all_ids setting) in
    let given = c.args.nodes.items in
    let e : c.from_residual.result ≡ Err c.in_err-gathered.field-0.0 = search rules in
    rw e (refused_alike (λ (x : Gathered (Role g.row.D.Denot)). IsWhole (DoesAs seen failures) (StartsAs seen failures setting) (all_ids setting) given x.members.items x.notes.items) (HasWholeRun seen failures setting given)
    _ all (length given) all _ c.in_err-gathered.ensures (λ same. c.args.nodes.ok.0 ∙ same))

pub whole_of-requires-clause-whole : goal.whole_of-requires-clause-whole
whole_of-requires-clause-whole g c =
    for_none g.D.Disk.seen g.D.Disk.failures g.N.Plan.setting c.args.nodes.items c.in_ok-gathered.gathered.members.items c.in_ok-gathered.gathered.notes.items c.in_ok-gathered.ensures.1

pub returns : goal.returns
returns g c =
    let setting = g.N.Plan.setting in
    finishes g.D.Disk.seen g.D.Disk.failures setting c.args.nodes.items c.in_ok-gathered.gathered.members.items c.in_ok-gathered.gathered.notes.items c.in_ok-gathered.ensures.1 (length (all_ids setting))
    (sym c.args.nodes.ok.0 ∙ c.in_ok-gathered.ensures.0) c.whole_of.result c.whole_of.ensures
