use Rattle.std.proofs.Common.{◌≡◌, Err, map, rules, vec_len}
use Rattle.gs_cluster.specs.Finished.{HasRun}
use Rattle.gs_cluster.specs.declared.caller.Caller.{Caller}
use Rattle.gs_cluster.proofs.Ended.{all_callers, has_master, has_run, not_finished}
use Rattle.gs_cluster.proofs.cluster.Cluster.finish.Goals as goal

pub returns-in_err-members : goal.returns-in_err-members
returns-in_err-members g c =
    let seen = g.D.Disk.seen in
    let failures = g.D.Disk.failures in
    let setting = g.N.Plan.setting in
    let callers = map (λ (k : Caller g.row.N.Denot g.row.D.Denot g.row.R.Denot). k.node) c.args.callers.items in
    let e : c.from_residual.result ≡ Err c.in_err-members.field-0.0 = search rules in
    rw e (not_finished seen failures (HasRun seen failures setting callers) setting callers (vec_len c.args.self.hosts.handles) _ c.in_err-members.ensures c.args.self.many)

pub nodes_from-requires : goal.nodes_from-requires
nodes_from-requires g c =
    let callers = map (λ (k : Caller g.row.N.Denot g.row.D.Denot g.row.R.Denot). k.node) c.args.callers.items in
    has_master g.D.Disk.seen g.D.Disk.failures c.matching_histories_are_a_run_of_the_store.ensures g.N.Plan.setting callers c.in_ok-members.field-0.members.items c.in_ok-members.field-0.notes.items c.in_ok-members.ensures.1

pub returns : goal.returns
returns g c =
    let callers = map (λ (k : Caller g.row.N.Denot g.row.D.Denot g.row.R.Denot). k.node) c.args.callers.items in (
      all_callers g.D.Disk.seen g.D.Disk.failures g.N.Plan.setting callers (vec_len c.args.self.hosts.handles) c.in_ok-members.ensures.0 c.args.self.many,
      has_run g.D.Disk.seen g.D.Disk.failures c.matching_histories_are_a_run_of_the_store.ensures g.N.Plan.setting callers c.in_ok-members.field-0.members.items c.in_ok-members.field-0.notes.items c.in_ok-members.ensures.1
          c.args.self.config c.in_ok-nodes_from.field-0 c.args.self.sizes c.in_ok-nodes_from.ensures,
    )
