use Rattle.std.proofs.Common.{◌≡◌, Err, length, map, rules, vec_len}
use Rattle.gs_cluster.specs.Finished.{HasWholeIfNoted}
use Rattle.gs_cluster.specs.declared.caller.Caller.{Caller}
use Rattle.gs_cluster.proofs.Ended.{all_callers, not_finished}
use Rattle.gs_cluster.proofs.Noted.{for_none, lacks_memory}
use Rattle.gs_cluster.proofs.cluster.Cluster.finish_whole.Goals as goal

pub returns-in_err-gathered : goal.returns-in_err-gathered
returns-in_err-gathered g c =
    let seen = g.D.Disk.seen in
    let failures = g.D.Disk.failures in
    let setting = g.N.Plan.setting in
    let callers = map (λ (k : Caller g.row.N.Denot g.row.D.Denot g.row.R.Denot). k.node) c.args.callers.items in
    let e : c.from_residual.result ≡ Err c.in_err-gathered.field-0.0 = search rules in
    rw e (not_finished seen failures (HasWholeIfNoted seen failures setting callers c.args.self.are_noted) setting callers (vec_len c.args.self.hosts.handles) _ c.in_err-gathered.ensures c.args.self.many)

pub returns-then-not-are_noted : goal.returns-then-not-are_noted
returns-then-not-are_noted g c =
    let callers = map (λ (k : Caller g.row.N.Denot g.row.D.Denot g.row.R.Denot). k.node) c.args.callers.items in (
      all_callers g.D.Disk.seen g.D.Disk.failures g.N.Plan.setting callers (vec_len c.args.self.hosts.handles) c.in_ok-gathered.ensures.0 c.args.self.many,
      c.if-not-are_noted.true,
    )

pub whole_of-requires-clause-whole : goal.whole_of-requires-clause-whole
whole_of-requires-clause-whole g c =
    let callers = map (λ (k : Caller g.row.N.Denot g.row.D.Denot g.row.R.Denot). k.node) c.args.callers.items in
    for_none g.D.Disk.seen g.D.Disk.failures g.N.Plan.setting callers c.in_ok-gathered.gathered.members.items c.in_ok-gathered.gathered.notes.items c.in_ok-gathered.ensures.1

pub returns-in-Ok : goal.returns-in-Ok
returns-in-Ok g c =
    let callers = map (λ (k : Caller g.row.N.Denot g.row.D.Denot g.row.R.Denot). k.node) c.args.callers.items in (
      all_callers g.D.Disk.seen g.D.Disk.failures g.N.Plan.setting callers (vec_len c.args.self.hosts.handles) c.in_ok-gathered.ensures.0 c.args.self.many,
      (c.if-not-are_noted.false, c.in-Ok.ensures callers c.in_ok-gathered.ensures.1),
    )

pub returns-in-Err : goal.returns-in-Err
returns-in-Err g c =
    let setting = g.N.Plan.setting in
    let callers = map (λ (k : Caller g.row.N.Denot g.row.D.Denot g.row.R.Denot). k.node) c.args.callers.items in
    lacks_memory (HasWholeIfNoted g.D.Disk.seen g.D.Disk.failures setting callers c.args.self.are_noted) (length callers) setting.clients c.in-Err.refusal c.in-Err.ensures
