use denote.Exit.{no}
use denote.Param.{param}
use denote.Param.Send.{arg_send, param_send}
use Rattle.std.proofs.Common.{◌≡◌, ◌∙◌, ◌+◌, ℕ, List, ap, length, map, subst, vec_len}
use Rattle.gs_cluster_core.specs.Roles.{DoesAs, StartsAs}
use Rattle.gs_cluster_core.specs.declared.role.Role.{Role}
use Rattle.gs_cluster_history.specs.Histories.{Kept}
use Rattle.gs_cluster_history.specs.Setting.{all_ids}
use Rattle.gs_cluster_send.proofs.Roles.{role_row}
use Rattle.gs_cluster_threads.specs.Gathered.{Gathers}
use Rattle.gs_cluster.specs.declared.caller.Caller.{Caller}
use Rattle.gs_cluster.proofs.cluster.ended.Goals as goal

pub finish-requires-send-C : goal.finish-requires-send-C
finish-requires-send-C g c κs within = param_send 1 _ (arg_send _ no _ (role_row (param 1 g.row.D) g.D.Disk c.type_bounds.send-D))

pub returns : goal.returns
returns g c =
    let seen = g.D.Disk.seen in
    let failures = g.D.Disk.failures in
    let setting = g.N.Plan.setting in
    let callers = map (λ (k : Caller g.row.N.Denot g.row.D.Denot g.row.R.Denot). k.node) c.args.callers.items in
    let given = c.in_ok-of_callers.of_callers in
    let threads = vec_len c.args.hosts.handles in
    let many : vec_len given ≡ length callers = given.ok.0 ∙ ap (λ (l : List (Kept (Role g.row.D.Denot))). length l) c.in_ok-of_callers.ensures in
    subst (λ (n : ℕ). Gathers (DoesAs seen failures) (StartsAs seen failures setting) (all_ids setting) (threads + n) callers c.finish.result) many
    (subst (λ (l : List (Kept (Role g.row.D.Denot))). Gathers (DoesAs seen failures) (StartsAs seen failures setting) (all_ids setting) (threads + vec_len given) l c.finish.result) c.in_ok-of_callers.ensures c.finish.ensures)
