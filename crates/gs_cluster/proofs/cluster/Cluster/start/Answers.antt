use denote.Exit.{no}
use denote.Param.{param}
use denote.Param.Send.{arg_send, param_send}
use Rattle.std.proofs.Common.{◌∙◌, ◌+◌, List, ap, arith, length, sym}
use Rattle.gs_base.specs.declared.config.Config.{Config}
use Rattle.gs_cluster_core.specs.declared.role.Role.{Role}
use Rattle.gs_cluster_history.specs.Histories.{Kept}
use Rattle.gs_cluster_send.proofs.Roles.{role_row}
use Rattle.gs_cluster_threads.specs.Wired.{fresh}
use Rattle.gs_cluster.proofs.Lists.{length_map}
use Rattle.gs_cluster.proofs.Numbers.{all_long, few_nodes, few_servers}
use Rattle.gs_cluster.proofs.Seeding.{all_together, are_fresh, enough, may_begin, seeds_long}
use Rattle.gs_cluster.proofs.cluster.Cluster.start.Goals as goal

pub wire-requires-clause-few : goal.wire-requires-clause-few
wire-requires-clause-few g c = few_nodes g.N.Plan.setting c.requires.new.few

pub wire-requires-clause-begin : goal.wire-requires-clause-begin
wire-requires-clause-begin g c = may_begin g.D.Disk.seen g.D.Disk.failures g.N.Plan.setting c.args.opened.seeds.items c.requires.new.all c.requires.new.starts g.N.Naming.names c.requires.names

pub overflow_add-config : goal.overflow_add-config
overflow_add-config g c = let few = few_servers c.args.opened.config in omega arith

pub parted-requires : goal.parted-requires
parted-requires g c =
    let seeds = c.args.opened.seeds.items in
    let setting = g.N.Plan.setting in
    enough c.args.opened.config.servers setting.config.servers setting.clients _ (length c.in_ok-nodes.nodes.items) (length seeds)
    (ap (λ (k : Config). k.servers) c.requires.config) c.in_ok-nodes.nodes.ok.0
    (ap (λ (l : List (Kept (Role g.row.D.Denot))). length l) c.in_ok-nodes.ensures ∙ length_map fresh seeds)
    (seeds_long g.D.Disk.seen g.D.Disk.failures setting seeds c.requires.new.all c.requires.new.starts)

pub invariant_of-cluster : goal.invariant_of-cluster
invariant_of-cluster g c = record {
  sizes = c.requires.config;
  many =
      all_together _ _ c.args.opened.config.servers g.N.Plan.setting.config.servers g.N.Plan.setting.clients _
      c.in_ok-hosts.ensures c.in_ok-keepers.ensures.many (ap (λ (k : Config). k.servers) c.requires.config) (all_long g.N.Plan.setting);
}

pub returns-clause-clients : goal.returns-clause-clients
returns-clause-clients g c =
    let setting = g.N.Plan.setting in
    let seeds = c.args.opened.seeds.items in
    let many = sym c.in_ok-keepers.keepers.ok.0 ∙ c.in_ok-keepers.ensures.many ∙ ap (λ (k : Config). k.servers + 1) c.requires.config in
    c.in_ok-callers.ensures.nodes
    ∙ are_fresh g.D.Disk.seen g.D.Disk.failures setting seeds c.requires.new.all c.requires.new.starts c.in_ok-keepers.keepers.items c.in_ok-keepers.clients.items
    (c.in_ok-keepers.ensures.all ∙ c.in_ok-nodes.ensures) many

pub start-requires-send-C : goal.start-requires-send-C
start-requires-send-C g c κs within = param_send 1 _ (arg_send _ no _ (role_row (param 1 g.row.D) g.D.Disk c.type_bounds.send-D))

pub rounds-requires-send-C : goal.rounds-requires-send-C
rounds-requires-send-C g c κs within = param_send 1 _ (arg_send _ no _ (role_row (param 1 g.row.D) g.D.Disk c.type_bounds.send-D))
