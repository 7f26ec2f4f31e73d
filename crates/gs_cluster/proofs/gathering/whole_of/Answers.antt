use Rattle.std.proofs.Common.{[], ap, arith}
use Rattle.gs_base.specs.declared.config.Config.{Config}
use Rattle.gs_cluster.proofs.Ended.{has_master}
use Rattle.gs_cluster.proofs.Noted.{all_senders, has_whole}
use Rattle.gs_cluster.proofs.gathering.whole_of.Goals as goal

pub nodes_from-requires : goal.nodes_from-requires
nodes_from-requires g c =
    has_master g.D.Disk.seen g.D.Disk.failures c.matching_histories_are_a_run_of_the_store.ensures g.N.Plan.setting [] c.args.gathered.members.items c.args.gathered.notes.items c.requires.whole

pub posts_from-requires : goal.posts_from-requires
posts_from-requires g c =
    let all =
    all_senders g.D.Disk.seen g.D.Disk.failures c.matching_histories_are_a_run_of_the_store.ensures g.N.Plan.setting [] c.args.gathered.members.items c.args.gathered.notes.items c.requires.whole
    c.in_ok-events.field-0.sent.items c.in_ok-events.ensures.sent in
    let same = ap (λ (k : Config). k.servers) c.requires.config in
    let long = c.in_ok-events.field-0.sent.ok.0 in
    omega arith

pub returns : goal.returns
returns g c given w =
    has_whole g.D.Disk.seen g.D.Disk.failures c.matching_histories_are_a_run_of_the_store.ensures g.N.Plan.setting given c.args.gathered.members.items c.args.gathered.notes.items w c.args.config
    (record { nodes = c.in_ok-nodes.nodes; sent = c.in_ok-sent.sent; events = c.in_ok-events.field-0.events }) c.in_ok-events.field-0.sent.items c.requires.config
    c.in_ok-nodes.ensures c.in_ok-events.ensures.events c.in_ok-events.ensures.sent c.in_ok-sent.ensures
