use Rattle.gs_cluster.proofs.Seeding.{rows_joined}
use Rattle.gs_cluster.proofs.opening.all_but_master.Goals as goal

pub returns-clause-rows : goal.returns-clause-rows
returns-clause-rows g c =
    rows_joined c.args.config c.args.clients c.new-seeds.result.items c.seed_servers.new.seeds.items c.seed_clients.new.seeds.items c.reserve.new.self.items
    c.new-seeds.ensures.items c.in_ok-seed_servers.ensures c.in_ok-seed_clients.ensures c.reserve.ensures.items
