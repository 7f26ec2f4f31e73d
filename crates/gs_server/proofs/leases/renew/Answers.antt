use Rattle.std.specs.Ordering.{nat_cmp}
use Rattle.gs_base_table.specs.Slots.{live}
use Rattle.gs_server_lease.specs.Leases.{renews}
use Rattle.gs_server.proofs.Made.{put_again}
use Rattle.gs_server.proofs.leases.renew.Goals as goal

pub returns-in-Some : goal.returns-in-Some
returns-in-Some c = λ l held. put_again (renews c.args.end) (live nat_cmp c.args.leases.now) (live nat_cmp c.take_out.new.leases) (live nat_cmp c.put.new.self) c.args.handle c.in-Some.lease c.renew.result l
    c.in-Some.ensures.value c.in-Some.ensures.taken c.renew.ensures c.put.ensures.put held
