use Rattle.std.proofs.Common.{sym, ap, ◌∙◌}
use Rattle.std.specs.FinMap as fin
use Rattle.std.specs.Ordering.{nat_cmp}
use Rattle.gs_base_table.specs.Slots.{live}
use Rattle.gs_server.proofs.Putting.{put_back}
use Rattle.gs_server.proofs.leases.take_roomy.Goals as goal

pub returns-in-Err-clause-same : goal.returns-in-Err-clause-same
returns-in-Err-clause-same c =
    put_back (live nat_cmp c.args.leases.now) (live nat_cmp c.take_out.new.leases) (live nat_cmp c.put.new.self) c.args.handle c.in-Some.lease (sym c.in-Some.ensures.value) c.in-Some.ensures.taken
    (c.put.ensures.put ∙ ap (fin.insert (live nat_cmp c.take_out.new.leases) c.args.handle) c.in-Err.ensures.err)
