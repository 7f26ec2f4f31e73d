use Rattle.std.proofs.Common.{length}
use Rattle.gs_journal_disk.specs.Disk.{Torn}
use Rattle.gs_journal_disk.proofs.Moments.{stepped, stepped_through}
use Rattle.gs_journal_disk.proofs.Steps.{torn_same}
use Rattle.gs_journal_disk.proofs.stage.write_through.Goals as goal

pub returns-in_err-write_at-clause-any_moment : goal.returns-in_err-write_at-clause-any_moment
returns-in_err-write_at-clause-any_moment g c =
    let d = g.D.Disk in
    stepped d.seen d.may_leave d.moment d.left_since (Torn c.args.at (length c.args.bytes.now)) _ _ (torn_same _ _) c.requires.durable (g.met.D.Disk.only_now c.args.disk.now) c.write_at.ensures.time c.write_at.ensures.crash

pub returns-clause-any_moment : goal.returns-clause-any_moment
returns-clause-any_moment g c =
    let d = g.D.Disk in
    stepped_through d.seen d.may_leave d.moment d.left_since (Torn c.args.at (length c.args.bytes.now)) _ _ _ (torn_same _ _) c.requires.durable (g.met.D.Disk.only_now c.args.disk.now) c.write_at.ensures.time c.write_at.ensures.crash
    c.sync.ensures.time c.sync.ensures.crash
