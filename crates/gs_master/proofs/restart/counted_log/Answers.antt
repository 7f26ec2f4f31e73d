use Rattle.std.proofs.Common.{map}
use Rattle.gs_master_record.specs.Plain.{plain}
use Rattle.gs_master.proofs.Recoveries.{counted_within}
use Rattle.gs_master.proofs.restart.counted_log.Goals as goal

pub returns-clause-counted : goal.returns-clause-counted
returns-clause-counted g c =
    let d = g.D.Disk in
    counted_within d.seen d.may_leave c.args.journal.now (map plain c.args.entries.now) c.records_behind-records.result c.in-Some.size c.requires.stands c.requires.records c.records_behind-records.ensures c.in-Some.ensures.told
