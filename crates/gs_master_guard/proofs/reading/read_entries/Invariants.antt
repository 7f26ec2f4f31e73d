use Rattle.std.proofs.Common.{drop, map}
use Rattle.gs_master_record.specs.Plain.{plain}
use Rattle.gs_master_guard.proofs.ReadSoFar.{ReadSoFar}
use Rattle.gs_master_guard.proofs.reading.read_entries.Given as goal

abbrev pub invariant-loop-record : goal.invariant-loop-record
invariant-loop-record l = ReadSoFar l.version l.records (map plain l.entries.items) (drop l.record-index l.records)
