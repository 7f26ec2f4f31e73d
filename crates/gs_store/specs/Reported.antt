-- Reports have a code, and so have slots with their handles.
use Rattle.std.specs.Prelude.{ℕ, List}
use Rattle.std.specs.Coded.{Coded, coded_list, coded×, coded_ℕ}
use Rattle.gs_store.specs.Slots.{Slot, coded_slot}
use Rattle.gs_store.specs.declared.report.ReplicaReport.{ReplicaReport}
use Rattle.gs_store.specs.contracts.report.ReplicaReport as reports

abbrev pub coded_reports : Coded (List ReplicaReport)
coded_reports = coded_list reports.the_row.coded

abbrev pub coded_slots : Coded (List (ℕ × Slot))
coded_slots = coded_list (coded× coded_ℕ coded_slot)
