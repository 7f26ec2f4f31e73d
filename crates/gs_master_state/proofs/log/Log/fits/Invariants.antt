use Rattle.std.proofs.Common.{◌≡◌, ◌+◌, ◌-◌, ◌≤◌, drop, false, map}
use Rattle.std.specs.List.{list_any}
use Rattle.gs_master_record.specs.Plain.{plain}
use Rattle.gs_master_spec.specs.Applied.{is_whole_entry}
use Rattle.gs_master_spec.specs.State.{size_of_all}
use Rattle.gs_master_state.specs.inner.Room.{room_left}
use Rattle.gs_master_state.proofs.log.Log.fits.Given as goal

abbrev pub invariant-loop-entry : goal.invariant-loop-entry
invariant-loop-entry l = record {
  room : l.room ≡ room_left l.fn.self.limit (l.fn.self.size + size_of_all (map plain l.records) - size_of_all (map plain (drop l.entry-index l.records)));
  within : size_of_all (map plain (drop l.entry-index l.records)) ≤ size_of_all (map plain l.records);
  none : list_any is_whole_entry (map plain (drop l.entry-index l.records)) ≡ false;
}
