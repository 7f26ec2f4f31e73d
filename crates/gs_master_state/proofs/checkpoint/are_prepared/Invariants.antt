use Rattle.std.proofs.Common.{◌≡◌, ◌&&◌, drop}
use Rattle.std.specs.List.{list_all}
use Rattle.gs_master_record.specs.Plain.{plain_checkpoint}
use Rattle.gs_master_record.specs.declared.checkpoint.PreparedView.{PreparedView}
use Rattle.gs_master_spec.specs.Whole.{is_prepared_before, is_view_given}
use Rattle.gs_master_state.proofs.checkpoint.are_prepared.Given as goal

abbrev pub invariant-loop-entry : goal.invariant-loop-entry
invariant-loop-entry l =
    list_all (λ (v : PreparedView). is_view_given (plain_checkpoint l.checkpoint) v.settled.handle v.settled.view && is_prepared_before l.upgrade v.settled.view) (drop l.entry-index l.entry-items)
    ≡ list_all (λ (v : PreparedView). is_view_given (plain_checkpoint l.checkpoint) v.settled.handle v.settled.view && is_prepared_before l.upgrade v.settled.view) l.entry-items
