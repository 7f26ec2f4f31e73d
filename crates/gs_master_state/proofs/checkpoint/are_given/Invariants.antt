use Rattle.std.proofs.Common.{◌≡◌, drop}
use Rattle.std.specs.List.{list_all}
use Rattle.gs_master_record.specs.Plain.{plain_checkpoint}
use Rattle.gs_master_record.specs.declared.checkpoint.SettledEntry.{SettledEntry}
use Rattle.gs_master_spec.specs.Whole.{is_view_given}
use Rattle.gs_master_state.proofs.checkpoint.are_given.Given as goal

abbrev pub invariant-loop-entry : goal.invariant-loop-entry
invariant-loop-entry l =
    list_all (λ (s : SettledEntry). is_view_given (plain_checkpoint l.checkpoint) s.settled.handle s.settled.view) (drop l.entry-index l.entry-items)
    ≡ list_all (λ (s : SettledEntry). is_view_given (plain_checkpoint l.checkpoint) s.settled.handle s.settled.view) l.entry-items
