use Rattle.std.proofs.Common.{◌≡◌, false, map, subst, sym}
use Rattle.std.specs.List.{list_any}
use Rattle.gs_master_record.specs.Plain.{plain}
use Rattle.gs_master_spec.specs.Applied.{is_whole_entry}
use Rattle.gs_master.proofs.Together.{no_checkpoint}
use Rattle.gs_master.proofs.event.Event.carry_out_for.Goals as goal

pub fits-requires : goal.fits-requires
fits-requires c =
    subst (λ records. list_any is_whole_entry (map plain records) ≡ false) (sym c.deref.ensures.value) (no_checkpoint (map plain c.args.plan.records.items) c.requires.together.records)
