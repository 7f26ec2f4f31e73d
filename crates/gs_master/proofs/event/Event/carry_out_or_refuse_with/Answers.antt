use Rattle.std.proofs.Common.{ap, map, ◌∙◌}
use Rattle.std.specs.List.{list_any}
use Rattle.gs_master_record.specs.Plain.{plain}
use Rattle.gs_master_spec.specs.Applied.{is_whole_entry}
use Rattle.gs_master.proofs.Together.{no_checkpoint}
use Rattle.gs_master.proofs.event.Event.carry_out_or_refuse_with.Goals as goal

pub fits-requires : goal.fits-requires
fits-requires c = ap (λ l. list_any is_whole_entry (map plain l)) c.deref.ensures.value ∙ no_checkpoint (map plain c.args.plan.records.items) c.requires.together.records
