use Rattle.gs_master_record.specs.Plain.{Edited}
use Rattle.gs_master_spec.specs.Settling.{own_request}
use Rattle.gs_master_state.proofs.Mapping.{if_ok_weaker, mapped_both}
use Rattle.gs_master_plan.proofs.scan.scan_records.Goals as goal

pub returns : goal.returns
returns c = if_ok_weaker _ _ (λ all is. mapped_both (Edited own_request) _ _ _ _ c.in_ok-records.ensures is) c.and_forgotten.result c.and_forgotten.ensures
