use Rattle.gs_master_record.proofs.Form.{of_form}
use Rattle.gs_master_record.proofs.promises.a_record_is_of_its_form.Goals as goal

pub returns : goal.returns
returns c = of_form
