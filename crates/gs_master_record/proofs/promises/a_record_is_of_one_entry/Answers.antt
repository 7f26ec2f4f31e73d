use Rattle.gs_master_record.proofs.Whole.{one_entry}
use Rattle.gs_master_record.proofs.promises.a_record_is_of_one_entry.Goals as goal

pub returns : goal.returns
returns c = one_entry
