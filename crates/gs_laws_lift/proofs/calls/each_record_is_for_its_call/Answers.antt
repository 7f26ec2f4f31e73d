use Rattle.gs_laws_lift.proofs.lemmas.calls.Recorded.{records_are_for}
use Rattle.gs_laws_lift.proofs.calls.each_record_is_for_its_call.Goals as goal

pub returns : goal.returns
returns c = records_are_for
