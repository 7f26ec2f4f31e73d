use Rattle.gs_server.proofs.Telling.{repeats_tell}
use Rattle.gs_server.proofs.promises.repeats_are_done_where_all_have_them.Goals as goal

pub returns : goal.returns
returns c = λ h p req stamp op last found same. repeats_tell h p req stamp op last found same
