use Rattle.gs_base.proofs.ToldBack.{only_one}
use Rattle.gs_base.proofs.promises.a_refusal_is_told_by_number_and_detail.Goals as goal

pub returns : goal.returns
returns c = only_one
