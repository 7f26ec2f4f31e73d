use Rattle.gs_keep.proofs.Behind.{goes_on}
use Rattle.gs_keep.proofs.promises.a_log_goes_on_where_another_has_ended.Goals as goal

pub returns : goal.returns
returns g c = goes_on g.M.Answering.Answers g.M.Keeping.is_kept g.M.Keeping.is_turned_away g.M.Keeping.own
