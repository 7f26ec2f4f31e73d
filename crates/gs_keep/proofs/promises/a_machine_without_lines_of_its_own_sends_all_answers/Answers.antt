use Rattle.gs_keep.proofs.Batches.{sends_all}
use Rattle.gs_keep.proofs.promises.a_machine_without_lines_of_its_own_sends_all_answers.Goals as goal

pub returns : goal.returns
returns g c = sends_all g.M.Answering.Answers g.M.Keeping.is_kept g.M.Keeping.is_turned_away g.M.Keeping.own
