use Rattle.gs_keep_mark.proofs.Starts.{starts}
use Rattle.gs_keep_mark.proofs.promises.a_start_runs_what_was_answered.Goals as goal

pub returns : goal.returns
returns c = starts
