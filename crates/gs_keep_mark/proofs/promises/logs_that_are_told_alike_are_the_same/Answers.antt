use Rattle.gs_keep_mark.proofs.Same.{same_logs}
use Rattle.gs_keep_mark.proofs.promises.logs_that_are_told_alike_are_the_same.Goals as goal

pub returns : goal.returns
returns c = same_logs
