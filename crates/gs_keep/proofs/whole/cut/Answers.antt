use Rattle.gs_keep.proofs.Logs.{cut_fails}
use Rattle.gs_keep.proofs.Weaken.{on_err}
use Rattle.gs_keep.proofs.whole.cut.Goals as goal

pub returns-clause-err : goal.returns-clause-err
returns-clause-err g c = on_err c.cut.result _ _ (cut_fails c.args.len _ _) c.cut.ensures.err
