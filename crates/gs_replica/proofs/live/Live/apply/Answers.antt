use Rattle.std.proofs.Common.{rules}
use Rattle.gs_replica.proofs.Sealing.{refuses}
use Rattle.gs_replica.proofs.live.Live.apply.Goals as goal

pub returns-in_err-foresee-clause-judged : goal.returns-in_err-foresee-clause-judged
returns-in_err-foresee-clause-judged c = refuses _ _ _ _ c.in_err-foresee.ensures.told (search rules)
