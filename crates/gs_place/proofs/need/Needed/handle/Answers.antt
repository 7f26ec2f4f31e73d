use Rattle.std.proofs.Common.{Some, None, ◌∙◌}
use Rattle.gs_place.proofs.Most.{most_at, most_is}
use Rattle.gs_place.proofs.need.Needed.handle.Goals as goal

pub returns-in_err-need-clause-function : goal.returns-in_err-need-clause-function
returns-in_err-need-clause-function c = λ replicas needs h. c.from_residual.ensures ∙ most_is replicas needs None (most_at replicas needs c.args.self.now None c.in_err-need.was h)

pub returns-clause-function : goal.returns-clause-function
returns-clause-function c = λ replicas needs h. most_is replicas needs (Some c.in_ok-need.need) (most_at replicas needs c.args.self.now (Some c.in_ok-need.need) c.in_ok-need.was h)
