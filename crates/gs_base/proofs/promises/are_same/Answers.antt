use Rattle.std.proofs.Common.{sym, ◌∙◌}
use Rattle.gs_base.proofs.SameLaws.{same_equal, equal_same}
use Rattle.gs_base.proofs.promises.are_same.Goals as goal

pub returns : goal.returns
returns c = (λ same. same_equal c.args.left.now c.args.right.now (sym c.eq.ensures ∙ same), λ equal. c.eq.ensures ∙ equal_same c.args.left.now c.args.right.now equal)
