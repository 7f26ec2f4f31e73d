use Rattle.std.proofs.Common.{◌≡◌, sym, subst}
use Rattle.std.specs.Bool.{Decides}
use Rattle.gs_msg.proofs.Decided.{path_decides}
use Rattle.gs_msg.proofs.call.same_path.Goals as goal

pub returns : goal.returns
returns c = subst (λ b. Decides b (c.args.left.now ≡ c.args.right.now)) (sym c.eq.ensures) (path_decides c.args.left.now c.args.right.now)
