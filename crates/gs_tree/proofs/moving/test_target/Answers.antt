use Rattle.std.proofs.Common.{subst}
use Rattle.gs_tree.specs.Find.{at}
use Rattle.gs_tree.specs.inner.Steps.{IsKnown}
use Rattle.gs_tree.proofs.Moves.{parent_target}
use Rattle.gs_tree.proofs.moving.test_target.Goals as goal

pub returns-in-Missing : goal.returns-in-Missing
returns-in-Missing c m same known =
    parent_target c.test_parent.result m (at c.args.root.now) c.args.from.now c.args.target.now same c.in_ok-test_apart.ensures.0 c.in_ok-test_apart.ensures.1 (subst (IsKnown m c.args.target.now) c.in-Missing.is known) c.test_parent.ensures
