use Rattle.std.proofs.Common.{sym, ◌∙◌}
use Rattle.std.proofs.lemmas.Result.{IfOk-weaker}
use Rattle.gs_tree.proofs.Moves.{into_dir}
use Rattle.gs_tree.proofs.moving.target_of.Goals as goal

pub returns : goal.returns
returns c m found =
    IfOk-weaker c.join.result _ _ (λ t is. is ∙ into_dir m c.args.from.now c.args.to.now c.in-Some.field-0-1.now c.in-Some.name.now (sym c.in-Dir.is ∙ found) (sym c.elements.ensures ∙ c.in-Some.ensures.cases.0)) c.join.ensures
