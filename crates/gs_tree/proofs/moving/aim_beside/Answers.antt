use Rattle.std.proofs.Common.{sym, ◌∙◌, inr, refl}
use Rattle.gs_tree.proofs.Moves.{beside_apart, beside_same}
use Rattle.gs_tree.proofs.moving.aim_beside.Goals as goal

pub returns-then-eq-clause-err : goal.returns-then-eq-clause-err
returns-then-eq-clause-err c =
    inr (refl, beside_same c.args.path.now c.in-Some.field-0-1.now c.in-Some.old.now c.args.name (sym c.elements.ensures ∙ c.in-Some.ensures.cases.0) (sym c.eq.ensures ∙ c.if-eq.true))

pub returns-clause-other : goal.returns-clause-other
returns-clause-other c = beside_apart c.args.path.now c.in-Some.field-0-1.now c.in-Some.old.now c.args.name (sym c.elements.ensures ∙ c.in-Some.ensures.cases.0) (sym c.eq.ensures ∙ c.if-eq.false)
