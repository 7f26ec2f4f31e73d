use Rattle.std.proofs.Common.{◌≡◌, ◌++◌, ◌∙◌, Err, ap, sym, rules}
use Rattle.gs_tree.specs.Find.{at}
use Rattle.gs_tree.specs.Plain.{IsFree}
use Rattle.gs_tree.proofs.Moves.{parent_place}
use Rattle.gs_tree.proofs.moving.test_place.Goals as goal

pub returns-in_err-test_apart : goal.returns-in_err-test_apart
returns-in_err-test_apart c =
    let e : c.from_residual.result ≡ Err c.in_err-test_apart.field-0.0 = search rules in
    rw e (λ deep new. c.in_err-test_apart.ensures deep (at c.args.root.now) new)

pub returns-in-Missing : goal.returns-in-Missing
returns-in-Missing c =
    let free : IsFree (at c.args.root.now) c.args.target.now = λ r. ap (λ p. at c.args.root.now (p ++ r)) (sym c.elements.ensures) ∙ c.sort_at.ensures.free c.in-Missing.is r in
    parent_place c.test_parent.result (at c.args.root.now) c.args.from.now c.args.target.now c.in_ok-test_apart.ensures.0 c.in_ok-test_apart.ensures.1 free c.test_parent.ensures
