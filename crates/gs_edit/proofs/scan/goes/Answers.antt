use Rattle.std.proofs.Common.{◌≡◌, ◌<◌, ◌++◌, ◌∷◌, [], ◌+◌, drop, length, sym, ap, ◌∙◌, arith}
use Rattle.std.proofs.lemmas.List.{drop_more, drop_all}
use Rattle.std.proofs.lemmas.Result.{IfOk-weaker}
use Rattle.gs_path.specs.Path.{Path}
use Rattle.gs_edit.specs.Scan.{goes}
use Rattle.gs_edit.proofs.Scanned.{goes_over, goes_on}
use Rattle.gs_edit.proofs.scan.goes.Goals as goal

pub loop-name-init : goal.loop-name-init
loop-name-init c = ap (λ (p : Path). goes c.args.moment.0 p) (sym c.in-Some.ensures.cases.0)

pub returns-then-branch : goal.returns-then-branch
returns-then-branch c =
    let above : Path = c.in-Some.above.now in
    let i = c.loop-name.name-index in
    let x = c.name-item.result in
    let more : i < length above = omega arith in
    let here : drop i above ≡ x ∷ drop (i + 1) above = drop_more above i x more ∙ ap (λ y. y ∷ drop (i + 1) above) (sym c.name-item.is) in
    sym (goes_over c.args.moment.0 x (drop (i + 1) above) c.in-Some.last.now (sym c.in_ok-is_over.ensures ∙ c.if-branch.true))
    ∙ ap (λ (p : Path). goes c.args.moment.0 (p ++ c.in-Some.last.now ∷ [])) (sym here) ∙ c.loop-name.invariant

pub loop-name-preserved : goal.loop-name-preserved
loop-name-preserved c =
    let above : Path = c.in-Some.above.now in
    let i = c.loop-name.name-index in
    let x = c.name-item.result in
    let more : i < length above = omega arith in
    let here : drop i above ≡ x ∷ drop (i + 1) above = drop_more above i x more ∙ ap (λ y. y ∷ drop (i + 1) above) (sym c.name-item.is) in
    sym (goes_on c.args.moment.0 x (drop (i + 1) above) c.in-Some.last.now (sym c.in_ok-is_over.ensures ∙ c.if-branch.false))
    ∙ ap (λ (p : Path). goes c.args.moment.0 (p ++ c.in-Some.last.now ∷ [])) (sym here) ∙ c.loop-name.invariant

pub returns : goal.returns
returns c =
    let above : Path = c.in-Some.above.now in
    let none : drop c.loop-name.name-index above ≡ [] = drop_all c.loop-name.name-index above (omega arith) in
    IfOk-weaker c.is_over-2.result _ _
    (λ over h. h ∙ ap (λ (p : Path). goes c.args.moment.0 (p ++ c.in-Some.last.now ∷ [])) (sym none) ∙ c.loop-name.invariant)
    c.is_over-2.ensures
