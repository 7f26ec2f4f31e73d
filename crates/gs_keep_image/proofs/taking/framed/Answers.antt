use Rattle.std.proofs.Common.{◌≡◌, ◌++◌, [], drop, IfOk, subst, sym, ap, ◌∙◌, append-nil, arith}
use Rattle.std.proofs.Math.ListN.{drop_of_length-le}
use Rattle.gs_image.specs.Images.{written}
use Rattle.gs_parts_image.specs.Work.{bytes_of}
use Rattle.gs_keep_image.proofs.taking.framed.Goals as goal

pub returns-clause-image : goal.returns-clause-image
returns-clause-image c =
    let parts = c.args.parts.now in
    let none : drop c.loop-part.part-index parts ≡ [] = drop_of_length-le parts (grind (arith, c.loop-part-test.false)) in
    let all : c.loop-part.writer ≡ bytes_of parts =
    sym (append-nil c.loop-part.writer) ∙ ap (λ rest. c.loop-part.writer ++ bytes_of rest) (sym none) ∙ c.loop-part.invariant in
    subst (λ w. IfOk c.finish.result (λ bytes. bytes.items ≡ written w)) all c.finish.ensures.image
