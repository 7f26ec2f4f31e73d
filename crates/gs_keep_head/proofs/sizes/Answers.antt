use Rattle.std.proofs.Common.{arith, subst, sym}
use Rattle.gs_keep_head.specs.Head.{SizedAs}
use Rattle.gs_keep_head.proofs.Words.{not_twelve, twelve}
use Rattle.gs_keep_head.proofs.sizes.Goals as goal

pub returns-then-words-ne12 : goal.returns-then-words-ne12
returns-then-words-ne12 c = not_twelve c.args.words.now c.if-words-ne12.true

pub returns : goal.returns
returns c =
    subst (SizedAs c.first_line.result) (sym (twelve c.args.words.now _ (omega (arith, c.if-words-ne12.false)) (omega (arith, c.if-words-ne12.false)))) c.first_line.ensures
