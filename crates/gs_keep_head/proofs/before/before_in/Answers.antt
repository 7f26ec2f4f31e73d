use Rattle.std.proofs.Common.{◌∙◌, arith, sym}
use Rattle.gs_keep_head.proofs.Words.{not_seven, seven}
use Rattle.gs_keep_head.proofs.before.before_in.Goals as goal

pub returns-then-words-ne-BEFORE_WORDS : goal.returns-then-words-ne-BEFORE_WORDS
returns-then-words-ne-BEFORE_WORDS c = sym (not_seven c.args.words.now c.if-words-ne-BEFORE_WORDS.true)

pub returns : goal.returns
returns c = c.named_before.ensures ∙ sym (seven c.args.words.now _ (omega (arith, c.if-words-ne-BEFORE_WORDS.false)) (omega (arith, c.if-words-ne-BEFORE_WORDS.false)))
