use Rattle.std.proofs.Common.{arith, subst, sym}
use Rattle.gs_keep_head.specs.Head.{CalledAs}
use Rattle.gs_keep_head.proofs.Words.{not_two, two}
use Rattle.gs_keep_head.proofs.name.name_in.Goals as goal

pub returns-then-words-ne-NAME_WORDS : goal.returns-then-words-ne-NAME_WORDS
returns-then-words-ne-NAME_WORDS c = not_two c.args.words.now c.if-words-ne-NAME_WORDS.true

pub returns : goal.returns
returns c =
    subst (CalledAs c.called.result) (sym (two c.args.words.now _ (omega (arith, c.if-words-ne-NAME_WORDS.false)) (omega (arith, c.if-words-ne-NAME_WORDS.false)))) c.called.ensures
