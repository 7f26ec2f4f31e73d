use Rattle.std.proofs.Common.{rules, Some, None, subst, sym, ◌∙◌}
use Rattle.gs_keep_head.specs.Head.{MoreAs}
use Rattle.gs_keep_head.proofs.Behind.{more_before, more_both, more_named, more_none, more_other}
use Rattle.gs_keep_head.proofs.more_of.Goals as goal

pub returns-in-0 : goal.returns-in-0
returns-in-0 c = more_none c.args.words.now c.in-0.is

pub returns-in-Some : goal.returns-in-Some
returns-in-Some c = more_named c.args.words.now (Some c.in-Some.name.bytes) c.in-2.is c.in-Some.ensures

pub returns-in-None : goal.returns-in-None
returns-in-None c = more_named c.args.words.now None c.in-2.is c.in-None.ensures

pub returns-in-Some-before_in : goal.returns-in-Some-before_in
returns-in-Some-before_in c = more_before c.args.words.now (Some c.in-Some-before_in.before) c.in-7.is (sym c.in-Some-before_in.is ∙ c.before_in.ensures)

pub returns-in-None-before_in : goal.returns-in-None-before_in
returns-in-None-before_in c = more_before c.args.words.now None c.in-7.is (sym c.in-None-before_in.is ∙ c.before_in.ensures)

pub returns-in-9 : goal.returns-in-9
returns-in-9 c = subst (MoreAs c.both.result) (sym (more_both c.args.words.now c.in-9.is)) c.both.ensures

pub returns-in_default : goal.returns-in_default
returns-in_default c = more_other c.args.words.now (search rules) (search rules) (search rules) (search rules)
