use Rattle.std.proofs.Common.{sym, ◌∙◌}
use Rattle.gs_lock.proofs.Ways.{written, read, first_so, second_so}
use Rattle.gs_lock.proofs.table.is_in_the_way.Goals as goal

pub returns-then-is_any_under : goal.returns-then-is_any_under
returns-then-is_any_under c =
    written c.args.op c.args.reads.now c.args.writes.now c.args.lock.now _ (sym c.is_of-is_own.ensures ∙ c.if-is_own.false) c.if-lock.true
    (first_so _ _ _ c.is_any_under.ensures (sym c.is_any_under.ensures ∙ c.if-is_any_under.true))

pub returns-else-is_any_under : goal.returns-else-is_any_under
returns-else-is_any_under c =
    written c.args.op c.args.reads.now c.args.writes.now c.args.lock.now _ (sym c.is_of-is_own.ensures ∙ c.if-is_own.false) c.if-lock.true
    (second_so _ _ _ c.is_any_under-else-is_any_under.ensures (sym c.is_any_under.ensures ∙ c.if-is_any_under.false))

pub returns : goal.returns
returns c = read c.args.op c.args.reads.now c.args.writes.now c.args.lock.now _ (sym c.is_of-is_own.ensures ∙ c.if-is_own.false) c.if-lock.false c.is_any.ensures
