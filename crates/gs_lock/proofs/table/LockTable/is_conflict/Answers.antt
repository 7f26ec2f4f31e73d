use Rattle.std.proofs.Common.{ap, sym, ◌∙◌}
use Rattle.gs_lock.specs.Locks.{is_conflict, holds}
use Rattle.gs_lock.proofs.Conflicts.{conflict_is, free}
use Rattle.gs_lock.proofs.table.LockTable.is_conflict.Goals as goal

pub returns-then-not-is_in_the_way : goal.returns-then-not-is_in_the_way
returns-then-not-is_in_the_way c =
    sym (free c.self.inside.locks.items c.self.inside.index c.args.op c.args.reads.now c.args.writes.now c.self.invariant (sym c.is_in_the_way.ensures ∙ c.if-not-is_in_the_way.true))
    ∙ ap (λ locks. is_conflict locks c.args.op c.args.reads.now c.args.writes.now) c.self.view_is

pub returns-then-not-holds : goal.returns-then-not-holds
returns-then-not-holds c =
    sym c.if-not-is_in_the_way.false ∙ c.is_in_the_way.ensures
    ∙ conflict_is c.self.inside.locks.items c.self.inside.index c.args.op c.args.reads.now c.args.writes.now c.self.invariant
    (ap (λ locks. holds locks c.args.op) c.self.view_is ∙ sym c.holds.ensures ∙ c.if-not-holds.true)
    ∙ ap (λ locks. is_conflict locks c.args.op c.args.reads.now c.args.writes.now) c.self.view_is
