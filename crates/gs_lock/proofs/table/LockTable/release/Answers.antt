use Rattle.std.proofs.Common.{◌≡◌, ◌<◌, ◌≤◌, true, ap, sym, ◌∙◌, arith, length}
use Rattle.gs_lock.specs.Operations.{same_op}
use Rattle.gs_lock.specs.declared.lock.Lock.{Lock}
use Rattle.gs_lock.proofs.Indexed.{same_at, out_indexed, out_step, out_end}
use Rattle.gs_lock.proofs.table.LockTable.release.Goals as goal

pub subtract-requires : goal.subtract-requires
subtract-requires c =
    let below : c.loop-i.i < length c.loop-i.self-inside.locks.items = omega arith in
    out_indexed _ c.loop-i.i c.remove-lock.result _ below c.remove-lock.ensures.value c.loop-i.invariant.3

pub loop-i-preserved-then-is_of : goal.loop-i-preserved-then-is_of
loop-i-preserved-then-is_of c =
    let below : c.loop-i.i < length c.loop-i.self-inside.locks.items = omega arith in
    let own : same_op c.args.op c.remove-lock.result.op ≡ true =
    ap (λ (l : Lock). same_op c.args.op l.op) (same_at c.loop-i.self-inside.locks.items c.loop-i.i c.remove-lock.result c.index.result.now below c.remove-lock.ensures.value c.index.ensures)
    ∙ sym c.is_of.ensures ∙ c.if-is_of.true
    in
    out_step c.args.op c.loop-i.self-inside.locks.items c.remove-lock.new.self.items _ c.loop-i.i c.remove-lock.result _ _ below c.remove-lock.ensures.value own
    c.remove-lock.ensures.items c.subtract.ensures.adds c.subtract.ensures.tight c.loop-i.invariant.0 c.loop-i.invariant.1 c.loop-i.invariant.3

pub returns : goal.returns
returns c =
    let done : length c.loop-i.self-inside.locks.items ≤ c.loop-i.i = omega arith in
    out_end c.args.op _ _ c.loop-i.i done c.loop-i.invariant.0 c.loop-i.invariant.1
