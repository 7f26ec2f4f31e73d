use Rattle.std.proofs.Common.{if◌then◌else◌, Some, None, ◌≡◌, ◌∙◌, ◌<◌, ◌+◌, ◌-◌, arith, ap, subst, sym, true, length}
use Rattle.std.specs.FinMap as fin
use Rattle.std.specs.Ordering.{nat_cmp}
use Rattle.gs_base_table.specs.Slots.{live}
use Rattle.gs_lease_table.specs.Settlings.{tells_settled}
use Rattle.gs_master_state.proofs.Before.{restored_tells}
use Rattle.gs_master_state.proofs.Readings.{leases_more, leases_none}
use Rattle.gs_master_state.proofs.restart.told_leases.Goals as goal

pub loop-left-init : goal.loop-left-init
loop-left-init c = record {
  bound = omega arith;
  chunks = leases_none c.args.entries.now (length c.args.entries.now) (live nat_cmp c.new-leases.result) (omega arith) c.new-leases.ensures;
}

pub put-requires-clause-settled : goal.put-requires-clause-settled
put-requires-clause-settled c =
    let x = c.index-entries-left.result in
    subst (λ lease. tells_settled lease ≡ true) (sym c.lease_of.ensures) (restored_tells x.settled.view (if x.is_moving then Some x.settled.view.stamp else None))

pub loop-left-preserved : goal.loop-left-preserved
loop-left-preserved c =
    let left = c.loop-left.left in
    let some = c.loop-left-test.true in
    let bound = c.loop-left.invariant.bound in
    let x = c.index-entries-left.result in
    let here : left - 1 < length c.args.entries.now = omega arith in
    let one : left ≡ (left - 1) + 1 = omega arith in
    record {
      bound = omega arith;
      chunks = leases_more c.args.entries.now left (left - 1) x (live nat_cmp c.loop-left.leases) (live nat_cmp c.put.new.self) c.lease_of.result here one c.index-entries-left.is c.lease_of.ensures
          (c.put.ensures.put ∙ ap (λ m. fin.insert m x.settled.handle c.lease_of.result) c.reserve.ensures.same) c.loop-left.invariant.chunks;
    }
