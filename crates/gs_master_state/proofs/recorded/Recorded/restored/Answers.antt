use Rattle.std.proofs.Common.{rules, ◌≡◌, ◌∙◌, ◌<◌, ◌+◌, ◌-◌, arith, ap, refl, subst, sym, true, drop, length, None}
use Rattle.std.specs.FinMap as fin
use Rattle.std.specs.Ordering.{nat_cmp}
use Rattle.gs_base_table.specs.Slots.{live}
use Rattle.gs_lease_table.specs.Settlings.{tells_settled}
use Rattle.gs_master_state.specs.inner.Recorded.{durable_of, restored_chunks}
use Rattle.gs_master_state.proofs.Before.{restored_tells}
use Rattle.gs_master_state.proofs.Recording.{none_restored, one_restored}
use Rattle.gs_master_state.proofs.recorded.Recorded.restored.Goals as goal

pub loop-left-init : goal.loop-left-init
loop-left-init c = record {
  bound = omega arith;
  chunks = none_restored (durable_of c.args.self.now) c.args.answered.now (length c.args.answered.now) (live nat_cmp c.new-leases.result) refl c.new-leases.ensures;
}

pub put-requires-clause-settled : goal.put-requires-clause-settled
put-requires-clause-settled c = subst (λ lease. tells_settled lease ≡ true) (sym c.restore.ensures) (restored_tells c.restored_view-view.result None)

pub loop-left-preserved-in-Some : goal.loop-left-preserved-in-Some
loop-left-preserved-in-Some c =
    let d = durable_of c.args.self.now in
    let left = c.loop-left.left in
    let some = c.loop-left-test.true in
    let bound = c.loop-left.invariant.bound in
    let here : left - 1 < length c.args.answered.now = omega arith in
    let back : left ≡ (left - 1) + 1 = omega arith in
    record {
      bound = omega arith;
      chunks = one_restored d c.args.answered.now (left - 1) c.index-answered-left.result c.in-Some.prepared (live nat_cmp c.loop-left.leases) (live nat_cmp c.put.new.self) c.restore.result c.restored_view-view.result
          here c.index-answered-left.is (search rules)
          (c.put.ensures.put ∙ ap (λ m. fin.insert m c.index-answered-left.result.handle c.restore.result) c.reserve.ensures.same)
          c.restore.ensures c.restored_view-view.ensures
          (c.loop-left.invariant.chunks ∙ ap (λ n. restored_chunks d (drop n c.args.answered.now)) back);
    }
