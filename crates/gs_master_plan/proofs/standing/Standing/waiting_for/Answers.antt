use Rattle.std.proofs.Common.{ap, sym, ◌∙◌}
use Rattle.gs_master_spec.specs.Working.{waits_for_any}
use Rattle.gs_master_spec.specs.declared.pending.Pending.{Pending}
use Rattle.gs_master_state.proofs.ChunkSets.{are_in}
use Rattle.gs_master_plan.proofs.Waits.{one_waits, one_waits_not}
use Rattle.gs_master_plan.proofs.standing.Standing.waiting_for.Goals as goal
use Rattle.gs_master_plan.proofs.standing.Standing.waiting_for.Goals.{then-waits_for_any+in_ok-push, else-waits_for_any}

pub loop-pending-preserved : goal.loop-pending-preserved
loop-pending-preserved c =
    let chunks = c.args.chunks.now in
    let test = λ (p : Pending). waits_for_any chunks p.waits in
    let waits = sym (c.waits_for_any.ensures chunks (are_in chunks _ c.in_ok-set.ensures)) in
    elim c.if-waits_for_any.branch [
      | then-waits_for_any+in_ok-push w ↦ one_waits test c.deref-pending-items.result.now c.loop-pending.pending-index c.pending-item.result c.loop-pending.requests.items _ _ c.loop-pending-test.true c.pending-item.is (waits ∙ w.if-waits_for_any.true) (ap (λ v. v.items) w.requests-is ∙ w.in_ok-push.ensures.items) c.loop-pending.invariant
      | else-waits_for_any w ↦ one_waits_not test c.deref-pending-items.result.now c.loop-pending.pending-index c.pending-item.result c.loop-pending.requests.items _ _ c.loop-pending-test.true c.pending-item.is (waits ∙ w.if-waits_for_any.false) (ap (λ v. v.items) w.requests-is) c.loop-pending.invariant
    ]
