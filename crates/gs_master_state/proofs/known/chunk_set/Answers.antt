use Rattle.std.proofs.Common.{◌≡◌, ◌∙◌, ◌<◌, ◌+◌, ◌-◌, arith, ap, length}
use Rattle.std.specs.FinMap as fin
use Rattle.std.specs.Ordering.{nat_cmp}
use Rattle.std.specs.Prelude.{true}
use Rattle.gs_base_table.specs.Slots.{live}
use Rattle.gs_master_state.proofs.ChunkSets.{set_more, set_none}
use Rattle.gs_master_state.proofs.known.chunk_set.Goals as goal

pub loop-left-init : goal.loop-left-init
loop-left-init c = record {
  bound = omega arith;
  set = set_none c.args.chunks.now (length c.args.chunks.now) (live nat_cmp c.new-set.result) (omega arith) c.new-set.ensures;
}

pub loop-left-preserved : goal.loop-left-preserved
loop-left-preserved c =
    let left = c.loop-left.left in
    let some = c.loop-left-test.true in
    let bound = c.loop-left.invariant.bound in
    let x = c.index-chunks-left.result in
    let here : left - 1 < length c.args.chunks.now = omega arith in
    let one : left ≡ (left - 1) + 1 = omega arith in
    record {
      bound = omega arith;
      set = set_more c.args.chunks.now left (left - 1) x (live nat_cmp c.loop-left.set) (live nat_cmp c.put.new.self) here one c.index-chunks-left.is
          (c.put.ensures.put ∙ ap (λ m. fin.insert m x true) c.reserve.ensures.same) c.loop-left.invariant.set;
    }
