use Rattle.std.proofs.Common.{◌∙◌, ap}
use Rattle.gs_master_state.specs.inner.Memories.{volatile_of}
use Rattle.gs_master_state.proofs.Releasing.{releases_more}
use Rattle.gs_master_state.proofs.Rooms.{take_next}
use Rattle.gs_master_state.proofs.tracked.release_all.Goals as goal

pub loop-chunk-preserved : goal.loop-chunk-preserved
loop-chunk-preserved c = record {
  value = ap (λ m. record (volatile_of c.loop-chunk.memory) { moving = m }) c.release.ensures.same ∙ c.loop-chunk.invariant.value;
  room = releases_more _ _ _ _ _ _ (take_next c.args.chunks.now c.loop-chunk.chunk-index c.chunk-item.result c.loop-chunk-test.true c.chunk-item.is) c.release.ensures.same c.loop-chunk.invariant.room c.release.ensures.empty c.release.ensures.kept;
}
