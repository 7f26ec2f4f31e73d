use Rattle.std.proofs.Common.{◌∙◌, ap}
use Rattle.gs_master_spec.specs.Durable.{Durable}
use Rattle.gs_master_state.proofs.Edits.{forget_step, room_here, room_rest}
use Rattle.gs_master_state.proofs.Releasing.{gives_more}
use Rattle.gs_master_state.proofs.Rooms.{take_next}
use Rattle.gs_master_state.proofs.recorded.Recorded.forget_chunks.Goals as goal

pub forget_chunk-requires : goal.forget_chunk-requires
forget_chunk-requires c = room_here _ _ _ _ _ c.loop-chunk-test.true c.chunk-item.is c.loop-chunk.invariant.room

pub loop-chunk-preserved : goal.loop-chunk-preserved
loop-chunk-preserved c = record {
  value = forget_step _ _ _ _ _ _ c.loop-chunk-test.true c.chunk-item.is c.forget_chunk.ensures.value c.loop-chunk.invariant.value;
  gives = gives_more _ _ _ _ _ _ (take_next c.args.chunks.now c.loop-chunk.chunk-index c.chunk-item.result c.loop-chunk-test.true c.chunk-item.is) c.loop-chunk.invariant.gives c.forget_chunk.ensures.gives;
  room = room_rest _ _ _ _ _ _ 0 (ap (λ (d : Durable). d.phase) c.forget_chunk.ensures.value) c.loop-chunk-test.true c.loop-chunk.invariant.room c.forget_chunk.ensures.room;
  replies = c.forget_chunk.ensures.replies ∙ c.loop-chunk.invariant.replies;
  inverses = c.forget_chunk.ensures.inverses ∙ c.loop-chunk.invariant.inverses;
}
