use Rattle.std.proofs.Common.{◌∙◌, ap, arith, sym, subst}
use Rattle.std.specs.Ordering.{nat_cmp}
use Rattle.gs_base_table.specs.Slots.{live}
use Rattle.gs_master_spec.specs.Durable.{Durable}
use Rattle.gs_master_state.specs.inner.Recorded.{durable_of}
use Rattle.gs_master_state.specs.inner.TakingBack.{RoomForChunks, with_chunks_before, with_leases_before}
use Rattle.gs_master_state.proofs.Before.{both_keep, one_chunk_more, one_lease_more, room_for_chunks_stays, room_for_more}
use Rattle.gs_master_state.proofs.Edits.{forget_step, room_here, room_rest}
use Rattle.gs_master_state.proofs.recorded.Recorded.enter_forgotten_each.Goals as goal

pub enter_forgotten-stood-requires : goal.enter_forgotten-stood-requires
enter_forgotten-stood-requires c = room_here _ _ _ _ _ c.loop-chunk-test.true c.chunk-item.is c.loop-chunk.invariant.prepared

pub loop-chunk-preserved : goal.loop-chunk-preserved
loop-chunk-preserved c =
    let stood = c.enter_forgotten-stood.result in
    let now = c.enter_forgotten-stood.new.self in
    let items = c.loop-chunk.before.items in
    let pushed = c.push_within.ensures.items in
    record {
      value = forget_step _ _ _ _ _ _ c.loop-chunk-test.true c.chunk-item.is c.enter_forgotten-stood.ensures.value c.loop-chunk.invariant.value;
      prepared = room_rest _ _ _ _ _ _ 0 (ap (λ (d : Durable). d.phase) c.enter_forgotten-stood.ensures.value) c.loop-chunk-test.true c.loop-chunk.invariant.prepared c.enter_forgotten-stood.ensures.keeps.prepared;
      back = c.loop-chunk.invariant.back ∙ ap (with_chunks_before items) c.enter_forgotten-stood.ensures.back ∙ sym (one_chunk_more items stood (durable_of now)) ∙ ap (λ xs. with_chunks_before xs (durable_of now)) (sym pushed);
      leases = c.loop-chunk.invariant.leases ∙ ap (with_leases_before items) c.enter_forgotten-stood.ensures.leases ∙ sym (one_lease_more items stood (live nat_cmp now.leases)) ∙ ap (λ xs. with_leases_before xs (live nat_cmp now.leases)) (sym pushed);
      room = subst (RoomForChunks now) (sym pushed) (room_for_more now items stood (room_for_chunks_stays c.loop-chunk.self now items c.loop-chunk.invariant.room c.enter_forgotten-stood.ensures.keeps) c.enter_forgotten-stood.ensures.room);
      replies = c.enter_forgotten-stood.ensures.replies ∙ c.loop-chunk.invariant.replies;
      inverses = c.enter_forgotten-stood.ensures.inverses ∙ c.loop-chunk.invariant.inverses;
      keeps = both_keep _ _ _ c.loop-chunk.invariant.keeps c.enter_forgotten-stood.ensures.keeps;
      len = let one = c.push_within.ensures.len in let before = c.loop-chunk.invariant.len in omega (arith, one, before);
      capacity = let grows = c.push_within.ensures.capacity in let before = c.loop-chunk.invariant.capacity in omega (arith, grows, before);
    }
