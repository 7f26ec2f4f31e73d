use Rattle.std.proofs.Common.{ap, sym, subst, ◌∙◌}
use Rattle.std.specs.Ordering.{nat_cmp}
use Rattle.gs_base_table.specs.Slots.{live}
use Rattle.gs_master_state.specs.inner.Recorded.{durable_of}
use Rattle.gs_master_state.specs.inner.TakingBack.{RoomForChunks, with_chunks_before, with_leases_before}
use Rattle.gs_master_state.proofs.Before.{both_keep, one_chunk_more, one_lease_more, room_for_chunks_stays, room_for_last}
use Rattle.gs_master_state.proofs.recorded.Recorded.put_chunks_back.Goals as goal

pub put_chunk_back-requires : goal.put_chunk_back-requires
put_chunk_back-requires c =
    (room_for_last c.loop-before.self c.pop.new.self.items c.in-Some.before (subst (RoomForChunks c.loop-before.self) c.in-Some.ensures.items c.loop-before.invariant.room)).1

pub loop-before-preserved : goal.loop-before-preserved
loop-before-preserved c =
    let rest = c.pop.new.self.items in
    let room = (room_for_last c.loop-before.self rest c.in-Some.before (subst (RoomForChunks c.loop-before.self) c.in-Some.ensures.items c.loop-before.invariant.room)).0 in
    record {
      value = ap (with_chunks_before rest) c.put_chunk_back.ensures.value ∙ sym (one_chunk_more rest c.in-Some.before (durable_of c.loop-before.self))
          ∙ ap (λ xs. with_chunks_before xs (durable_of c.loop-before.self)) (sym c.in-Some.ensures.items) ∙ c.loop-before.invariant.value;
      leases = ap (with_leases_before rest) c.put_chunk_back.ensures.leases ∙ sym (one_lease_more rest c.in-Some.before (live nat_cmp c.loop-before.self.leases))
          ∙ ap (λ xs. with_leases_before xs (live nat_cmp c.loop-before.self.leases)) (sym c.in-Some.ensures.items) ∙ c.loop-before.invariant.leases;
      room = room_for_chunks_stays c.loop-before.self c.put_chunk_back.new.self rest room c.put_chunk_back.ensures.keeps;
      replies = c.put_chunk_back.ensures.replies ∙ c.loop-before.invariant.replies;
      inverses = c.put_chunk_back.ensures.inverses ∙ c.loop-before.invariant.inverses;
      keeps = both_keep _ _ _ c.loop-before.invariant.keeps c.put_chunk_back.ensures.keeps;
    }
