use Rattle.std.proofs.Common.{◌∙◌}
use Rattle.gs_master_state.proofs.Edits.{room_more}
use Rattle.gs_master_state.proofs.entry.reserve_each.Goals as goal

pub loop-chunk-preserved : goal.loop-chunk-preserved
loop-chunk-preserved c = record {
  same = c.reserve_to_keep.ensures.same ∙ c.loop-chunk.invariant.same;
  room = room_more _ _ _ _ _ _ c.loop-chunk-test.true c.chunk-item.is c.loop-chunk.invariant.room c.reserve_to_keep.ensures.keeps c.in_ok-reserve_to_keep.ensures.room;
  keeps = record { keeps = λ key room. c.reserve_to_keep.ensures.keeps.keeps key (c.loop-chunk.invariant.keeps.keeps key room) };
}

pub returns-in_err-reserve_to_keep-clause-keeps : goal.returns-in_err-reserve_to_keep-clause-keeps
returns-in_err-reserve_to_keep-clause-keeps c = record { keeps = λ key room. c.reserve_to_keep.ensures.keeps.keeps key (c.loop-chunk.invariant.keeps.keeps key room) }
