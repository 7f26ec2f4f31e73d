use Rattle.std.proofs.Common.{◌≡◌}
use Rattle.gs_master_state.proofs.Recording.{all_rest_in}
use Rattle.gs_master_state.proofs.recorded.Recorded.are_at_rest.Given as goal

abbrev pub invariant-loop-chunk : goal.invariant-loop-chunk
invariant-loop-chunk l = all_rest_in l.self l.chunk-iterator ≡ all_rest_in l.self l.initial.chunk-iterator
