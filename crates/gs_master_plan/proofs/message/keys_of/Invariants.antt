use Rattle.std.proofs.Common.{◌≡◌, ◌++◌, map}
use Rattle.gs_master_state.proofs.ChunkSets.{key_of}
use Rattle.gs_master_plan.proofs.message.keys_of.Given as goal

abbrev pub invariant-loop-chunk : goal.invariant-loop-chunk
invariant-loop-chunk l = l.keys.items ++ map key_of l.chunk-iterator ≡ map key_of l.initial.chunk-iterator
