use Rattle.std.proofs.Common.{◌≡◌, ◌++◌}
use Rattle.std.specs.Prelude.{flat_map}
use Rattle.gs_master_state.specs.inner.Memories.{volatile_of}
use Rattle.gs_master_spec.specs.Volatile.{let_go, let_go_of}
use Rattle.gs_master_state.proofs.memory.Memory.let_go.Given as goal

abbrev pub invariant-loop-chunk : goal.invariant-loop-chunk
invariant-loop-chunk l = l.changes.items ++ flat_map (let_go_of (volatile_of l.self).unplaced l.req) l.chunk-iterator ≡ let_go (volatile_of l.self) l.req
