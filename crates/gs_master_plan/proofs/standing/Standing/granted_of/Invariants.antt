use Rattle.std.proofs.Common.{◌≡◌, take}
use Rattle.std.specs.Prelude.{flat_map}
use Rattle.gs_master_spec.specs.Chunks.{chunk_at}
use Rattle.gs_master_spec.specs.Handling.{granted_at}
use Rattle.gs_master_plan.specs.inner.Planning.{state_of}
use Rattle.gs_master_plan.proofs.standing.Standing.granted_of.Given as goal

abbrev pub invariant-loop-chunk : goal.invariant-loop-chunk
invariant-loop-chunk l = l.sent.items ≡ flat_map (λ chunk. granted_at chunk (chunk_at (state_of l.self) chunk)) (take l.chunk-index l.chunks)
