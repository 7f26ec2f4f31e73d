use Rattle.std.proofs.Common.{◌≡◌, map, take}
use Rattle.gs_master_record.specs.declared.checkpoint.Reference.{Reference}
use Rattle.gs_master_state.proofs.restart.told_counts.Given as goal

abbrev pub invariant-loop-reference : goal.invariant-loop-reference
invariant-loop-reference l = l.counts.items ≡ map (λ (r : Reference). (r.handle, r.count)) (take l.reference-index l.references)
