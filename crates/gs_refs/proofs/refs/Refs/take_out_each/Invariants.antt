use Rattle.std.proofs.Common.{◌≡◌, drop}
use Rattle.gs_refs.specs.Counts.{without_each}
use Rattle.gs_refs.proofs.refs.Refs.take_out_each.Given as goal

abbrev pub invariant-loop-handle : goal.invariant-loop-handle
invariant-loop-handle l = without_each l.self (drop l.handle-index l.handles) ≡ without_each l.initial.self l.handles
