use Rattle.std.proofs.Common.{◌≡◌, drop}
use Rattle.gs_refs.specs.Counts.{lowered_each}
use Rattle.gs_refs.proofs.refs.Refs.lower_back.Given as goal

abbrev pub invariant-loop-handle : goal.invariant-loop-handle
invariant-loop-handle l = lowered_each l.self (drop l.handle-index l.handles) ≡ lowered_each l.initial.self l.handles
