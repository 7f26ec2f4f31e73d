use Rattle.std.proofs.Common.{◌≡◌, drop}
use Rattle.gs_refs.specs.Counts.{raised_each}
use Rattle.gs_refs.proofs.refs.Refs.raise_back.Given as goal

abbrev pub invariant-loop-handle : goal.invariant-loop-handle
invariant-loop-handle l = raised_each l.self (drop l.handle-index l.handles) ≡ raised_each l.initial.self l.handles
