use Rattle.std.proofs.Common.{◌≡◌, drop}
use Rattle.gs_refs.specs.Counts.{with_each}
use Rattle.gs_refs.proofs.refs.Refs.put_back_each.Given as goal

abbrev pub invariant-loop-handle : goal.invariant-loop-handle
invariant-loop-handle l = with_each l.refs (drop l.handle-index l.handles) ≡ with_each l.initial.refs l.handles
