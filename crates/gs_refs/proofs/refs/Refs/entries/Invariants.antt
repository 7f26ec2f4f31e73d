use Rattle.std.proofs.Common.{◌≡◌, ◌++◌}
use Rattle.gs_refs.proofs.refs.Refs.entries.Given as goal

abbrev pub invariant-loop-handle : goal.invariant-loop-handle
invariant-loop-handle l = l.entries.items ++ l.handle-iterator ≡ l.initial.handle-iterator
