use Rattle.std.proofs.Common.{◌≡◌, ◌++◌}
use Rattle.gs_refs.specs.Counts.{without_references}
use Rattle.gs_refs.proofs.refs.Refs.orphans.Given as goal

abbrev pub invariant-loop-handle : goal.invariant-loop-handle
invariant-loop-handle l = l.found.items ++ without_references l.handle-iterator ≡ without_references l.initial.handle-iterator
