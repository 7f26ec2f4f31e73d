use Rattle.std.proofs.Common.{◌≡◌, drop}
use Rattle.gs_refs.specs.Counts.{ascends_from}
use Rattle.gs_refs.proofs.refs.ascend.Given as goal

abbrev pub invariant-loop-handle : goal.invariant-loop-handle
invariant-loop-handle l = ascends_from l.last (drop l.handle-index l.rest) ≡ ascends_from l.initial.last l.rest
