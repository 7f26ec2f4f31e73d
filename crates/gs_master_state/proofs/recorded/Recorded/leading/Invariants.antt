use Rattle.std.proofs.Common.{◌≡◌, ◌+◌, drop}
use Rattle.std.specs.FinMap as fin
use Rattle.gs_master_state.specs.inner.Judging.{leading}
use Rattle.gs_master_state.specs.inner.Recorded.{durable_of}
use Rattle.gs_master_state.proofs.recorded.Recorded.leading.Given as goal

abbrev pub invariant-loop-path : goal.invariant-loop-path
invariant-loop-path l =
    (l.count ≡ l.path-index)
    × (l.count + leading (fin.get (durable_of l.self).names.tree) (drop l.path-index l.paths) ≡ leading (fin.get (durable_of l.self).names.tree) l.paths)
