use Rattle.std.proofs.Common.{◌≡◌}
use Rattle.std.specs.FinMap as fin
use Rattle.std.specs.Slice.Iter.{iter_rest}
use Rattle.gs_refs.proofs.CountLemmas.{onto}
use Rattle.gs_refs.proofs.refs.Refs.of.Given as goal

abbrev pub invariant-loop-handle : goal.invariant-loop-handle
invariant-loop-handle l = onto (iter_rest l.handle-iterator.iter) l.refs ≡ fin.from_entries l.entries
