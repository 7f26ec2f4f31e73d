use Rattle.std.proofs.Common.{◌≡◌, map}
use Rattle.std.specs.FinMap as fin
use Rattle.std.specs.Slice.Iter.{iter_rest}
use Rattle.gs_store_image.proofs.Tables.{onto}
use Rattle.gs_store_image.proofs.table.table_of.Given as goal

abbrev pub invariant-loop-client : goal.invariant-loop-client
invariant-loop-client l = onto (map (λ e. (e.0, e.1.done)) (iter_rest l.client-iterator.iter)) l.table ≡ fin.from_entries (map (λ e. (e.0, e.1.done)) l.entries)
