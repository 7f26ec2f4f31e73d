use Rattle.std.proofs.Common.{◌≡◌, map}
use Rattle.std.specs.FinMap as fin
use Rattle.std.specs.Slice.Iter.{iter_rest}
use Rattle.gs_fields.specs.Encoding.{seen_option}
use Rattle.gs_store_image.proofs.Tables.{onto}
use Rattle.gs_store_image.proofs.first.first_of.Given as goal

abbrev pub invariant-loop-client : goal.invariant-loop-client
invariant-loop-client l = onto (map (λ e. (e.0, seen_option (λ d. d.done) e.1)) (iter_rest l.client-iterator.iter)) l.first ≡ fin.from_entries (map (λ e. (e.0, seen_option (λ d. d.done) e.1)) l.entries)
