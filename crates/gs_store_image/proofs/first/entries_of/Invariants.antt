use Rattle.std.proofs.Common.{◌≡◌, ◌++◌, map}
use Rattle.std.specs.FinMap as fin
use Rattle.gs_fields.specs.Encoding.{seen_option}
use Rattle.gs_store_image.proofs.first.entries_of.Given as goal

abbrev pub invariant-loop-client : goal.invariant-loop-client
invariant-loop-client l = map (λ e. (e.0, seen_option (λ d. d.done) e.1)) l.entries.items ++ l.client-iterator ≡ fin.entries l.first
