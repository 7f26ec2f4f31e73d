use Rattle.std.proofs.Common.{◌≡◌, ◌++◌, map}
use Rattle.std.specs.FinMap as fin
use Rattle.gs_store_image.proofs.store.handles_of.Given as goal

abbrev pub invariant-loop-handle : goal.invariant-loop-handle
invariant-loop-handle l = l.handles.items ++ map (λ e. e.0) l.handle-iterator ≡ map (λ e. e.0) (fin.entries l.store.slots)
