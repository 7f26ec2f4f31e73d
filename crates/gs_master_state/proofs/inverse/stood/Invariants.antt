use Rattle.std.proofs.Common.{◌≡◌, ◌+◌, ◌++◌, take, drop}
use Rattle.std.specs.FinMap as fin
use Rattle.gs_tree.specs.Edits.{stood}
use Rattle.gs_master_state.proofs.inverse.stood.Given as goal

abbrev pub invariant-loop-above : goal.invariant-loop-above
invariant-loop-above l =
    (l.front ≡ take l.above l.elements) × (l.above + stood (λ q. fin.get l.names.names.tree (l.front ++ q)) (drop l.above l.elements) ≡ stood (fin.get l.names.names.tree) l.elements)
