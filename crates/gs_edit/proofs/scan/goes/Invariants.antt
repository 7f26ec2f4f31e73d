use Rattle.std.proofs.Common.{◌≡◌, ◌++◌, ◌∷◌, [], drop}
use Rattle.gs_edit.specs.Scan.{goes}
use Rattle.gs_edit.proofs.scan.goes.Given as goal

abbrev pub invariant-loop-name : goal.invariant-loop-name
invariant-loop-name l = goes l.moment.0 (drop l.name-index l.above ++ l.last ∷ []) ≡ goes l.moment.0 l.elements
