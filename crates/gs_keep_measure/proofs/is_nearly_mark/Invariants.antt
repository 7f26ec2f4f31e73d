use Rattle.std.proofs.Common.{◌≡◌, ◌≤◌}
use Rattle.gs_keep_measure.specs.Measure.{wrong_before}
use Rattle.gs_keep_measure.proofs.is_nearly_mark.Given as goal

abbrev pub invariant-loop-place : goal.invariant-loop-place
invariant-loop-place l = (l.wrong ≡ wrong_before l.place l.bytes) × (l.wrong ≤ l.place)
