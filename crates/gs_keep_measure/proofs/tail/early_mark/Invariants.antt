use Rattle.std.proofs.Common.{◌≡◌, ◌+◌, ◌≤◌, length}
use Rattle.gs_shell_script.specs.Run.{lines_of}
use Rattle.gs_keep_measure.specs.Tail.{early_from}
use Rattle.gs_keep_measure.proofs.tail.early_mark.Given as goal

abbrev pub invariant-loop-count : goal.invariant-loop-count
invariant-loop-count l = (early_from 0 (lines_of l.bytes) ≡ early_from l.count (lines_of l.rest)) × (l.count + length l.rest ≤ length l.bytes)
