use Rattle.std.proofs.Common.{◌≡◌, length}
use Rattle.std.specs.List.{list_all}
use Rattle.gs_shell_script.specs.Run.{lines_of}
use Rattle.gs_keep_measure.specs.Tail.{is_returned}
use Rattle.gs_keep_measure.proofs.tail.all_returned.Given as goal

abbrev pub invariant-loop-rest : goal.invariant-loop-rest
invariant-loop-rest l = list_all is_returned (lines_of l.bytes) ≡ list_all is_returned (lines_of l.rest)

abbrev pub decreases-loop-rest : goal.decreases-loop-rest
decreases-loop-rest l = length l.rest
