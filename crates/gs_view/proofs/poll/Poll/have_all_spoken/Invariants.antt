use Rattle.std.proofs.Common.{◌≡◌, length}
use Rattle.std.specs.List.{list_all}
use Rattle.gs_view.specs.Spoken.{has_spoken}
use Rattle.gs_view.proofs.poll.Poll.have_all_spoken.Given as goal

abbrev pub invariant-loop-server : goal.invariant-loop-server
invariant-loop-server l = list_all (has_spoken l.self) l.left ≡ list_all (has_spoken l.self) l.fn.asked

abbrev pub decreases-loop-server : goal.decreases-loop-server
decreases-loop-server l = length l.left
