use Rattle.std.proofs.Common.{◌≡◌, length}
use Rattle.std.specs.List.{list_any}
use Rattle.gs_master_spec.specs.Chunks.{is_target}
use Rattle.gs_master_guard.proofs.sealing.has_target.Given as goal

abbrev pub invariant-loop-server : goal.invariant-loop-server
invariant-loop-server l = list_any (is_target l.asking) l.left ≡ list_any (is_target l.asking) l.fn.members

abbrev pub decreases-loop-server : goal.decreases-loop-server
decreases-loop-server l = length l.left
