use Rattle.std.proofs.Common.{◌≡◌, length}
use Rattle.std.specs.List.{list_all}
use Rattle.gs_master_spec.specs.Applied.{is_prepared_on}
use Rattle.gs_master_state.proofs.upgrade.are_prepared_on.Given as goal

abbrev pub invariant-loop-server : goal.invariant-loop-server
invariant-loop-server l = list_all (is_prepared_on l.prepared) l.left ≡ list_all (is_prepared_on l.prepared) l.fn.servers

abbrev pub decreases-loop-server : goal.decreases-loop-server
decreases-loop-server l = length l.left
