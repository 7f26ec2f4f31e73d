use Rattle.std.proofs.Common.{◌≡◌, map, take}
use Rattle.gs_master_plan.proofs.call.borrowed.Given as goal

abbrev pub invariant-loop-path : goal.invariant-loop-path
invariant-loop-path l = map (λ path. path.now) l.borrowed.items ≡ take l.path-index l.paths
