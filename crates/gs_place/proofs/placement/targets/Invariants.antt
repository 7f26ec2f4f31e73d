use Rattle.gs_place.proofs.Picks.{Picked}
use Rattle.gs_place.proofs.placement.targets.Given as goal

abbrev pub invariant-loop-pick : goal.invariant-loop-pick
invariant-loop-pick l = Picked l.config.servers l.config.racks l.replicas l.fn.present l.wanted l._pick l.taken l.targets
