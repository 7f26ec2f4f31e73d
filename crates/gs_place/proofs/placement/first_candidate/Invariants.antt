use Rattle.gs_place.proofs.Best.{IsBest}
use Rattle.gs_place.proofs.placement.first_candidate.Given as goal

abbrev pub invariant-loop-number : goal.invariant-loop-number
invariant-loop-number l = IsBest l.config.racks l.replicas l.taken l.number l.first
