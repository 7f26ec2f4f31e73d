use Rattle.std.proofs.Common.{take}
use Rattle.gs_place.specs.Offered.{IsNeeded}
use Rattle.gs_place.proofs.need.most_needed.Given as goal

abbrev pub invariant-loop-need : goal.invariant-loop-need
invariant-loop-need l = IsNeeded l.config.replicas (take l.need-index l.needs) l.needed
