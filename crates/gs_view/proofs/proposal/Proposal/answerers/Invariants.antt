use Rattle.std.proofs.Common.{◌≡◌}
use Rattle.gs_view.proofs.Chosen.{answerers_below}
use Rattle.gs_view.proofs.proposal.Proposal.answerers.Given as goal

abbrev pub invariant-loop-number : goal.invariant-loop-number
invariant-loop-number l = l.members ≡ answerers_below l.self l.count l.number
