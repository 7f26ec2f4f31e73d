use Rattle.std.proofs.Common.{sym}
use Rattle.gs_view.proofs.Chosen.{chooses, nobody_answered}
use Rattle.gs_view.proofs.proposal.Proposal.choose.Goals as goal

pub returns-in-Some-clause-choice : goal.returns-in-Some-clause-choice
returns-in-Some-clause-choice c = chooses _ _ _ c.answerers.ensures (sym c.in-Some.ensures)

pub returns-in-None-clause-nobody : goal.returns-in-None-clause-nobody
returns-in-None-clause-nobody c = nobody_answered _ (sym c.in-None.ensures)
