use Rattle.std.proofs.Common.{◌≡◌, drop}
use Rattle.gs_view.specs.Choice.{greater, greatest}
use Rattle.gs_view.proofs.proposal.Proposal.greatest.Given as goal

abbrev pub invariant-loop-answer : goal.invariant-loop-answer
invariant-loop-answer l = greater l.best (greatest (drop l.answer-index l.answer-items)) ≡ greatest l.fn.self
