use Rattle.std.proofs.Common.{◌∙◌, arith, ◌+◌}
use Rattle.gs_journal_disk.proofs.Moments.{weaker}
use Rattle.gs_journal.proofs.Crash.{cut_continues, closing_continues, repaired, kept_gate}
use Rattle.gs_journal.proofs.ends.repair.Goals as goal

pub returns-in_err-keep_front-clause-any_moment : goal.returns-in_err-keep_front-clause-any_moment
returns-in_err-keep_front-clause-any_moment g c =
    let gate = c.requires.gate c.if-has_gate.true in
    weaker g.D.Disk.moment g.D.Disk.left_since _ _ _ _ c.keep_front.ensures.any_moment (λ x left. cut_continues _ _ c.requires.end (c.args.end + 1) x (omega arith) (omega (arith, gate.0)) left)

pub returns-then-has_gate-clause-any_moment : goal.returns-then-has_gate-clause-any_moment
returns-then-has_gate-clause-any_moment g c =
    let gate = c.requires.gate c.if-has_gate.true in
    weaker g.D.Disk.moment g.D.Disk.left_since _ _ _ _ c.keep_front.ensures.any_moment (λ x left. cut_continues _ _ c.requires.end (c.args.end + 1) x (omega arith) (omega (arith, gate.0)) left)

pub returns-then-has_gate-clause-rest : goal.returns-then-has_gate-clause-rest
returns-then-has_gate-clause-rest g c =
    let gate = c.requires.gate c.if-has_gate.true in (repaired _ _ c.requires.end _ _ gate.1 (c.in_ok-keep_front.ensures.seen ∙ kept_gate _ _ c.requires.end gate.0)).0

pub returns-then-has_gate-clause-same : goal.returns-then-has_gate-clause-same
returns-then-has_gate-clause-same g c =
    let gate = c.requires.gate c.if-has_gate.true in (repaired _ _ c.requires.end _ _ gate.1 (c.in_ok-keep_front.ensures.seen ∙ kept_gate _ _ c.requires.end gate.0)).1

pub returns-in_err-close_at-clause-any_moment : goal.returns-in_err-close_at-clause-any_moment
returns-in_err-close_at-clause-any_moment g c =
    weaker g.D.Disk.moment g.D.Disk.left_since _ _ _ _ c.close_at.ensures.any_moment (closing_continues _ _ c.requires.end)

pub returns-clause-any_moment : goal.returns-clause-any_moment
returns-clause-any_moment g c =
    weaker g.D.Disk.moment g.D.Disk.left_since _ _ _ _ c.close_at.ensures.any_moment (closing_continues _ _ c.requires.end)

pub returns-clause-rest : goal.returns-clause-rest
returns-clause-rest g c = (repaired _ _ c.requires.end 0 _ (omega arith) c.in_ok-close_at.ensures.seen).0

pub returns-clause-same : goal.returns-clause-same
returns-clause-same g c = (repaired _ _ c.requires.end 0 _ (omega arith) c.in_ok-close_at.ensures.seen).1
