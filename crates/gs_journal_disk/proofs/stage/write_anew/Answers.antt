use Rattle.std.proofs.Common.{inl, inr, List, ℕ, subst}
use Rattle.gs_journal_disk.specs.Stage.{IsOpening}
use Rattle.gs_journal_disk.proofs.Moments.{weaker, both}
use Rattle.gs_journal_disk.proofs.stage.write_anew.Goals as goal

pub returns-in_err-close_at-clause-any_moment : goal.returns-in_err-close_at-clause-any_moment
returns-in_err-close_at-clause-any_moment g c =
    weaker g.D.Disk.moment g.D.Disk.left_since _ _ _ _ c.close_at.ensures.any_moment (λ x left. inl left)

pub returns-in_err-open_behind-clause-any_moment : goal.returns-in_err-open_behind-clause-any_moment
returns-in_err-open_behind-clause-any_moment g c =
    both g.D.Disk.moment g.D.Disk.left_since _ _ _ _ _ _ c.close_at.ensures.any_moment c.open_behind.ensures.any_moment (λ x left. inl left)
    (λ x left. inr (subst (λ (f : List ℕ). IsOpening 0 c.args.text.now f x) c.in_ok-close_at.ensures.seen left))

pub returns-clause-any_moment : goal.returns-clause-any_moment
returns-clause-any_moment g c =
    both g.D.Disk.moment g.D.Disk.left_since _ _ _ _ _ _ c.close_at.ensures.any_moment c.open_behind.ensures.any_moment (λ x left. inl left)
    (λ x left. inr (subst (λ (f : List ℕ). IsOpening 0 c.args.text.now f x) c.in_ok-close_at.ensures.seen left))
