use Rattle.std.proofs.Common.{inl, inr, List, ℕ, subst}
use Rattle.gs_journal_disk.specs.Disk.{Torn}
use Rattle.gs_journal_disk.proofs.Moments.{weaker, both}
use Rattle.gs_journal_disk.proofs.stage.close_at.Goals as goal

pub returns-in_err-keep_front-clause-any_moment : goal.returns-in_err-keep_front-clause-any_moment
returns-in_err-keep_front-clause-any_moment g c =
    weaker g.D.Disk.moment g.D.Disk.left_since _ _ _ _ c.keep_front.ensures.any_moment (λ x left. inl left)

pub returns-clause-any_moment : goal.returns-clause-any_moment
returns-clause-any_moment g c =
    both g.D.Disk.moment g.D.Disk.left_since _ _ _ _ _ _ c.keep_front.ensures.any_moment c.write_through.ensures.any_moment (λ x left. inl left)
    (λ x left. inr (subst (λ (f : List ℕ). Torn c.args.len 1 f x) c.in_ok-keep_front.ensures.seen left))
