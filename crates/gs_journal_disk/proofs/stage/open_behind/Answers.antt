use Rattle.std.proofs.Common.{inl, inr, List, ℕ, subst}
use Rattle.gs_journal_disk.specs.Disk.{Torn}
use Rattle.gs_journal_disk.proofs.Moments.{weaker, both}
use Rattle.gs_journal_disk.proofs.Steps.{put_behind}
use Rattle.gs_journal_disk.proofs.stage.open_behind.Goals as goal

pub returns-in_err-write_through-clause-any_moment : goal.returns-in_err-write_through-clause-any_moment
returns-in_err-write_through-clause-any_moment g c =
    weaker g.D.Disk.moment g.D.Disk.left_since _ _ _ _ c.write_through.ensures.any_moment (λ x left. inl left)

pub returns-clause-any_moment : goal.returns-clause-any_moment
returns-clause-any_moment g c =
    both g.D.Disk.moment g.D.Disk.left_since _ _ _ _ _ _ c.write_through.ensures.any_moment c.write_through-2.ensures.any_moment (λ x left. inl left)
    (λ x left. inr (subst (λ (f : List ℕ). Torn c.args.gate 1 f x) (put_behind c.args.gate c.args.bytes.now _ _ c.requires.last c.in_ok-write_through.ensures.seen) left))
