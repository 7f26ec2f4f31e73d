use Rattle.std.proofs.Common.{inl, ⊎_elim}
use Rattle.gs_journal_disk.proofs.Moments.{weaker}
use Rattle.gs_journal.proofs.Making.{while_closing, while_opening}
use Rattle.gs_journal.proofs.ends.make.Goals as goal

pub returns-clause-any_moment : goal.returns-clause-any_moment
returns-clause-any_moment g c =
    weaker g.D.Disk.moment g.D.Disk.left_since _ _ _ _ c.write_anew.ensures.any_moment (λ x left. ⊎_elim (λ closing. inl (while_closing _ x closing)) (while_opening _ _ x) left)
