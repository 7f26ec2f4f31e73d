use Rattle.std.proofs.Common.{inl, ◌∙◌, ◌∷◌, List, ℕ, ap}
use Rattle.gs_journal.specs.Records.{generation_standing, standing}
use Rattle.gs_journal_disk.proofs.Moments.{started, weaker}
use Rattle.gs_journal.proofs.Opening.{making_like_first}
use Rattle.gs_journal.proofs.start.make_first.Goals as goal

pub returns-in_err-text-clause-any_moment : goal.returns-in_err-text-clause-any_moment
returns-in_err-text-clause-any_moment g c second none =
    started g.D.Disk.moment g.D.Disk.left_since c.args.disk.now _ (λ x left d. let same = c.requires.durable x (g.met.D.Disk.only_now c.args.disk.now x left) in inl (ap (λ (y : List ℕ). standing y d) same, ap (λ (y : List ℕ). generation_standing y d) same))

pub returns-in_err-make-clause-any_moment : goal.returns-in_err-make-clause-any_moment
returns-in_err-make-clause-any_moment g c second none =
    weaker g.D.Disk.moment g.D.Disk.left_since _ _ _ _ c.make.ensures.any_moment
    (λ x making. making_like_first _ second _ x c.requires.unbegun none (ap (λ (l : List ℕ). 1 ∷ l) c.deref.ensures.value ∙ c.in_ok-text.ensures.text) making)

pub returns-clause-any_moment : goal.returns-clause-any_moment
returns-clause-any_moment g c second none =
    weaker g.D.Disk.moment g.D.Disk.left_since _ _ _ _ c.make.ensures.any_moment
    (λ x making. making_like_first _ second _ x c.requires.unbegun none (ap (λ (l : List ℕ). 1 ∷ l) c.deref.ensures.value ∙ c.in_ok-text.ensures.text) making)
