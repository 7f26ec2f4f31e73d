use Rattle.std.proofs.Common.{◌≡◌, ◌≤◌, ℕ, List, sym, ap, subst, arith, length, length-take}
use Rattle.gs_journal_disk.specs.Disk.{OutcomesFollow, Torn}
use Rattle.gs_journal.specs.Faults.{Failing}
use Rattle.gs_journal.specs.declared.failing.FailingDisk.TheInside.{Inside}
use Rattle.gs_journal_disk.proofs.Steps.{torn_same, torn_wider}
use Rattle.gs_journal.proofs.failing.FailingDiskDisk.write_at.Goals.{in-Tear+in-Err+in-Pending-1, in-Tear+in-Err+in-BadPath-1, in-Tear+in-Ok-1, in_default}
use Rattle.gs_journal.proofs.failing.FailingDiskDisk.write_at.Goals as goal

-- a shorter write below
shorter : {D : Type 0} (may_leave : D → List ℕ → Type 0) (at m n : ℕ) (old new : D) (i : Inside D) → m ≤ n → i.disk ≡ new → OutcomesFollow (Torn at m) (may_leave old) (may_leave new) → OutcomesFollow (Torn at n) (may_leave old) (may_leave i.disk)
shorter may_leave at m n old new i le is follows =
    subst (λ (d : _). OutcomesFollow (Torn at n) (may_leave old) (may_leave d)) (sym is) (λ c left. let from = follows c left in (from.0, from.1, torn_wider at m n le from.0 c from.2))

-- none
none : {D : Type 0} (may_leave : D → List ℕ → Type 0) (at n : ℕ) (old : D) (i : Inside D) → i.disk ≡ old → OutcomesFollow (Torn at n) (may_leave old) (may_leave i.disk)
none may_leave at n old i is =
    subst (λ (d : _). OutcomesFollow (Torn at n) (may_leave old) (may_leave d)) (sym is) (λ c left. (c, left, torn_same _ _ _))

pub returns-clause-crash : goal.returns-clause-crash
returns-clause-crash g c =
    let d = g.D.Disk in let n = length c.args.bytes.now in
    subst (λ (f : Failing _). OutcomesFollow (Torn c.args.at n) (d.may_leave f.disk) (d.may_leave c.match-self.self-inside.disk)) c.self.view_is
    (elim c.match-self.branch [
      | in-Tear+in-Err+in-Pending-1 w ↦ shorter d.may_leave c.args.at _ n _ _ c.match-self.self-inside (omega (arith, ap length w.front.ensures, length-take n w.deref.result.now)) (ap (λ (i : Inside _). i.disk) w.self-inside-is) w.write_at-in-Tear.ensures.crash
      | in-Tear+in-Err+in-BadPath-1 w ↦ shorter d.may_leave c.args.at _ n _ _ c.match-self.self-inside (omega (arith, ap length w.front.ensures, length-take n w.deref.result.now)) (ap (λ (i : Inside _). i.disk) w.self-inside-is) w.write_at-in-Tear.ensures.crash
      | in-Tear+in-Ok-1 w ↦ shorter d.may_leave c.args.at _ n _ _ c.match-self.self-inside (omega (arith, ap length w.front.ensures, length-take n w.deref.result.now)) (ap (λ (i : Inside _). i.disk) w.self-inside-is) w.write_at-in-Tear.ensures.crash
      | in_default w ↦ none d.may_leave c.args.at n _ c.match-self.self-inside (ap (λ (i : Inside _). i.disk) w.self-inside-is)
    ])
