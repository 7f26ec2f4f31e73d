use Rattle.std.proofs.Common.{subst, sym}
use Rattle.gs_master.specs.Masters.{IsHeld}
use Rattle.gs_master.specs.inner.Turns.{state_at}
use Rattle.gs_master.proofs.Armed.{first_held}
use Rattle.gs_master.proofs.master.Master+FailingDisk+D.arm_first.Goals as goal

pub invariant_of-self : goal.invariant_of-self
invariant_of-self g c =
    let d = g.D.Disk in
    let m = c.self.inside in (
      c.self.invariant.0,
      subst (IsHeld (λ f. d.seen f.disk) (λ f. d.may_leave f.disk) (state_at m.event)) (sym c.arm_first.ensures)
          (first_held d.seen d.may_leave (state_at m.event) m.journal c.args.fault c.self.invariant.1),
    )
