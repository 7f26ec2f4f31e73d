use Rattle.std.proofs.Common.{inl, inr, arith}
use Rattle.gs_base.proofs.Tells.{none_numbered, no_handle}
use Rattle.gs_base.proofs.told.numbered.Goals as goal

pub returns-in_default : goal.returns-in_default
returns-in_default c = none_numbered c.args.number c.args.detail c.ranges.detail.fits (λ e. absurd (omega arith)) (λ e. absurd (omega arith)) (λ e. omega arith) (λ e. omega arith) (λ e. omega arith) (λ e. omega arith) (λ e. omega arith)

pub returns-in_err-new-in-15 : goal.returns-in_err-new-in-15
returns-in_err-new-in-15 c = no_handle c.args.number c.args.detail c.new.result _ c.ranges.detail.fits (inl c.in-15.is) c.new.ensures.some (c.in_err-new-in-15.was) c.from_residual.ensures

pub returns-in_err-new-in-16 : goal.returns-in_err-new-in-16
returns-in_err-new-in-16 c = no_handle c.args.number c.args.detail c.new-in-16.result _ c.ranges.detail.fits (inr c.in-16.is) c.new-in-16.ensures.some (c.in_err-new-in-16.was) c.from_residual-in_err-new-in-16.ensures
