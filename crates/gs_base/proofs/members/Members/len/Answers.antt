use Rattle.std.proofs.Common.{ℕ, ◌+◌, ap, sym, ◌∙◌, arith, length}
use Rattle.gs_base.proofs.Bits.{servers_from, length_start, length_in, length_out, length_end}
use Rattle.gs_base.proofs.members.Members.len.Goals as goal
use Rattle.gs_base.proofs.members.Members.len.Goals.{then-self-i-eq1, else-self-i-eq1}

pub loop-i-init : goal.loop-i-init
loop-i-init c = (length_start _ _ c.self.view_is, omega arith)

pub loop-i-preserved : goal.loop-i-preserved
loop-i-preserved c =
    let behind : ℕ = length (servers_from c.self.inside.bits (c.loop-i.i + 1)) in
    elim c.if-self-i-eq1.branch [
      | then-self-i-eq1 w ↦ (ap (λ n. n + behind) w.count-is ∙ sym (length_in _ _ _ c.loop-i-test.true w.if-self-i-eq1.true) ∙ c.loop-i.invariant.0, omega arith)
      | else-self-i-eq1 w ↦ (ap (λ n. n + behind) w.count-is ∙ sym (length_out _ _ _ c.loop-i-test.true w.if-self-i-eq1.false) ∙ c.loop-i.invariant.0, omega arith)
    ]

pub returns : goal.returns
returns c = length_end _ _ _ _ c.loop-i.auto.i-end c.loop-i-test.false c.loop-i.invariant.0
