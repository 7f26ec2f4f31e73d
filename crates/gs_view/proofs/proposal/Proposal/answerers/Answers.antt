use Rattle.std.proofs.Common.{◌≡◌, ap, sym, ◌∙◌}
use Rattle.gs_base.specs.Members.{with_member}
use Rattle.gs_view.specs.Choice.{answer_of}
use Rattle.gs_view.proofs.Chosen.{below_none, below_in, below_out, below_all, option_is, option_is_not, found_number}
use Rattle.gs_view.proofs.proposal.Proposal.answerers.Goals as goal
use Rattle.gs_view.proofs.proposal.Proposal.answerers.Goals.{then-eq, else-eq}

pub loop-number-init : goal.loop-number-init
loop-number-init c = c.none-members.ensures ∙ below_none _ _

pub loop-number-preserved : goal.loop-number-preserved
loop-number-preserved c =
    let number : c.unwrap-server.result ≡ c.loop-number.number = found_number _ _ _ c.new.ensures.number c.unwrap-server.ensures in
    elim c.if-eq.branch [
      | then-eq w ↦
          w.members-is ∙ w.insert.ensures ∙ ap (λ m. with_member m c.unwrap-server.result) c.loop-number.invariant ∙ ap (with_member _) number
          ∙ below_in _ _ _ (ap (answer_of c.args.self.now) (sym number) ∙ sym c.answer_of.ensures ∙ option_is _ _ (sym c.eq.ensures ∙ w.if-eq.true))
      | else-eq w ↦
          w.members-is ∙ c.loop-number.invariant
          ∙ below_out _ _ _ (λ e. option_is_not _ _ (sym c.eq.ensures ∙ w.if-eq.false) (c.answer_of.ensures ∙ ap (answer_of c.args.self.now) number ∙ e))
    ]

pub returns : goal.returns
returns c = c.loop-number.invariant ∙ below_all _ _ _ c.loop-number.auto.number-end c.loop-number-test.false
