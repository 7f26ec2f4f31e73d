use Rattle.std.proofs.Common.{◌∙◌}
use Rattle.gs_keep_mark.specs.Marks.{mark_text}
use Rattle.gs_keep_mark.proofs.Lines.{mark_put}
use Rattle.gs_keep_mark.proofs.Ledger.mark.Goals as goal

pub returns : goal.returns
returns c = λ t is.
    mark_put _ _ _ _ _ _ _ _ _ _ c.args.self.now.lines c.new-bytes.ensures.items c.in_ok-extend_from_slice.ensures.items c.in_ok-push_digits.ensures c.in_ok-extend_from_slice-2.ensures.items
    c.in_ok-extend_from_slice-3.ensures.items c.in_ok-extend_from_slice-4.ensures.items c.in_ok-extend_from_slice-5.ensures.items c.in_ok-extend_from_slice-6.ensures.items
    ∙ (λ i. mark_text (is.lines i) (c.in_ok-text.ensures t.text is.text i) (c.in_ok-answers.ensures t.answers is.answers i))
