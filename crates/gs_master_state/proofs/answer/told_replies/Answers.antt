use Rattle.std.proofs.Common.{◌<◌, ◌-◌, length, ap, sym, ◌∙◌, arith}
use Rattle.std.specs.FinMap as fin
use Rattle.std.specs.Prelude.{option_map}
use Rattle.gs_master_state.proofs.Digits.{none_told}
use Rattle.gs_master_state.proofs.answer.told_replies.Goals as goal

pub returns-in_default : goal.returns-in_default
returns-in_default c =
    let some = c.loop-left-test.true in
    let bound = c.loop-left.invariant.bound in
    let here : c.loop-left.left - 1 < length c.args.replies.now = omega arith in
    sym (ap (option_map fin.from_entries) (none_told c.args.replies.now (c.loop-left.left - 1) c.index-replies-left.result here c.index-replies-left.is (sym c.in_ok-result.ensures ∙ c.in_default.is)))
