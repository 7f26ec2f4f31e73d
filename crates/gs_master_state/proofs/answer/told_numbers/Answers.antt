use Rattle.std.proofs.Common.{ap, sym, ◌∙◌}
use Rattle.std.specs.Prelude.{option_map}
use Rattle.gs_master_spec.specs.Replies.{numbers_in}
use Rattle.gs_master_state.specs.inner.ToldNumbers.{place_in}
use Rattle.gs_master_state.proofs.Digits.{not_told_here, told_here}
use Rattle.gs_master_state.proofs.Mapping.{if_ok_weaker}
use Rattle.gs_master_state.proofs.answer.told_numbers.Goals as goal

pub returns-in-Some-place_in : goal.returns-in-Some-place_in
returns-in-Some-place_in c =
    let held = ap (option_map (λ numbers. numbers.items)) (sym c.in-Some.is) ∙ c.in_ok-numbers.ensures in
    if_ok_weaker _ _ (λ told is. is ∙ sym (told_here c.args.text.now (numbers_in c.args.text.now) c.in-Some.numbers.items c.in-Some-place_in.answer held (c.in-Some-place_in.ensures ∙ ap place_in c.deref.ensures.value))) c.if_text.result c.if_text.ensures

pub returns : goal.returns
returns c =
    let held = ap (option_map (λ numbers. numbers.items)) (sym c.in-Some.is) ∙ c.in_ok-numbers.ensures in
    not_told_here c.args.text.now (numbers_in c.args.text.now) c.in-Some.numbers.items held (c.in-None.ensures ∙ ap place_in c.deref.ensures.value)
