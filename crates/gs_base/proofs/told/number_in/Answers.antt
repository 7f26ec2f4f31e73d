use Rattle.std.proofs.Common.{◌≡◌, false, get_or, eqb, length, true≢false, rules, arith, sym, ◌∙◌, eq-eqb}
use Rattle.gs_base.proofs.Tells.{number_begins, number_read, one_digit}
use Rattle.gs_base.proofs.told.number_in.Goals as goal
use Rattle.gs_base.proofs.told.number_in.Goals.{else-text-gt1-via-then-text-gt1+else-starts_with-2, else-text-gt1-via-else-text-gt1}

pub returns-then-starts_with : goal.returns-then-starts_with
returns-then-starts_with c =
    let first : get_or c.args.text.now 0 0 ≡ 43 = search rules in
    λ n small is. (number_begins c.args.text.now n small is).0 first

pub returns-then-starts_with-2 : goal.returns-then-starts_with-2
returns-then-starts_with-2 c =
    let first : get_or c.args.text.now 0 0 ≡ 48 = search rules in
    λ n small is. let one : length c.args.text.now ≡ 1 = (number_begins c.args.text.now n small is).1 first in omega arith

pub returns : goal.returns
returns c =
    let text = c.args.text.now in
    let plain : eqb (get_or text 0 0) 43 ≡ false = search rules in
    number_read text c.parse.result c.ok.result c.ok.ensures.value c.parse.ensures.value.0 (λ e. true≢false (sym (eq-eqb _ _ e) ∙ plain))
    (elim c.else-text-gt1.branch [
      | else-text-gt1-via-then-text-gt1+else-starts_with-2 w ↦ (let other : eqb (get_or text 0 0) 48 ≡ false = search rules in λ e. absurd (true≢false (sym (eq-eqb _ _ e) ∙ other)))
      | else-text-gt1-via-else-text-gt1 w ↦ (λ (e : get_or text 0 0 ≡ 48). one_digit text e (omega arith))
    ])
