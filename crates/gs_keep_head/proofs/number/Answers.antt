use Rattle.std.proofs.Common.{◌≡◌, ◌≢◌, ◌<◌, ◌^◌, ◌&&◌, ◌==◌, ℕ, zero, suc, Bool, true, false, not, cond, length, get_or, eqb, nat_lt, Some, None, Result, Ok, Err, refl, sym, ap, ◌∙◌, true≢false, rules, arith, eq-eqb}
use Rattle.std.proofs.lemmas.Bool.{ltb-true, lt-ltb, and_from, and_parts}
use Rattle.std.proofs.lemmas.Bool.Decides.{nat_tests}
use Rattle.std.proofs.lemmas.Str.Parse.{parse_plain, IsNumeralModel, numerals_by_value, tells_all_ascii_digits}
use Rattle.std.specs.Result.{OkIff, result_ok}
use Rattle.std.specs.Str.{all_ascii_digits}
use Rattle.std.specs.Str.Parse.{digits_value}
use Rattle.gs_keep_head.proofs.number.Goals as goal

digits : IsNumeralModel (λ ds. all_ascii_digits ds ≡ true) (digits_value 10)
digits = numerals_by_value _ tells_all_ascii_digits

tested : {T E : Type 0} (b : Bool) (P : Type 0) → (b ≡ true → P) → (P → b ≡ true) → (r : Result T E) (v : T) → OkIff r P v → result_ok r ≡ cond b (Some v) None
tested true P to from (Ok x) v h = ap Some h.1
tested true P to from (Err e) v h = absurd (h (to refl))
tested false P to from (Ok x) v h = absurd (true≢false (sym (from h.0)))
tested false P to from (Err e) v h = refl

some_long : (n : ℕ) → not (n == 0) ≡ true → 0 < n
some_long zero h = absurd (true≢false (sym h))
some_long (suc n) h = search arith

long : (n : ℕ) → 0 < n → not (n == 0) ≡ true
long zero h = absurd (omega arith)
long (suc n) h = grind (arith, nat_tests)

pub returns : goal.returns
returns c =
    let text = c.args.word.now in
    let first : eqb (get_or text 0 0) 43 ≡ false = search rules in
    let plain : get_or text 0 0 ≢ 43 = λ e. true≢false (sym (eq-eqb _ _ e) ∙ first) in
    let value = digits_value 10 text in
    c.ok.ensures.value ∙ tested (not (length text == 0) && (all_ascii_digits text && nat_lt value (2 ^ 64)))
    ((all_ascii_digits text ≡ true) × (0 < length text) × (value < 2 ^ 64))
    (λ h. let s = and_parts (not (length text == 0)) _ h in let t = and_parts (all_ascii_digits text) (nat_lt value (2 ^ 64)) s.1 in (t.0, some_long (length text) s.0, ltb-true _ _ t.1))
    (λ h. and_from _ _ (long (length text) h.1) (and_from _ _ h.0 (lt-ltb _ _ h.2)))
    c.parse.result value (parse_plain digits 64 text c.parse.result c.parse.ensures.value.0 plain)
