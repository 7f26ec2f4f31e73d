use Rattle.std.proofs.Common.{◌≡◌, ◌≢◌, ◌<◌, ◌^◌, ◌&&◌, Bool, true, false, cond, length, get_or, eqb, nat_lt, Some, None, Result, Ok, Err, refl, sym, ap, ◌∙◌, true≢false, rules, arith, eq-eqb}
use Rattle.std.proofs.lemmas.Bool.{ltb-true, lt-ltb, and_from, and_parts}
use Rattle.std.proofs.lemmas.Str.Parse.{parse_plain}
use Rattle.std.specs.Result.{OkIff, result_ok}
use Rattle.std.specs.Str.{all_ascii_digits}
use Rattle.std.specs.Str.Parse.{digits_value}
use Rattle.gs_path.proofs.ElementLemmas.{digits}
use Rattle.gs_path.proofs.name.number_of.Goals as goal

tested : {T E : Type 0} (b : Bool) (P : Type 0) → (b ≡ true → P) → (P → b ≡ true) → (r : Result T E) (v : T) → OkIff r P v → result_ok r ≡ cond b (Some v) None
tested true P to from (Ok x) v h = ap Some h.1
tested true P to from (Err e) v h = absurd (h (to refl))
tested false P to from (Ok x) v h = absurd (true≢false (sym (from h.0)))
tested false P to from (Err e) v h = refl

pub returns : goal.returns
returns c =
    let text = c.args.text.now in
    let first : eqb (get_or text 0 0) 43 ≡ false = search rules in
    let plain : get_or text 0 0 ≢ 43 = λ e. true≢false (sym (eq-eqb _ _ e) ∙ first) in
    let len : length text ≡ 20 = omega arith in
    c.ok.ensures.value ∙ tested (eqb (length text) 20 && (all_ascii_digits text && nat_lt (digits_value 10 text) (2 ^ 64)))
    ((all_ascii_digits text ≡ true) × (0 < length text) × (digits_value 10 text < 2 ^ 64))
    (λ h. let t = and_parts (all_ascii_digits text) (nat_lt (digits_value 10 text) (2 ^ 64)) (and_parts (eqb (length text) 20) _ h).1 in (t.0, omega arith, ltb-true _ _ t.1))
    (λ h. and_from _ _ (eq-eqb _ _ len) (and_from _ _ h.0 (lt-ltb _ _ h.2)))
    c.parse.result (digits_value 10 text) (parse_plain digits 64 text c.parse.result c.parse.ensures.value.0 plain)
