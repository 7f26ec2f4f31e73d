use Rattle.std.proofs.Common.{◌≡◌, ℕ, ◌<◌, ◌^◌, ◌&&◌, Bool, true, false, cond, length, nat_lt, Option, Some, None, Result, Ok, Err, refl, sym, ap, ◌∙◌, true≢false}
use Rattle.std.proofs.lemmas.Bool.{ltb-true, lt-ltb}
use Rattle.std.proofs.lemmas.Str.Parse.{IsNumeralModel, numerals_by_value, tells_all_ascii_digits}
use Rattle.std.specs.Prelude.{option_and_then}
use Rattle.std.specs.Result.{OkIff, result_ok}
use Rattle.std.specs.Str.{all_ascii_digits}
use Rattle.std.specs.Str.Parse.{digits_value, IsNumeral, ParsesUnsigned, ExplainsUnsignedError, HasUnsignedDigitsIfOk, without_leading_plus}
use Rattle.std.specs.declared.num.ParseIntError.{ParseIntError}
use Rattle.clap.specs.Words.{ReadsOne, Text, found_of, one_of, rows_of}
use Rattle.clap.proofs.WalkLemmas.{one_text-rows}
use Rattle.gs_shell_options.specs.Options.{number_of}
use Rattle.gs_shell_options.proofs.number_in.Goals as goal

tested : {T E : Type 0} (b : Bool) (P : Type 0) → (b ≡ true → P) → (P → b ≡ true) → (r : Result T E) (v : T) → OkIff r P v → result_ok r ≡ cond b (Some v) None
tested true P to from (Ok x) v h = ap Some h.1
tested true P to from (Err e) v h = absurd (h (to refl))
tested false P to from (Ok x) v h = absurd (true≢false (sym (from h.0)))
tested false P to from (Err e) v h = refl

all_three : (a b c : Bool) → (a && (b && c)) ≡ true → (a ≡ true) × (b ≡ true) × (c ≡ true)
all_three true true true h = (refl, refl, refl)
all_three true true false h = absurd (true≢false (sym h))
all_three true false c h = absurd (true≢false (sym h))
all_three false b c h = absurd (true≢false (sym h))

and_three : (a b c : Bool) → a ≡ true → b ≡ true → c ≡ true → (a && (b && c)) ≡ true
and_three true true true p q r = refl
and_three true true false p q r = r
and_three true false c p q r = q
and_three false b c p q r = p

digits : IsNumeralModel (λ ds. all_ascii_digits ds ≡ true) (digits_value 10)
digits = numerals_by_value _ tells_all_ascii_digits

parsed : {E : Type 0} (t : Text) (x : Result ℕ E) → ParsesUnsigned 64 10 t x → result_ok x ≡ number_of t
parsed t x h =
    let ds = without_leading_plus t in
    tested (all_ascii_digits ds && (nat_lt 0 (length ds) && nat_lt (digits_value 10 ds) (2 ^ 64))) (IsNumeral 10 ds × (digits_value 10 ds < 2 ^ 64))
    (λ e. let t = all_three _ _ _ e in ((ltb-true _ _ t.1, digits.to ds t.0), ltb-true _ _ t.2))
    (λ e. and_three _ _ _ (digits.from ds e.0.1) (lt-ltb _ _ e.0.0) (lt-ltb _ _ e.1))
    x (digits_value 10 ds) h

read : (E : Type 0) (G : Text → Result ℕ E → Type 0) → ((t : Text) (x : Result ℕ E) → G t x → ParsesUnsigned 64 10 t x)
    → (t : Text) (r : Option ℕ) → ReadsOne G t r → r ≡ number_of t
read E G gives t (Some v) h = parsed {E = E} t (Ok v) (gives t (Ok v) h)
read E G gives t None h = parsed {E = E} t (Err h.0) (gives t (Err h.0) h.1)

cases : (o : Option Text) (r : Option ℕ) → (o ≡ None → r ≡ None) → ((t : Text) → o ≡ Some t → r ≡ number_of t) → r ≡ option_and_then number_of o
cases None r none value = none refl
cases (Some t) r none value = value t refl

pub returns : goal.returns
returns c =
    let found = found_of c.args.matches.now in
    cases (one_of c.args.id.now (rows_of found)) c.get_one.result
    (λ e. c.get_one.ensures.none (one_text-rows found c.args.id.now ∙ e))
    (λ t e. read ParseIntError (λ bs r. ParsesUnsigned 64 10 bs r × ExplainsUnsignedError 10 bs r × HasUnsignedDigitsIfOk bs r) (λ t x h. h.0) t c.get_one.result (c.get_one.ensures.value t (one_text-rows found c.args.id.now ∙ e)))
