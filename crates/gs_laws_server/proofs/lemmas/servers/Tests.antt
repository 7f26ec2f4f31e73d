-- The tests before a refusal, where none of them is met.
use Rattle.std.proofs.Common.{◌≡◌, ℕ, ◌+◌, Bool, true, false, cond, not, List, ◌∷◌, Option, Some, None, refl, sym, subst, ◌∙◌, arith}
use Rattle.std.specs.Prelude.{◌||◌, ◌&&◌, ◌==◌, nat_lt, nat_le}
use Rattle.std.proofs.lemmas.Bool.Decides.{nat_tests}
use Rattle.gs_base.specs.declared.numbers.Stamp.{Stamp}
use Rattle.gs_base.specs.Stamps.{is_same}
use Rattle.gs_base.specs.declared.refusal.Refusal.{Refusal}
use Rattle.gs_store.specs.Slots.{first_of, when}

abbrev IsRefused : Option Refusal → Type 0
IsRefused None = ⊥
IsRefused (Some e) = Unit {0}

pub never : {Z : Type 0} (e : Refusal) (o : Option Refusal) → o ≡ Some e → o ≡ None → Z
never e o some none = elim (subst IsRefused none (subst IsRefused (sym some) tt)) [ ]

pub head_none : (o : Option Refusal) (rest : List (Option Refusal)) → first_of (o ∷ rest) ≡ None → o ≡ None
head_none None rest is = refl
head_none (Some e) rest is = never e (Some e) refl is

pub tail_none : (o : Option Refusal) (rest : List (Option Refusal)) → first_of (o ∷ rest) ≡ None → first_of rest ≡ None
tail_none None rest is = is
tail_none (Some e) rest is = never e (Some e) refl is

pub not_met : (test : Bool) (e : Refusal) → when test e ≡ None → test ≡ false
not_met false e is = refl
not_met true e is = never e (Some e) refl is

pub never_true : {Z : Type 0} → false ≡ true → Z
never_true is = elim (subst (λ (b : Bool). cond b ⊥ (Unit {0})) is tt) [ ]

pub never_false : {Z : Type 0} → true ≡ false → Z
never_false is = elim (subst (λ (b : Bool). cond b (Unit {0}) ⊥) is tt) [ ]

pub never_both : {Z : Type 0} (b : Bool) → b ≡ true → b ≡ false → Z
never_both b above below = never_true (sym below ∙ above)

pub first_same : (a b : Bool) → (not a || not b) ≡ false → a ≡ true
first_same true b is = refl
first_same false b is = never_false is

-- the number of the next edit
pub next_number : (number count : ℕ) → nat_le number count ≡ false → nat_lt (count + 1) number ≡ false → number ≡ count + 1
next_number number count above below = grind (arith, nat_tests)

pub both_first : (x y : Bool) → (x && y) ≡ true → x ≡ true
both_first true y is = refl
both_first false y is = is

pub both_second : (x y : Bool) → (x && y) ≡ true → y ≡ true
both_second true y is = is
both_second false y is = never_true is

same_number : (a b : ℕ) → (a == b) ≡ true → a ≡ b
same_number a b is = grind (arith, nat_tests)

pub same_stamp : (a b : Stamp) → is_same a b ≡ true → a ≡ b
same_stamp a b is =
    let epoch : a.epoch ≡ b.epoch = same_number a.epoch b.epoch (both_first (a.epoch == b.epoch) (a.version == b.version) is) in
    let version : a.version ≡ b.version = same_number a.version b.version (both_second (a.epoch == b.epoch) (a.version == b.version) is) in
    λ i. record { epoch = epoch i; version = version i }
