-- Stamps as numbers, and members of lists.
use Rattle.std.proofs.Common.{◌≡◌, ℕ, ◌+◌, ◌*◌, ◌<◌, ◌||◌, true, false, List, [], ◌∷◌, refl, sym, ap, ◌∙◌, arith}
use Rattle.std.specs.Prelude.{◌/◌, ◌%◌, ◌==◌, nat_eq}
use Rattle.std.proofs.lemmas.Bool.{true≢false}
use Rattle.std.proofs.lemmas.Bool.Decides.{nat_tests}
use Rattle.gs_base.specs.Members.{is_member}
use Rattle.gs_base.specs.declared.numbers.Stamp.{Stamp}
use Rattle.gs_laws_chunk.specs.machine.Stamps.{start_of, stamp_at}
use Rattle.gs_laws_chunk.specs.machine.Events.{is_of}

pub of_parts : (a b : ℕ) → a / 18446744073709551616 ≡ b / 18446744073709551616 → a % 18446744073709551616 ≡ b % 18446744073709551616 → a ≡ b
of_parts a b e v = omega arith

pub stamp_number : (a b : ℕ) → stamp_at a ≡ stamp_at b → a ≡ b
stamp_number a b is = of_parts a b (ap (λ (s : Stamp). s.epoch) is) (ap (λ (s : Stamp). s.version) is)

-- the number of a stamp whose version has 64 bits
pub number_at : (epoch version : ℕ) → version < 18446744073709551616 → stamp_at (epoch * 18446744073709551616 + version) ≡ record { epoch = epoch; version = version }
number_at epoch version less =
    let a : (epoch * 18446744073709551616 + version) / 18446744073709551616 ≡ epoch = omega arith in
    let b : (epoch * 18446744073709551616 + version) % 18446744073709551616 ≡ version = omega arith in
    λ i. record { epoch = a i; version = b i }

pub start_stamp : (epoch : ℕ) → stamp_at (start_of epoch) ≡ record { epoch = epoch; version = 0 }
unfolding start_of
start_stamp epoch = (let a : (epoch * 18446744073709551616) / 18446744073709551616 ≡ epoch = omega arith in let b : (epoch * 18446744073709551616) % 18446744073709551616 ≡ 0 = omega arith in λ i. record { epoch = a i; version = b i })

same_test : (x j : ℕ) → nat_eq j x ≡ (x == j)
same_test x j = grind (arith, nat_tests)

pub of_member : (xs : List ℕ) (j : ℕ) → is_of xs j ≡ is_member xs j
of_member [] j = refl
of_member (x ∷ xs) j = ap (λ b. b || is_of xs j) (same_test x j) ∙ ap (λ b. (x == j) || b) (of_member xs j)

pub same_number : (a b : ℕ) → (a == b) ≡ true → a ≡ b
same_number a b e = grind (arith, nat_tests)

pub other_number : {Z : Type 0} (a b : ℕ) → (a == b) ≡ false → a ≡ b → Z
other_number a b e same = absurd (true≢false (sym (itself a) ∙ ap (λ x. a == x) same ∙ e))
  where
    itself : (n : ℕ) → (n == n) ≡ true
    itself n = grind (arith, nat_tests)
