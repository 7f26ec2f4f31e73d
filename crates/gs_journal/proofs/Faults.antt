-- Which calls of a disk fail, by their number.
use Rattle.std.proofs.Common.{◌≡◌, ◌==◌, ℕ, zero, suc, ◌-◌, false, refl, ◌∙◌, arith, Vec, Global}
use Rattle.std.specs.Prelude.{nat_le}
use Rattle.std.proofs.lemmas.Bool.Decides.{nat_tests}
use Rattle.gs_journal.specs.Faults.{fails, after}
use Rattle.gs_journal.specs.declared.fault.Fault.TheVariants.{Never, Fail, Stop, Tear}

pub never : (call : ℕ) → fails (after call Never) ≡ false
never zero = refl
never (suc call) = never call

same_less : (m n : ℕ) → (m == n) ≡ (suc m == suc n)
same_less m n = grind (arith, nat_tests)

after_first : (n : ℕ) → false ≡ (suc n == 0)
after_first n = grind (arith, nat_tests)

before : (n : ℕ) → (suc n == 0) ≡ (0 == suc n)
before n = grind (arith, nat_tests)

pub one : (number call : ℕ) → fails (after call (Fail number)) ≡ (call == number)
one zero zero = refl
one zero (suc call) = never call ∙ after_first call
one (suc number) zero = before number
one (suc number) (suc call) = one number call ∙ same_less call number

at_first : (n : ℕ) → (n == 0) ≡ nat_le n 0
at_first n = grind (arith, nat_tests)

one_less : (n k : ℕ) → nat_le (n - 1) k ≡ nat_le n (suc k)
one_less n k = grind (arith, nat_tests)

pub stops : (number call : ℕ) → fails (after call (Stop number)) ≡ nat_le number call
stops number zero = at_first number
stops number (suc call) = stops (number - 1) call ∙ one_less number call

pub tears : (number call : ℕ) (torn : Vec ℕ Global) → fails (after call (Tear number torn)) ≡ nat_le number call
tears number zero torn = at_first number
tears number (suc call) torn = tears (number - 1) call torn ∙ one_less number call
