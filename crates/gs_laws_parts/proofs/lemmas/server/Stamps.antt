-- Stamps as numbers, in their order.
use Rattle.std.proofs.Common.{◌≡◌, ℕ, ◌*◌, ◌<◌, ◌≤◌, true, false, refl, ap, arith}
use Rattle.std.specs.Prelude.{◌/◌, ◌%◌}
use Rattle.std.proofs.lemmas.Bool.Decides.{nat_tests}
use Rattle.gs_base.specs.declared.numbers.Stamp.{Stamp}
use Rattle.gs_base.specs.Stamps.{is_before, is_same}
use Rattle.gs_laws_chunk.specs.machine.Stamps.{epoch_of, start_of, stamp_at}

pub of_parts : (a b : ℕ) → a / 18446744073709551616 ≡ b / 18446744073709551616 → a % 18446744073709551616 ≡ b % 18446744073709551616 → a ≡ b
of_parts a b e v = omega arith

pub stamp_number : (a b : ℕ) → stamp_at a ≡ stamp_at b → a ≡ b
stamp_number a b is = of_parts a b (ap (λ (s : Stamp). s.epoch) is) (ap (λ (s : Stamp). s.version) is)

pub before_less : (a b : ℕ) → is_before (stamp_at a) (stamp_at b) ≡ true → a < b
before_less a b is = grind (arith, nat_tests)

pub not_before : (a b : ℕ) → is_before (stamp_at a) (stamp_at b) ≡ false → b ≤ a
not_before a b is = grind (arith, nat_tests)

pub epoch_is : (a : ℕ) → (stamp_at a).epoch ≡ epoch_of a
unfolding epoch_of
epoch_is a = refl

pub same_stamp : (a b : Stamp) → is_same a b ≡ true → a ≡ b
same_stamp a b is =
    let epoch : a.epoch ≡ b.epoch = grind (arith, nat_tests) in
    let version : a.version ≡ b.version = grind (arith, nat_tests) in
    λ i. record { epoch = epoch i; version = version i }

pub neither_same : (a b : Stamp) → is_before a b ≡ false → is_before b a ≡ false → is_same a b ≡ true
neither_same a b first second = grind (arith, nat_tests)

pub before_other : (a b : Stamp) → is_before a b ≡ true → is_same b a ≡ false
before_other a b is = grind (arith, nat_tests)

pub never_same : {Z : Type 0} (a : Stamp) → is_before a a ≡ true → Z
never_same a is = absurd (let no : is_before a a ≡ false = grind (arith, nat_tests) in (cc))

pub is_itself : (a : Stamp) → is_same a a ≡ true
is_itself a = grind (arith, nat_tests)

pub epoch_rises : (born a b : ℕ) → born ≤ epoch_of a → a < b → born ≤ epoch_of b
unfolding epoch_of
epoch_rises born a b after less = omega arith

pub start_stamp : (epoch : ℕ) → stamp_at (start_of epoch) ≡ record { epoch = epoch; version = 0 }
unfolding start_of
start_stamp epoch = (let a : (epoch * 18446744073709551616) / 18446744073709551616 ≡ epoch = omega arith in let b : (epoch * 18446744073709551616) % 18446744073709551616 ≡ 0 = omega arith in λ i. record { epoch = a i; version = b i })

pub start_epoch : (epoch : ℕ) → epoch_of (start_of epoch) ≡ epoch
unfolding epoch_of start_of
start_epoch epoch = omega arith

pub start_above : (epoch : ℕ) → 0 < epoch → 0 < start_of epoch
unfolding start_of
start_above epoch above = omega arith

-- the first stamp of an epoch is above each of an earlier one
pub later_start : (a b : Stamp) → a.epoch < b.epoch → is_before a b ≡ true
later_start a b less = grind (arith, nat_tests)
