-- The servers that pass a test are told by the bits of one number.
use Rattle.std.proofs.Common.{◌≡◌, ◌≢◌, ◌∙◌, ◌^◌, ◌<◌, ℕ, Bool, true, false, cond, List, [], ◌∷◌, eqb, filter, refl, sym, ap, subst, ⊎_elim, arith}
use Rattle.std.specs.Prelude.{◌||◌, max, nat_lt}
use Rattle.std.specs.Int.{bit_at}
use Rattle.std.specs.List.{list_all}
use Rattle.std.proofs.lemmas.Bool.{and_parts, cases_eq}
use Rattle.std.proofs.lemmas.Bool.Decides.{nat_tests}
use Rattle.std.proofs.lemmas.Nat.Bits.{bit_at_or, bit_at-zero, bit_at-pow_same, bit_at-pow_other}
use Rattle.std.proofs.lemmas.Nat.{or_lt, pow_below}
use Rattle.gs_base.specs.Members.{count_from, servers_where, is_member, has_bit, bits_of}
use Rattle.gs_base.specs.MemberLaws.{eqb_itself, eqb_other, same_servers, is_member-servers_where}
use Rattle.gs_tree.proofs.Levels.{both_true}
use Rattle.gs_master_record.specs.Writable.{AreServers}

-- ---- each bit of the number of a set

max_cond : (b c : Bool) → max (cond b 1 0) (cond c 1 0) ≡ cond (b || c) 1 0
max_cond true true = refl
max_cond true false = refl
max_cond false true = refl
max_cond false false = refl

bit_of_power : (m i : ℕ) → bit_at (2 ^ m) i ≡ cond (eqb m i) 1 0
bit_of_power m i = ⊎_elim
    (λ (here : m ≡ i). subst (λ j. bit_at (2 ^ m) j ≡ cond (eqb m j) 1 0) here (bit_at-pow_same m ∙ ap (λ b. cond b 1 0) (sym (eqb_itself m))))
    (λ (other : m ≢ i). bit_at-pow_other m i (λ e. other (sym e)) ∙ ap (λ b. cond b 1 0) (sym (eqb_other m i other)))
    (cases_eq m i)

bit_of_set : (ms : List ℕ) (i : ℕ) → bit_at (bits_of ms) i ≡ cond (is_member ms i) 1 0
unfolding bits_of
bit_of_set [] i = bit_at-zero i
bit_of_set (m ∷ ms) i = rw (bit_at_or (2 ^ m) (bits_of ms) i, bit_of_power m i, bit_of_set ms i) (max_cond (eqb m i) (is_member ms i))

one_of : (b : Bool) → eqb (cond b 1 0) 1 ≡ b
one_of true = refl
one_of false = refl

has_member : (ms : List ℕ) (i : ℕ) → has_bit (bits_of ms) i ≡ is_member ms i
has_member ms i = ap (λ n. eqb n 1) (bit_of_set ms i) ∙ one_of (is_member ms i)

-- ---- it has 16 bits

abbrev pub is_low : ℕ → Bool
is_low m = nat_lt m 16

all_kept : (f test : ℕ → Bool) (xs : List ℕ) → list_all f xs ≡ true → list_all f (filter test xs) ≡ true
all_kept f test [] all = refl
all_kept f test (x ∷ xs) all = let parts = and_parts (f x) (list_all f xs) all in by_test (test x) parts.0 (all_kept f test xs parts.1)
  where
    by_test : (b : Bool) → f x ≡ true → list_all f (filter test xs) ≡ true → list_all f (cond b (x ∷ filter test xs) (filter test xs)) ≡ true
    by_test true here rest = both_true (f x) (list_all f (filter test xs)) here rest
    by_test false here rest = rest

low_power : (m : ℕ) → is_low m ≡ true → 2 ^ m < 2 ^ 16
low_power m low = pow_below m 16 (let t = low in grind (arith, nat_tests))

small_set : (ms : List ℕ) → list_all is_low ms ≡ true → bits_of ms < 2 ^ 16
unfolding bits_of
small_set [] all = omega arith
small_set (m ∷ ms) all = let parts = and_parts (is_low m) (list_all is_low ms) all in or_lt 16 (2 ^ m) (bits_of ms) (low_power m parts.0) (small_set ms parts.1)

pub low_servers : (test : ℕ → Bool) → list_all is_low (servers_where test) ≡ true
unfolding servers_where
low_servers test = all_kept is_low test (count_from 0 16) refl

pub servers_told : (test : ℕ → Bool) → AreServers (servers_where test)
servers_told test = (
  bits_of (servers_where test),
  small_set (servers_where test) (low_servers test),
  same_servers test (has_bit (bits_of (servers_where test))) (λ s low. sym (has_member (servers_where test) s ∙ is_member-servers_where test s low)),
)
