-- Laws of sets of servers: two with the same members are equal, and a set is what its bits say.
use Rattle.std.proofs.Common.{◌≡◌, ◌≢◌, ℕ, zero, suc, ◌+◌, ◌^◌, ◌<◌, ◌≤◌, Bool, true, false, cond, List, [], ◌∷◌, refl, sym, ap, ◌∙◌, subst, ⊎_elim, arith, eqb}
use Rattle.std.proofs.lemmas.Bool.{cases_eq, cases_lt}
use Rattle.std.proofs.lemmas.Bool.Decides.{nat_tests}
use Rattle.std.proofs.lemmas.Nat.Bits.{same_from_bits, bit_at_or, bit_at-zero, bit_at-pow_same, bit_at-pow_other, bit_at_above, bit_at-lt}
use Rattle.std.specs.Prelude.{◌||◌, ◌&&◌, max, filter}
use Rattle.std.specs.Int.{bit_at}
use Rattle.gs_base.specs.Members.{count_from, servers_where, is_member, has_bit, bits_of}

pub filter_same : (p q : ℕ → Bool) (first many : ℕ) → ((s : ℕ) → first ≤ s → s < first + many → p s ≡ q s) → filter p (count_from first many) ≡ filter q (count_from first many)
filter_same p q first zero same = refl
filter_same p q first (suc many) same =
    rw (same first (omega arith) (omega arith), filter_same p q (first + 1) many (λ s a b. same s (omega arith) (omega arith))) refl

filter_none : (p : ℕ → Bool) (first many : ℕ) → ((s : ℕ) → first ≤ s → s < first + many → p s ≡ false) → filter p (count_from first many) ≡ []
filter_none p first zero none = refl
filter_none p first (suc many) none =
    rw (none first (omega arith) (omega arith)) (filter_none p (first + 1) many (λ s low high. none s (omega arith) (omega arith)))

-- no server passes the test
pub servers_where-none : (p : ℕ → Bool) → ((s : ℕ) → s < 16 → p s ≡ false) → servers_where p ≡ []
unfolding servers_where
servers_where-none p none = filter_none p 0 16 (λ s low high. none s (omega arith))

-- two sets that have the same servers are equal
pub same_servers : (p q : ℕ → Bool) → ((s : ℕ) → s < 16 → p s ≡ q s) → servers_where p ≡ servers_where q
unfolding servers_where
same_servers p q same = filter_same p q 0 16 (λ s a b. same s (omega arith))

member_cond : (b : Bool) (x : ℕ) (xs : List ℕ) (s : ℕ) → is_member (cond b (x ∷ xs) xs) s ≡ ((b && eqb x s) || is_member xs s)
member_cond true x xs s = refl
member_cond false x xs s = refl

member_below : (p : ℕ → Bool) (first many s : ℕ) → s < first → is_member (filter p (count_from first many)) s ≡ false
member_below p first zero s below = refl
member_below p first (suc many) s below =
    rw (member_cond (p first) first (filter p (count_from (first + 1) many)) s, member_below p (first + 1) many s (omega arith)) (grind (arith, nat_tests))

member_above : (p : ℕ → Bool) (first many s : ℕ) → first + many ≤ s → is_member (filter p (count_from first many)) s ≡ false
member_above p first zero s above = refl
member_above p first (suc many) s above =
    rw (member_cond (p first) first (filter p (count_from (first + 1) many)) s, member_above p (first + 1) many s (omega arith)) (grind (arith, nat_tests))

or_here : (b : Bool) → ((b && true) || false) ≡ b
or_here true = refl
or_here false = refl

or_later : (b c : Bool) → ((b && false) || c) ≡ c
or_later true c = refl
or_later false c = refl

pub eqb_itself : (n : ℕ) → eqb n n ≡ true
eqb_itself n = grind (arith, nat_tests)

pub eqb_other : (m n : ℕ) → m ≢ n → eqb m n ≡ false
eqb_other m n differ = grind (arith, nat_tests)

member_filter : (p : ℕ → Bool) (first many s : ℕ) → first ≤ s → s < first + many → is_member (filter p (count_from first many)) s ≡ p s
member_filter p first zero s low high = absurd (omega arith)
member_filter p first (suc many) s low high = ⊎_elim
    (λ (here : s ≡ first). subst (λ x. is_member (filter p (count_from first (suc many))) x ≡ p x) (sym here)
    (rw (member_cond (p first) first (filter p (count_from (first + 1) many)) first, eqb_itself first, member_below p (first + 1) many first (omega arith)) (or_here (p first))))
    (λ (later : s ≢ first).
    rw (member_cond (p first) first (filter p (count_from (first + 1) many)) s, eqb_other first s (omega arith), member_filter p (first + 1) many s (omega arith) (omega arith)) (or_later (p first) (p s)))
    (cases_eq s first)

-- a server is a member exactly where it passes the test
pub is_member-servers_where : (p : ℕ → Bool) (s : ℕ) → s < 16 → is_member (servers_where p) s ≡ p s
unfolding servers_where
is_member-servers_where p s within = member_filter p 0 16 s (omega arith) (omega arith)

pub is_member-servers_where_above : (p : ℕ → Bool) (s : ℕ) → 16 ≤ s → is_member (servers_where p) s ≡ false
unfolding servers_where
is_member-servers_where_above p s above = member_above p 0 16 s (omega arith)

max_cond : (b c : Bool) → max (cond b 1 0) (cond c 1 0) ≡ cond (b || c) 1 0
max_cond true true = refl
max_cond true false = refl
max_cond false true = refl
max_cond false false = refl

bit_at-pow : (m i : ℕ) → bit_at (2 ^ m) i ≡ cond (eqb m i) 1 0
bit_at-pow m i = ⊎_elim
    (λ (here : m ≡ i). subst (λ j. bit_at (2 ^ m) j ≡ cond (eqb m j) 1 0) here (bit_at-pow_same m ∙ ap (λ b. cond b 1 0) (sym (eqb_itself m))))
    (λ (other : m ≢ i). bit_at-pow_other m i (λ e. other (sym e)) ∙ ap (λ b. cond b 1 0) (sym (eqb_other m i other)))
    (cases_eq m i)

bit_at-bits_of : (ms : List ℕ) (i : ℕ) → bit_at (bits_of ms) i ≡ cond (is_member ms i) 1 0
unfolding bits_of
bit_at-bits_of [] i = bit_at-zero i
bit_at-bits_of (m ∷ ms) i = rw (bit_at_or (2 ^ m) (bits_of ms) i, bit_at-pow m i, bit_at-bits_of ms i) (max_cond (eqb m i) (is_member ms i))

bit_cond : (n : ℕ) → n < 2 → cond (eqb n 1) 1 0 ≡ n
bit_cond n below = grind (arith, nat_tests)

same_bit : (b i : ℕ) → b < 2 ^ 16 → cond (is_member (servers_where (has_bit b)) i) 1 0 ≡ bit_at b i
same_bit b i fits = ⊎_elim
    (λ (low : i < 16). ap (λ c. cond c 1 0) (is_member-servers_where (has_bit b) i low) ∙ bit_cond (bit_at b i) (bit_at-lt b i))
    (λ (high : 16 ≤ i). ap (λ c. cond c 1 0) (is_member-servers_where_above (has_bit b) i high) ∙ sym (bit_at_above b 16 i fits high))
    (cases_lt i 16)

-- the bits of the set that a number's bits make
pub bits_of-servers_where : (b : ℕ) → b < 2 ^ 16 → bits_of (servers_where (has_bit b)) ≡ b
bits_of-servers_where b fits = same_from_bits _ _ (λ i. bit_at-bits_of (servers_where (has_bit b)) i ∙ same_bit b i fits)
