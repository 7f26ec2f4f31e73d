-- What the bits of a set say of it.
use Rattle.std.proofs.Common.{◌≡◌, ◌≢◌, ℕ, zero, suc, ◌+◌, ◌-◌, ◌*◌, ◌^◌, ◌/◌, ◌%◌, ◌<◌, ◌≤◌, Bool, true, false, cond, List, [], ◌∷◌, Option, Some, None, refl, sym, ap, ◌∙◌, ⊎_elim, arith, eqb, length, zero-add, IsSome, IfSome, ◌↔◌, slice_get}
use Rattle.std.proofs.lemmas.Bool.{cases_eq, eqb-true, false≢true}
use Rattle.std.proofs.lemmas.Bool.Decides.{nat_tests}
use Rattle.std.proofs.lemmas.Nat.Bits.{shr_and_one, bit_at-trailing_zeros, bit_at_set_same, bit_at_set_other, bit_at_clear_same, bit_at_clear_other}
use Rattle.std.proofs.lemmas.Slice.Eq.{bytes_eq-Decides}
use Rattle.std.specs.Cmp.Lexicographic.{pointwise}
use Rattle.std.specs.Prelude.{bit_and, bit_or, ◌||◌, ◌&&◌, not, filter, nat_eq}
use Rattle.std.specs.Int.{bit_at, bit_not, trailing_zeros, w16}
use Rattle.gs_base.specs.Members.{count_from, servers_where, is_member, has_bit, bits_of, with_member, without_member}
use Rattle.gs_base.specs.MemberLaws.{filter_same, eqb_itself, eqb_other, same_servers, is_member-servers_where, bits_of-servers_where}

-- the members from the server i on
unfoldable pub servers_from : ℕ → ℕ → List ℕ
servers_from b i = filter (has_bit b) (count_from i (16 - i))

pub found_bits : (b : ℕ) (m : List ℕ) → servers_where (has_bit b) ≡ m → b < 2 ^ 16 → b ≡ bits_of m
found_bits b m view fits = sym (bits_of-servers_where b fits) ∙ ap bits_of view

pub found_member : (b s n : ℕ) (m : List ℕ) → servers_where (has_bit b) ≡ m → n ≡ s → n < 16 → eqb (bit_and (b / 2 ^ n) 1) 1 ≡ is_member m s
found_member b s n m view same within =
    ap (λ x. eqb x 1) (shr_and_one b n) ∙ sym (is_member-servers_where (has_bit b) n within) ∙ ap (λ x. is_member (servers_where (has_bit b)) x) same ∙ ap (λ x. is_member x s) view

pub no_servers : servers_where (has_bit 0) ≡ []
unfolding servers_where
no_servers = refl

-- ---- a server more, a server less
here_bit : (x n : ℕ) (b : Bool) → x ≡ 1 → eqb x 1 ≡ (eqb n n || b)
here_bit x n b e = grind (arith, nat_tests)

gone_bit : (x n : ℕ) (b : Bool) → x ≡ 0 → eqb x 1 ≡ (not (eqb n n) && b)
gone_bit x n b e = grind (arith, nat_tests)

other_bit : (x y s n : ℕ) → s ≢ n → x ≡ y → eqb x 1 ≡ (eqb s n || eqb y 1)
other_bit x y s n differ e = grind (arith, nat_tests)

kept_bit : (x y s n : ℕ) → s ≢ n → x ≡ y → eqb x 1 ≡ (not (eqb s n) && eqb y 1)
kept_bit x y s n differ e = grind (arith, nat_tests)

with_bit : (b n : ℕ) → n < 16 → (s : ℕ) → has_bit (bit_or b (1 * 2 ^ n % 2 ^ 16)) s ≡ (eqb s n || has_bit b s)
with_bit b n within s = ⊎_elim
    (λ (here : s ≡ n). rw here (here_bit _ n (has_bit b n) (bit_at_set_same w16 b n within)))
    (λ (other : s ≢ n). other_bit _ _ s n other (bit_at_set_other w16 b n within s other))
    (cases_eq s n)

without_bit : (b n : ℕ) → n < 16 → (s : ℕ) → s < 16 → has_bit (bit_and b (bit_not w16 (1 * 2 ^ n % 2 ^ 16))) s ≡ (not (eqb s n) && has_bit b s)
without_bit b n within s low = ⊎_elim
    (λ (here : s ≡ n). rw here (gone_bit _ n (has_bit b n) (bit_at_clear_same w16 b n within)))
    (λ (other : s ≢ n). kept_bit _ _ s n other (bit_at_clear_other w16 b n within s low other))
    (cases_eq s n)

pub inserted : (b s n : ℕ) (m : List ℕ) → servers_where (has_bit b) ≡ m → n ≡ s → n < 16 → servers_where (has_bit (bit_or b (1 * 2 ^ n % 65536))) ≡ with_member m s
inserted b s n m view same within = same_servers _ _ (λ i low.
    with_bit b n within i ∙ ap (λ x. eqb i n || x) (sym (is_member-servers_where (has_bit b) i low) ∙ ap (λ x. is_member x i) view) ∙ ap (λ x. eqb i x || is_member m i) same)

pub removed : (b s n : ℕ) (m : List ℕ) → servers_where (has_bit b) ≡ m → n ≡ s → n < 16 → servers_where (has_bit (bit_and b (bit_not w16 (1 * 2 ^ n % 65536)))) ≡ without_member m s
removed b s n m view same within = same_servers _ _ (λ i low.
    without_bit b n within i low ∙ ap (λ x. not (eqb i n) && x) (sym (is_member-servers_where (has_bit b) i low) ∙ ap (λ x. is_member x i) view) ∙ ap (λ x. not (eqb i x) && is_member m i) same)

-- ---- the lowest
lowest_where : (p : ℕ → Bool) (first many n : ℕ) → first ≤ n → n < first + many → p n ≡ true → ((s : ℕ) → s < n → p s ≡ false) → slice_get (filter p (count_from first many)) 0 ≡ Some n
lowest_where p first zero n low high here none = absurd (omega arith)
lowest_where p first (suc many) n low high here none = ⊎_elim
    (λ (same : first ≡ n). rw (same, here) refl)
    (λ (later : first ≢ n). rw (none first (omega arith)) (lowest_where p (first + 1) many n (omega arith) (omega arith) here none))
    (cases_eq first n)

lowest_of : (b : ℕ) → b < 2 ^ 16 → (0 < b) → (trailing_zeros w16 b < 16) × (slice_get (servers_where (has_bit b)) 0 ≡ Some (trailing_zeros w16 b))
unfolding servers_where
lowest_of b fits some =
    let h = bit_at-trailing_zeros w16 b some fits in
    (h.0, lowest_where (has_bit b) 0 16 (trailing_zeros w16 b) (omega arith) h.0 (ap (λ n. eqb n 1) h.1) (λ s below. ap (λ n. eqb n 1) (h.2 s below)))

no_lowest : trailing_zeros w16 0 ≡ 16
unfolding lib.Count.count_trailing_zeros
no_lowest = refl

some_is : (r : Option ℕ) (n : ℕ) → IsSome r → IfSome r (λ s. s ≡ n) → r ≡ Some n
some_is None n some is = absurd (false≢true some)
some_is (Some s) n some is = ap Some is

none_is : (r : Option ℕ) → (IsSome r → ⊥) → r ≡ None
none_is None never = refl
none_is (Some s) never = absurd (never refl)

pub found_lowest : (b : ℕ) (r : Option ℕ) (m : List ℕ) → servers_where (has_bit b) ≡ m → b < 2 ^ 16 → (IsSome r ↔ (trailing_zeros w16 b < 16)) → IfSome r (λ s. s ≡ trailing_zeros w16 b) → r ≡ slice_get m 0
found_lowest b r m view fits some is = ⊎_elim
    (λ (empty : b ≡ 0).
    none_is r (λ h. let below : trailing_zeros w16 b < 16 = some.0 h in let last : trailing_zeros w16 b ≡ 16 = ap (trailing_zeros w16) empty ∙ no_lowest in omega arith)
    ∙ ap (λ x. slice_get x 0) (sym no_servers ∙ ap (λ x. servers_where (has_bit x)) (sym empty) ∙ view))
    (λ (other : b ≢ 0). let h = lowest_of b fits (omega arith) in some_is r _ (some.1 h.0) is ∙ sym h.1 ∙ ap (λ x. slice_get x 0) view)
    (cases_eq b 0)

some_length : (m : List ℕ) (n : ℕ) → slice_get m 0 ≡ Some n → eqb (length m) 0 ≡ false
some_length [] n e = absurd cc
some_length (x ∷ m) n e = grind (arith, nat_tests)

pub found_none : (b : ℕ) (m : List ℕ) → servers_where (has_bit b) ≡ m → b < 2 ^ 16 → eqb b 0 ≡ eqb (length m) 0
found_none b m view fits = ⊎_elim
    (λ (empty : b ≡ 0).
    ap (λ n. eqb n 0) (empty ∙ ap length (sym no_servers ∙ ap (λ x. servers_where (has_bit x)) (sym empty) ∙ view)))
    (λ (other : b ≢ 0). let h = lowest_of b fits (omega arith) in
    not_zero b other ∙ sym (some_length m _ (ap (λ x. slice_get x 0) (sym view) ∙ h.1)))
    (cases_eq b 0)
  where
    not_zero : (n : ℕ) → n ≢ 0 → eqb n 0 ≡ false
    not_zero n h = grind (arith, nat_tests)

-- ---- the lowest and the others
first_is : (x n : ℕ) (xs : List ℕ) → slice_get (x ∷ xs) 0 ≡ Some n → x ≡ n
first_is x n xs e = cc

same_test : (x n : ℕ) (b : Bool) → x ≡ n → (not (eqb x n) && b) ≡ false
same_test x n b e = grind (arith, nat_tests)

other_test : (x n : ℕ) (b : Bool) → x ≢ n → b ≡ (not (eqb x n) && b)
other_test x n b d = grind (arith, nat_tests)

and_false : (b c : Bool) → c ≡ false → (b && c) ≡ false
and_false true c e = e
and_false false c e = refl

rest_at : (p : ℕ → Bool) (first many n : ℕ) → slice_get (filter p (count_from first (suc many))) 0 ≡ Some n
    → (slice_get (filter p (count_from (first + 1) many)) 0 ≡ Some n → filter p (count_from (first + 1) many) ≡ n ∷ filter (λ s. not (eqb s n) && p s) (count_from (first + 1) many))
    → (b : Bool) → p first ≡ b → filter p (count_from first (suc many)) ≡ n ∷ filter (λ s. not (eqb s n) && p s) (count_from first (suc many))
rest_at p first many n e later true here =
    let same : first ≡ n = first_is first n (filter p (count_from (first + 1) many)) (rw here at e) in
    rw (same_test first n (p first) same, here)
    (ap (λ x. x ∷ filter p (count_from (first + 1) many)) same
    ∙ ap (λ xs. n ∷ xs) (filter_same p (λ s. not (eqb s n) && p s) (first + 1) many (λ s low high. other_test s n (p s) (λ (k : s ≡ n). omega arith))))
rest_at p first many n e later false here = rw (and_false (not (eqb first n)) (p first) here, here) (later (rw here at e))

rest_where : (p : ℕ → Bool) (first many n : ℕ) → slice_get (filter p (count_from first many)) 0 ≡ Some n
    → filter p (count_from first many) ≡ n ∷ filter (λ s. not (eqb s n) && p s) (count_from first many)
rest_where p first zero n e = absurd cc
rest_where p first (suc many) n e =
    rest_at p first many n e (λ h. rest_where p (first + 1) many n h) (p first) refl

pub taken_first : (b s : ℕ) (m new : List ℕ) → servers_where (has_bit b) ≡ m → slice_get m 0 ≡ Some s → new ≡ without_member m s → m ≡ s ∷ new
unfolding servers_where
taken_first b s m new view first is =
    sym view ∙ rest_where (has_bit b) 0 16 s (ap (λ x. slice_get x 0) view ∙ first)
    ∙ ap (λ xs. s ∷ xs) (same_servers _ _ (λ i low. ap (λ x. not (eqb i s) && x) (sym (is_member-servers_where (has_bit b) i low) ∙ ap (λ x. is_member x i) view)) ∙ sym is)

-- ---- how many there are
count_one : (first k many : ℕ) → many ≡ suc k → count_from first many ≡ first ∷ count_from (first + 1) k
count_one first k many e = ap (count_from first) e

length_cond : (b : Bool) (count x : ℕ) (xs : List ℕ) → count + length (cond b (x ∷ xs) xs) ≡ cond b (count + 1) count + length xs
length_cond true count x xs = omega arith
length_cond false count x xs = refl

servers_at : (b i : ℕ) → i < 16 → servers_from b i ≡ cond (has_bit b i) (i ∷ servers_from b (i + 1)) (servers_from b (i + 1))
unfolding servers_from
servers_at b i low = ap (filter (has_bit b)) (count_one i (16 - (i + 1)) (16 - i) (omega arith))

-- the count with this server's bit and those behind it
pub length_in : (b i count : ℕ) → i < 16 → bit_and (b / 2 ^ i) 1 ≡ 1 → count + length (servers_from b i) ≡ count + 1 + length (servers_from b (i + 1))
length_in b i count low is =
    ap (λ xs. count + length xs) (servers_at b i low) ∙ length_cond (has_bit b i) count i (servers_from b (i + 1))
    ∙ ap (λ n. cond (eqb n 1) (count + 1) count + length (servers_from b (i + 1))) (sym (shr_and_one b i) ∙ is)

pub length_out : (b i count : ℕ) → i < 16 → bit_and (b / 2 ^ i) 1 ≢ 1 → count + length (servers_from b i) ≡ count + length (servers_from b (i + 1))
length_out b i count low is =
    ap (λ xs. count + length xs) (servers_at b i low) ∙ length_cond (has_bit b i) count i (servers_from b (i + 1))
    ∙ ap (λ c. cond c (count + 1) count + length (servers_from b (i + 1))) (eqb_other (bit_at b i) 1 (λ e. is (shr_and_one b i ∙ e)))

all_from : (b : ℕ) → servers_from b 0 ≡ servers_where (has_bit b)
unfolding servers_where servers_from
all_from b = refl

pub length_start : (b : ℕ) (m : List ℕ) → servers_where (has_bit b) ≡ m → 0 + length (servers_from b 0) ≡ length m
length_start b m view = zero-add (length (servers_from b 0)) ∙ ap length (all_from b ∙ view)

none_from : (b : ℕ) → length (servers_from b 16) ≡ 0
unfolding servers_from
none_from b = refl

pub length_end : (b i count many : ℕ) → i ≤ 16 → 16 ≤ i → count + length (servers_from b i) ≡ many → count ≡ many
length_end b i count many low high e =
    let none : length (servers_from b i) ≡ 0 = ap (λ x. length (servers_from b x)) (let last : i ≡ 16 = omega arith in last) ∙ none_from b in
    omega arith

-- ---- the same bits, the same members
one_test : (b c : Bool) → (b ≡ true → c ≡ true) → (c ≡ true → b ≡ true) → b ≡ c
one_test true c there back = sym (there refl)
one_test false true there back = absurd (false≢true (back refl))
one_test false false there back = refl

pub same_bits : (a b : ℕ) (m n : List ℕ) → servers_where (has_bit a) ≡ m → a < 2 ^ 16 → servers_where (has_bit b) ≡ n → b < 2 ^ 16 → nat_eq a b ≡ pointwise nat_eq m n
same_bits a b m n view fits other_view other_fits = one_test _ _
    (λ same. (bytes_eq-Decides m n).1 (sym view ∙ ap (λ x. servers_where (has_bit x)) (eqb-true a b same) ∙ other_view))
    (λ same. is_one _ _ (found_bits a m view fits ∙ ap bits_of ((bytes_eq-Decides m n).0 same) ∙ sym (found_bits b n other_view other_fits)))
  where
    is_one : (x y : ℕ) → x ≡ y → nat_eq x y ≡ true
    is_one x y e = rw e (eqb_itself y)
