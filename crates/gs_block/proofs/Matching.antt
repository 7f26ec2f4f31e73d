-- Digests that are those of all blocks.
use Rattle.std.proofs.Common.{◌≡◌, ℕ, ◌+◌, ◌<◌, ◌≤◌, arith, refl, sym, ap, List, [], ◌∷◌, length, ◌∙◌, ⊎_elim, Bool, true, false, cond, zero, suc, true≢false, ◌≢◌}
use Rattle.std.specs.Prelude.{Option, Some, None, slice_index_or, nat_eq, ◌==◌, ◌&&◌, ◌↔◌, IsTrue, is_none}
use Rattle.std.specs.Str.{bytes_eq}
use Rattle.std.proofs.lemmas.Bool.{cases_eq}
use Rattle.std.proofs.lemmas.Bool.Decides.{nat_tests}
use Rattle.std.proofs.lemmas.List.{ext_get_or}
use Rattle.std.proofs.lemmas.List.FromFn.{length-map-range_with_len, get_or-map-range_with_len}
use Rattle.gs_block.specs.Stored.{count_of, digest_at, digests_of, is_intact, first_damaged, are_digests}
use Rattle.gs_block.proofs.Kept.{bytes_eq_self}

and_first : (a b : Bool) → (a && b) ≡ true → a ≡ true
and_first true b h = refl
and_first false b h = h

and_second : (a b : Bool) → (a && b) ≡ true → b ≡ true
and_second true b h = h
and_second false b h = absurd (true≢false (sym h))

same_number : (m n : ℕ) → nat_eq m n ≡ true → m ≡ n
same_number m n h = grind (arith, nat_tests)

pub same_bytes : (xs ys : List ℕ) → bytes_eq xs ys ≡ true → xs ≡ ys
same_bytes [] [] h = refl
same_bytes [] (y ∷ ys) h = absurd (true≢false (sym h))
same_bytes (x ∷ xs) [] h = absurd (true≢false (sym h))
same_bytes (x ∷ xs) (y ∷ ys) h =
    let e = same_number x y (and_first (nat_eq x y) (bytes_eq xs ys) h) in
    let r = same_bytes xs ys (and_second (nat_eq x y) (bytes_eq xs ys) h) in
    λ i. e i ∷ r i

none_of : (b : Bool) (rest : Option ℕ) (first : ℕ) → cond b rest (Some first) ≡ None → (b ≡ true) × (rest ≡ None)
none_of true rest first h = (refl, h)
none_of false rest first h = absurd (cc)

is_none_so : (o : Option ℕ) → is_none o ≡ true → o ≡ None
is_none_so None h = refl
is_none_so (Some x) h = absurd (true≢false (sym h))

pub none_damaged : (size : ℕ) (bytes : List ℕ) (digests : List (List ℕ)) (first many i : ℕ) → first_damaged size bytes digests first many ≡ None → first ≤ i → i < first + many → is_intact size bytes digests i ≡ true
none_damaged size bytes digests first zero i h low high = absurd (omega arith)
none_damaged size bytes digests first (suc many) i h low high =
    let parts = none_of (is_intact size bytes digests first) (first_damaged size bytes digests (first + 1) many) first h in
    ⊎_elim
    (λ (here : i ≡ first). ap (is_intact size bytes digests) here ∙ parts.0)
    (λ (later : i ≢ first). none_damaged size bytes digests (first + 1) many i parts.1 (omega arith) (omega arith))
    (cases_eq i first)

pub intact_none : (size : ℕ) (bytes : List ℕ) (digests : List (List ℕ)) (first many : ℕ) → ((i : ℕ) → first ≤ i → i < first + many → is_intact size bytes digests i ≡ true) → first_damaged size bytes digests first many ≡ None
intact_none size bytes digests first zero all = refl
intact_none size bytes digests first (suc many) all =
    rw (all first (omega arith) (omega arith)) (intact_none size bytes digests (first + 1) many (λ i low high. all i (omega arith) (omega arith)))

pub matching : (size : ℕ) (bytes : List ℕ) (digests : List (List ℕ)) → are_digests size bytes digests ≡ true → digests ≡ digests_of size bytes
unfolding is_intact
matching size bytes digests h =
    let many = count_of size (length bytes) in
    let long : length digests ≡ many = same_number (length digests) many (and_first (length digests == many) _ h) in
    let none : first_damaged size bytes digests 0 many ≡ None = is_none_so (first_damaged size bytes digests 0 many) (and_second (length digests == many) _ h) in
    ext_get_or [] digests (digests_of size bytes) (long ∙ sym (length-map-range_with_len (digest_at size bytes) 0 many))
    (λ i below. sym (same_bytes (digest_at size bytes i) (slice_index_or digests i []) (none_damaged size bytes digests 0 many i none (omega arith) (omega arith)))
    ∙ sym (get_or-map-range_with_len (digest_at size bytes) 0 many i i [] (omega arith) (omega arith)))

pub matched : (size : ℕ) (bytes : List ℕ) (digests : List (List ℕ)) → digests ≡ digests_of size bytes → are_digests size bytes digests ≡ true
unfolding is_intact
matched size bytes digests is =
    let many = count_of size (length bytes) in
    let long : length digests ≡ many = ap length is ∙ length-map-range_with_len (digest_at size bytes) 0 many in
    let none : first_damaged size bytes digests 0 many ≡ None = intact_none size bytes digests 0 many
    (λ i low high. ap (bytes_eq (digest_at size bytes i)) (ap (λ ds. slice_index_or ds i []) is ∙ get_or-map-range_with_len (digest_at size bytes) 0 many i i [] (omega arith) (omega arith))
    ∙ bytes_eq_self (digest_at size bytes i)) in
    let same : (length digests == many) ≡ true = grind (arith, nat_tests) in
    rw (same, none) refl

pub digests_iff : (b : Bool) (size : ℕ) (bytes : List ℕ) (digests : List (List ℕ)) → b ≡ are_digests size bytes digests → IsTrue b ↔ (digests ≡ digests_of size bytes)
digests_iff b size bytes digests is =
    ((λ (t : IsTrue b). matching size bytes digests (sym is ∙ t)), (λ (e : digests ≡ digests_of size bytes). is ∙ matched size bytes digests e))
