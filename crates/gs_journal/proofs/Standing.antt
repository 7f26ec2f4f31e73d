-- Which of two disks counts.
use Rattle.std.proofs.Common.{◌≡◌, ◌⊎◌, inl, inr, ⊎_elim, ℕ, suc, ◌+◌, ◌-◌, ◌≤◌, ◌<◌, Bool, true, false, List, ◌∷◌, length, take, drop, slice_index, refl, sym, ◌∙◌, ap, arith, length-take}
use Rattle.std.proofs.lemmas.Bool.Decides.{nat_tests}
use Rattle.std.proofs.lemmas.List.{get_or-take, drop-take}
use Rattle.std.specs.Prelude.{◌&&◌, nat_le, if◌then◌else◌}
use Rattle.byteorder.specs.Endian.{big_number}
use Rattle.byteorder.specs.Numbers.{big_from-take}
use Rattle.gs_journal.specs.Records.{Entry, fresh, text_of, header_length, has_mark, is_begun, version_of, generation_of, generation_standing, second_counts, standing}
use Rattle.gs_journal.specs.inner.Places.{SayTheSame}
use Rattle.gs_journal.specs.inner.Rest.{Continues, IsUnmade}

byte_of_front : (k n : ℕ) (bytes : List ℕ) → k < n → slice_index (take n bytes) k ≡ slice_index bytes k
byte_of_front k n bytes below = get_or-take n bytes k 0 below

-- a header is read off the front alone
mark_of_front : (n : ℕ) (bytes : List ℕ) → 13 ≤ n → has_mark (take n bytes) ≡ has_mark bytes
mark_of_front n bytes long =
    rw (byte_of_front 1 n bytes (omega arith), byte_of_front 2 n bytes (omega arith), byte_of_front 3 n bytes (omega arith), byte_of_front 4 n bytes (omega arith)) refl

long_front : (n : ℕ) (bytes : List ℕ) → 13 ≤ n → nat_le header_length (length (take n bytes)) ≡ nat_le header_length (length bytes)
long_front n bytes long = rw (length-take n bytes) (grind (arith, nat_tests))

begun_of_front : (n : ℕ) (bytes : List ℕ) → 13 ≤ n → is_begun (take n bytes) ≡ is_begun bytes
begun_of_front n bytes long = rw (long_front n bytes long, byte_of_front 0 n bytes (omega arith), mark_of_front n bytes long) refl

version_of_front : (n : ℕ) (bytes : List ℕ) → 13 ≤ n → version_of (take n bytes) ≡ version_of bytes
version_of_front n bytes long = rw (byte_of_front 4 n bytes (omega arith)) refl

generation_of_front : (n : ℕ) (bytes : List ℕ) → 8 ≤ n → generation_of (take (5 + n) bytes) ≡ generation_of bytes
generation_of_front n bytes long = ap (big_number 8) (drop-take 5 n bytes) ∙ big_from-take 0 8 n (drop 5 bytes) (omega (arith, long))

and_left : (b c : Bool) → (b && c) ≡ true → b ≡ true
and_left true c both = refl
and_left false c both = both

le_of_test : (m n : ℕ) → nat_le m n ≡ true → m ≤ n
le_of_test m n test = grind (arith, nat_tests)

pub begun_length : (bytes : List ℕ) → is_begun bytes ≡ true → header_length ≤ length bytes
begun_length bytes begun = le_of_test 13 (length bytes) (and_left _ _ begun)

-- bytes with the header of others
pub record SameHeader (old c : List ℕ) : Type 0 where
  pub begun : is_begun c ≡ is_begun old
  pub version : version_of c ≡ version_of old
  pub generation : generation_of c ≡ generation_of old

pub same_header : (old c : List ℕ) → take header_length c ≡ take header_length old → SameHeader old c
same_header old c same = record {
  begun = sym (begun_of_front 13 c (omega arith)) ∙ ap is_begun same ∙ begun_of_front 13 old (omega arith);
  version = sym (version_of_front 13 c (omega arith)) ∙ ap version_of same ∙ version_of_front 13 old (omega arith);
  generation = sym (generation_of_front 8 c (omega arith)) ∙ ap generation_of same ∙ generation_of_front 8 old (omega arith);
}

-- the front of a disk may count only as the disk does
front_begun : (n : ℕ) (old c : List ℕ) → c ≡ take n old → is_begun c ≡ true → (is_begun old ≡ true) × (generation_of c ≡ generation_of old)
front_begun n old c is begun =
    let long : 13 ≤ n = omega (arith, begun_length c begun, ap length is, length-take n old) in
    let m = n - 5 in
    let size : n ≡ 5 + m = omega (arith, long) in (
      sym (begun_of_front n old long) ∙ ap is_begun (sym is) ∙ begun,
      ap generation_of (is ∙ ap (λ (k : ℕ). take k old) size) ∙ generation_of_front m old (omega (arith, size, long)),
    )

-- which disk counts goes by the headers
pub counts_by : (a a' b b' : List ℕ) → is_begun a ≡ is_begun a' → generation_of a ≡ generation_of a' → is_begun b ≡ is_begun b' → generation_of b ≡ generation_of b' → second_counts a b ≡ second_counts a' b'
counts_by a a' b b' begun gen begun' gen' =
    ap (λ (x : Bool). x && (if is_begun a then nat_le (suc (generation_of a)) (generation_of b) else true)) begun'
    ∙ ap (λ (x : Bool). is_begun b' && (if x then nat_le (suc (generation_of a)) (generation_of b) else true)) begun
    ∙ ap (λ (g : ℕ). is_begun b' && (if is_begun a' then nat_le (suc g) (generation_of b) else true)) gen
    ∙ ap (λ (g : ℕ). is_begun b' && (if is_begun a' then nat_le (suc (generation_of a')) g else true)) gen'

pub standing_second : (a b : List ℕ) → second_counts a b ≡ true → standing a b ≡ text_of b
standing_second a b counts = ap (λ (x : Bool). if x then text_of b else (if is_begun a then text_of a else fresh)) counts

pub standing_first : (a b : List ℕ) → second_counts a b ≡ false → is_begun a ≡ true → standing a b ≡ text_of a
standing_first a b counts begun =
    ap (λ (x : Bool). if x then text_of b else (if is_begun a then text_of a else fresh)) counts ∙ ap (λ (x : Bool). if x then text_of a else fresh) begun

pub standing_none : (a b : List ℕ) → second_counts a b ≡ false → is_begun a ≡ false → standing a b ≡ fresh
standing_none a b counts begun =
    ap (λ (x : Bool). if x then text_of b else (if is_begun a then text_of a else fresh)) counts ∙ ap (λ (x : Bool). if x then text_of a else fresh) begun

-- the generation of the disk that counts
pub generation_second : (a b : List ℕ) → second_counts a b ≡ true → generation_standing a b ≡ generation_of b
generation_second a b counts = ap (λ (x : Bool). if x then generation_of b else (if is_begun a then generation_of a else 1)) counts

pub generation_first : (a b : List ℕ) → second_counts a b ≡ false → is_begun a ≡ true → generation_standing a b ≡ generation_of a
generation_first a b counts begun =
    ap (λ (x : Bool). if x then generation_of b else (if is_begun a then generation_of a else 1)) counts ∙ ap (λ (x : Bool). if x then generation_of a else 1) begun

pub generation_none : (a b : List ℕ) → second_counts a b ≡ false → is_begun a ≡ false → generation_standing a b ≡ 1
generation_none a b counts begun =
    ap (λ (x : Bool). if x then generation_of b else (if is_begun a then generation_of a else 1)) counts ∙ ap (λ (x : Bool). if x then generation_of a else 1) begun

-- what the one of them that counts says
pub text_counts : (a b : List ℕ) (is_second : Bool) → second_counts a b ≡ is_second → is_begun (if is_second then b else a) ≡ true → standing a b ≡ text_of (if is_second then b else a)
text_counts a b true counts begun = standing_second a b counts
text_counts a b false counts begun = standing_first a b counts begun

pub generation_counts : (a b : List ℕ) (is_second : Bool) → second_counts a b ≡ is_second → is_begun (if is_second then b else a) ≡ true
    → generation_standing a b ≡ generation_of (if is_second then b else a)
generation_counts a b true counts begun = generation_second a b counts
generation_counts a b false counts begun = generation_first a b counts begun

second_begun : (a b : List ℕ) → second_counts a b ≡ true → is_begun b ≡ true
second_begun a b counts = and_left _ _ counts

pub second_unbegun : (a b : List ℕ) → is_begun b ≡ false → second_counts a b ≡ false
second_unbegun a b begun = ap (λ (x : Bool). x && (if is_begun a then nat_le (suc (generation_of a)) (generation_of b) else true)) begun

pub first_unbegun : (a b : List ℕ) → is_begun a ≡ false → second_counts a b ≡ is_begun b
first_unbegun a b begun = ap (λ (x : Bool). is_begun b && (if x then nat_le (suc (generation_of a)) (generation_of b) else true)) begun ∙ and_true' (is_begun b)
  where
    and_true' : (x : Bool) → (x && true) ≡ x
    and_true' true = refl
    and_true' false = refl

either_bool : (b : Bool) → (b ≡ true) ⊎ (b ≡ false)
either_bool true = inl refl
either_bool false = inr refl

module _ (a b : List ℕ) where
  -- the first disk counts, and has other records behind its header
  pub first_continues : (rs : List Entry) (c : List ℕ) → second_counts a b ≡ false → is_begun a ≡ true → Continues a rs c
      → (second_counts c b ≡ false) × (is_begun c ≡ true) × (standing c b ≡ (version_of a, rs))
  first_continues rs c counts begun goes_on =
      let h = same_header a c goes_on.same_header in
      let still : second_counts c b ≡ false = counts_by c a b b h.begun h.generation refl refl ∙ counts in
      let begun' : is_begun c ≡ true = h.begun ∙ begun in
      (still, begun', standing_first c b still begun' ∙ (λ i. (h.version i, goes_on.has i)))

  pub second_continues : (rs : List Entry) (c : List ℕ) → second_counts a b ≡ true → Continues b rs c
      → (second_counts a c ≡ true) × (standing a c ≡ (version_of b, rs))
  second_continues rs c counts goes_on =
      let h = same_header b c goes_on.same_header in
      let still : second_counts a c ≡ true = counts_by a a c b refl refl h.begun h.generation ∙ counts in
      (still, standing_second a c still ∙ (λ i. (h.version i, goes_on.has i)))

  -- the first disk counts, and the second is being made
  pub second_unmade : (c : List ℕ) → second_counts a b ≡ false → IsUnmade b c → second_counts a c ≡ false
  second_unmade c counts (inl begun) = second_unbegun a c begun
  second_unmade c counts (inr front) = ⊎_elim
      (λ (begun : is_begun c ≡ true). let was = front_begun front.0 b c front.1 begun in counts_by a a c b refl refl (begun ∙ sym was.0) was.1 ∙ counts)
      (λ (begun : is_begun c ≡ false). second_unbegun a c begun)
      (either_bool (is_begun c))

  pub first_unmade : (c : List ℕ) → second_counts a b ≡ true → IsUnmade a c → second_counts c b ≡ true
  first_unmade c counts (inl begun) = first_unbegun c b begun ∙ second_begun a b counts
  first_unmade c counts (inr front) = ⊎_elim
      (λ (begun : is_begun c ≡ true). let was = front_begun front.0 a c front.1 begun in counts_by c a b b (begun ∙ sym was.0) was.1 refl refl ∙ counts)
      (λ (begun : is_begun c ≡ false). first_unbegun c b begun ∙ second_begun a b counts)
      (either_bool (is_begun c))

  pub second_made : (c : List ℕ) → is_begun c ≡ true → generation_of c ≡ suc (generation_of a) → second_counts a c ≡ true
  second_made c begun next =
      counts_test (is_begun c) (is_begun a) (generation_of a) (generation_of c) begun next
    where
      counts_test : (x y : Bool) (m n : ℕ) → x ≡ true → n ≡ suc m → (x && (if y then nat_le (suc m) n else true)) ≡ true
      counts_test true true m n e next = grind (arith, nat_tests)
      counts_test true false m n e next = refl
      counts_test false y m n e next = absurd (cc e)

  pub first_made : (c : List ℕ) → is_begun c ≡ true → generation_of c ≡ suc (generation_of b) → second_counts c b ≡ false
  first_made c begun next = counts_test (is_begun b) (is_begun c) (generation_of c) (generation_of b) begun next
    where
      counts_test : (x y : Bool) (m n : ℕ) → y ≡ true → m ≡ suc n → (x && (if y then nat_le (suc m) n else true)) ≡ false
      counts_test true true m n e next = grind (arith, nat_tests)
      counts_test false y m n e next = refl
      counts_test true false m n e next = absurd (cc e)

  -- neither counts, and the first is made
  unmade_unbegun : (c : List ℕ) → is_begun a ≡ false → IsUnmade a c → is_begun c ≡ false
  unmade_unbegun c unbegun (inl begun) = begun
  unmade_unbegun c unbegun (inr front) = ⊎_elim
      (λ (begun : is_begun c ≡ true). absurd (cc (sym (front_begun front.0 a c front.1 begun).0 ∙ unbegun)))
      (λ (begun : is_begun c ≡ false). begun)
      (either_bool (is_begun c))

  pub fresh_while_made : (text c d : List ℕ) → is_begun a ≡ false → second_counts a b ≡ false → is_begun (1 ∷ text) ≡ true → text_of (1 ∷ text) ≡ fresh → generation_of (1 ∷ text) ≡ 1
      → IsUnmade a c ⊎ (c ≡ 1 ∷ text) → SayTheSame c d a d ⊎ SayTheSame c d a b
  fresh_while_made text c d unbegun none begun empty one (inl unmade) =
      let c_unbegun = unmade_unbegun c unbegun unmade in
      inl (
        ap (λ (x : Bool). if x then text_of d else (if is_begun c then text_of c else fresh)) (first_unbegun c d c_unbegun ∙ sym (first_unbegun a d unbegun))
            ∙ ap (λ (x : Bool). if second_counts a d then text_of d else (if x then text_of c else fresh)) c_unbegun
            ∙ sym (ap (λ (x : Bool). if second_counts a d then text_of d else (if x then text_of a else fresh)) unbegun),
        ap (λ (x : Bool). if x then generation_of d else (if is_begun c then generation_of c else 1)) (first_unbegun c d c_unbegun ∙ sym (first_unbegun a d unbegun))
            ∙ ap (λ (x : Bool). if second_counts a d then generation_of d else (if x then generation_of c else 1)) c_unbegun
            ∙ sym (ap (λ (x : Bool). if second_counts a d then generation_of d else (if x then generation_of a else 1)) unbegun),
      )
  fresh_while_made text c d unbegun none begun empty one (inr made) = ⊎_elim
      (λ (later : second_counts c d ≡ true).
      let was : second_counts a d ≡ true = first_unbegun a d unbegun ∙ second_begun c d later in
      inl (standing_second c d later ∙ sym (standing_second a d was), generation_second c d later ∙ sym (generation_second a d was)))
      (λ (not_later : second_counts c d ≡ false).
      let is : is_begun c ≡ true = ap is_begun made ∙ begun in
      inr (
        standing_first c d not_later is ∙ ap text_of made ∙ empty ∙ sym (standing_none a b none unbegun),
        generation_first c d not_later is ∙ ap generation_of made ∙ one ∙ sym (generation_none a b none unbegun),
      ))
      (either_bool (second_counts c d))
