-- How records are read off a disk's bytes.
use Rattle.std.proofs.Common.{◌≡◌, ◌≢◌, ℕ, zero, suc, ◌+◌, ◌-◌, ◌^◌, ◌<◌, ◌≤◌, ⊎_elim, true, List, [], ◌∷◌, ◌++◌, length, take, drop, slice_index, refl, sym, ◌∙◌, ap, arith, length-append, length-take, length-drop, take-append-drop, subst}
use Rattle.std.proofs.lemmas.Bool.{cases_eq, cases_lt, cond-true}
use Rattle.std.proofs.lemmas.Bool.Decides.{nat_tests}
use Rattle.std.proofs.lemmas.List.{take_at, drop_at, take_all, length-take-le, drop-append-le, get_or_append_left}
use Rattle.byteorder.specs.Endian.{big_bytes}
use Rattle.byteorder.specs.Numbers.{big_from-append, big_from-take, big_number-reads_back, length-bytes_high_first}
use Rattle.gs_journal.specs.Records.{Entry, frame, body_length, is_whole, entry_of, records_behind}

-- some bytes are passed over
pub records_behind_drop : (n : ℕ) (bytes : List ℕ) → records_behind n bytes ≡ records_behind 0 (drop n bytes)
records_behind_drop zero bytes = refl
records_behind_drop (suc n) [] = refl
records_behind_drop (suc n) (b ∷ bytes) = records_behind_drop n bytes

-- what stands behind a gate, and no more
pub record IsFrame (bytes : List ℕ) : Type 0 where
  pub size : length bytes ≡ 5 + body_length bytes

whole_test : (bytes : List ℕ) → 5 + body_length bytes ≤ length bytes → is_whole bytes ≡ true
whole_test bytes le = grind (arith, nat_tests)

body_length-append : (bytes rest : List ℕ) → 4 ≤ length bytes → body_length (bytes ++ rest) ≡ body_length bytes
body_length-append bytes rest le = big_from-append 4 bytes rest le

module _ (bytes rest : List ℕ) (is : IsFrame bytes) where
  same_length : body_length (bytes ++ rest) ≡ body_length bytes
  same_length = body_length-append bytes rest (omega (arith, is.size))

  same_entry : entry_of (bytes ++ rest) ≡ entry_of bytes
  same_entry =
      let size = is.size in
      let behind : drop 5 (bytes ++ rest) ≡ drop 5 bytes ++ rest = drop-append-le 5 bytes rest (omega (arith, size)) in
      let long : length (drop 5 bytes) ≡ body_length bytes = omega (arith, size, length-drop 5 bytes) in
      let kind : slice_index (bytes ++ rest) 4 ≡ slice_index bytes 4 = get_or_append_left bytes rest 0 4 (omega (arith, size)) in
      let body : take (body_length (bytes ++ rest)) (drop 5 (bytes ++ rest)) ≡ take (body_length bytes) (drop 5 bytes) =
      ap (λ (n : ℕ). take n (drop 5 (bytes ++ rest))) same_length
      ∙ ap (λ (l : List ℕ). take (body_length bytes) l) behind
      ∙ take_at (drop 5 bytes) rest (body_length bytes) long
      ∙ sym (take_all (body_length bytes) (drop 5 bytes) (omega (arith, long))) in
      λ i. (kind i, body i)

  -- an open gate and a frame are a record
  pub records_frame : records_behind 0 (1 ∷ bytes ++ rest) ≡ entry_of bytes ∷ records_behind 0 rest
  records_frame =
      let size = is.size in
      let whole : is_whole (bytes ++ rest) ≡ true = whole_test (bytes ++ rest) (omega (arith, size, same_length, length-append bytes rest)) in
      let next : records_behind (5 + body_length (bytes ++ rest)) (bytes ++ rest) ≡ records_behind 0 rest =
      records_behind_drop (5 + body_length (bytes ++ rest)) (bytes ++ rest)
      ∙ ap (records_behind 0) (drop_at bytes rest (5 + body_length (bytes ++ rest)) (omega (arith, size, same_length))) in
      cond-true (is_whole (bytes ++ rest)) _ [] whole ∙ (λ i. same_entry i ∷ next i)

-- a record as it is written
pub frame_is : (r : Entry) → length r.1 < 2 ^ 32 → IsFrame (frame r) × (entry_of (frame r) ≡ r)
frame_is r fits =
    let four : length (big_bytes 4 (length r.1)) ≡ 4 = length-bytes_high_first 4 (length r.1) in
    let says : body_length (frame r) ≡ length r.1 = big_number-reads_back 4 (length r.1) (r.0 ∷ r.1) (omega (arith, fits)) in
    let size : length (frame r) ≡ 5 + body_length (frame r) = omega (arith, four, says, length-append (big_bytes 4 (length r.1)) (r.0 ∷ r.1)) in
    let body : take (body_length (frame r)) r.1 ≡ r.1 = take_all (body_length (frame r)) r.1 (omega (arith, says)) in
    (record { size = size }, λ i. (r.0, body i))

-- a head in the place of five bytes
put_head : (put old slice head : List ℕ) (kind n : ℕ) → put ≡ head ++ drop (length head) slice → slice ≡ old → head ≡ big_bytes 4 (n - 5) ++ kind ∷ [] → n ≡ length old
    → put ≡ frame (kind, drop 5 old)
put_head put old slice head kind n is same says size =
    is
    ∙ ap (λ (z : List ℕ). z ++ drop (length z) slice) says
    ∙ ap (λ (z : List ℕ). big_bytes 4 (n - 5) ++ kind ∷ drop 5 z) same
    ∙ ap (λ (k : ℕ). big_bytes 4 k ++ kind ∷ drop 5 old) (ap (λ (k : ℕ). k - 5) size ∙ sym (length-drop 5 old))

-- and a closed gate behind it
pub headed : (made put old slice head : List ℕ) (kind n len : ℕ) → made ≡ take len (put ++ drop (length put) old) ++ 0 ∷ [] → put ≡ head ++ drop (length head) slice → slice ≡ old
    → head ≡ big_bytes 4 (n - 5) ++ kind ∷ [] → n ≡ length old → len ≡ length old → 5 ≤ length old → made ≡ frame (kind, drop 5 old) ++ 0 ∷ []
headed made put old slice head kind n len pushed is same says size whole long =
    let at : put ≡ frame (kind, drop 5 old) = put_head put old slice head kind n is same says size in
    let four : length (big_bytes 4 (length (drop 5 old))) ≡ 4 = length-bytes_high_first 4 (length (drop 5 old)) in
    let all : length put ≡ len =
    omega (arith, ap length at, four, length-append (big_bytes 4 (length (drop 5 old))) (kind ∷ drop 5 old), length-drop 5 old, whole, long) in
    pushed ∙ ap (λ (z : List ℕ). z ++ 0 ∷ []) (take_at put (drop (length put) old) len all ∙ at)

-- a body behind a head, once its length, its kind and a closed gate are put
pub framed : (bytes old : List ℕ) (kind : ℕ) → length (drop 5 old) < 2 ^ 32 → bytes ≡ frame (kind, drop 5 old) ++ 0 ∷ []
    → (entry_of bytes ≡ (kind, drop 5 old)) × ((bytes ≡ frame (entry_of bytes) ++ 0 ∷ []) × (length (entry_of bytes).1 < 2 ^ 32))
framed bytes old kind fits is =
    let whole = frame_is (kind, drop 5 old) fits in
    let entry : entry_of bytes ≡ (kind, drop 5 old) = ap entry_of is ∙ same_entry (frame (kind, drop 5 old)) (0 ∷ []) whole.0 ∙ whole.1 in
    (entry, (is ∙ ap (λ r. frame r ++ 0 ∷ []) (sym entry), subst (λ (r : Entry). length r.1 < 2 ^ 32) (sym entry) fits))

-- the front of what is whole
pub whole_front : (bytes : List ℕ) → 5 + body_length bytes ≤ length bytes → IsFrame (take (5 + body_length bytes) bytes) × (entry_of (take (5 + body_length bytes) bytes) ≡ entry_of bytes)
whole_front bytes whole =
    let n = 5 + body_length bytes in
    let long : length (take n bytes) ≡ n = length-take-le n bytes whole in
    let says : body_length (take n bytes) ≡ body_length bytes = big_from-take 0 4 n bytes (omega arith) in
    let is : IsFrame (take n bytes) = record { size = long ∙ ap (λ (k : ℕ). 5 + k) (sym says) } in
    (is, sym (same_entry (take n bytes) (drop n bytes) is) ∙ ap entry_of (take-append-drop n bytes))

-- a gate that isn't open ends the records
pub closed : (gate : ℕ) (rest : List ℕ) → gate ≢ 1 → records_behind 0 (gate ∷ rest) ≡ []
closed gate rest shut = grind (arith, nat_tests)

-- so does a record that isn't whole
pub not_whole : (gate : ℕ) (rest : List ℕ) → length rest < 5 + body_length rest → records_behind 0 (gate ∷ rest) ≡ []
not_whole gate rest short = grind (arith, nat_tests)

pub one_byte : (bytes : List ℕ) → length bytes ≤ 1 → records_behind 0 bytes ≡ []
one_byte [] short = refl
one_byte (b ∷ []) short = not_whole b [] (omega arith)
one_byte (b ∷ c ∷ bytes) short = absurd (omega arith)

front_short : (n : ℕ) (bytes : List ℕ) → length bytes < 5 + body_length bytes → length (take n bytes) < 5 + body_length (take n bytes)
front_short n bytes short = ⊎_elim
    (λ (few : n < 5). omega (arith, few, length-take n bytes))
    (λ (many : 5 ≤ n). let says : body_length (take n bytes) ≡ body_length bytes = big_from-take 0 4 n bytes (omega (arith, many)) in omega (arith, says, short, length-take n bytes))
    (cases_lt n 5)

open_is_record : (gate : ℕ) (bytes : List ℕ) → gate ≡ 1 → 5 + body_length bytes ≤ length bytes → records_behind 0 (gate ∷ bytes) ≡ [] → ⊥
open_is_record gate bytes is_open whole end =
    let test : is_whole bytes ≡ true = whole_test bytes whole in
    let some : records_behind 0 (gate ∷ bytes) ≡ entry_of bytes ∷ records_behind (5 + body_length bytes) bytes =
    ap (λ (g : ℕ). records_behind 0 (g ∷ bytes)) is_open ∙ cond-true (is_whole bytes) _ [] test in cc (some, end)

-- the front of an end is an end
pub front_of_end : (n : ℕ) (bytes : List ℕ) → records_behind 0 bytes ≡ [] → records_behind 0 (take n bytes) ≡ []
front_of_end zero bytes end = refl
front_of_end (suc n) [] end = refl
front_of_end (suc n) (gate ∷ bytes) end = ⊎_elim
    (λ (is_open : gate ≡ 1). ⊎_elim
    (λ (short : length bytes < 5 + body_length bytes). not_whole gate (take n bytes) (front_short n bytes short))
    (λ (whole : 5 + body_length bytes ≤ length bytes). absurd (open_is_record gate bytes is_open whole end))
    (cases_lt (length bytes) (5 + body_length bytes)))
    (λ (shut : gate ≢ 1). closed gate (take n bytes) shut)
    (cases_eq gate 1)
