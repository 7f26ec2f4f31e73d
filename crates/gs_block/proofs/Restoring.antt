-- First images put back into their places.
use Rattle.std.proofs.Common.{◌≡◌, ◌≢◌, ℕ, ◌+◌, ◌-◌, ◌*◌, ◌/◌, ◌%◌, ◌<◌, ◌≤◌, arith, refl, sym, ap, subst, List, [], take, drop, length, get_or, map, ◌∙◌, min, ⊎_elim, ◌⊎◌, inl, inr, true, false, cond, length-take, length-drop}
use Rattle.std.specs.Prelude.{Option, Some, None, Ok, nat_lt, slice_index_or}
use Rattle.std.specs.Str.{bytes_eq}
use Rattle.sha2.specs.Sha256.{sha256}
use Rattle.std.specs.List.{range_with_len}
use Rattle.std.proofs.lemmas.Bool.{cases_lt, cases_eq}
use Rattle.std.proofs.lemmas.Bool.Decides.{nat_tests}
use Rattle.std.proofs.lemmas.List.{places, ext_get_or, get_or-take, get_or-drop}
use Rattle.std.proofs.lemmas.List.FromFn.{length-map-range_with_len}
use Rattle.std.proofs.lemmas.Nat.{div-add-mod', le-div}
use Rattle.std.proofs.Math.Nat.{mod-lt, div-mul-le_self, mul-le-mul_right, add-mul}
use Rattle.gs_block.specs.Stored.{Stored, IsStored, count_of, block_at, digest_at, is_intact, first_damaged}
use Rattle.gs_block.specs.Edits.{unless_damaged, copied}
use Rattle.gs_base.specs.Calls.{Makes}
use Rattle.gs_block.specs.Inverses.{replaced}
use Rattle.gs_block.specs.Images.{Images, AreFirst, undone, IsImage, byte_of, byte_before, bytes_before, block_before}
use Rattle.gs_block.specs.Inside.{image_or, put_image}
use Rattle.gs_block.proofs.Counts.{starts, one_times}
use Rattle.gs_block.proofs.Following.{length-replaced}
use Rattle.gs_block.proofs.Sealed.{place_of, same_places, block_counted, length-block}

-- the block of a place and its place in the block
in_block : (size i j : ℕ) → 1 ≤ size → j < size → (i * size + j) / size ≡ i
in_block size i j some below =
    let k = i * size + j in
    let low : i ≤ k / size = le-div i k size (omega arith) (omega arith) in
    let most = div-mul-le_self k size in
    ⊎_elim
    (λ (up : i < k / size). absurd (let m : (i + 1) * size ≤ k / size * size = mul-le-mul_right size (let n : i + 1 ≤ k / size = omega arith in n) in
    let one : (i + 1) * size ≡ i * size + size = add-mul i 1 size ∙ ap (λ n. i * size + n) (one_times size) in omega arith))
    (λ (same : k / size ≤ i). omega arith)
    (cases_lt i (k / size))

in_place : (size i j : ℕ) → 1 ≤ size → j < size → (i * size + j) % size ≡ j
in_place size i j some below =
    let e = div-add-mod' (i * size + j) size in
    let b : (i * size + j) / size * size ≡ i * size = ap (λ n. n * size) (in_block size i j some below) in
    omega arith

block_byte : (size long k j : ℕ) (o : Option (List ℕ)) (bytes : List ℕ) → j < size → j < long - k * size →
    byte_of o j (get_or bytes (k * size + j) 0) ≡ get_or (image_or o (block_before size long k bytes)) j 0
unfolding block_before
block_byte size long k j (Some image) bytes low high = refl
block_byte size long k j None bytes low high =
    sym (get_or-take (min size (long - k * size)) (drop (k * size) bytes) j 0 (omega arith) ∙ get_or-drop (k * size) bytes j 0)

long_block : (size long k : ℕ) (o : Option (List ℕ)) (bytes : List ℕ) → long ≤ length bytes → IsImage (min size (long - k * size)) o → length (image_or o (block_before size long k bytes)) ≡ min size (long - k * size)
long_block size long k None bytes within whole = length-block size long k bytes within
long_block size long k (Some image) bytes within whole = whole

-- a block of what undoing gives is its image, or the stored block as far as it is sealed
pub block_undone : (size long k : ℕ) (images : List (Option (List ℕ))) (bytes : List ℕ) → 1 ≤ size → long ≤ length bytes → IsImage (min size (long - k * size)) (get_or images k None) →
    block_at size k (bytes_before size images long bytes) ≡ image_or (get_or images k None) (block_before size long k bytes)
unfolding bytes_before byte_before
block_undone size long k images bytes some within whole =
    let whole_bytes = map (byte_before size images bytes) (range_with_len 0 long) in
    let o = get_or images k None in
    let many : length whole_bytes ≡ long = length-map-range_with_len (byte_before size images bytes) 0 long in
    let rest = length-drop (k * size) whole_bytes in
    let part : length (take size (drop (k * size) whole_bytes)) ≡ min size (long - k * size) = length-take size (drop (k * size) whole_bytes) ∙ (let e : min size (length (drop (k * size) whole_bytes)) ≡ min size (long - k * size) = omega arith in e) in
    ext_get_or 0 (take size (drop (k * size) whole_bytes)) (image_or o (block_before size long k bytes)) (part ∙ sym (long_block size long k o bytes within whole))
    (λ j below.
    let low : j < size = omega arith in
    let high : j < long - k * size = omega arith in
    get_or-take size (drop (k * size) whole_bytes) j 0 low
    ∙ get_or-drop (k * size) whole_bytes j 0
    ∙ place_of (byte_before size images bytes) long (k * size + j) 0 (omega arith)
    ∙ ap (λ n. byte_of (get_or images n None) ((k * size + j) % size) (get_or bytes (k * size + j) 0)) (in_block size k j some low)
    ∙ ap (λ n. byte_of o n (get_or bytes (k * size + j) 0)) (in_place size k j some low)
    ∙ block_byte size long k j o bytes low high)

-- the bytes with the images below a block in their places
unfoldable pub byte_to : ℕ → List (Option (List ℕ)) → List ℕ → ℕ → ℕ → ℕ
byte_to size images bytes index k = cond (nat_lt (k / size) index) (byte_before size images bytes k) (get_or bytes k 0)

pub record PutTo (size long : ℕ) (images : List (Option (List ℕ))) (old now : List ℕ) (index : ℕ) : Type 0 where
  pub same : length now ≡ length old
  pub each : (k : ℕ) → k < long → get_or now k 0 ≡ byte_to size images old index k

lt_so : (m n : ℕ) → m < n → nat_lt m n ≡ true
lt_so m n h = grind (arith, nat_tests)

lt_not : (m n : ℕ) → n ≤ m → nat_lt m n ≡ false
lt_not m n h = grind (arith, nat_tests)

below_to : (size : ℕ) (images : List (Option (List ℕ))) (bytes : List ℕ) (index k : ℕ) → k / size < index → byte_to size images bytes index k ≡ byte_before size images bytes k
unfolding byte_to
below_to size images bytes index k h = ap (λ b. cond b (byte_before size images bytes k) (get_or bytes k 0)) (lt_so (k / size) index h)

above_to : (size : ℕ) (images : List (Option (List ℕ))) (bytes : List ℕ) (index k : ℕ) → index ≤ k / size → byte_to size images bytes index k ≡ get_or bytes k 0
unfolding byte_to
above_to size images bytes index k h = ap (λ b. cond b (byte_before size images bytes k) (get_or bytes k 0)) (lt_not (k / size) index h)

pub put_none : (size long : ℕ) (images : List (Option (List ℕ))) (bytes : List ℕ) → PutTo size long images bytes bytes 0
put_none size long images bytes = record {
  same = refl;
  each = λ k below. sym (above_to size images bytes 0 k (omega arith));
}

pub put_all : (size long : ℕ) (images : List (Option (List ℕ))) (old now : List ℕ) → 1 ≤ size → length images ≡ count_of size long → long ≤ length old → PutTo size long images old now (length images) → take long now ≡ bytes_before size images long old
unfolding bytes_before
put_all size long images old now some counted within put =
    let many = length-map-range_with_len (byte_before size images old) 0 long in
    let same = put.same in
    let cut : length (take long now) ≡ long = length-take long now ∙ (let e : min long (length now) ≡ long = omega arith in e) in
    ext_get_or 0 (take long now) (map (byte_before size images old) (range_with_len 0 long)) (cut ∙ sym many)
    (λ k below.
    let inside : k < long = omega arith in
    get_or-take long now k 0 inside ∙ put.each k inside ∙ below_to size images old (length images) k (let l = block_counted size long k some inside in omega arith) ∙ sym (place_of (byte_before size images old) long k 0 inside))

replaced_in : (xs ys : List ℕ) (at k : ℕ) → at + length ys ≤ length xs → at ≤ k → k < at + length ys → get_or (replaced xs at ys) k 0 ≡ get_or ys (k - at) 0
replaced_in xs ys at k fit low high = grind (arith, places)

replaced_out : (xs ys : List ℕ) (at k : ℕ) → at + length ys ≤ length xs → (k < at) ⊎ (at + length ys ≤ k) → get_or (replaced xs at ys) k 0 ≡ get_or xs k 0
replaced_out xs ys at k fit (inl below) = grind (arith, places)
replaced_out xs ys at k fit (inr above) = grind (arith, places)

byte_here : (size : ℕ) (images : List (Option (List ℕ))) (bytes : List ℕ) (k : ℕ) (o : Option (List ℕ)) → get_or images (k / size) None ≡ o → byte_before size images bytes k ≡ byte_of o (k % size) (get_or bytes k 0)
unfolding byte_before
byte_here size images bytes k o is = ap (λ p. byte_of p (k % size) (get_or bytes k 0)) is

put_byte : (size long : ℕ) (images : List (Option (List ℕ))) (old now : List ℕ) (i k : ℕ) (o : Option (List ℕ)) → 1 ≤ size → long ≤ length old → get_or images i None ≡ o → IsImage (min size (long - i * size)) o → i * size < long → PutTo size long images old now i → k < long →
    get_or (put_image now (i * size) o) k 0 ≡ byte_to size images old (i + 1) k
put_byte size long images old now i k None some within is whole begins put below = ⊎_elim
    (λ (here : k / size ≡ i). put.each k below ∙ above_to size images old i k (omega arith) ∙ sym (byte_here size images old k None (ap (λ n. get_or images n None) here ∙ is)) ∙ sym (below_to size images old (i + 1) k (omega arith)))
    (λ (other : k / size ≢ i). put.each k below ∙ ⊎_elim
    (λ (low : k / size < i). below_to size images old i k low ∙ sym (below_to size images old (i + 1) k (omega arith)))
    (λ (high : i ≤ k / size). above_to size images old i k high ∙ sym (above_to size images old (i + 1) k (omega arith)))
    (cases_lt (k / size) i))
    (cases_eq (k / size) i)
put_byte size long images old now i k (Some image) some within is whole begins put below =
    let at = i * size in
    let same = put.same in
    let e : k / size * size + k % size ≡ k = div-add-mod' k size in
    let m : k % size < size = mod-lt k some in
    let fit : at + length image ≤ length now = omega arith in
    ⊎_elim
    (λ (here : k / size ≡ i).
    let p : k / size * size ≡ at = ap (λ n. n * size) here in
    replaced_in now image at k fit (omega arith) (omega arith)
    ∙ ap (λ n. get_or image n 0) (let q : k - at ≡ k % size = omega arith in q)
    ∙ sym (byte_here size images old k (Some image) (ap (λ n. get_or images n None) here ∙ is))
    ∙ sym (below_to size images old (i + 1) k (omega arith)))
    (λ (other : k / size ≢ i). ⊎_elim
    (λ (low : k / size < i).
    let up : (k / size + 1) * size ≤ at = mul-le-mul_right size (let n : k / size + 1 ≤ i = omega arith in n) in
    let one : (k / size + 1) * size ≡ k / size * size + size = add-mul (k / size) 1 size ∙ ap (λ n. k / size * size + n) (one_times size) in
    replaced_out now image at k fit (inl (omega arith)) ∙ put.each k below ∙ below_to size images old i k low ∙ sym (below_to size images old (i + 1) k (omega arith)))
    (λ (high : i ≤ k / size).
    let up : (i + 1) * size ≤ k / size * size = mul-le-mul_right size (let n : i + 1 ≤ k / size = omega arith in n) in
    let one : (i + 1) * size ≡ at + size = add-mul i 1 size ∙ ap (λ n. at + n) (one_times size) in
    replaced_out now image at k fit (inr (omega arith)) ∙ put.each k below ∙ above_to size images old i k high ∙ sym (above_to size images old (i + 1) k (omega arith)))
    (cases_lt (k / size) i))
    (cases_eq (k / size) i)

put_same : (now : List ℕ) (at many : ℕ) (o : Option (List ℕ)) → IsImage many o → at + many ≤ length now → length (put_image now at o) ≡ length now
put_same now at many None whole fit = refl
put_same now at many (Some image) whole fit = length-replaced now at image (omega arith)

-- one more image in its place
pub put_more : (size long : ℕ) (images : List (Option (List ℕ))) (old now : List ℕ) (i : ℕ) → 1 ≤ size → length images ≡ count_of size long → long ≤ length old → i < length images → IsImage (min size (long - i * size)) (get_or images i None) →
    PutTo size long images old now i → PutTo size long images old (put_image now (i * size) (get_or images i None)) (i + 1)
put_more size long images old now i some counted within below whole put =
    let begins : i * size < long = starts size long i some (omega arith) in
    let same = put.same in
    record {
      same = put_same now (i * size) (min size (long - i * size)) (get_or images i None) whole (omega arith) ∙ same;
      each = λ k inside. put_byte size long images old now i k (get_or images i None) some within refl whole begins put inside;
    }

-- an image fits into its place
pub image_fits : (many at : ℕ) (o : Option (List ℕ)) (bytes : List ℕ) → IsImage many o → at + many ≤ length bytes → at + length (image_or o []) ≤ length bytes
image_fits many at None bytes whole fit = omega arith
image_fits many at (Some image) bytes whole fit = omega arith

-- the digest of a block as undoing gives it
pub intact_before : (size long k : ℕ) (images : List (Option (List ℕ))) (bytes : List ℕ) (digests : List (List ℕ)) → 1 ≤ size → long ≤ length bytes → IsImage (min size (long - k * size)) (get_or images k None) →
    bytes_eq (sha256 (image_or (get_or images k None) (block_before size long k bytes))) (slice_index_or digests k []) ≡ is_intact size (bytes_before size images long bytes) digests k
unfolding is_intact digest_at
intact_before size long k images bytes digests some within whole = ap (λ b. bytes_eq (sha256 b) (slice_index_or digests k [])) (sym (block_undone size long k images bytes some within whole))

pub long_bytes : (size long : ℕ) (images : List (Option (List ℕ))) (bytes : List ℕ) → length (bytes_before size images long bytes) ≡ long
unfolding bytes_before
long_bytes size long images bytes = length-map-range_with_len (byte_before size images bytes) 0 long

-- the bytes behind the sealed length are none of what undoing gives
pub cut_bytes : (size long : ℕ) (images : List (Option (List ℕ))) (bytes : List ℕ) → bytes_before size images long (take long bytes) ≡ bytes_before size images long bytes
unfolding bytes_before byte_before
cut_bytes size long images bytes = same_places (byte_before size images (take long bytes)) (byte_before size images bytes) long 0
    (λ k below. ap (byte_of (get_or images (k / size) None) (k % size)) (get_or-take long bytes k 0 below))

-- what undoing gives is in blocks as what stands
pub undone_stored : (i : Images) (s : Stored) → IsStored s → AreFirst i s → IsStored (undone i s)
undone_stored i s stored first =
    let long = long_bytes s.block i.long i.blocks s.bytes in
    let within = first.within in
    let fit = stored.bytes_fit in
    record {
      some_block = stored.some_block;
      block_fits = stored.block_fits;
      chunk_fits = stored.chunk_fits;
      bytes_fit = omega arith;
      each = first.each ∙ ap (count_of s.block) (sym long);
    }

pub made_copy : (s new : Stored) → first_damaged s.block s.bytes s.digests 0 (length s.digests) ≡ None → new ≡ s → Makes (copied s) (Ok new)
made_copy s new none is = subst (λ o. Makes (unless_damaged o s) (Ok new)) (sym none) is
