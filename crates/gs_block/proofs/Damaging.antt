-- Damage reaches what undoing gives where the block has no image.
use Rattle.std.proofs.Common.{◌≡◌, ◌≢◌, ℕ, ◌+◌, ◌*◌, ◌/◌, ◌%◌, ◌<◌, ◌≤◌, arith, refl, sym, ap, subst, List, length, get_or, set, length-set, map, ◌∙◌, ⊎_elim, ◌⊎◌, inl, inr, Bool, true, false, cond, true≢false}
use Rattle.std.specs.Prelude.{Option, Some, None, Ok, Err, is_some, nat_lt, slice_index_or}
use Rattle.std.proofs.lemmas.Bool.{cases_lt, cases_eq}
use Rattle.std.proofs.lemmas.Bool.Decides.{nat_tests}
use Rattle.std.proofs.lemmas.Grind.{get_or-set_at}
use Rattle.std.proofs.lemmas.List.{get_or-map, get_or-set_other, get_or_past, length-map}
use Rattle.std.proofs.Math.Nat.{mul-div_cancel}
use Rattle.gs_base.specs.declared.refusal.Refusal.TheVariants.{Range}
use Rattle.gs_block.specs.Stored.{Stored, count_of}
use Rattle.gs_block.specs.Edits.{damage}
use Rattle.gs_block.specs.Images.{Images, AreFirst, byte_of, byte_before, bytes_before, touched, undone, damage_before, or_same}
use Rattle.gs_block.proofs.Counts.{starts}
use Rattle.gs_block.proofs.Sealed.{same_places, place_of, one_place, block_counted}
use Rattle.gs_block.proofs.Undoing.{same_block, byte_indifferent}

lt_is : (m n : ℕ) → m < n → nat_lt m n ≡ true
lt_is m n h = grind (arith, nat_tests)

bool_cases : (b : Bool) → (b ≡ true) ⊎ (b ≡ false)
bool_cases true = inl refl
bool_cases false = inr refl

none_so : (o : Option (List ℕ)) → is_some o ≡ false → o ≡ None
none_so None h = refl
none_so (Some image) h = absurd (true≢false h)

-- a byte of a touched block is indifferent
stays : (size long k : ℕ) (images : List (Option (List ℕ))) (bytes : List ℕ) (v : ℕ) → 1 ≤ size → length images ≡ count_of size long → slice_index_or (map is_some images) k true ≡ true →
    bytes_before size images long (set bytes (k * size) v) ≡ bytes_before size images long bytes
unfolding bytes_before byte_before
stays size long k images bytes v some counted here = same_places (byte_before size images (set bytes (k * size) v)) (byte_before size images bytes) long 0
    (λ j below. ⊎_elim
    (λ (at : j ≡ k * size).
    let block : j / size ≡ k = ap (λ n. n / size) at ∙ mul-div_cancel k some in
    let within = block_counted size long j some below in
    let some_image : is_some (get_or images (j / size) None) ≡ true = sym (get_or-map is_some images (j / size) None true (omega arith)) ∙ ap (λ n. slice_index_or (map is_some images) n true) block ∙ here in
    byte_indifferent (get_or images (j / size) None) (j % size) (get_or (set bytes (k * size) v) j 0) (get_or bytes j 0) some_image)
    (λ (other : j ≢ k * size). ap (byte_of (get_or images (j / size) None) (j % size)) (get_or-set_other bytes (k * size) j v 0 other))
    (cases_eq j (k * size)))

old_byte : (size long : ℕ) (images : List (Option (List ℕ))) (bytes : List ℕ) (k : ℕ) → k < long → get_or (bytes_before size images long bytes) k 0 ≡ byte_before size images bytes k
unfolding bytes_before
old_byte size long images bytes k below = place_of (byte_before size images bytes) long k 0 below

-- a byte of a block without an image is the stored one
reaches : (size long k : ℕ) (images : List (Option (List ℕ))) (bytes : List ℕ) (v : ℕ) → 1 ≤ size → k * size < long → long ≤ length bytes → get_or images k None ≡ None →
    (byte_before size images bytes (k * size) ≡ get_or bytes (k * size) 0) × (bytes_before size images long (set bytes (k * size) v) ≡ set (bytes_before size images long bytes) (k * size) v)
unfolding bytes_before byte_before
reaches size long k images bytes v some below within none =
    let at = k * size in
    let block : at / size ≡ k = mul-div_cancel k some in
    let image : get_or images (at / size) None ≡ None = ap (λ n. get_or images n None) block ∙ none in
    let here : byte_before size images (set bytes at v) at ≡ v = ap (λ o. byte_of o (at % size) (get_or (set bytes at v) at 0)) image ∙ get_or-set_at bytes at at v 0 refl (omega arith) in (
      ap (λ o. byte_of o (at % size) (get_or bytes at 0)) image,
      sym (ap (set (bytes_before size images long bytes) at) (sym here)
          ∙ one_place (byte_before size images bytes) (byte_before size images (set bytes at v)) long at 0 below
          (λ j inside other. ap (byte_of (get_or images (j / size) None) (j % size)) (sym (get_or-set_other bytes at j v 0 other)))),
    )

-- the chunk with another byte in a place
abbrev pub with_byte : Stored → ℕ → ℕ → Stored
with_byte s at v = record { block = s.block; chunk = s.chunk; bytes = set s.bytes at v; digests = s.digests }

damaged_touched : (i : Images) (s : Stored) (k v : ℕ) → AreFirst i s → slice_index_or (touched i) k true ≡ true →
    undone i (with_byte s (k * s.block) v) ≡ damage_before k (touched i) (undone i s)
damaged_touched i s k v first here =
    let same : undone i (with_byte s (k * s.block) v) ≡ undone i s = λ j. record {
      block = s.block;
      chunk = s.chunk;
      bytes = stays s.block i.long k i.blocks s.bytes v first.some_block first.counted here j;
      digests = i.digests;
    } in
    same ∙ sym (ap (λ b. cond b (undone i s) (or_same (damage (undone i s) k) (undone i s))) here)

damaged_untouched : (i : Images) (s : Stored) (k : ℕ) → AreFirst i s → slice_index_or (touched i) k true ≡ false →
    undone i (with_byte s (k * s.block) ((get_or s.bytes (k * s.block) 0 + 1) % 256)) ≡ damage_before k (touched i) (undone i s)
damaged_untouched i s k first here =
    let size = s.block in
    let at = k * size in
    let long = i.long in
    let value = get_or s.bytes at 0 in
    let old = bytes_before size i.blocks long s.bytes in
    let counted : k < length i.blocks = ⊎_elim
    (λ (h : k < length i.blocks). h)
    (λ (h : length i.blocks ≤ k). absurd (true≢false (sym (get_or_past (touched i) k true (let n = length-map i.blocks is_some in omega arith)) ∙ here)))
    (cases_lt k (length i.blocks)) in
    let none : get_or i.blocks k None ≡ None = none_so (get_or i.blocks k None) (sym (get_or-map is_some i.blocks k None true counted) ∙ here) in
    let n = first.counted in
    let each = first.each in
    let below : at < long = starts size long k first.some_block (omega arith) in
    let r = reaches size long k i.blocks s.bytes ((value + 1) % 256) first.some_block below first.within none in
    let byte : get_or old at 0 ≡ value = old_byte size long i.blocks s.bytes at below ∙ r.0 in
    let test : nat_lt k (length i.digests) ≡ true = lt_is k (length i.digests) (omega arith) in
    let same : undone i (with_byte s at ((value + 1) % 256)) ≡ with_byte (undone i s) at ((get_or old at 0 + 1) % 256) = λ j. record {
      block = s.block;
      chunk = s.chunk;
      bytes = (r.1 ∙ ap (λ x. set old at ((x + 1) % 256)) (sym byte)) j;
      digests = i.digests;
    } in
    same
    ∙ sym (ap (λ b. or_same (cond b (Ok (with_byte (undone i s) at ((get_or old at 0 + 1) % 256))) (Err Range)) (undone i s)) test)
    ∙ sym (ap (λ b. cond b (undone i s) (or_same (damage (undone i s) k) (undone i s))) here)

pub damaged : (i : Images) (s new : Stored) (k : ℕ) → AreFirst i s → k < length s.digests → new ≡ with_byte s (k * s.block) ((get_or s.bytes (k * s.block) 0 + 1) % 256) →
    (undone i new ≡ damage_before k (touched i) (undone i s)) × AreFirst i new
damaged i s new k first within is =
    let v = (get_or s.bytes (k * s.block) 0 + 1) % 256 in
    let made = with_byte s (k * s.block) v in
    let gives : undone i made ≡ damage_before k (touched i) (undone i s) = ⊎_elim
    (λ (t : slice_index_or (touched i) k true ≡ true). damaged_touched i s k v first t)
    (λ (t : slice_index_or (touched i) k true ≡ false). damaged_untouched i s k first t)
    (bool_cases (slice_index_or (touched i) k true)) in
    let many = length-set s.bytes (k * s.block) v in
    let fit = first.within in
    (ap (undone i) is ∙ gives, subst (AreFirst i) (sym is) (same_block i s made refl first (let l : i.long ≤ length (set s.bytes (k * s.block) v) = omega arith in l)))
