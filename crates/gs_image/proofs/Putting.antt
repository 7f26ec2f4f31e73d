-- What a writer holds, and what it makes of that.
use Rattle.std.proofs.Common.{◌≡◌, ◌<◌, ◌≤◌, ◌+◌, ◌^◌, ◌++◌, ◌∷◌, [], ℕ, zero, suc, List, length, take, drop, refl, sym, ap, subst, ◌∙◌, arith, append_assoc, append-nil, length-append}
use Rattle.std.specs.List.{flat_map}
use Rattle.std.proofs.lemmas.List.{flat_map_more, take_at}
use Rattle.byteorder.specs.Endian.{big_number}
use Rattle.sha2.specs.Sha256.{sha256}
use Rattle.gs_image.specs.Images.{AreParts, AreShort, body, front, number, part_written, written}
use Rattle.gs_image.specs.inner.Held.{IsHeld, held, parts_in}
use Rattle.gs_image.proofs.Finding.{all_push}
use Rattle.gs_image.proofs.Parts.{part_long, part_told, rest_told}

parts_again : (parts : List (List ℕ)) (rest : List ℕ) → AreShort parts → parts_in (length parts) (flat_map part_written parts ++ rest) ≡ parts
parts_again [] rest short = refl
parts_again (p ∷ parts) rest short =
    let behind = flat_map part_written parts ++ rest in
    ap (parts_in (suc (length parts))) (append_assoc (part_written p) (flat_map part_written parts) rest)
    ∙ ap (λ (q : List ℕ). q ∷ parts_in (length parts) (drop (40 + big_number 8 (part_written p ++ behind)) (part_written p ++ behind))) (part_told p behind short.0)
    ∙ ap (λ (l : List ℕ). p ∷ parts_in (length parts) l) (rest_told p behind short.0)
    ∙ ap (λ (l : List (List ℕ)). p ∷ l) (parts_again parts rest short.1)

pub many_in : (count : ℕ) (bytes : List ℕ) → length (parts_in count bytes) ≡ count
many_in zero bytes = refl
many_in (suc count) bytes = let h = many_in count (drop (40 + big_number 8 bytes) bytes) in omega (arith, h)

-- bytes that hold these parts
pub holds : (parts : List (List ℕ)) (count : ℕ) (bytes : List ℕ) → AreShort parts → count ≡ length parts → bytes ≡ front 0 ++ flat_map part_written parts → (held count bytes ≡ parts) × IsHeld count bytes
holds parts count bytes short many is =
    let same : held count bytes ≡ parts =
    ap (λ (k : ℕ). parts_in k (drop 27 bytes)) many
    ∙ ap (λ (l : List ℕ). parts_in (length parts) (drop 27 l)) is
    ∙ ap (λ (l : List ℕ). parts_in (length parts) l) (sym (append-nil (flat_map part_written parts)))
    ∙ parts_again parts [] short in
    (same, record { stand = is ∙ ap (λ (ps : List (List ℕ)). front 0 ++ flat_map part_written ps) (sym same); short = subst AreShort (sym same) short })

pub holds_none : (bytes : List ℕ) → bytes ≡ front 0 → (held 0 bytes ≡ []) × IsHeld 0 bytes
holds_none bytes is = holds [] 0 bytes tt refl (is ∙ sym (append-nil (front 0)))

pub holds_more : (count : ℕ) (bytes part new : List ℕ) → IsHeld count bytes → length part < 2 ^ 64 → new ≡ bytes ++ part_written part → (held (count + 1) new ≡ held count bytes ++ part ∷ []) × IsHeld (count + 1) new
holds_more count bytes part new h short is =
    let parts = held count bytes in
    holds (parts ++ part ∷ []) (count + 1) new (all_push (λ p. length p < 2 ^ 64) parts part h.short short) (omega (arith, many_in count (drop 27 bytes), length-append parts (part ∷ [])))
    (is ∙ ap (λ (l : List ℕ). l ++ part_written part) h.stand ∙ flat_map_more part_written (front 0) parts part)

-- each part takes 40 bytes at least
at_least : (parts : List (List ℕ)) → length parts ≤ length (flat_map part_written parts)
at_least [] = omega arith
at_least (p ∷ parts) =
    let h = at_least parts in
    omega (arith, h, part_long p (flat_map part_written parts))

pub few : (count : ℕ) (bytes : List ℕ) → IsHeld count bytes → 27 + count ≤ length bytes
few count bytes h =
    omega (arith, many_in count (drop 27 bytes), at_least (held count bytes), ap length h.stand, length-append (front 0) (flat_map part_written (held count bytes)))

pub counts : (count : ℕ) (bytes : List ℕ) → IsHeld count bytes → length bytes < 2 ^ 63 → count + 1 < 2 ^ 64
counts count bytes h fits = omega (arith, few count bytes h, fits)

-- with a part more
pub with_part : (count : ℕ) (bytes part new : List ℕ) (value : List (List ℕ)) → IsHeld count bytes → held count bytes ≡ value → new ≡ bytes ++ part_written part → length new < 2 ^ 63
    → (held (count + 1) new ≡ value ++ part ∷ []) × IsHeld (count + 1) new
with_part count bytes part new value h is put fits =
    let long : length (part_written part) ≡ 40 + length part + 0 = ap length (sym (append-nil (part_written part))) ∙ part_long part [] in
    let short : length part < 2 ^ 64 = omega (arith, fits, ap length put, length-append bytes (part_written part), long) in
    let more = holds_more count bytes part new h short put in
    (more.0 ∙ ap (λ (l : List (List ℕ)). l ++ part ∷ []) is, more.1)

-- the number of parts in its place
counted : (count : ℕ) (bytes new : List ℕ) → IsHeld count bytes → new ≡ take 19 bytes ++ (number count ++ drop 27 bytes) → new ≡ body (held count bytes)
counted count bytes new h is =
    let parts = held count bytes in
    let behind : drop 27 bytes ≡ flat_map part_written parts = ap (λ (l : List ℕ). drop 27 l) h.stand in
    is
    ∙ ap (λ (l : List ℕ). take 19 l ++ (number count ++ drop 27 bytes)) h.stand
    ∙ ap (λ (l : List ℕ). take 19 (front 0) ++ (number count ++ l)) behind
    ∙ ap (λ (k : ℕ). front k ++ flat_map part_written parts) (sym (many_in count (drop 27 bytes)))

-- it is put over what stands there, and the digest of all behind that
pub finished : (count : ℕ) (old slice put digested digest whole : List ℕ) (len : ℕ) (value : List (List ℕ)) → IsHeld count old → held count old ≡ value → length old < 2 ^ 63 → len ≡ length old → slice ≡ old
    → put ≡ take 19 slice ++ (number count ++ drop 27 slice) → digested ≡ take len (put ++ drop (length put) old) → digest ≡ sha256 digested → whole ≡ take len (put ++ drop (length put) old) ++ digest
    → (whole ≡ written value) × AreParts value
finished count old slice put digested digest whole len value h is fits size same placed all sum end =
    let parts = held count old in
    let made : put ≡ body parts = counted count old put h (placed ∙ ap (λ (l : List ℕ). take 19 l ++ (number count ++ drop 27 l)) same) in
    let many = many_in count (drop 27 old) in
    let long : length put ≡ len =
    omega (arith, size, ap length made, ap length h.stand, length-append (front (length parts)) (flat_map part_written parts), length-append (front 0) (flat_map part_written parts)) in
    let mid : take len (put ++ drop (length put) old) ≡ body parts = take_at put (drop (length put) old) len long ∙ made in
    let image : whole ≡ written parts = end ∙ ap (λ (l : List ℕ). take len (put ++ drop (length put) old) ++ l) (sum ∙ ap sha256 all) ∙ ap (λ (l : List ℕ). l ++ sha256 l) mid in
    (image ∙ ap written is, subst AreParts is (omega (arith, many, few count old h, fits), h.short))
