-- Edits of a chunk of which some blocks may be damaged.
use Rattle.std.proofs.Common.{◌≡◌, ℕ, ◌+◌, ◌-◌, ◌*◌, ◌/◌, ◌<◌, ◌≤◌, arith, refl, sym, ap, List, [], ◌++◌, take, drop, length, get_or, ◌∙◌, min, max, rules, ⊎_elim}
use Rattle.std.specs.Prelude.{None, true, ◌&&◌, is_none, slice_index_or}
use Rattle.std.specs.Str.{bytes_eq}
use Rattle.std.proofs.lemmas.Bool.{cases_lt}
use Rattle.std.proofs.lemmas.List.{places, same_lists, ext_get_or}
use Rattle.std.proofs.lemmas.List.FromFn.{length-map-range_with_len, get_or-map-range_with_len}
use Rattle.gs_block.specs.Chunk.{written}
use Rattle.gs_block.specs.Stored.{Stored, IsStored, count_of, block_at, digest_at, digests_from, digests_of, is_intact, first_damaged, are_digests, empty}
use Rattle.gs_block.specs.Edits.{with_bytes, damaged_between}
use Rattle.gs_block.specs.Written.{WasWritten, ToldApart}
use Rattle.gs_block.proofs.Back.{eq_true}
use Rattle.gs_block.proofs.Counts.{first_counted, count_max, count_none, empty_stored}
use Rattle.gs_block.proofs.Kept.{begins_behind, length_of_parts, write_keeps, bytes_eq_self}
use Rattle.gs_block.proofs.Matching.{none_damaged, intact_none, matching, same_bytes}
use Rattle.gs_block.proofs.Writing.{length-written}

-- two parts that are equal are so after the same write
pub part_written : (low size offset : ℕ) (piece xs ys : List ℕ) → length xs ≡ length ys → take size (drop low xs) ≡ take size (drop low ys) →
    take size (drop low (written offset piece xs)) ≡ take size (drop low (written offset piece ys))
unfolding written
part_written low size offset piece xs ys long same = same_lists _ _ (search (rules, places)) (λ k d h.
    let at : get_or (take size (drop low xs)) k d ≡ get_or (take size (drop low ys)) k d = ap (λ l. get_or l k d) same in
    grind (arith, places))

-- behind the end there is nothing
pub part_behind : (low size : ℕ) (xs ys : List ℕ) → length xs ≤ low → length ys ≤ low → take size (drop low xs) ≡ take size (drop low ys)
part_behind low size xs ys a b = same_lists _ _ (search (rules, places)) (λ k d h. grind (arith, places))

no_digests : (size : ℕ) → 1 ≤ size → [] ≡ digests_of size []
no_digests size some = sym (ap (λ n. digests_from size [] 0 n) (count_none size some))

pub same_digest : (size i : ℕ) (xs ys : List ℕ) → block_at size i xs ≡ block_at size i ys → digest_at size xs i ≡ digest_at size ys i
unfolding digest_at
same_digest size i xs ys same = rw same refl

-- the digest of a block among those of all
digest_of_block : (size : ℕ) (ys : List ℕ) (i : ℕ) → i < count_of size (length ys) → slice_index_or (digests_of size ys) i [] ≡ digest_at size ys i
digest_of_block size ys i below = get_or-map-range_with_len (digest_at size ys) 0 (count_of size (length ys)) i i [] (omega arith) (omega arith)

count_is : (s : Stored) (ys : List ℕ) → WasWritten s ys → length s.digests ≡ count_of s.block (length ys)
count_is s ys w = let stored = w.stored in stored.each ∙ ap (count_of s.block) w.long

-- a block of a replica that has its digest has the digest of what was written
intact_digest : (s : Stored) (ys : List ℕ) (i : ℕ) → WasWritten s ys → i < length s.digests → is_intact s.block s.bytes s.digests i ≡ true → digest_at s.block s.bytes i ≡ digest_at s.block ys i
unfolding is_intact
intact_digest s ys i w below intact =
    let counted = count_is s ys w in
    same_bytes (digest_at s.block s.bytes i) (slice_index_or s.digests i []) intact
    ∙ ap (λ ds. slice_index_or ds i []) w.digests
    ∙ digest_of_block s.block ys i (omega arith)

-- so it has the bytes that were written, where the digests tell the two apart
pub intact_same : (s : Stored) (ys : List ℕ) (i : ℕ) → WasWritten s ys → ToldApart s.block s.bytes ys → i < length s.digests → is_intact s.block s.bytes s.digests i ≡ true → block_at s.block i s.bytes ≡ block_at s.block i ys
intact_same s ys i w told below intact = told i (intact_digest s ys i w below intact)

-- a block behind the end has none
pub behind_same : (s : Stored) (ys : List ℕ) (i : ℕ) → WasWritten s ys → length s.digests ≤ i → block_at s.block i s.bytes ≡ block_at s.block i ys
behind_same s ys i w above =
    let stored = w.stored in
    let each = stored.each in
    let long = w.long in
    let past = begins_behind s.block (length s.bytes) i stored.some_block (omega arith) in
    part_behind (i * s.block) s.block s.bytes ys past (omega arith)

-- the blocks that were verified between two places have the bytes that were written
pub verified_same : (s : Stored) (ys : List ℕ) (at end i : ℕ) → WasWritten s ys → ToldApart s.block s.bytes ys → damaged_between s at end ≡ None → at / s.block ≤ i → i < count_of s.block end → block_at s.block i s.bytes ≡ block_at s.block i ys
unfolding damaged_between
verified_same s ys at end i w told none low high = ⊎_elim
    (λ (held : i < length s.digests). intact_same s ys i w told held (none_damaged s.block s.bytes s.digests (at / s.block) (min (count_of s.block end) (length s.digests) - at / s.block) i none low (omega arith)))
    (λ (behind : length s.digests ≤ i). behind_same s ys i w behind)
    (cases_lt i (length s.digests))

-- they are digested alike after the same write
digests_same : (s : Stored) (ys piece : List ℕ) (offset : ℕ) → WasWritten s ys → ToldApart s.block s.bytes ys →
    damaged_between s (min offset (length s.bytes)) (offset + length piece) ≡ None →
    (let first = min offset (length s.bytes) / s.block in let many = count_of s.block (offset + length piece) - first in digests_from s.block (written offset piece s.bytes) first many ≡ digests_from s.block (written offset piece ys) first many)
digests_same s ys piece offset w told none =
    let first = min offset (length s.bytes) / s.block in
    let many = count_of s.block (offset + length piece) - first in
    let xs2 = written offset piece s.bytes in
    let ys2 = written offset piece ys in
    let a : length (digests_from s.block xs2 first many) ≡ many = length-map-range_with_len (digest_at s.block xs2) first many in
    ext_get_or [] (digests_from s.block xs2 first many) (digests_from s.block ys2 first many) (a ∙ sym (length-map-range_with_len (digest_at s.block ys2) first many))
    (λ k below.
    let inside : k < many = omega arith in
    get_or-map-range_with_len (digest_at s.block xs2) first many k (first + k) [] inside refl
    ∙ same_digest s.block (first + k) xs2 ys2 (part_written ((first + k) * s.block) s.block offset piece s.bytes ys w.long
    (verified_same s ys (min offset (length s.bytes)) (offset + length piece) (first + k) w told none (omega arith) (omega arith)))
    ∙ sym (get_or-map-range_with_len (digest_at s.block ys2) first many k (first + k) [] inside refl))

-- digests that each block has are those of all blocks
pub all_intact : (size : ℕ) (bytes : List ℕ) (ds : List (List ℕ)) → length ds ≡ count_of size (length bytes) → ((i : ℕ) → i < length ds → is_intact size bytes ds i ≡ true) → ds ≡ digests_of size bytes
all_intact size bytes ds long all =
    let many = count_of size (length bytes) in
    let none : first_damaged size bytes ds 0 many ≡ None = intact_none size bytes ds 0 many (λ i low high. all i (omega arith)) in
    let are : are_digests size bytes ds ≡ true = ap (λ b. b && is_none (first_damaged size bytes ds 0 many)) (eq_true (length ds) many long) ∙ ap is_none none in
    matching size bytes ds are

pub written_intact : (size : ℕ) (ys : List ℕ) (ds : List (List ℕ)) (i : ℕ) → ds ≡ digests_of size ys → i < count_of size (length ys) → is_intact size ys ds i ≡ true
unfolding is_intact
written_intact size ys ds i is below = ap (λ d. bytes_eq (digest_at size ys i) (slice_index_or d i [])) is ∙ ap (bytes_eq (digest_at size ys i)) (digest_of_block size ys i below) ∙ bytes_eq_self (digest_at size ys i)

-- a chunk of these bytes under their digests
abbrev of_bytes : Stored → List ℕ → Stored
of_bytes s ys = record { block = s.block; chunk = s.chunk; bytes = ys; digests = digests_of s.block ys }

bytes_stored : (s : Stored) (ys : List ℕ) → WasWritten s ys → IsStored (of_bytes s ys)
bytes_stored s ys w =
    let stored = w.stored in
    let long = w.long in
    let fit = stored.bytes_fit in
    record {
      some_block = stored.some_block;
      block_fits = stored.block_fits;
      chunk_fits = stored.chunk_fits;
      bytes_fit = omega arith;
      each = length-map-range_with_len (digest_at s.block ys) 0 (count_of s.block (length ys));
    }

-- a write of an undamaged chunk leaves the digests of all blocks
digests_after : (s : Stored) (piece : List ℕ) (offset : ℕ) → IsStored s → s.digests ≡ digests_of s.block s.bytes →
    (with_bytes s (min offset (length s.bytes)) (offset + length piece) (written offset piece s.bytes)).digests ≡ digests_of s.block (written offset piece s.bytes)
unfolding with_bytes
digests_after s piece offset stored is =
    let at = min offset (length s.bytes) in
    let end = offset + length piece in
    let ys = written offset piece s.bytes in
    let new : Stored = with_bytes s at end ys in
    let each = stored.each in
    let low = first_counted s.block at (length s.bytes) stored.some_block (omega arith) in
    let order = first_counted s.block at end stored.some_block (omega arith) in
    let mid = digests_from s.block ys (at / s.block) (count_of s.block end - at / s.block) in
    let counted : length new.digests ≡ max (count_of s.block end) (length s.digests) =
    length_of_parts s.digests mid (at / s.block) (count_of s.block end) order (let l : at / s.block ≤ length s.digests = omega arith in l) (length-map-range_with_len (digest_at s.block ys) (at / s.block) (count_of s.block end - at / s.block)) in
    let most = count_max s.block (length s.bytes) end stored.some_block in
    let swap : max (count_of s.block end) (length s.digests) ≡ max (count_of s.block (length s.bytes)) (count_of s.block end) = omega arith in
    let long : length new.digests ≡ count_of s.block (length ys) = counted ∙ swap ∙ sym most ∙ ap (count_of s.block) (sym (length-written offset piece s.bytes)) in
    all_intact s.block ys new.digests long
    (λ i below. write_keeps (Unit {0}) tt s new offset piece stored refl i below (λ held. written_intact s.block s.bytes s.digests i is (omega arith)))

-- a chunk that was written with some bytes was written with those after an accepted write
pub put_written : (s : Stored) (ys piece : List ℕ) (offset : ℕ) → WasWritten s ys → ToldApart s.block s.bytes ys → offset + length piece ≤ s.chunk →
    damaged_between s (min offset (length s.bytes)) (offset + length piece) ≡ None →
    WasWritten (with_bytes s (min offset (length s.bytes)) (offset + length piece) (written offset piece s.bytes)) (written offset piece ys)
unfolding with_bytes
put_written s ys piece offset w told fits none =
    let at = min offset (length s.bytes) in
    let end = offset + length piece in
    let first = at / s.block in
    let last = count_of s.block end in
    let xs2 = written offset piece s.bytes in
    let ys2 = written offset piece ys in
    let stored = w.stored in
    let fit = stored.bytes_fit in
    let long : length xs2 ≡ length ys2 = length-written offset piece s.bytes ∙ ap (λ n. max n end) w.long ∙ sym (length-written offset piece ys) in
    let digests : (with_bytes s at end xs2).digests ≡ digests_of s.block ys2 =
    ap (λ mid. take first s.digests ++ (mid ++ drop last s.digests)) (digests_same s ys piece offset w told none)
    ∙ ap (λ ds. take first ds ++ (digests_from s.block ys2 first (last - first) ++ drop last ds)) w.digests
    ∙ ap (λ n. (let a = min offset n / s.block in take a (digests_of s.block ys) ++ (digests_from s.block ys2 a (last - a) ++ drop last (digests_of s.block ys)))) w.long
    ∙ digests_after (of_bytes s ys) piece offset (bytes_stored s ys w) refl in
    record {
      stored = record {
        some_block = stored.some_block;
        block_fits = stored.block_fits;
        chunk_fits = stored.chunk_fits;
        bytes_fit = (let l = length-written offset piece s.bytes in let n : length xs2 ≤ s.chunk = omega arith in n);
        each = ap length digests ∙ length-map-range_with_len (digest_at s.block ys2) 0 (count_of s.block (length ys2)) ∙ ap (count_of s.block) (sym long);
      };
      long = long;
      digests = digests;
    }

-- a chunk without bytes was written with none
pub nothing_written : (block chunk : ℕ) → 1 ≤ block → block ≤ 65536 → chunk ≤ 67108864 → WasWritten (empty block chunk) []
nothing_written block chunk some block_fits chunk_fits = record { stored = empty_stored block chunk some block_fits chunk_fits; long = refl; digests = no_digests block some }

-- other bytes of the same length under the same digests
abbrev pub other : Stored → List ℕ → Stored
other s bytes = record { block = s.block; chunk = s.chunk; bytes = bytes; digests = s.digests }

pub other_written : (s : Stored) (bytes ys : List ℕ) → length bytes ≡ length s.bytes → WasWritten s ys → WasWritten (other s bytes) ys
other_written s bytes ys long w =
    let stored = w.stored in
    let fit = stored.bytes_fit in
    record {
      stored = record {
        some_block = stored.some_block;
        block_fits = stored.block_fits;
        chunk_fits = stored.chunk_fits;
        bytes_fit = omega arith;
        each = stored.each ∙ ap (count_of s.block) (sym long);
      };
      long = long ∙ w.long;
      digests = w.digests;
    }
