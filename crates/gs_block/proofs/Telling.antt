-- What the bytes of a chunk are that was written with some.
use Rattle.std.proofs.Common.{◌≡◌, ℕ, ◌+◌, ◌-◌, ◌*◌, ◌/◌, ◌%◌, ◌<◌, ◌≤◌, arith, refl, sym, ap, subst, List, [], take, drop, length, get_or, ◌∙◌, min, rules, ⊎_elim}
use Rattle.std.specs.Prelude.{Option, Some, None, Result, Ok, Err, Bool, true, false, cond, nat_lt}
use Rattle.std.proofs.lemmas.Bool.Decides.{nat_tests}
use Rattle.std.proofs.lemmas.Bool.{cases_lt}
use Rattle.std.proofs.lemmas.List.{places, same_lists}
use Rattle.std.proofs.lemmas.Nat.{le-div, div-add-mod'}
use Rattle.std.proofs.Math.Nat.{div-mul-le_self, mod-lt}
use Rattle.gs_base.specs.declared.refusal.Refusal.{Refusal}
use Rattle.gs_base.specs.declared.refusal.Refusal.TheVariants as refusals
use Rattle.gs_block.specs.Stored.{Stored, count_of, block_at, is_intact, first_damaged}
use Rattle.gs_block.specs.Edits as blocks
use Rattle.gs_block.specs.Edits.{damaged_between, unless_damaged}
use Rattle.gs_block.proofs.Matching.{none_damaged}
use Rattle.gs_block.specs.Written.{WasWritten, ToldApart}
use Rattle.gs_block.proofs.Sealed.{block_counted}
use Rattle.gs_block.proofs.Standing.{intact_same, behind_same, verified_same}

pub part_at : (xs : List ℕ) (size at k d : ℕ) → k < size → get_or xs (at + k) d ≡ get_or (take size (drop at xs)) k d
part_at xs size at k d low = grind (arith, places)

-- a place within its block
within_block : (size p : ℕ) (xs : List ℕ) (d : ℕ) → 1 ≤ size → get_or xs p d ≡ get_or (block_at size (p / size) xs) (p % size) d
within_block size p xs d some =
    let is : p / size * size + p % size ≡ p = div-add-mod' p size in
    let low : p % size < size = mod-lt p (omega arith) in
    let at = p / size * size in
    let k = p % size in
    ap (λ n. get_or xs n d) (sym is) ∙ part_at xs size at k d low

-- places of equal blocks hold the same
place_same : (size low high : ℕ) (xs ys : List ℕ) → 1 ≤ size → ((i : ℕ) → low / size ≤ i → i < count_of size high → block_at size i xs ≡ block_at size i ys) →
    (p d : ℕ) → low ≤ p → p < high → get_or xs p d ≡ get_or ys p d
place_same size low high xs ys some same p d above below =
    let first : low / size ≤ p / size = le-div (low / size) p size (omega arith) (let most = div-mul-le_self low size in omega arith) in
    within_block size p xs d some
    ∙ ap (λ b. get_or b (p % size) d) (same (p / size) first (block_counted size high p some below))
    ∙ sym (within_block size p ys d some)

-- a chunk without a damaged block has the bytes that were written
pub whole_same : (s : Stored) (ys : List ℕ) → WasWritten s ys → ToldApart s.block s.bytes ys → first_damaged s.block s.bytes s.digests 0 (length s.digests) ≡ None → s.bytes ≡ ys
whole_same s ys w told none =
    let stored = w.stored in
    let long = w.long in
    same_lists s.bytes ys w.long (λ k d below. place_same s.block 0 (length s.bytes) s.bytes ys stored.some_block
    (λ i low high. ⊎_elim
    (λ (held : i < length s.digests). intact_same s ys i w told held (none_damaged s.block s.bytes s.digests 0 (length s.digests) i none (omega arith) (omega arith)))
    (λ (behind : length s.digests ≤ i). behind_same s ys i w behind)
    (cases_lt i (length s.digests)))
    k d (omega arith) below)

pub not_below : (m n : ℕ) → nat_lt m n ≡ false → n ≤ m
not_below m n h = grind (arith, nat_tests)

part_told : (offset many : ℕ) (xs ys : List ℕ) → length xs ≡ length ys → ((p d : ℕ) → offset ≤ p → p < min (offset + many) (length xs) → get_or xs p d ≡ get_or ys p d) → take many (drop offset xs) ≡ take many (drop offset ys)
part_told offset many xs ys long same = same_lists _ _ (search (rules, places)) (λ k d h.
    let m : length (take many (drop offset xs)) ≡ min many (length xs - offset) = search (rules, places) in
    let at = same (offset + k) d (omega arith) (omega arith) in
    grind (arith, places))

part_or : Result (List ℕ) Refusal → List ℕ → List ℕ
part_or (Ok s) old = s
part_or (Err e) old = old

read_is : (a b : Bool) (d : Option ℕ) (p part : List ℕ) → (let m : Result (List ℕ) Refusal = cond a (Err refusals.Range) (cond b (unless_damaged d p) (Ok [])) in m) ≡ Ok part → b ≡ true → (d ≡ None) × (p ≡ part)
unfolding part_or
read_is true b d p part e h = absurd (cc)
read_is false true None p part e h = (refl, ap (λ q. part_or q p) e)
read_is false true (Some k) p part e h = absurd (cc)
read_is false false d p part e h = absurd (cc)

read_none : (a b : Bool) (d : Option ℕ) (p part : List ℕ) → (let m : Result (List ℕ) Refusal = cond a (Err refusals.Range) (cond b (unless_damaged d p) (Ok [])) in m) ≡ Ok part → b ≡ false → [] ≡ part
unfolding part_or
read_none true b d p part e h = absurd (cc)
read_none false true d p part e h = absurd (cc)
read_none false false d p part e h = ap (λ q. part_or q p) e

nothing_there : (offset many : ℕ) (ys : List ℕ) → min (offset + many) (length ys) ≤ offset → [] ≡ take many (drop offset ys)
nothing_there offset many ys past = same_lists _ _ (let e : length (take many (drop offset ys)) ≡ min many (length ys - offset) = search (rules, places) in omega arith) (λ k d h. absurd (omega arith))

read_case : (t : Bool) (s : Stored) (ys part : List ℕ) (offset many : ℕ) → nat_lt offset (min (offset + many) (length s.bytes)) ≡ t → WasWritten s ys → ToldApart s.block s.bytes ys → blocks.read s offset many ≡ Ok part → part ≡ take many (drop offset ys)
read_case true s ys part offset many t w told e =
    let stored = w.stored in
    let end = min (offset + many) (length s.bytes) in
    let r = read_is (nat_lt s.chunk (offset + many)) (nat_lt offset end) (damaged_between s offset end) (take many (drop offset s.bytes)) part e t in
    sym r.1
    ∙ part_told offset many s.bytes ys w.long (λ p d low high. place_same s.block offset end s.bytes ys stored.some_block
    (λ i first last. verified_same s ys offset end i w told r.0 first last) p d low high)
read_case false s ys part offset many t w told e =
    let long = w.long in
    let end = min (offset + many) (length s.bytes) in
    let past = not_below offset end t in
    sym (read_none (nat_lt s.chunk (offset + many)) (nat_lt offset end) (damaged_between s offset end) (take many (drop offset s.bytes)) part e t)
    ∙ nothing_there offset many ys (omega arith)

-- what a read gives was written
pub read_same : (s : Stored) (ys part : List ℕ) (offset many : ℕ) → WasWritten s ys → ToldApart s.block s.bytes ys → blocks.read s offset many ≡ Ok part → part ≡ take many (drop offset ys)
read_same s ys part offset many w told e = read_case (nat_lt offset (min (offset + many) (length s.bytes))) s ys part offset many refl w told e

-- the same in blocks of a size that is given
pub read_told : (size : ℕ) (s : Stored) (ys part : List ℕ) (offset many : ℕ) → s.block ≡ size → WasWritten s ys → ToldApart size s.bytes ys → blocks.read s offset many ≡ Ok part → part ≡ take many (drop offset ys)
read_told size s ys part offset many is w told e = read_same s ys part offset many w (subst (λ b. ToldApart b s.bytes ys) (sym is) told) e

pub blocks_told : (size : ℕ) (s : Stored) (ys : List ℕ) (i : ℕ) → s.block ≡ size → WasWritten s ys → ToldApart size s.bytes ys → i < length s.digests → is_intact size s.bytes s.digests i ≡ true → block_at size i s.bytes ≡ block_at size i ys
blocks_told size s ys i is w told below intact =
    subst (λ b. block_at b i s.bytes ≡ block_at b i ys) is
    (intact_same s ys i w (subst (λ b. ToldApart b s.bytes ys) (sym is) told) below (subst (λ b. is_intact b s.bytes s.digests i ≡ true) (sym is) intact))
