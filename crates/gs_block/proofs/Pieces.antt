-- The blocks of a text that is written.
use Rattle.std.proofs.Common.{◌≡◌, ℕ, ◌+◌, ◌-◌, ◌*◌, ◌/◌, ◌<◌, ◌≤◌, inl, inr, ⊎_elim, arith, sym, ap, subst, ◌∙◌, min, List, take, drop, length}
use Rattle.std.specs.Prelude.{None}
use Rattle.std.proofs.lemmas.Bool.{cases_lt}
use Rattle.std.proofs.lemmas.List.{take-take, drop-take, drop-drop}
use Rattle.std.proofs.Math.Nat.{div-mul-le_self, mul-le-mul_right, add-mul}
use Rattle.gs_block.specs.Chunk.{written}
use Rattle.gs_block.specs.Kept.{BlocksOf}
use Rattle.gs_block.specs.Stored.{Stored, count_of, block_at}
use Rattle.gs_block.specs.Edits.{damaged_between}
use Rattle.gs_block.specs.Written.{WasWritten, ToldApart}
use Rattle.gs_block.proofs.Counts.{one_times}
use Rattle.gs_block.proofs.Kept.{drop-written, begins_behind}
use Rattle.gs_block.proofs.Standing.{part_written, verified_same}
use Rattle.gs_block.proofs.Writing.{take-written}

block_before : (size i at : ℕ) (old new : List ℕ) → i * size + size ≤ at → take at new ≡ take at old → block_at size i new ≡ block_at size i old
block_before size i at old new within same =
    sym (drop-take (i * size) size new)
    ∙ ap (drop (i * size)) (sym (take-take (i * size + size) at new within) ∙ ap (take (i * size + size)) same ∙ take-take (i * size + size) at old within)
    ∙ drop-take (i * size) size old

block_behind : (size i end : ℕ) (old new : List ℕ) → end ≤ i * size → drop end new ≡ drop end old → block_at size i new ≡ block_at size i old
block_behind size i end old new within same =
    let e : end + (i * size - end) ≡ i * size = omega arith in
    ap (take size) (ap (λ n. drop n new) (sym e) ∙ sym (drop-drop (i * size - end) end new) ∙ ap (drop (i * size - end)) same ∙ drop-drop (i * size - end) end old ∙ ap (λ n. drop n old) e)

pub ends_before : (size at i : ℕ) → i < at / size → i * size + size ≤ at
ends_before size at i below =
    let up : (i + 1) * size ≤ at / size * size = mul-le-mul_right size (let n : i + 1 ≤ at / size = omega arith in n) in
    let most = div-mul-le_self at size in
    let one : (i + 1) * size ≡ i * size + size = add-mul i 1 size ∙ ap (λ k. i * size + k) (one_times size) in
    omega arith

-- where what is touched was verified, the new text of what was written has the blocks of the chunk behind the write, and the old ones
pub text_blocks : (s : Stored) (ys piece : List ℕ) (offset : ℕ) → WasWritten s ys → ToldApart s.block s.bytes ys → damaged_between s (min offset (length s.bytes)) (offset + length piece) ≡ None
    → BlocksOf s.block (written offset piece ys) (written offset piece s.bytes) ys
text_blocks s ys piece offset w told none i =
    let stored = w.stored in
    let long = w.long in
    let at = min offset (length s.bytes) in
    let end = offset + length piece in
    let start : min offset (length ys) ≡ at = omega arith in
    ⊎_elim
    (λ (below : i < at / s.block). inr (block_before s.block i at ys (written offset piece ys) (ends_before s.block at i below) (subst (λ n. take n (written offset piece ys) ≡ take n ys) start (sym (take-written offset piece ys)))))
    (λ (above : at / s.block ≤ i). ⊎_elim
    (λ (inside : i < count_of s.block end). inl (sym (part_written (i * s.block) s.block offset piece s.bytes ys w.long (verified_same s ys at end i w told none above inside))))
    (λ (behind : count_of s.block end ≤ i). inr (block_behind s.block i end ys (written offset piece ys) (begins_behind s.block end i stored.some_block behind) (drop-written offset piece ys)))
    (cases_lt i (count_of s.block end)))
    (cases_lt i (at / s.block))

-- and the chunk has its own old blocks, and those of the new text
pub chunk_blocks : (s : Stored) (ys piece : List ℕ) (offset : ℕ) → WasWritten s ys → ToldApart s.block s.bytes ys → damaged_between s (min offset (length s.bytes)) (offset + length piece) ≡ None
    → BlocksOf s.block (written offset piece s.bytes) s.bytes (written offset piece ys)
chunk_blocks s ys piece offset w told none i =
    let stored = w.stored in
    let at = min offset (length s.bytes) in
    let end = offset + length piece in
    ⊎_elim
    (λ (below : i < at / s.block). inl (block_before s.block i at s.bytes (written offset piece s.bytes) (ends_before s.block at i below) (sym (take-written offset piece s.bytes))))
    (λ (above : at / s.block ≤ i). ⊎_elim
    (λ (inside : i < count_of s.block end). inr (part_written (i * s.block) s.block offset piece s.bytes ys w.long (verified_same s ys at end i w told none above inside)))
    (λ (behind : count_of s.block end ≤ i). inl (block_behind s.block i end s.bytes (written offset piece s.bytes) (begins_behind s.block end i stored.some_block behind) (drop-written offset piece s.bytes)))
    (cases_lt i (count_of s.block end)))
    (cases_lt i (at / s.block))
