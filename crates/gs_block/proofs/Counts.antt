-- How many blocks so many bytes take.
use Rattle.std.proofs.Common.{◌≡◌, ℕ, ◌+◌, ◌-◌, ◌*◌, ◌/◌, ◌<◌, ◌≤◌, arith, sym, ap, ◌∙◌, ⊎_elim, max}
use Rattle.std.proofs.lemmas.Nat.{le-div}
use Rattle.std.proofs.Math.Nat.{div-mul-le_self, mul-le-mul_right, div-eq_of_lt, add-mul}
use Rattle.std.proofs.lemmas.Bool.{cases_lt}
use Rattle.gs_block.specs.Stored.{IsStored, empty, count_of}

pub one_times : (k : ℕ) → 1 * k ≡ k
one_times k = omega arith

-- a block that is counted begins below the end
pub starts : (size many i : ℕ) → 1 ≤ size → i < count_of size many → i * size < many
unfolding count_of
starts size many i some below =
    let last : (i + 1) * size ≤ (many + size - 1) / size * size = mul-le-mul_right size (let n : i + 1 ≤ (many + size - 1) / size = omega arith in n) in
    let most : (many + size - 1) / size * size ≤ many + size - 1 = div-mul-le_self (many + size - 1) size in
    let one : (i + 1) * size ≡ i * size + size = add-mul i 1 size ∙ ap (λ k. i * size + k) (one_times size) in
    omega arith

-- whole blocks below the end are counted
pub counted : (size many i : ℕ) → 1 ≤ size → i * size ≤ many → i ≤ count_of size many
unfolding count_of
counted size many i some below = le-div i (many + size - 1) size (omega arith) (omega arith)

-- more bytes take no fewer blocks
pub count_mono : (size few many : ℕ) → 1 ≤ size → few ≤ many → count_of size few ≤ count_of size many
unfolding count_of
count_mono size few many some le =
    le-div ((few + size - 1) / size) (many + size - 1) size (omega arith) (let most = div-mul-le_self (few + size - 1) size in omega arith)

-- the block of a place is counted by what lies behind the place
pub first_counted : (size at many : ℕ) → 1 ≤ size → at ≤ many → at / size ≤ count_of size many
first_counted size at many some le = counted size many (at / size) some (let most = div-mul-le_self at size in omega arith)

pub count_none : (size : ℕ) → 1 ≤ size → count_of size 0 ≡ 0
unfolding count_of
count_none size some = div-eq_of_lt (let n : 0 + size - 1 < size = omega arith in n)

pub empty_stored : (block chunk : ℕ) → 1 ≤ block → block ≤ 65536 → chunk ≤ 67108864 → IsStored (empty block chunk)
empty_stored block chunk some block_fits chunk_fits = record {
  some_block = some;
  block_fits = block_fits;
  chunk_fits = chunk_fits;
  bytes_fit = omega arith;
  each = sym (count_none block some);
}

pub count_max : (size few many : ℕ) → 1 ≤ size → count_of size (max few many) ≡ max (count_of size few) (count_of size many)
count_max size few many some = ⊎_elim
    (λ (lt : many < few). let up = count_mono size many few some (omega arith) in
    let l : max few many ≡ few = omega arith in
    let r : max (count_of size few) (count_of size many) ≡ count_of size few = omega arith in
    ap (count_of size) l ∙ sym r)
    (λ (le : few ≤ many). let up = count_mono size few many some le in
    let l : max few many ≡ many = omega arith in
    let r : max (count_of size few) (count_of size many) ≡ count_of size many = omega arith in
    ap (count_of size) l ∙ sym r)
    (cases_lt many few)
