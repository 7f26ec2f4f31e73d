-- The parts of a write are its bytes.
use Rattle.std.proofs.Common.{◌≡◌, ◌∙◌, ◌≤◌, ◌<◌, ◌+◌, ◌-◌, ◌*◌, ◌/◌, ◌%◌, ◌++◌, ◌==◌, ◌||◌, min, take, ℕ, zero, suc, List, length, slice_range, nat_lt, Bool, cond, false, refl, sym, ap, arith}
use Rattle.std.proofs.Math.Nat.{div-add-mod, mul-div-le, lt-div-mul-add, mul-le-mul_left, mod-lt}
use Rattle.std.proofs.Math.Seq.{take-add, take-length}
use Rattle.std.proofs.lemmas.List.{length-take-le}
use Rattle.std.proofs.Math.Numerals.{suc-eq-add-one}
use Rattle.std.proofs.lemmas.Bool.Decides.{nat_tests}
use Rattle.gs_client_part.specs.Writing.{most_chunks}
use Rattle.gs_client_part.specs.Writing.{part_start, part_bytes, part_count, is_out}
use Rattle.gs_client.specs.Writing.{first_parts}

-- where the parts before this one end
abbrev cut : ℕ → ℕ → List ℕ → ℕ → ℕ
cut size offset bytes i = min (i * size - offset % size) (length bytes)

lower : (a b skip n : ℕ) → a ≤ b → min (a - skip) (min (b - skip) n) ≡ min (a - skip) n
lower a b skip n below = omega arith

grows : (a b skip n : ℕ) → a ≤ b → min (a - skip) n ≤ min (b - skip) n
grows a b skip n below = omega arith

next_product : (size i : ℕ) → (i + 1) * size ≡ i * size + size
next_product size i = grind (arith)

part_is : (size offset : ℕ) (bytes : List ℕ) (i : ℕ) → part_bytes size offset bytes i ≡ slice_range bytes (cut size offset bytes i) (cut size offset bytes (i + 1))
part_is size offset bytes i =
    let h = next_product size i in
    ap (λ (n : ℕ). slice_range bytes n (cut size offset bytes (i + 1))) (lower (i * size) ((i + 1) * size) (offset % size) (length bytes) (omega arith))

pub parts_before : (size offset : ℕ) (bytes : List ℕ) (i : ℕ) → first_parts size offset bytes i ≡ take (cut size offset bytes i) bytes
parts_before size offset bytes zero =
    let e : 0 ≡ cut size offset bytes 0 = omega arith in
    ap (λ (n : ℕ). take n bytes) e
parts_before size offset bytes (suc i) =
    let h = next_product size i in
    let from = cut size offset bytes i in
    let to = cut size offset bytes (i + 1) in
    let e : from + (to - from) ≡ to = let g = grows (i * size) ((i + 1) * size) (offset % size) (length bytes) (omega arith) in omega arith in
    ap (λ (l : List ℕ). l ++ part_bytes size offset bytes i) (parts_before size offset bytes i)
    ∙ ap (λ (l : List ℕ). take from bytes ++ l) (part_is size offset bytes i)
    ∙ sym (take-add from (to - from) bytes)
    ∙ ap (λ (n : ℕ). take n bytes) e
    ∙ ap (λ (n : ℕ). take (cut size offset bytes n) bytes) (sym (suc-eq-add-one i))

some_length : (many : ℕ) (past : Bool) → ((many == 0) || past) ≡ false → 1 ≤ many
some_length zero past is = absurd cc
some_length (suc many) past is = omega arith

not_empty : (size offset : ℕ) (bytes : List ℕ) → is_out size offset bytes ≡ false → 1 ≤ length bytes
not_empty size offset bytes within = some_length (length bytes) (nat_lt (most_chunks * size) (offset + length bytes)) within

-- what the last chunk of a write holds of it, in whole chunks
reaches : (size first last count offset many skip : ℕ) → 1 ≤ many → size * first + skip ≡ offset → offset + many - 1 < size * last + size → count ≡ last + 1 - first → size * first ≤ offset
    → many ≤ count * size - skip
reaches size first last count offset many skip some split past is before =
    let h : last + 1 ≤ first → size * (last + 1) ≤ size * first = λ p. mul-le-mul_left size p in
    let enough : size * (last + 1) ≤ size * (first + count) = mul-le-mul_left size (omega arith) in
    grind (arith)

below : (size first last offset many skip i : ℕ) → 1 ≤ many → size * first + skip ≡ offset → size * last ≤ offset + many - 1 → i < last + 1 - first
    → i * size < many + skip
below size first last offset many skip i some split past less =
    let h : size * (first + i) ≤ size * last = mul-le-mul_left size (omega arith) in
    grind (arith)

not_first : (i : ℕ) → 1 ≤ i → (i == 0) ≡ false
not_first i some = grind (arith, nat_tests)

pub parts_joined : (size offset : ℕ) (bytes : List ℕ) → 1 ≤ size → is_out size offset bytes ≡ false → first_parts size offset bytes (part_count size offset bytes) ≡ bytes
parts_joined size offset bytes some within =
    let all : length bytes ≤ part_count size offset bytes * size - offset % size =
    reaches size (offset / size) ((offset + length bytes - 1) / size) (part_count size offset bytes) offset (length bytes) (offset % size)
    (not_empty size offset bytes within) (div-add-mod offset size) (let h : offset + length bytes - 1 < (offset + length bytes - 1) / size * size + size = lt-div-mul-add some in grind (arith, h)) refl (mul-div-le offset size) in
    let whole : cut size offset bytes (part_count size offset bytes) ≡ length bytes = omega arith in
    parts_before size offset bytes (part_count size offset bytes) ∙ ap (λ (n : ℕ). take n bytes) whole ∙ take-length bytes

pub part_begins : (size offset : ℕ) (bytes : List ℕ) (i : ℕ) → 1 ≤ size → is_out size offset bytes ≡ false → i < part_count size offset bytes
    → (offset / size + i) * size + part_start size offset i ≡ offset + length (first_parts size offset bytes i)
part_begins size offset bytes zero some within less = grind (arith, div-add-mod offset size)
part_begins size offset bytes (suc i) some within less =
    let under : suc i * size < length bytes + offset % size =
    below size (offset / size) ((offset + length bytes - 1) / size) offset (length bytes) (offset % size) (suc i)
    (not_empty size offset bytes within) (div-add-mod offset size) (mul-div-le (offset + length bytes - 1) size) less in
    let long : length (first_parts size offset bytes (suc i)) ≡ suc i * size - offset % size =
    ap length (parts_before size offset bytes (suc i)) ∙ length-take-le (cut size offset bytes (suc i)) bytes (omega arith) ∙ omega arith in
    let small : offset % size < size = mod-lt offset some in
    let start : part_start size offset (suc i) ≡ 0 = ap (λ (b : Bool). cond b (offset % size) 0) (not_first (suc i) (omega arith)) in
    let product : (offset / size + suc i) * size ≡ size * (offset / size) + suc i * size = grind (arith) in
    let more : size * 1 ≤ size * suc i = mul-le-mul_left size (omega arith) in
    grind (arith, long, start, product, more, small, under, div-add-mod offset size)
