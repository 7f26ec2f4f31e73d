-- What damage of a block leaves.
use Rattle.std.proofs.Common.{◌≡◌, ◌≢◌, ℕ, ◌+◌, ◌*◌, ◌%◌, ◌<◌, ◌≤◌, ⊎_elim, arith, refl, sym, ap, subst, ◌∙◌, List, drop, length, set, length-set, length-take, Bool, true, false, cond}
use Rattle.std.specs.Prelude.{Result, Ok, Err, nat_lt, slice_index}
use Rattle.std.proofs.lemmas.Bool.{cases_lt}
use Rattle.std.proofs.lemmas.List.{same_lists, get_or-set_other, length-drop}
use Rattle.std.proofs.Math.Nat.{mul-le-mul_right, add-mul}
use Rattle.gs_base.specs.declared.refusal.Refusal.{Refusal}
use Rattle.gs_base.specs.declared.refusal.Refusal.TheVariants as refusals
use Rattle.gs_block.specs.Kept.{Others}
use Rattle.gs_block.specs.Stored.{Stored, block_at}
use Rattle.gs_block.specs.Edits.{damage}
use Rattle.gs_block.proofs.Counts.{one_times}
use Rattle.gs_block.proofs.Damaging.{with_byte}
use Rattle.gs_block.proofs.Telling.{part_at}

one_more : (size i : ℕ) → (i + 1) * size ≡ i * size + size
one_more size i = add-mul i 1 size ∙ ap (λ k. i * size + k) (one_times size)

-- a place of one block isn't the first of another
elsewhere : (size k index j : ℕ) → 1 ≤ size → k ≢ index → j < size → k * size + j ≢ index * size
elsewhere size k index j some other low is =
    ⊎_elim
    (λ (below : k < index).
    let up : (k + 1) * size ≤ index * size = mul-le-mul_right size (let n : k + 1 ≤ index = omega arith in n) in
    let one = one_more size k in
    omega arith)
    (λ (above : index ≤ k).
    let past : index + 1 ≤ k = omega arith in
    let up : (index + 1) * size ≤ k * size = mul-le-mul_right size past in
    let one = one_more size index in
    omega arith)
    (cases_lt k index)

other_block : (size k index v : ℕ) (bytes : List ℕ) → 1 ≤ size → k ≢ index → block_at size k (set bytes (index * size) v) ≡ block_at size k bytes
other_block size k index v bytes some other =
    let at = k * size in
    let hit = set bytes (index * size) v in
    let many = length-set bytes (index * size) v in
    let held = length-take size (drop at hit) in
    let rest = length-drop at hit in
    let held2 = length-take size (drop at bytes) in
    let rest2 = length-drop at bytes in
    same_lists _ _ (omega arith)
    (λ j d below.
    let low : j < size = omega arith in
    sym (part_at hit size at j d low) ∙ get_or-set_other bytes (index * size) (at + j) v d (elsewhere size k index j some other low) ∙ part_at bytes size at j d low)

pub byte_others : (s : Stored) (index v : ℕ) → 1 ≤ s.block → Others index s (with_byte s (index * s.block) v)
byte_others s index v some = record {
  block = refl;
  chunk = refl;
  long = length-set s.bytes (index * s.block) v;
  digests = refl;
  others = λ k other. other_block s.block k index v s.bytes some other;
}

stored_or : Result Stored Refusal → Stored → Stored
stored_or (Ok s) old = s
stored_or (Err e) old = old

hit_others : (t : Bool) (index : ℕ) (s n s2 : Stored) → (let m : Result Stored Refusal = cond t (Ok n) (Err refusals.Range) in m) ≡ Ok s2 → Others index s n → Others index s s2
unfolding stored_or
hit_others true index s n s2 e h = subst (Others index s) (ap (λ q. stored_or q n) e) h
hit_others false index s n s2 e h = absurd (cc)

pub damage_others : (s s2 : Stored) (index : ℕ) → 1 ≤ s.block → damage s index ≡ Ok s2 → Others index s s2
damage_others s s2 index some e =
    let v = (slice_index s.bytes (index * s.block) + 1) % 256 in
    hit_others (nat_lt index (length s.digests)) index s (with_byte s (index * s.block) v) s2 e (byte_others s index v some)
