-- Edits that follow their definition.
use Rattle.std.proofs.Common.{◌≡◌, ℕ, ◌+◌, ◌-◌, ◌/◌, ◌<◌, ◌≤◌, arith, refl, sym, ap, subst, List, [], ◌++◌, take, drop, length, ◌∙◌, min, inl, rules, length-take}
use Rattle.std.specs.Prelude.{Some, None, Result, Ok, Err, cond, false, true, nat_lt, ◌==◌, ◌||◌}
use Rattle.gs_base.specs.declared.refusal.Refusal.{Refusal}
use Rattle.gs_base.specs.declared.refusal.Refusal.TheVariants.{Damaged, Range, BadLine}
use Rattle.gs_block.specs.Stored.{Stored, IsStored, count_of, digests_from}
use Rattle.gs_block.specs.Chunk.{written, appended, padded}
use Rattle.gs_block.proofs.Writing.{appended_is_written, padded_is_written}
use Rattle.gs_block.specs.Edits.{append, pad, read, changed, unless_damaged, damaged_between, with_bytes}
use Rattle.gs_base.specs.Calls.{Follows, Does, Answers}
use Rattle.gs_block.specs.Inverses.{Inverse, undo, fits, restored, replaced}
use Rattle.gs_block.proofs.Counts.{count_mono}
use Rattle.std.proofs.lemmas.Bool.Decides.{nat_tests}
use Rattle.std.proofs.lemmas.List.{places, same_lists}

lt_true : (m n : ℕ) → m < n → nat_lt m n ≡ true
lt_true m n h = grind (arith, nat_tests)

pub refused : (B : Type 0) (s : Stored) (at end : ℕ) (bytes : List ℕ) (index : ℕ) → damaged_between s at end ≡ Some index →
    Follows {B = B} (changed s at end bytes) (Err (Damaged index)) s s
refused B s at end bytes index found = subst (λ o. Follows {B = B} (unless_damaged o (with_bytes s at end bytes)) (Err (Damaged index)) s s) (sym found) (inl refl, refl)

pub accepted : (B : Type 0) (s new : Stored) (at end : ℕ) (bytes : List ℕ) (b : B) → damaged_between s at end ≡ None → new ≡ with_bytes s at end bytes →
    Follows {B = B} (changed s at end bytes) (Ok b) s new
accepted B s new at end bytes b none is = subst (λ o. Follows {B = B} (unless_damaged o (with_bytes s at end bytes)) (Ok b) s new) (sym none) is

pub stays_stored : (block chunk : ℕ) (bytes new : List ℕ) (digests news : List (List ℕ)) →
    IsStored (record { block = block; chunk = chunk; bytes = bytes; digests = digests }) →
    length new ≤ chunk → length news ≡ count_of block (length new) →
    IsStored (record { block = block; chunk = chunk; bytes = new; digests = news })
stays_stored block chunk bytes new digests news s fit each = record {
  some_block = s.some_block;
  block_fits = s.block_fits;
  chunk_fits = s.chunk_fits;
  bytes_fit = fit;
  each = each;
}

-- the fields that a write leaves are the definition's state
pub new_is : (offset : ℕ) (piece : List ℕ) (inside s : Stored) (bytes : List ℕ) (digests : List (List ℕ)) → inside ≡ s →
    bytes ≡ written offset piece inside.bytes →
    digests ≡ take (min offset (length inside.bytes) / inside.block) inside.digests ++ (digests_from inside.block (written offset piece inside.bytes) (min offset (length inside.bytes) / inside.block) (count_of inside.block (offset + length piece) - min offset (length inside.bytes) / inside.block) ++ drop (count_of inside.block (offset + length piece)) inside.digests) →
    (let new : Stored = record { block = inside.block; chunk = inside.chunk; bytes = bytes; digests = digests } in new) ≡ with_bytes s (min offset (length s.bytes)) (offset + length piece) (written offset piece s.bytes)
unfolding with_bytes
new_is offset piece inside s bytes digests same bytes_are digests_are =
    let new : Stored = record { block = inside.block; chunk = inside.chunk; bytes = bytes; digests = digests } in
    subst (λ (t : Stored). new ≡ with_bytes t (min offset (length t.bytes)) (offset + length piece) (written offset piece t.bytes)) same
    (λ i. record { block = inside.block; chunk = inside.chunk; bytes = bytes_are i; digests = digests_are i })

-- an append and a padding as writes
pub append_follows : (B : Type 0) (r : Result B Refusal) (s new : Stored) (piece : List ℕ) → ((length piece == 0) || nat_lt s.chunk (length s.bytes + length piece)) ≡ false →
    Follows {B = B} (changed s (min (length s.bytes) (length s.bytes)) (length s.bytes + length piece) (written (length s.bytes) piece s.bytes)) r s new →
    Follows {B = B} (append s piece) r s new
append_follows B r s new piece inside h =
    let m : min (length s.bytes) (length s.bytes) ≡ length s.bytes = omega arith in
    subst (λ t. Follows {B = B} (cond t (Err Range) (changed s (length s.bytes) (length s.bytes + length piece) (appended piece s.bytes))) r s new) (sym inside)
    (subst (λ xs. Follows {B = B} (changed s (length s.bytes) (length s.bytes + length piece) xs) r s new) (appended_is_written piece s.bytes)
    (subst (λ a. Follows {B = B} (changed s a (length s.bytes + length piece) (written (length s.bytes) piece s.bytes)) r s new) m h))

pub pad_follows : (B : Type 0) (r : Result B Refusal) (s new : Stored) → (length s.bytes == s.chunk) ≡ false → length s.bytes ≤ s.chunk →
    Follows {B = B} (changed s (min s.chunk (length s.bytes)) (s.chunk + 0) (written s.chunk [] s.bytes)) r s new →
    Follows {B = B} (pad s) r s new
pad_follows B r s new short within h =
    let m : min s.chunk (length s.bytes) ≡ length s.bytes = omega arith in
    let e : s.chunk + 0 ≡ s.chunk = omega arith in
    subst (λ t. Follows {B = B} (cond t (Ok s) (changed s (length s.bytes) s.chunk (padded s.chunk s.bytes))) r s new) (sym short)
    (subst (λ xs. Follows {B = B} (changed s (length s.bytes) s.chunk xs) r s new) (padded_is_written s.chunk s.bytes within)
    (subst (λ n. Follows {B = B} (changed s (length s.bytes) n (written s.chunk [] s.bytes)) r s new) e
    (subst (λ a. Follows {B = B} (changed s a (s.chunk + 0) (written s.chunk [] s.bytes)) r s new) m h)))

pub read_refused : (B : Type 0) (view : B → List ℕ) (s : Stored) (offset many index : ℕ) → offset + many ≤ s.chunk → offset < min (offset + many) (length s.bytes) →
    damaged_between s offset (min (offset + many) (length s.bytes)) ≡ Some index → Answers {A = List ℕ} {B = B} view (read s offset many) (Err (Damaged index))
read_refused B view s offset many index inside some found =
    let a : nat_lt s.chunk (offset + many) ≡ false = grind (arith, nat_tests) in
    let b : nat_lt offset (min (offset + many) (length s.bytes)) ≡ true = lt_true offset (min (offset + many) (length s.bytes)) some in
    rw (a, b, found) refl

pub read_given : (B : Type 0) (view : B → List ℕ) (s : Stored) (offset many : ℕ) (part : B) → offset + many ≤ s.chunk → offset < min (offset + many) (length s.bytes) →
    damaged_between s offset (min (offset + many) (length s.bytes)) ≡ None → view part ≡ take many (drop offset s.bytes) → Answers {A = List ℕ} {B = B} view (read s offset many) (Ok part)
read_given B view s offset many part inside some none is =
    let a : nat_lt s.chunk (offset + many) ≡ false = grind (arith, nat_tests) in
    let b : nat_lt offset (min (offset + many) (length s.bytes)) ≡ true = lt_true offset (min (offset + many) (length s.bytes)) some in
    rw (a, b, none) is

-- a part that ends with the bytes is the part that is asked for
pub asked_part : (offset many : ℕ) (bytes : List ℕ) → offset < min (offset + many) (length bytes) → take (min (offset + many) (length bytes) - offset) (drop offset bytes) ≡ take many (drop offset bytes)
asked_part offset many bytes some = same_lists _ _ (search (rules, places)) (λ k d h. grind (arith, places))

pub undo_does : (i : Inverse) (s new : Stored) → fits i s ≡ true → new ≡ restored i s → Does {B = Unit {0}} (undo i s) (Ok tt) s new
undo_does i s new fit is = subst (λ b. Does {B = Unit {0}} (cond b (Ok (restored i s)) (Err BadLine)) (Ok tt) s new) (sym fit) is

pub length-replaced : {A : Type 0} (xs : List A) (at : ℕ) (ys : List A) → at + length ys ≤ length xs → length (replaced xs at ys) ≡ length xs
length-replaced xs at ys within =
    let e : length (replaced xs at ys) ≡ min at (length xs) + (length ys + (length xs - (at + length ys))) = search (rules, places) in
    omega arith

pub restored_stored : (block chunk old at : ℕ) (bytes ib : List ℕ) (digests ids : List (List ℕ)) →
    IsStored (record { block = block; chunk = chunk; bytes = bytes; digests = digests }) →
    at + length ib ≤ length bytes → at / block + length ids ≤ length digests → old ≤ length bytes →
    IsStored (record { block = block; chunk = chunk; bytes = take old (replaced bytes at ib); digests = take (count_of block old) (replaced digests (at / block) ids) })
restored_stored block chunk old at bytes ib digests ids s bytes_in digests_in less =
    let b : length (take old (replaced bytes at ib)) ≡ old = length-take old (replaced bytes at ib) ∙ (let l = length-replaced bytes at ib bytes_in in omega arith) in
    let up = count_mono block old (length bytes) s.some_block less in
    let each = s.each in
    let d : length (take (count_of block old) (replaced digests (at / block) ids)) ≡ count_of block old = length-take (count_of block old) (replaced digests (at / block) ids) ∙ (let l = length-replaced digests (at / block) ids digests_in in omega arith) in
    let fit = s.bytes_fit in
    stays_stored block chunk bytes (take old (replaced bytes at ib)) digests (take (count_of block old) (replaced digests (at / block) ids)) s
    (let l : length (take old (replaced bytes at ib)) ≤ chunk = omega arith in l)
    (d ∙ ap (count_of block) (sym b))
