-- An edit that is taken back.
use Rattle.std.proofs.Common.{true≢false, ◌≡◌, ℕ, ◌+◌, ◌-◌, ◌/◌, ◌<◌, ◌≤◌, arith, refl, sym, ap, subst, List, ◌++◌, take, drop, length, ◌∙◌, min, max, rules, ⊎_elim, append_assoc, length-take, length-drop}
use Rattle.std.proofs.lemmas.Bool.Decides.{nat_tests}
use Rattle.std.specs.Prelude.{Bool, Ok, Err, cond, true, false, nat_le, ◌&&◌, ◌==◌}
use Rattle.gs_base.specs.declared.refusal.Refusal.TheVariants.{BadLine}
use Rattle.std.proofs.lemmas.List.{places, take_all, take_at, take-append-drop}
use Rattle.std.proofs.lemmas.List.Edits.{split_between}
use Rattle.std.proofs.lemmas.Bool.{cases_lt}
use Rattle.gs_block.specs.Stored.{Stored, IsStored, count_of}
use Rattle.gs_block.specs.Inverses.{Inverse, inverse_of, replaced, restored, fits, undo}
use Rattle.gs_block.proofs.Counts.{first_counted}

-- what stood between two places is put back over what has the same before them and behind them
pub back : {A : Type 0} (xs new : List A) (at end : ℕ) → at ≤ length xs → at ≤ end → take at new ≡ take at xs → drop end new ≡ drop end xs →
    take (length xs) (replaced new at (take (end - at) (drop at xs))) ≡ xs
back {A} xs new at end within order before behind = ⊎_elim
    (λ (past : length xs < end).
    let whole : take (end - at) (drop at xs) ≡ drop at xs = take_all (end - at) (drop at xs) (let l = length-drop at xs in omega arith) in
    ap (λ (s : List A). take (length xs) (replaced new at s)) whole
    ∙ ap (λ (s : List A). take (length xs) (s ++ (drop at xs ++ drop (at + length (drop at xs)) new))) before
    ∙ ap (take (length xs)) (sym (append_assoc (take at xs) (drop at xs) (drop (at + length (drop at xs)) new)))
    ∙ take_at (take at xs ++ drop at xs) (drop (at + length (drop at xs)) new) (length xs) (ap length (take-append-drop at xs))
    ∙ take-append-drop at xs)
    (λ (below : end ≤ length xs).
    let long : at + length (take (end - at) (drop at xs)) ≡ end = (let l : length (take (end - at) (drop at xs)) ≡ end - at = search (rules, places) in omega arith) in
    ap (λ (s : List A). take (length xs) (s ++ (take (end - at) (drop at xs) ++ drop (at + length (take (end - at) (drop at xs))) new))) before
    ∙ ap (λ n. take (length xs) (take at xs ++ (take (end - at) (drop at xs) ++ drop n new))) long
    ∙ ap (λ (s : List A). take (length xs) (take at xs ++ (take (end - at) (drop at xs) ++ s))) behind
    ∙ ap (take (length xs)) (sym (split_between xs at end order))
    ∙ take_all (length xs) xs (omega arith))
    (cases_lt (length xs) end)

pub held_le : {A : Type 0} (xs : List A) (at end : ℕ) → at ≤ length xs → at + length (take (end - at) (drop at xs)) ≤ length xs
held_le xs at end within =
    let l : length (take (end - at) (drop at xs)) ≡ min (end - at) (length (drop at xs)) = length-take (end - at) (drop at xs) in
    let d = length-drop at xs in
    omega arith

all_true : (a b c d : Bool) → a ≡ true → b ≡ true → c ≡ true → d ≡ true → (a && (b && (c && d))) ≡ true
all_true a b c d ha hb hc hd = rw (ha, hb, hc, hd) refl

pub eq_true : (m n : ℕ) → m ≡ n → (m == n) ≡ true
eq_true m n e = grind (arith, nat_tests)

le_true : (m n : ℕ) → m ≤ n → nat_le m n ≡ true
le_true m n e = grind (arith, nat_tests)

fits_so : (s : Stored) (at end : ℕ) (new : Stored) → IsStored s → at ≤ length s.bytes → new.block ≡ s.block → length new.bytes ≡ max (length s.bytes) end → fits (inverse_of s at end) new ≡ true
unfolding fits inverse_of
fits_so s at end new stored within same long =
    let low = first_counted s.block at (length s.bytes) stored.some_block within in
    let each = stored.each in
    let held = held_le s.digests (at / s.block) (count_of s.block end) (let l : at / s.block ≤ length s.digests = omega arith in l) in
    let top : at / s.block + length (take (count_of s.block end - at / s.block) (drop (at / s.block) s.digests)) ≤ count_of s.block (length s.bytes) = omega arith in
    all_true _ _ _ _
    (eq_true (length new.bytes) (max (length s.bytes) end) long)
    (le_true (length s.bytes) (max (length s.bytes) end) (omega arith))
    (le_true (at + length (take (end - at) (drop at s.bytes))) (length s.bytes) (held_le s.bytes at end within))
    (le_true (at / new.block + length (take (count_of s.block end - at / s.block) (drop (at / s.block) s.digests))) (count_of new.block (length s.bytes))
    (subst (λ b. at / b + length (take (count_of s.block end - at / s.block) (drop (at / s.block) s.digests)) ≤ count_of b (length s.bytes)) (sym same) top))

-- the inverse of an edit between two places leads back from all that is the same before them and behind them
pub leads_back : (s new : Stored) (at end : ℕ) → IsStored s → at ≤ length s.bytes → at ≤ end →
    new.block ≡ s.block → new.chunk ≡ s.chunk → length new.bytes ≡ max (length s.bytes) end →
    take at new.bytes ≡ take at s.bytes → drop end new.bytes ≡ drop end s.bytes →
    take (at / s.block) new.digests ≡ take (at / s.block) s.digests → drop (count_of s.block end) new.digests ≡ drop (count_of s.block end) s.digests →
    undo (inverse_of s at end) new ≡ Ok s
unfolding restored inverse_of
leads_back s new at end stored within order block chunk long before behind digests_before digests_behind =
    let low = first_counted s.block at (length s.bytes) stored.some_block within in
    let each = stored.each in
    let first_in : at / s.block ≤ length s.digests = omega arith in
    let first_last = first_counted s.block at end stored.some_block order in
    let bytes = back s.bytes new.bytes at end within order before behind in
    let saved = take (count_of s.block end - at / s.block) (drop (at / s.block) s.digests) in
    let digests : take (count_of new.block (length s.bytes)) (replaced new.digests (at / new.block) saved) ≡ s.digests =
    ap (λ b. take (count_of b (length s.bytes)) (replaced new.digests (at / b) saved)) block
    ∙ ap (λ n. take n (replaced new.digests (at / s.block) saved)) (sym each)
    ∙ back s.digests new.digests (at / s.block) (count_of s.block end) first_in first_last digests_before digests_behind in
    let same : restored (inverse_of s at end) new ≡ s = λ i. record { block = block i; chunk = chunk i; bytes = bytes i; digests = digests i } in
    ap (λ b. cond b (Ok (restored (inverse_of s at end) new)) (Err BadLine)) (fits_so s at end new stored within block long)
    ∙ ap (λ (r : Stored). Ok r) same

-- an inverse that leads nowhere else where nothing was changed
pub stays_back : (s : Stored) (at : ℕ) → IsStored s → at ≡ length s.bytes → undo (inverse_of s at at) s ≡ Ok s
stays_back s at stored is = leads_back s s at at stored (omega arith) (omega arith) refl refl (omega arith) refl refl refl refl

-- what an inverse that fits says
pub record FitsAt (i : Inverse) (s : Stored) : Type 0 where
  pub long : length s.bytes ≡ i.new_length
  pub grown : i.old_length ≤ i.new_length
  pub bytes : i.at + length i.bytes ≤ i.old_length
  pub digests : i.at / s.block + length i.digests ≤ count_of s.block i.old_length

first_so : (a b : Bool) → (a && b) ≡ true → a ≡ true
first_so true b h = refl
first_so false b h = h

second_so : (a b : Bool) → (a && b) ≡ true → b ≡ true
second_so true b h = h
second_so false b h = absurd (true≢false (sym h))

pub true_eq : (m n : ℕ) → (m == n) ≡ true → m ≡ n
true_eq m n h = grind (arith, nat_tests)

true_le : (m n : ℕ) → nat_le m n ≡ true → m ≤ n
true_le m n h = grind (arith, nat_tests)

pub fits_at : (i : Inverse) (s : Stored) → fits i s ≡ true → FitsAt i s
unfolding fits
fits_at i s h =
    let a = first_so (length s.bytes == i.new_length) _ h in
    let h1 = second_so (length s.bytes == i.new_length) _ h in
    let b = first_so (nat_le i.old_length i.new_length) _ h1 in
    let h2 = second_so (nat_le i.old_length i.new_length) _ h1 in
    let d = first_so (nat_le (i.at + length i.bytes) i.old_length) _ h2 in
    let e = second_so (nat_le (i.at + length i.bytes) i.old_length) _ h2 in
    record {
      long = true_eq (length s.bytes) i.new_length a;
      grown = true_le i.old_length i.new_length b;
      bytes = true_le (i.at + length i.bytes) i.old_length d;
      digests = true_le (i.at / s.block + length i.digests) (count_of s.block i.old_length) e;
    }
