-- What edits and damage leave of a chunk that was written with some bytes.
use Rattle.std.proofs.Common.{◌≡◌, ℕ, ◌+◌, ◌-◌, ◌*◌, ◌%◌, ◌≤◌, arith, refl, sym, ap, subst, List, [], ◌++◌, length, ◌∙◌, min, rules}
use Rattle.std.specs.Prelude.{Option, Some, None, Result, Ok, Err, Bool, true, false, cond, not, nat_lt, ◌==◌, ◌||◌, replicate, slice_index, slice_index_or, slice_set}
use Rattle.std.proofs.lemmas.Bool.Decides.{nat_tests}
use Rattle.std.proofs.lemmas.List.{places, same_lists, length-set}
use Rattle.gs_base.specs.declared.refusal.Refusal.{Refusal}
use Rattle.gs_base.specs.declared.refusal.Refusal.TheVariants as refusals
use Rattle.gs_block.specs.Chunk.{written}
use Rattle.gs_block.specs.Stored.{Stored}
use Rattle.gs_block.specs.Edits.{with_bytes, damaged_between, unless_damaged, write, append, pad, damage}
use Rattle.gs_block.specs.Images.{damage_before, or_same}
use Rattle.gs_block.specs.Written.{WasWritten, ToldApart}
use Rattle.gs_block.proofs.Back.{true_eq}
use Rattle.gs_block.proofs.Standing.{put_written, other, other_written}
use Rattle.gs_block.proofs.Writing.{appended_is_written, padded_is_written}

-- what an accepted edit leaves: it was in range, and gives the plain bytes
pub record Rewritten (s s2 : Stored) (fits : Bool) (edited anew : List ℕ) : Type 0 where
  pub block : s2.block ≡ s.block
  pub chunk : s2.chunk ≡ s.chunk
  pub in_range : fits ≡ true
  pub plain : s2.bytes ≡ edited
  pub bytes : WasWritten s2 anew

abbrev pub ByWrite : Stored → Stored → ℕ → List ℕ → List ℕ → Type 0
ByWrite s s2 offset piece ys = Rewritten s s2 (not ((length piece == 0) || nat_lt s.chunk (offset + length piece))) (written offset piece s.bytes) (written offset piece ys)

abbrev pub ByAppend : Stored → Stored → List ℕ → List ℕ → Type 0
ByAppend s s2 piece ys = Rewritten s s2 (not ((length piece == 0) || nat_lt s.chunk (length ys + length piece))) (s.bytes ++ piece) (ys ++ piece)

abbrev pub ByPad : Stored → Stored → List ℕ → Type 0
ByPad s s2 ys = Rewritten s s2 true (s.bytes ++ replicate (s.chunk - length s.bytes) 0) (ys ++ replicate (s.chunk - length ys) 0)

stored_or : Result Stored Refusal → Stored → Stored
stored_or (Ok s) old = s
stored_or (Err e) old = old

accepted_is : (t : Bool) (d : Option ℕ) (n s2 : Stored) → (let m : Result Stored Refusal = cond t (Err refusals.Range) (unless_damaged d n) in m) ≡ Ok s2 → (t ≡ false) × (d ≡ None) × (n ≡ s2)
unfolding stored_or
accepted_is true d n s2 e = absurd (cc)
accepted_is false None n s2 e = (refl, refl, ap (λ r. stored_or r n) e)
accepted_is false (Some k) n s2 e = absurd (cc)

padded_is : (t : Bool) (d : Option ℕ) (s n s2 : Stored) → (let m : Result Stored Refusal = cond t (Ok s) (unless_damaged d n) in m) ≡ Ok s2 → t ≡ false → (d ≡ None) × (n ≡ s2)
unfolding stored_or
padded_is true d s n s2 e h = absurd (cc)
padded_is false None s n s2 e h = (refl, ap (λ r. stored_or r n) e)
padded_is false (Some k) s n s2 e h = absurd (cc)

full_is : (t : Bool) (m : Result Stored Refusal) (s s2 : Stored) → cond t (Ok s) m ≡ Ok s2 → t ≡ true → s ≡ s2
unfolding stored_or
full_is true m s s2 e h = ap (λ r. stored_or r s) e
full_is false m s s2 e h = absurd (cc)

within : (many end chunk : ℕ) → ((many == 0) || nat_lt chunk end) ≡ false → end ≤ chunk
within many end chunk h = grind (arith, nat_tests)

pub write_edited : (s s2 : Stored) (offset : ℕ) (piece ys : List ℕ) → WasWritten s ys → ToldApart s.block s.bytes ys → write s offset piece ≡ Ok s2 → ByWrite s s2 offset piece ys
unfolding with_bytes
write_edited s s2 offset piece ys w told e =
    let at = min offset (length s.bytes) in
    let end = offset + length piece in
    let a = accepted_is ((length piece == 0) || nat_lt s.chunk end) (damaged_between s at end) (with_bytes s at end (written offset piece s.bytes)) s2 e in
    subst (λ n. ByWrite s n offset piece ys) a.2
    (record { block = refl; chunk = refl; in_range = ap not a.0; plain = refl; bytes = put_written s ys piece offset w told (within (length piece) end s.chunk a.0) a.1 })

pub append_edited : (s s2 : Stored) (piece ys : List ℕ) → WasWritten s ys → ToldApart s.block s.bytes ys → append s piece ≡ Ok s2 → ByAppend s s2 piece ys
unfolding with_bytes
append_edited s s2 piece ys w told e =
    let held = length s.bytes in
    let end = held + length piece in
    let a = accepted_is ((length piece == 0) || nat_lt s.chunk end) (damaged_between s held end) (with_bytes s held end (s.bytes ++ piece)) s2 e in
    let m : min held held ≡ held = omega arith in
    let none : damaged_between s (min held held) end ≡ None = ap (λ n. damaged_between s n end) m ∙ a.1 in
    let put = put_written s ys piece held w told (within (length piece) end s.chunk a.0) none in
    let bytes : WasWritten (with_bytes s held end (s.bytes ++ piece)) (ys ++ piece) =
    subst (λ zs. WasWritten (with_bytes s held end (s.bytes ++ piece)) zs) (ap (λ n. written n piece ys) w.long ∙ appended_is_written piece ys)
    (subst (λ xs. WasWritten (with_bytes s held end xs) (written held piece ys)) (appended_is_written piece s.bytes)
    (subst (λ n. WasWritten (with_bytes s n end (written held piece s.bytes)) (written held piece ys)) m put)) in
    subst (λ n. ByAppend s n piece ys) a.2
    (record { block = refl; chunk = refl; in_range = ap (λ n. not ((length piece == 0) || nat_lt s.chunk (n + length piece))) (sym w.long) ∙ ap not a.0; plain = refl; bytes = bytes })

nothing_missing : (chunk : ℕ) (ys : List ℕ) → length ys ≡ chunk → ys ≡ ys ++ replicate (chunk - length ys) 0
nothing_missing chunk ys full = same_lists _ _ (let e : length (ys ++ replicate (chunk - length ys) 0) ≡ length ys + (chunk - length ys) = search (rules, places) in omega arith) (λ k d h. grind (arith, places))

pad_case : (t : Bool) (s s2 : Stored) (ys : List ℕ) → (length s.bytes == s.chunk) ≡ t → WasWritten s ys → ToldApart s.block s.bytes ys → pad s ≡ Ok s2 → ByPad s s2 ys
unfolding with_bytes
pad_case true s s2 ys t w told e =
    let held = length s.bytes in
    let long = w.long in
    let full = true_eq held s.chunk t in
    subst (λ n. ByPad s n ys) (full_is (held == s.chunk) (unless_damaged (damaged_between s held s.chunk) (with_bytes s held s.chunk (s.bytes ++ replicate (s.chunk - held) 0))) s s2 e t)
    (record { block = refl; chunk = refl; in_range = refl; plain = nothing_missing s.chunk s.bytes full; bytes = subst (WasWritten s) (nothing_missing s.chunk ys (omega arith)) w })
pad_case false s s2 ys t w told e =
    let held = length s.bytes in
    let stored = w.stored in
    let fit = stored.bytes_fit in
    let long = w.long in
    let a = padded_is (held == s.chunk) (damaged_between s held s.chunk) s (with_bytes s held s.chunk (s.bytes ++ replicate (s.chunk - held) 0)) s2 e t in
    let m : min s.chunk held ≡ held = omega arith in
    let z : s.chunk + 0 ≡ s.chunk = omega arith in
    let none : damaged_between s (min s.chunk held) (s.chunk + 0) ≡ None = ap (λ n. damaged_between s n (s.chunk + 0)) m ∙ ap (damaged_between s held) z ∙ a.0 in
    let put = put_written s ys [] s.chunk w told (omega arith) none in
    let bytes : WasWritten (with_bytes s held s.chunk (s.bytes ++ replicate (s.chunk - held) 0)) (ys ++ replicate (s.chunk - length ys) 0) =
    subst (λ zs. WasWritten (with_bytes s held s.chunk (s.bytes ++ replicate (s.chunk - held) 0)) zs) (padded_is_written s.chunk ys (omega arith))
    (subst (λ xs. WasWritten (with_bytes s held s.chunk xs) (written s.chunk [] ys)) (padded_is_written s.chunk s.bytes fit)
    (subst (λ n. WasWritten (with_bytes s held n (written s.chunk [] s.bytes)) (written s.chunk [] ys)) z
    (subst (λ n. WasWritten (with_bytes s n (s.chunk + 0) (written s.chunk [] s.bytes)) (written s.chunk [] ys)) m put))) in
    subst (λ n. ByPad s n ys) a.1
    (record { block = refl; chunk = refl; in_range = refl; plain = refl; bytes = bytes })

pub pad_edited : (s s2 : Stored) (ys : List ℕ) → WasWritten s ys → ToldApart s.block s.bytes ys → pad s ≡ Ok s2 → ByPad s s2 ys
pad_edited s s2 ys w told e = pad_case (length s.bytes == s.chunk) s s2 ys refl w told e

abbrev pub hit : Stored → ℕ → List ℕ
hit s i = slice_set s.bytes (i * s.block) ((slice_index s.bytes (i * s.block) + 1) % 256)

-- what damage leaves
pub record Hit (s s2 : Stored) (ys : List ℕ) : Type 0 where
  pub block : s2.block ≡ s.block
  pub chunk : s2.chunk ≡ s.chunk
  pub bytes : WasWritten s2 ys

hit_is : (s : Stored) (k : ℕ) (ys : List ℕ) → WasWritten s ys → Hit s (other s (hit s k)) ys
hit_is s k ys w = record { block = refl; chunk = refl; bytes = other_written s (hit s k) ys (length-set s.bytes (k * s.block) _) w }

hit_case : (t : Bool) (s n s2 : Stored) (ys : List ℕ) → (let m : Result Stored Refusal = cond t (Ok n) (Err refusals.Range) in m) ≡ Ok s2 → Hit s n ys → Hit s s2 ys
unfolding stored_or
hit_case true s n s2 ys e h = subst (λ r. Hit s r ys) (ap (λ q. stored_or q n) e) h
hit_case false s n s2 ys e h = absurd (cc)

pub damage_edited : (s s2 : Stored) (k : ℕ) (ys : List ℕ) → WasWritten s ys → damage s k ≡ Ok s2 → Hit s s2 ys
damage_edited s s2 k ys w e = hit_case (nat_lt k (length s.digests)) s (other s (hit s k)) s2 ys e (hit_is s k ys w)

before_case : (t b : Bool) (s n : Stored) (ys : List ℕ) → WasWritten s ys → Hit s n ys → (let m : Result Stored Refusal = cond b (Ok n) (Err refusals.Range) in Hit s (cond t s (or_same m s)) ys)
before_case true b s n ys w h = record { block = refl; chunk = refl; bytes = w }
before_case false true s n ys w h = h
before_case false false s n ys w h = record { block = refl; chunk = refl; bytes = w }

pub damage_written : (k : ℕ) (touched : List Bool) (s : Stored) (ys : List ℕ) → WasWritten s ys → Hit s (damage_before k touched s) ys
damage_written k touched s ys w = before_case (slice_index_or touched k true) (nat_lt k (length s.digests)) s (other s (hit s k)) ys w (hit_is s k ys w)
