-- Copies that carry images.
use Rattle.std.proofs.Common.{◌≡◌, ℕ, ◌≤◌, cond, true, false, length, Option, Some, None, refl, sym, ap, subst, ◌∙◌, arith}
use Rattle.std.specs.Prelude.{Result, Ok, Err, nat_lt, ◌==◌, ◌&&◌, is_none}
use Rattle.std.specs.Result.{result_err}
use Rattle.std.proofs.lemmas.Bool.Decides.{nat_tests}
use Rattle.gs_base.specs.declared.numbers.Stamp.{Stamp}
use Rattle.gs_base.specs.declared.refusal.Refusal.{Refusal}
use Rattle.gs_base.specs.declared.refusal.Refusal.TheVariants.{Range, BadLine}
use Rattle.gs_block.specs.Stored.{Stored, IsStored, count_of, digests_of, first_damaged, are_digests}
use Rattle.gs_block.specs.Edits.{unless_damaged, carried, chunk_of}
use Rattle.gs_block.proofs.Matching.{matching}
use Rattle.gs_block.proofs.Restoring.{undone_stored}
use Rattle.gs_replica.specs.declared.seal.Seal.{Seal}
use Rattle.gs_replica.specs.Held.{Held}
use Rattle.gs_replica.specs.Edits.{held_of, copied}
use Rattle.gs_replica.specs.Seals.{Sealed, with_seal, sealed_of, lowest_damaged, roll_back, roll_back_to}
use Rattle.gs_replica.specs.Copies.{SealedImage, image_of, image, as_sealed, sealed_image, sealed_image_of, of_image, of_sealed, sealed_there, and_then}
use Rattle.gs_replica.specs.View.{seen_in, BelongsIn}
use Rattle.gs_replica.specs.Whole.{IsUndoneOf, HasUndone}
use Rattle.gs_replica.proofs.Sealing.{state, rolled}

not_past : (m n : ℕ) → n ≤ m → nat_lt m n ≡ false
not_past m n h = grind (arith, nat_tests)

same_many : (m n : ℕ) → m ≡ n → (m == n) ≡ true
same_many m n h = grind (arith, nat_tests)

-- the bytes and digests of a chunk in memory are carried as they are
carried_as : (s : Stored) → IsStored s → carried s.block s.chunk s.bytes s.digests ≡ Ok s
carried_as s stored =
    ap (λ b. cond b (Err Range) (cond (length s.digests == count_of s.block (length s.bytes)) (Ok s) (Err BadLine))) (not_past s.chunk (length s.bytes) stored.bytes_fit)
    ∙ ap (λ b. cond b (Ok s) (Err BadLine)) (same_many (length s.digests) (count_of s.block (length s.bytes)) stored.each)

carried_of : (s : Stored) (t : Sealed) → IsUndoneOf s t → carried s.block s.chunk t.undone.bytes t.undone.digests ≡ Ok t.undone
carried_of s t is =
    ap (λ b. carried b s.chunk t.undone.bytes t.undone.digests) (sym is.block)
    ∙ ap (λ c. carried t.undone.block c t.undone.bytes t.undone.digests) (sym is.chunk)
    ∙ carried_as t.undone is.stored

-- the replica that is made of a sealed image
abbrev there : Sealed → Held
there t = record { chunk = t.undone; count = t.count; done = t.done; promise = t.stamp }

made : (s : Stored) (t : Sealed) → IsUndoneOf s t → of_sealed s.block s.chunk (as_sealed t) ≡ Ok (state (there t) (Some (sealed_of (there t))))
made s t is = ap (λ m. sealed_there (held_of t.stamp t.count t.done m)) (carried_of s t is)

rolls : (start : Stamp) (h : Held) (t : Sealed) → IsUndoneOf h.chunk t → and_then (of_sealed h.chunk.block h.chunk.chunk (as_sealed t)) (roll_back start) ≡ roll_back_to start (Some t)
rolls start h t is = ap (λ m. and_then m (roll_back start)) (made h.chunk t is)

carries : (h : Held) (t : Sealed) → IsUndoneOf h.chunk t → lowest_damaged t.undone ≡ None → and_then (of_sealed h.chunk.block h.chunk.chunk (as_sealed t)) sealed_image ≡ Ok (as_sealed t)
carries h t is none = ap (λ m. and_then m sealed_image) (made h.chunk t is) ∙ ap (λ d. unless_damaged d (as_sealed t)) none

ok_or : {A : Type 0} → Result A Refusal → A → A
ok_or (Ok a) b = a
ok_or (Err e) b = b

unless_ok : (d : Option ℕ) (a i : SealedImage) → unless_damaged d a ≡ Ok i → (d ≡ None) × (a ≡ i)
unfolding ok_or
unless_ok None a i e = (refl, ap (λ r. ok_or r a) e)
unless_ok (Some k) a i e = absurd (cc)

-- a carried seal rolls back as its source
pub carried_rolls : (start : Stamp) (h : Held) (o : Option Sealed) (i : SealedImage) → HasUndone h.chunk o → sealed_image_of o ≡ Ok i → and_then (of_sealed h.chunk.block h.chunk.chunk i) (roll_back start) ≡ roll_back_to start o
carried_rolls start h None i is e = absurd (cc)
carried_rolls start h (Some t) i is e =
    let found = unless_ok (lowest_damaged t.undone) (as_sealed t) i e in
    subst (λ (j : SealedImage). and_then (of_sealed h.chunk.block h.chunk.chunk j) (roll_back start) ≡ roll_back_to start (Some t)) found.1 (rolls start h t is)

-- and is carried on
pub carried_again : (h : Held) (o : Option Sealed) (i : SealedImage) → HasUndone h.chunk o → sealed_image_of o ≡ Ok i → and_then (of_sealed h.chunk.block h.chunk.chunk i) sealed_image ≡ Ok i
carried_again h None i is e = absurd (cc)
carried_again h (Some t) i is e =
    let found = unless_ok (lowest_damaged t.undone) (as_sealed t) i e in
    subst (λ (j : SealedImage). and_then (of_sealed h.chunk.block h.chunk.chunk j) sealed_image ≡ Ok j) found.1 (carries h t is found.0)

same_refusal : {A B : Type 0} (d : Option ℕ) (a : A) (b : B) → result_err (unless_damaged d a) ≡ result_err (unless_damaged d b)
same_refusal None a b = refl
same_refusal (Some k) a b = refl

-- a seal is carried exactly where its source rolls back
pub refused_same : (promise : Stamp) (o : Option Sealed) → result_err (sealed_image_of o) ≡ result_err (roll_back_to promise o)
refused_same promise None = refl
refused_same promise (Some t) = same_refusal (lowest_damaged t.undone) (as_sealed t) (rolled promise t)

-- digests that are taken anew are those that were verified
anew : (s : Stored) → IsStored s → lowest_damaged s ≡ None → chunk_of s.block s.chunk s.bytes ≡ Ok s
anew s stored none =
    let many = count_of s.block (length s.bytes) in
    let counted : first_damaged s.block s.bytes s.digests 0 many ≡ None = subst (λ n. first_damaged s.block s.bytes s.digests 0 n ≡ None) stored.each none in
    let are : are_digests s.block s.bytes s.digests ≡ true =
    ap (λ b. b && is_none (first_damaged s.block s.bytes s.digests 0 many)) (same_many (length s.digests) many stored.each) ∙ ap is_none counted in
    let digests : s.digests ≡ digests_of s.block s.bytes = matching s.block s.bytes s.digests are in
    let same : (let n : Stored = record { block = s.block; chunk = s.chunk; bytes = s.bytes; digests = digests_of s.block s.bytes } in n) ≡ s =
    λ k. record { block = s.block; chunk = s.chunk; bytes = s.bytes; digests = sym digests k } in
    ap (λ b. cond b (Err Range) (Ok (record { block = s.block; chunk = s.chunk; bytes = s.bytes; digests = digests_of s.block s.bytes }))) (not_past s.chunk (length s.bytes) stored.bytes_fit)
    ∙ ap (λ (n : Stored). Ok n) same

stands_at : (h : Held) (stamp : Stamp) (d : Option ℕ) → IsStored h.chunk → lowest_damaged h.chunk ≡ d →
    and_then (unless_damaged d (image_of h)) (of_image h.chunk.block h.chunk.chunk stamp) ≡ with_seal None (held_of stamp h.count h.done (unless_damaged d h.chunk))
stands_at h stamp None stored none = ap (λ m. with_seal None (held_of stamp h.count h.done m)) (anew h.chunk stored none)
stands_at h stamp (Some k) stored found = refl

-- a replica of an image stands as its source
pub stands_as : (h : Held) (sealed : Option Sealed) (stamp : Stamp) → IsStored h.chunk → and_then (image (state h sealed)) (of_image h.chunk.block h.chunk.chunk stamp) ≡ with_seal None (copied stamp h)
stands_as h sealed stamp stored = stands_at h stamp (lowest_damaged h.chunk) stored refl

-- what undoing gives is whole where its images belong to what stands
pub has_undone : (h : Held) (o : Option Seal) → IsStored h.chunk → BelongsIn h o → HasUndone h.chunk (seen_in h o)
has_undone h None stored belongs = tt
has_undone h (Some s) stored belongs = record { block = refl; chunk = refl; stored = undone_stored s.images h.chunk stored belongs.first }
