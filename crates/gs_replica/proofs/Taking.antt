-- An undamaged replica takes what its list takes, and stays undamaged.
use Rattle.std.proofs.Common.{◌≡◌, ℕ, ◌+◌, ◌-◌, ◌/◌, arith, refl, sym, ap, subst, List, [], ◌∷◌, ◌++◌, length, ◌∙◌, min}
use Rattle.std.specs.Prelude.{Option, Some, None, Result, Ok, Err, is_ok, Bool, true, false, cond, not, nat_lt, ◌==◌, ◌&&◌, ◌||◌}
use Rattle.std.specs.FinMap as fin
use Rattle.std.proofs.lemmas.Bool.{not-true}
use Rattle.std.proofs.lemmas.Bool.Decides.{nat_tests}
use Rattle.gs_base.specs.declared.numbers.Stamp.{Stamp}
use Rattle.gs_base.specs.declared.numbers.ReqId.{ReqId}
use Rattle.gs_base.specs.declared.refusal.Refusal.{Refusal}
use Rattle.gs_base.specs.declared.refusal.Refusal.TheVariants as refusals
use Rattle.gs_block.specs.Stored.{Stored, IsStored, count_of, first_damaged, digests_of}
use Rattle.gs_block.specs.Edits.{damaged_between, unless_damaged}
use Rattle.gs_block.proofs.Matching.{none_damaged, intact_none}
use Rattle.gs_replica.specs.declared.op.Op.{Op}
use Rattle.gs_replica.specs.declared.op.Op.TheVariants.{Write, Append, Pad}
use Rattle.gs_replica.specs.Held.{Held}
use Rattle.gs_base.specs.Stamps.{is_same}
use Rattle.gs_replica.specs.Edits as edits
use Rattle.gs_replica.specs.Seals.{Sealed, State, with_seal, lowest_damaged}
use Rattle.gs_replica.specs.Copies.{Image}
use Rattle.gs_block.specs.Written.{WasWritten}
use Rattle.gs_replica.specs.Stands.{Edit, edited_bytes, is_in_range, IsTaken, replica_of}
use Rattle.gs_replica.proofs.Own.{Own}
use Rattle.gs_block.proofs.Standing.{all_intact}
use Rattle.gs_replica.proofs.Standing.{edit_written}
use Rattle.gs_replica.proofs.Listing.{judged_ok, taken_at_last}
use Rattle.gs_replica.proofs.Keeping.{own_intact}

undamaged_between : (s : Stored) (at end : ℕ) → lowest_damaged s ≡ None → damaged_between s at end ≡ None
unfolding damaged_between
undamaged_between s at end none =
    intact_none s.block s.bytes s.digests (at / s.block) (min (count_of s.block end) (length s.digests) - at / s.block)
    (λ i low high. none_damaged s.block s.bytes s.digests 0 (length s.digests) i none (omega arith) (omega arith))

ok_edit : (t : Bool) (d : Option ℕ) (n : Stored) → t ≡ false → d ≡ None → (let m : Result Stored Refusal = cond t (Err refusals.Range) (unless_damaged d n) in is_ok m) ≡ true
ok_edit true d n h none = absurd (cc)
ok_edit false None n h none = refl
ok_edit false (Some k) n h none = absurd (cc)

ok_pad : (t : Bool) (d : Option ℕ) (s n : Stored) → d ≡ None → (let m : Result Stored Refusal = cond t (Ok s) (unless_damaged d n) in is_ok m) ≡ true
ok_pad true d s n none = refl
ok_pad false None s n none = refl
ok_pad false (Some k) s n none = absurd (cc)

-- an undamaged chunk takes an edit that is in range
edited_ok : (op : Op) (piece : List ℕ) (s : Stored) → lowest_damaged s ≡ None → is_in_range s.chunk op piece (length s.bytes) ≡ true → is_ok (edits.edited op piece s) ≡ true
edited_ok (Write offset) piece s none fits =
    ok_edit ((length piece == 0) || nat_lt s.chunk (offset + length piece)) (damaged_between s (min offset (length s.bytes)) (offset + length piece)) _
    (not-true _ fits) (undamaged_between s (min offset (length s.bytes)) (offset + length piece) none)
edited_ok Append piece s none fits =
    ok_edit ((length piece == 0) || nat_lt s.chunk (length s.bytes + length piece)) (damaged_between s (length s.bytes) (length s.bytes + length piece)) _
    (not-true _ fits) (undamaged_between s (length s.bytes) (length s.bytes + length piece) none)
edited_ok Pad piece s none fits = ok_pad (length s.bytes == s.chunk) (damaged_between s (length s.bytes) s.chunk) s _ (undamaged_between s (length s.bytes) s.chunk none)

range_long : (chunk : ℕ) (op : Op) (piece : List ℕ) (m n : ℕ) → m ≡ n → is_in_range chunk op piece n ≡ true → is_in_range chunk op piece m ≡ true
range_long chunk op piece m n is fits = ap (is_in_range chunk op piece) is ∙ fits

both_parts : (a b : Bool) → (not a && b) ≡ true → (a ≡ false) × (b ≡ true)
both_parts true b h = absurd (cc)
both_parts false b h = (refl, h)

ok_all : (a b c : Bool) (x y : Refusal) (r : Held) (req : ReqId) (op : Op) (m : Result Stored Refusal) (o : Option Sealed) → a ≡ true → b ≡ true → c ≡ false → is_ok m ≡ true →
    is_ok (with_seal o (edits.unless_refused (cond a (cond b (cond c (Some refusals.Old) None) (Some x)) (Some y)) (edits.with_edit r req op m))) ≡ true
ok_all true true false x y r req op (Ok s) o ha hb hc hm = refl
ok_all true true false x y r req op (Err g) o ha hb hc hm = absurd (cc)
ok_all true true true x y r req op m o ha hb hc hm = absurd (cc)
ok_all true false c x y r req op m o ha hb hc hm = absurd (cc)
ok_all false b c x y r req op m o ha hb hc hm = absurd (cc)

eq_self : (n : ℕ) → (n == n) ≡ true
eq_self n = grind (arith, nat_tests)

eq_count : (m n : ℕ) → m ≡ n → ((n + 1) == (m + 1)) ≡ true
eq_count m n h = grind (arith, nat_tests)

and_true : (a b : Bool) → a ≡ true → b ≡ true → (a && b) ≡ true
and_true a b ha hb = rw (ha, hb) refl

same_self : (stamp : Stamp) → is_same stamp stamp ≡ true
same_self stamp = and_true (stamp.epoch == stamp.epoch) (stamp.version == stamp.version) (eq_self stamp.epoch) (eq_self stamp.version)

-- an undamaged replica takes the next edit of a list that is taken
pub takes_next : (r : State) (o : Option Sealed) (xs : List Edit) (e : Edit) → Own r.held xs → lowest_damaged r.held.chunk ≡ None → IsTaken r.held.chunk.chunk (xs ++ e ∷ []) →
    is_ok (with_seal o (edits.apply r.held.promise (length xs + 1) e.req e.op e.bytes r.held)) ≡ true
takes_next r o xs e stands none all =
    let h : Held = r.held in
    let text : Image = replica_of h.chunk.chunk xs in
    let w = stands.bytes in
    let p = both_parts (edits.is_old e.req.number (fin.get text.done e.req.client.0)) (is_in_range h.chunk.chunk e.op e.bytes (length text.bytes)) (taken_at_last h.chunk.chunk xs e all) in
    ok_all (is_same h.promise h.promise) ((length xs + 1) == (h.count + 1)) (edits.is_old e.req.number (fin.get h.done e.req.client.0)) (refusals.Gap h.count) (refusals.Stamp h.promise) h e.req e.op
    (edits.edited e.op e.bytes h.chunk) o
    (same_self h.promise) (eq_count h.count (length xs) stands.count) (ap (λ m. edits.is_old e.req.number (fin.get m e.req.client.0)) stands.done ∙ p.0)
    (edited_ok e.op e.bytes h.chunk none (range_long h.chunk.chunk e.op e.bytes (length h.chunk.bytes) (length text.bytes) w.long p.1))

-- an undamaged chunk was written with the bytes that it has
undamaged_written : (s : Stored) → IsStored s → lowest_damaged s ≡ None → WasWritten s s.bytes
undamaged_written s stored none = record {
  stored = stored;
  long = refl;
  digests = all_intact s.block s.bytes s.digests stored.each (λ i below. none_damaged s.block s.bytes s.digests 0 (length s.digests) i none (omega arith) (omega arith));
}

pub intact_written : (s : Stored) (ys : List ℕ) → s.bytes ≡ ys → WasWritten s ys → lowest_damaged s ≡ None
intact_written s ys is w =
    let digests : s.digests ≡ digests_of s.block s.bytes = w.digests ∙ ap (digests_of s.block) (sym is) in
    subst (λ ds. first_damaged s.block s.bytes ds 0 (length ds) ≡ None) (sym digests) (own_intact s.block s.bytes)

chunk_or : Result Held Refusal → Stored → Stored
chunk_or (Ok h) old = h.chunk
chunk_or (Err e) old = old

same_chunk : (req : ReqId) (op : Op) (r r2 : Held) (s : Stored) → edits.with_edit r req op (Ok s) ≡ Ok r2 → s ≡ r2.chunk
unfolding chunk_or
same_chunk req op r r2 s e = ap (λ m. chunk_or m s) e

undamaged_edit : (req : ReqId) (op : Op) (bytes : List ℕ) (r r2 : Held) (m : Result Stored Refusal) → IsStored r.chunk → lowest_damaged r.chunk ≡ None →
    edits.edited op bytes r.chunk ≡ m → edits.with_edit r req op m ≡ Ok r2 → lowest_damaged r2.chunk ≡ None
undamaged_edit req op bytes r r2 (Err g) stored none is e = absurd (cc)
undamaged_edit req op bytes r r2 (Ok s) stored none is e =
    let d = edit_written op r.chunk s bytes r.chunk.bytes (undamaged_written r.chunk stored none) (λ i same. refl) is in
    subst (λ (t : Stored). lowest_damaged t ≡ None) (same_chunk req op r r2 s e) (intact_written s (edited_bytes r.chunk.chunk op bytes r.chunk.bytes) d.plain d.bytes)

-- an edit leaves an undamaged replica undamaged
pub stays_undamaged : (stamp : Stamp) (number : ℕ) (req : ReqId) (op : Op) (bytes : List ℕ) (r r2 : Held) → IsStored r.chunk → lowest_damaged r.chunk ≡ None →
    edits.apply stamp number req op bytes r ≡ Ok r2 → lowest_damaged r2.chunk ≡ None
stays_undamaged stamp number req op bytes r r2 stored none e =
    let j = judged_ok (is_same stamp r.promise) (number == (r.count + 1)) (edits.is_old req.number (fin.get r.done req.client.0)) (refusals.Gap r.count) (refusals.Stamp r.promise)
    (edits.with_edit r req op (edits.edited op bytes r.chunk)) r2 e in
    undamaged_edit req op bytes r r2 (edits.edited op bytes r.chunk) stored none refl j.3
