-- Replicas that stand for lists of edits.
use Rattle.std.proofs.Common.{◌≡◌, ℕ, ◌+◌, arith, refl, sym, ap, subst, List, [], ◌∷◌, ◌++◌, length, ◌∙◌}
use Rattle.std.specs.Prelude.{Option, Some, None, Result, Ok, Err, Bool, true, false, cond, not, ◌==◌, ◌&&◌}
use Rattle.std.specs.FinMap as fin
use Rattle.std.specs.Ordering.{nat_cmp}
use Rattle.gs_base.specs.declared.numbers.Stamp.{Stamp}
use Rattle.gs_base.specs.declared.numbers.ReqId.{ReqId}
use Rattle.gs_base.specs.declared.refusal.Refusal.{Refusal}
use Rattle.gs_base.specs.declared.refusal.Refusal.TheVariants as refusals
use Rattle.gs_block.specs.Stored.{Stored}
use Rattle.gs_replica.specs.declared.op.Op.{Op}
use Rattle.gs_replica.specs.declared.op.Op.TheVariants.{Write, Append, Pad}
use Rattle.gs_replica.specs.declared.op.Done.{Done}
use Rattle.gs_replica.specs.declared.op.EditOutcome.{EditOutcome}
use Rattle.gs_replica.specs.Held.{Held}
use Rattle.gs_base.specs.Stamps.{is_same}
use Rattle.gs_replica.specs.Edits as edits
use Rattle.gs_replica.specs.Copies.{Image}
use Rattle.gs_block.specs.Written.{WasWritten}
use Rattle.gs_replica.specs.Stands.{Edit, after, with_edit, no_edits, replica_of, is_in_range, is_taken, IsTaken, IsTakenFrom, outcome_at}
use Rattle.gs_replica.proofs.Sealing.{held_or, state_or}
use Rattle.gs_replica.proofs.Own.{Own, OwnTold, Alike}
use Rattle.gs_replica.specs.Seals.{Sealed, State, with_seal}
use Rattle.gs_replica.proofs.Standing.{edit_written}

pub after_more : (chunk : ℕ) (i : Image) (xs ys : List Edit) → after chunk i (xs ++ ys) ≡ after chunk (after chunk i xs) ys
after_more chunk i [] ys = refl
after_more chunk i (e ∷ xs) ys = after_more chunk (with_edit chunk i e) xs ys

-- a list with one more edit gives that edit of what the list gives
pub last_edit : (chunk : ℕ) (xs : List Edit) (e : Edit) → replica_of chunk (xs ++ e ∷ []) ≡ with_edit chunk (replica_of chunk xs) e
unfolding replica_of
last_edit chunk xs e = after_more chunk no_edits xs (e ∷ [])

taken_more : (chunk : ℕ) (i : Image) (xs : List Edit) (e : Edit) → IsTakenFrom chunk i xs → is_taken chunk (after chunk i xs) e ≡ true → IsTakenFrom chunk i (xs ++ e ∷ [])
taken_more chunk i [] e all t = (t, tt)
taken_more chunk i (x ∷ xs) e all t = (all.0, taken_more chunk (with_edit chunk i x) xs e all.1 t)

pub taken_last : (chunk : ℕ) (xs : List Edit) (e : Edit) → IsTaken chunk xs → is_taken chunk (replica_of chunk xs) e ≡ true → IsTaken chunk (xs ++ e ∷ [])
unfolding replica_of
taken_last chunk xs e all t = taken_more chunk no_edits xs e all t

pub length_last : (xs : List Edit) (e : Edit) → length (xs ++ e ∷ []) ≡ length xs + 1
length_last [] e = refl
length_last (x ∷ xs) e = (let r = length_last xs e in omega arith)

count_more : (chunk : ℕ) (i : Image) (xs : List Edit) → (after chunk i xs).count ≡ i.count + length xs
count_more chunk i [] = omega arith
count_more chunk i (e ∷ xs) = (let r = count_more chunk (with_edit chunk i e) xs in omega arith)

-- as many edits as the list has
pub count_of_list : (chunk : ℕ) (xs : List Edit) → (replica_of chunk xs).count ≡ length xs
unfolding replica_of
count_of_list chunk xs = (let r = count_more chunk no_edits xs in omega arith)

outcome_same : (op : Op) (s : Stored) (ys : List ℕ) → length s.bytes ≡ length ys → edits.outcome_of op s ≡ outcome_at op (length ys)
outcome_same (Write offset) s ys long = refl
outcome_same Append s ys long = ap (outcome_at Append) long
outcome_same Pad s ys long = refl

-- an edit that is taken was judged
pub judged_ok : (a b c : Bool) (x y : Refusal) (m : Result Held Refusal) (r2 : Held) →
    edits.unless_refused (cond a (cond b (cond c (Some refusals.Old) None) (Some x)) (Some y)) m ≡ Ok r2 → (a ≡ true) × (b ≡ true) × (c ≡ false) × (m ≡ Ok r2)
judged_ok true true true x y m r2 e = absurd (cc)
judged_ok true true false x y m r2 e = (refl, refl, refl, e)
judged_ok true false c x y m r2 e = absurd (cc)
judged_ok false b c x y m r2 e = absurd (cc)

both_true : (a b : Bool) → a ≡ false → b ≡ true → (not a && b) ≡ true
both_true a b ha hb = rw (ha, hb) refl

edit_stands : (req : ReqId) (op : Op) (bytes : List ℕ) (r r2 : Held) (m : Result Stored Refusal) (xs : List Edit) → Own r xs → OwnTold r xs →
    edits.is_old req.number (fin.get r.done req.client.0) ≡ false → edits.edited op bytes r.chunk ≡ m → edits.with_edit r req op m ≡ Ok r2 →
    Own r2 (xs ++ (record { req = req; op = op; bytes = bytes }) ∷ []) × Alike r r2
unfolding held_or
edit_stands req op bytes r r2 (Err g) xs stands told new is e = absurd (cc)
edit_stands req op bytes r r2 (Ok s) xs stands told new is e =
    let edit : Edit = record { req = req; op = op; bytes = bytes } in
    let c = r.chunk.chunk in
    let client = req.client.0 in
    let text : Image = replica_of c xs in
    let w = stands.bytes in
    let d = edit_written op r.chunk s bytes text.bytes w told is in
    let now : Held = record { chunk = s; count = r.count + 1; done = fin.insert r.done client (edits.done_by req.number op r.chunk); promise = r.promise } in
    let old : edits.is_old req.number (fin.get text.done client) ≡ false = ap (λ m. edits.is_old req.number (fin.get m client)) (sym stands.done) ∙ new in
    let taken : is_taken c text edit ≡ true = both_true (edits.is_old req.number (fin.get text.done client)) (is_in_range c op bytes (length text.bytes)) old d.in_range in
    let last = last_edit c xs edit in
    let count = stands.count in
    subst (λ (h : Held). Own h (xs ++ edit ∷ []) × Alike r h) (ap (λ q. held_or q now) e) (
      record {
        taken = subst (λ n. IsTaken n (xs ++ edit ∷ [])) (sym d.chunk) (taken_last c xs edit stands.taken taken);
        count = (let l = length_last xs edit in omega arith);
        done =
            ap (λ (t : fin.FinMap nat_cmp Done). fin.insert t client (edits.done_by req.number op r.chunk)) stands.done
            ∙ ap (λ (o : EditOutcome). (let done : Done = record { number = req.number; outcome = o } in fin.insert text.done client done)) (outcome_same op r.chunk text.bytes w.long)
            ∙ ap (λ (i : Image). i.done) (sym last)
            ∙ ap (λ n. (replica_of n (xs ++ edit ∷ [])).done) (sym d.chunk);
        bytes = subst (λ n. WasWritten s (replica_of n (xs ++ edit ∷ [])).bytes) (sym d.chunk) (subst (λ (i : Image). WasWritten s i.bytes) (sym last) d.bytes);
      },
      record { block = d.block; chunk = d.chunk },
    )

-- a replica that takes an edit stands for the list with it
pub apply_stands : (stamp : Stamp) (number : ℕ) (req : ReqId) (op : Op) (bytes : List ℕ) (r r2 : Held) (xs : List Edit) → Own r xs → OwnTold r xs →
    edits.apply stamp number req op bytes r ≡ Ok r2 → Own r2 (xs ++ (record { req = req; op = op; bytes = bytes }) ∷ []) × Alike r r2
apply_stands stamp number req op bytes r r2 xs stands told e =
    let j = judged_ok (is_same stamp r.promise) (number == (r.count + 1)) (edits.is_old req.number (fin.get r.done req.client.0)) (refusals.Gap r.count) (refusals.Stamp r.promise)
    (edits.with_edit r req op (edits.edited op bytes r.chunk)) r2 e in
    edit_stands req op bytes r r2 (edits.edited op bytes r.chunk) xs stands told j.2 refl j.3

pub seal_ok : (o : Option Sealed) (m : Result Held Refusal) (r2 : State) → with_seal o m ≡ Ok r2 → (m ≡ Ok r2.held) × (r2.sealed ≡ o)
unfolding state_or
seal_ok o (Ok h) r2 e = (let same = ap (λ q. state_or q r2) e in (ap (λ (r : State). (let m : Result Held Refusal = Ok r.held in m)) same, ap (λ (r : State). r.sealed) (sym same)))
seal_ok o (Err g) r2 e = absurd (cc)

-- a list whose every edit is taken has its last edit taken
last_taken : (chunk : ℕ) (i : Image) (xs : List Edit) (e : Edit) → IsTakenFrom chunk i (xs ++ e ∷ []) → is_taken chunk (after chunk i xs) e ≡ true
last_taken chunk i [] e all = all.0
last_taken chunk i (x ∷ xs) e all = last_taken chunk (with_edit chunk i x) xs e all.1

pub taken_at_last : (chunk : ℕ) (xs : List Edit) (e : Edit) → IsTaken chunk (xs ++ e ∷ []) → is_taken chunk (replica_of chunk xs) e ≡ true
unfolding replica_of
taken_at_last chunk xs e all = last_taken chunk no_edits xs e all
