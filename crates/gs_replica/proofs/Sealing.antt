-- Edits of a sealed replica and what takes them back.
use Rattle.std.proofs.Common.{◌≡◌, ◌≢◌, ℕ, ◌-◌, ◌/◌, cond, Bool, true, false, List, length, min, Option, Some, None, refl, sym, ap, subst, ◌∙◌, arith}
use Rattle.std.specs.Prelude.{Result, Ok, Err, not, ◌==◌, ◌&&◌}
use Rattle.std.proofs.lemmas.Bool.Decides.{nat_tests}
use Rattle.std.proofs.lemmas.List.FromFn.{length-map-range_with_len}
use Rattle.gs_base.specs.declared.refusal.Refusal.{Refusal}
use Rattle.gs_base.specs.declared.refusal.Refusal.TheVariants as refusals
use Rattle.gs_block.specs.Stored.{Stored, count_of}
use Rattle.gs_base.specs.Calls.{Follows, Does, HandsBack, Refuses}
use Rattle.gs_base.specs.declared.refused.Refused.{Refused}
use Rattle.gs_block.specs.Images.{Images, missing, byte_before, bytes_before, copies_from}
use Rattle.gs_block.specs.Inverses as inverses
use Rattle.gs_replica.specs.declared.live.ReplicaInverse.{ReplicaInverse}
use Rattle.gs_replica.specs.Held.{Held}
use Rattle.gs_replica.specs.Seals.{Sealed, State, with_seal, can_undo, undo, lowest_damaged, roll_back_to}
use Rattle.gs_replica.specs.Undo as undos
use Rattle.gs_base.specs.declared.numbers.Stamp.{Stamp}
use Rattle.gs_base.specs.declared.numbers.ReqId.{ReqId}
use Rattle.gs_replica.specs.declared.op.Op.{Op}
use Rattle.gs_replica.specs.Edits as edits
use Rattle.gs_block.specs.Edits.{unless_damaged}

abbrev pub state : Held → Option Sealed → State
state h t = record { held = h; sealed = t }

pub follows_ok : (B : Type 0) (b : B) (m : Result Held Refusal) (sealed : Option Sealed) (old new : Held) (before after : State) → Follows {B = B} m (Ok b) old new → after ≡ state new sealed → Follows {B = B} (with_seal sealed m) (Ok b) before after
follows_ok B b (Ok h) sealed old new before after f is = is ∙ ap (λ (x : Held). state x sealed) f
follows_ok B b (Err e) sealed old new before after f is = f

pub follows_err : (B : Type 0) (e : Refusal) (m : Result Held Refusal) (sealed : Option Sealed) (old new : Held) (before after : State) → Follows {B = B} m (Err e) old new → after ≡ before → Follows {B = B} (with_seal sealed m) (Err e) before after
follows_err B e (Ok h) sealed old new before after f is = (f.0, is)
follows_err B e (Err g) sealed old new before after f is = (f.0, is)

pub follows_unsealed : (B : Type 0) (r : Result B Refusal) (m : Result Held Refusal) (old new : Held) → Follows {B = B} m r old new → Follows {B = B} (with_seal None m) r (state old None) (state new None)
follows_unsealed B (Ok b) (Ok h) old new f = ap (λ (x : Held). state x None) f
follows_unsealed B (Err e) (Ok h) old new f = (f.0, ap (λ (x : Held). state x None) f.1)
follows_unsealed B (Ok b) (Err g) old new f = f
follows_unsealed B (Err e) (Err g) old new f = (f.0, ap (λ (x : Held). state x None) f.1)

-- what is foreseen is answered
pub refuses : (B : Type 0) (o : Option Refusal) (e : Refusal) (r : Result B Refusal) → o ≡ Some e → r ≡ Err e → Refuses {B = B} o r
refuses B o e r is answer = subst (λ p. Refuses {B = B} p r) (sym is) (subst (λ q. Refuses {B = B} (Some e) q) (sym answer) refl)

-- an edit that is judged is decided by the chunk
pub once_judged : (B : Type 0) (stamp : Stamp) (number : ℕ) (req : ReqId) (op : Op) (bytes : List ℕ) (r : Result B Refusal) (old new : Held) → edits.judged stamp number req old ≡ None →
    Follows {B = B} (edits.with_edit old req op (edits.edited op bytes old.chunk)) r old new → Follows {B = B} (edits.apply stamp number req op bytes old) r old new
once_judged B stamp number req op bytes r old new judged f = subst (λ o. Follows {B = B} (edits.unless_refused o (edits.with_edit old req op (edits.edited op bytes old.chunk))) r old new) (sym judged) f

-- what a call that takes no memory does to a sealed replica
pub does_sealed : (B : Type 0) (r : Result B Refusal) (m : Result Held Refusal) (old new : Held) (f : Held → Sealed) (target : Sealed) → Does {B = B} m r old new → ((b : B) → r ≡ Ok b → m ≡ Ok new → f new ≡ target) →
    Does {B = B} (with_seal (Some target) m) r (state old (Some (f old))) (state new (Some (f new)))
does_sealed B (Ok b) (Ok h) old new f target d keep = λ k. record { held = d k; sealed = Some (keep b refl (ap (λ (x : Held). Ok x) (sym d)) k) }
does_sealed B (Err e) (Ok h) old new f target d keep = d
does_sealed B (Ok b) (Err g) old new f target d keep = d
does_sealed B (Err e) (Err g) old new f target d keep = (d.0, ap (λ (x : Held). state x (Some (f x))) d.1)

pub undo_does : (B : Type 0) (r : Result B Refusal) (i : ReplicaInverse) (old new : Held) (f : Held → Sealed) → can_undo i old (Some (f old)) ≡ true → Does {B = B} (undos.undo i old) r old new → ((b : B) → r ≡ Ok b → undos.undo i old ≡ Ok new → f new ≡ f old) →
    Does {B = B} (undo i (state old (Some (f old)))) r (state old (Some (f old))) (state new (Some (f new)))
undo_does B r i old new f can d keep =
    subst (λ b. Does {B = B} (cond b (with_seal (Some (f old)) (undos.undo i old)) (Err refusals.BadLine)) r (state old (Some (f old))) (state new (Some (f new)))) (sym can)
    (does_sealed B r (undos.undo i old) old new f (f old) d keep)

pub undo_refused : (B : Type 0) (i : ReplicaInverse) (old : Held) (t : Sealed) → can_undo i old (Some t) ≡ false → Does {B = B} (undo i (state old (Some t))) (Err refusals.BadLine) (state old (Some t)) (state old (Some t))
undo_refused B i old t can =
    subst (λ b. Does {B = B} (cond b (with_seal (Some t) (undos.undo i old)) (Err refusals.BadLine)) (Err refusals.BadLine) (state old (Some t)) (state old (Some t))) (sym can) (refl, refl)

-- an edit that was just applied can be undone, and leaves the seal
pub undo_back : (i : ReplicaInverse) (old new : Held) (t : Sealed) → can_undo i new (Some t) ≡ true → undos.undo i new ≡ Ok old → undo i (state new (Some t)) ≡ Ok (state old (Some t))
undo_back i old new t can back =
    ap (λ b. cond b (with_seal (Some t) (undos.undo i new)) (Err refusals.BadLine)) can ∙ ap (with_seal (Some t)) back

unfoldable pub held_or : Result Held Refusal → Held → Held
held_or (Ok h) old = h
held_or (Err e) old = old

unfoldable pub state_or : Result State Refusal → State → State
state_or (Ok r) old = r
state_or (Err e) old = old

gives_chunk : (i : ReplicaInverse) (r h : Held) (t : Bool) (u : Result Stored Refusal) → (let m : Result Held Refusal = cond t (undos.without_edit r i u) (Err refusals.BadLine) in m) ≡ Ok h → (u ≡ Ok h.chunk) × (h.count ≡ r.count - 1) × (h.done ≡ undos.entry_before r.done i.client.0 i.before)
unfolding held_or
gives_chunk i r h true (Ok s) e = let same = ap (λ m. held_or m r) e in (ap (λ (x : Held). Ok x.chunk) same, ap (λ (x : Held). x.count) (sym same), ap (λ (x : Held). x.done) (sym same))
gives_chunk i r h true (Err g) e = absurd (cc)
gives_chunk i r h false u e = absurd (cc)

-- the chunk, the count and the requests after an edit is taken back
pub undone_chunk : (i : ReplicaInverse) (r h : Held) → undos.undo i r ≡ Ok h → (inverses.undo i.blocks r.chunk ≡ Ok h.chunk) × (h.count ≡ r.count - 1) × (h.done ≡ undos.entry_before r.done i.client.0 i.before)
undone_chunk i r h e = gives_chunk i r h _ (inverses.undo i.blocks r.chunk) e

pub long_undone : (i : Images) (s : Stored) → length (bytes_before s.block i.blocks i.long s.bytes) ≡ i.long
unfolding bytes_before
long_undone i s = length-map-range_with_len (byte_before s.block i.blocks s.bytes) 0 i.long

-- what is missing depends on the end as far as the chunk is sealed
pub missing_same : (i : Images) (s : Stored) (start few many : ℕ) → min few i.long ≡ min many i.long → missing i s start few ≡ missing i s start many
unfolding missing
missing_same i s start few many same = λ k. record {
  first = start / s.block;
  copies = ap (λ n. copies_from s.block i.long i.blocks s.bytes (start / s.block) (count_of s.block n - start / s.block)) same k;
}

pub not_same : (m n : ℕ) → (m == n) ≡ false → m ≢ n
not_same m n h = grind (arith, nat_tests)

eq_not : (m n : ℕ) → m ≢ n → (m == n) ≡ false
eq_not m n h = grind (arith, nat_tests)

pub can : (m n : ℕ) (b : Bool) → m ≢ n → b ≡ true → (not (m == n) && b) ≡ true
can m n b h e = ap (λ c. not c && b) (eq_not m n h) ∙ e

pub cannot_uncovered : (m n : ℕ) (b : Bool) → m ≢ n → b ≡ false → (not (m == n) && b) ≡ false
cannot_uncovered m n b h e = ap (λ c. not c && b) (eq_not m n h) ∙ e

pub both : (a b : Bool) → a ≡ true → b ≡ true → (a && b) ≡ true
both a b ha hb = ap (λ c. c && b) ha ∙ hb

pub fails_second : (a b : Bool) → a ≡ true → b ≡ false → (a && b) ≡ false
fails_second a b ha hb = ap (λ c. c && b) ha ∙ hb

-- what holds of the old and of what the definition gives holds of the new
pub does_keep : (B : Type 0) (r : Result B Refusal) (m : Result Held Refusal) (old new : Held) (P : Held → Type 0) → Does {B = B} m r old new → P old → (m ≡ Ok new → P new) → P new
does_keep B (Ok b) (Ok h) old new P d p gives = gives (ap (λ (x : Held). Ok x) (sym d))
does_keep B (Err e) (Ok h) old new P d p gives = absurd d
does_keep B (Ok b) (Err g) old new P d p gives = absurd d
does_keep B (Err e) (Err g) old new P d p gives = subst P (sym d.1) p

-- what undoing gives where each block of it has its digest
abbrev pub rolled : Stamp → Sealed → State
rolled promise t = record { held = record { chunk = t.undone; count = t.count; done = t.done; promise = promise }; sealed = None }

pub rolls_back : (t : Sealed) (promise : Stamp) (after old : State) → lowest_damaged t.undone ≡ None → after ≡ rolled promise t → HandsBack old (roll_back_to promise (Some t)) (Ok after)
rolls_back t promise after old none is = subst (λ o. HandsBack old (unless_damaged o (rolled promise t)) (Ok after)) (sym none) is

abbrev pub refused : Refusal → State → Refused State
refused refusal given = record { refusal = refusal; given = given }

pub hands_back : (t : Sealed) (promise : Stamp) (after old : State) (block : ℕ) → lowest_damaged t.undone ≡ Some block → after ≡ old → HandsBack old (roll_back_to promise (Some t)) (Err (refused (refusals.Damaged block) after))
hands_back t promise after old block found is = subst (λ o. HandsBack old (unless_damaged o (rolled promise t)) (Err (refused (refusals.Damaged block) after))) (sym found) (refl, is)
