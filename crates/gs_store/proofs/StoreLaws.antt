-- What holds of a store through its calls.
use Rattle.std.proofs.Common.{◌≡◌, ℕ, ◌+◌, List, Bool, true, false, cond, Option, Some, None, Ok, Err, refl, sym, ap, subst, ◌∙◌}
use Rattle.std.specs.Prelude.{Result, ◌==◌, ◌&&◌, option_map}
use Rattle.std.proofs.lemmas.Bool.{false≢true, eqb-true, eq-eqb}
use Rattle.std.specs.FinMap as fin
use Rattle.std.specs.Ordering.{nat_cmp, eq_by_cmp}
use Rattle.std.specs.Cmp.{nat_cmp_total, eq_by_cmp_equiv}
use Rattle.gs_base.specs.declared.numbers.ReqId.{ReqId}
use Rattle.gs_base.specs.Stamps.{is_before}
use Rattle.gs_base.specs.declared.epoch.EpochEnd.{EpochEnd}
use Rattle.gs_base.specs.declared.epoch.EpochEnd.TheVariants.{Prepare, Finalize, Rollback}
use Rattle.gs_base.specs.declared.refusal.Refusal.{Refusal}
use Rattle.gs_base.specs.declared.refusal.Refusal.TheVariants as refusals
use Rattle.gs_replica.specs.Seals.{roll_back_to}
use Rattle.gs_base.specs.declared.numbers.Stamp.{Stamp}
use Rattle.gs_replica.specs.declared.op.Op.{Op}
use Rattle.gs_store.specs.Buffers.{without}
use Rattle.gs_store.specs.Serving as serving
use Rattle.gs_store.specs.Slots.{Slot, nothing, sealed_of}
use Rattle.gs_store_seal.specs.Rollback.{later}
use Rattle.gs_store.specs.Learning.{start_of}
use Rattle.gs_store.specs.Stores.{Store, or_nothing, slot_of, with_slot, put_slot, set_slot, with_buffer, used, apply, apply_with, learn, learned, gone_on}
use Rattle.gs_store.proofs.Maps.{get-each}
use Rattle.gs_store.proofs.Places.{same_key}
use Rattle.gs_store.proofs.Laws.{not_before_itself, rolled_rises}

from : {A : Type 0} → A → Result A Refusal → A
from d (Ok a) = a
from d (Err e) = d

pub ok_same : {A : Type 0} (a b : A) → ◌≡◌ {A = Result A Refusal} (Ok a) (Ok b) → a ≡ b
unfolding from
ok_same a b is = ap (from a) is

is_good : {A : Type 0} → Result A Refusal → Bool
is_good (Ok a) = true
is_good (Err e) = false

pub not_ok : {A : Type 0} (e : Refusal) (b : A) → ◌≡◌ {A = Result A Refusal} (Err e) (Ok b) → ⊥
unfolding is_good
not_ok e b is = false≢true (ap is_good is)

-- what a call of one handle accepts
pub accepted : (P : Store → Type 0) (handle : ℕ) (s s2 : Store) (m : Result Slot Refusal) → put_slot handle s m ≡ Ok s2 → ((t : Slot) → m ≡ Ok t → P (with_slot handle t s)) → P s2
accepted P handle s s2 (Ok t) is each = subst P (ok_same (with_slot handle t s) s2 is) (each t refl)
accepted P handle s s2 (Err e) is each = absurd (not_ok e s2 is)

other_eq : (q k : ℕ) → (q == k) ≡ false → eq_by_cmp nat_cmp q k ≡ false
other_eq q k is = by_case (eq_by_cmp nat_cmp q k) refl
  where
    by_case : (b : Bool) → eq_by_cmp nat_cmp q k ≡ b → b ≡ false
    by_case true tied = absurd (false≢true (sym is ∙ eq-eqb q k (same_key q k tied)))
    by_case false apart = refl

pub other_slot : (handle other : ℕ) (t : Slot) (s : Store) → (other == handle) ≡ false → slot_of other (with_slot handle t s) ≡ slot_of other s
other_slot handle other t s is = ap or_nothing (fin.get-insert nat_cmp_total s.slots handle t other ∙ ap (λ b. cond b (Some t) (fin.get s.slots other)) (other_eq other handle is))

pub own_slot : (handle : ℕ) (t : Slot) (s : Store) → slot_of handle (with_slot handle t s) ≡ t
own_slot handle t s = ap or_nothing (fin.get-insert nat_cmp_total s.slots handle t handle ∙ ap (λ b. cond b (Some t) (fin.get s.slots handle)) ((eq_by_cmp_equiv nat_cmp_total).refl handle))

pub empty_stays : (epoch : ℕ) (end : EpochEnd) → gone_on end epoch nothing ≡ nothing
empty_stays epoch Prepare = refl
empty_stays epoch Finalize = refl
empty_stays epoch Rollback = refl

pub slot_goes : (epoch : ℕ) (end : EpochEnd) (s : Store) (handle : ℕ) → slot_of handle (learned epoch end s) ≡ gone_on end epoch (slot_of handle s)
slot_goes epoch end s handle = ap or_nothing (get-each nat_cmp (gone_on end epoch) s.slots handle) ∙ or_gone (fin.get s.slots handle)
  where
    or_gone : (o : Option Slot) → or_nothing (option_map (gone_on end epoch) o) ≡ gone_on end epoch (or_nothing o)
    or_gone None = sym (empty_stays epoch end)
    or_gone (Some t) = refl

-- what is learned is the epoch that stands or the next
pub taught : (P : Store → Type 0) (epoch : ℕ) (end : EpochEnd) (s s2 : Store) → learn epoch end s ≡ Ok s2 → (epoch ≡ s.epoch → P s) → (epoch ≡ s.epoch + 1 → P (learned epoch end s)) → P s2
taught P epoch end s s2 is first second = by_case (epoch == s.epoch) (epoch == s.epoch + 1) refl refl is
  where
    by_case : (a b : Bool) → (epoch == s.epoch) ≡ a → (epoch == s.epoch + 1) ≡ b → cond a (Ok s) (cond b (Ok (learned epoch end s)) (Err (refusals.Epoch s.epoch))) ≡ Ok s2 → P s2
    by_case true b same next h = subst P (ok_same s s2 h) (first (eqb-true epoch s.epoch same))
    by_case false true same next h = subst P (ok_same (learned epoch end s) s2 h) (second (eqb-true epoch (s.epoch + 1) next))
    by_case false false same next h = absurd (not_ok (refusals.Epoch s.epoch) s2 h)

pub gone_rises : (epoch : ℕ) (end : EpochEnd) (t : Slot) → is_before (gone_on end epoch t).promise t.promise ≡ false
gone_rises epoch Prepare t = not_before_itself t.promise
gone_rises epoch Finalize t = not_before_itself t.promise
gone_rises epoch Rollback t = rolled_rises (roll_back_to (later t.promise (start_of epoch)) (sealed_of t)) epoch t

pub same_request_itself : (req : ReqId) → ((req.client.0 == req.client.0) && (req.number == req.number)) ≡ true
same_request_itself req = ap (λ b. b && (req.number == req.number)) (eq-eqb req.client.0 req.client.0 refl) ∙ eq-eqb req.number req.number refl

-- a mark is of a handle that has a slot
pub where_marked : (P : Store → Type 0) (handle : ℕ) (s : Store) (o : Option Slot) → P s → ((t : Slot) → P (with_slot handle t s)) → P (set_slot handle s o)
where_marked P handle s None without with = without
where_marked P handle s (Some t) without with = with t

-- what an edit with pushed bytes accepts
used_then : (P : Store → Type 0) (req : ReqId) (s2 : Store) (m : Result Store Refusal) → used req m ≡ Ok s2 → ((x : Store) → m ≡ Ok x → P (with_buffer (without req x.buffer) x)) → P s2
used_then P req s2 (Ok x) is each = subst P (ok_same (with_buffer (without req x.buffer) x) s2 is) (each x refl)
used_then P req s2 (Err e) is each = absurd (not_ok e s2 is)

pub pushed_then : (P : Store → Type 0) (handle : ℕ) (stamp : Stamp) (number : ℕ) (req : ReqId) (op : Op) (s s2 : Store) (o : Option (List ℕ)) → apply_with handle stamp number req op s o ≡ Ok s2
    → ((t : Slot) → P (with_buffer (without req s.buffer) (with_slot handle t s))) → P s2
pushed_then P handle stamp number req op s s2 None is each = absurd (not_ok refusals.NoData s2 is)
pushed_then P handle stamp number req op s s2 (Some bytes) is each =
    used_then P req s2 (apply handle stamp number req op bytes s) is
    (λ x made. accepted (λ (y : Store). P (with_buffer (without req y.buffer) y)) handle s x (serving.apply stamp number req op bytes (slot_of handle s)) made (λ t _. each t))
