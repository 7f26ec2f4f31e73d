-- Edits that use what was pushed.
use Rattle.std.proofs.Common.{◌≡◌, ℕ, true, List, Option, Some, None, Ok, Err, refl, ap, subst}
use Rattle.std.specs.Prelude.{Result, option_map, is_some}
use Rattle.std.proofs.lemmas.Bool.{false≢true}
use Rattle.gs_base.specs.declared.numbers.ReqId.{ReqId}
use Rattle.gs_base.specs.declared.numbers.Stamp.{Stamp}
use Rattle.gs_base.specs.declared.refusal.Refusal.{Refusal}
use Rattle.gs_replica.specs.declared.op.Op.{Op}
use Rattle.gs_base.specs.Calls.{Follows, Refuses}
use Rattle.gs_store.specs.Serving as serving
use Rattle.gs_store.specs.Buffers.{pushed, without}
use Rattle.gs_store.specs.Stores.{Store, slot_of, with_buffer, used, apply, apply_with, apply_pushed, foreseen_with, foreseen_pushed}

module _ (handle : ℕ) (stamp : Stamp) (number : ℕ) (req : ReqId) (op : Op) (bytes : List ℕ) (s : Store) (is : Some bytes ≡ pushed req s.buffer) where
  pub refused_with : (A B : Type 0) (e : Refusal) (new : Store) → Follows {B = A} (apply handle stamp number req op bytes s) (Err e) s new → Follows {B = B} (apply_pushed handle stamp number req op s) (Err e) s new
  refused_with A B e new h = subst (λ o. Follows {B = B} (apply_with handle stamp number req op s o) (Err e) s new) is (by_case (apply handle stamp number req op bytes s) h)
    where
      by_case : (m : Result Store Refusal) → Follows {B = A} m (Err e) s new → Follows {B = B} (used req m) (Err e) s new
      by_case (Ok u) h = h
      by_case (Err f) h = h

  pub applied_with : (A B : Type 0) (a : A) (b : B) (mid : Store) → Follows {B = A} (apply handle stamp number req op bytes s) (Ok a) s mid → Follows {B = B} (apply_pushed handle stamp number req op s) (Ok b) s (with_buffer (without req mid.buffer) mid)
  applied_with A B a b mid h = subst (λ o. Follows {B = B} (apply_with handle stamp number req op s o) (Ok b) s (with_buffer (without req mid.buffer) mid)) is (by_case (apply handle stamp number req op bytes s) h)
    where
      by_case : (m : Result Store Refusal) → Follows {B = A} m (Ok a) s mid → Follows {B = B} (used req m) (Ok b) s (with_buffer (without req mid.buffer) mid)
      by_case (Ok u) h = ap (λ x. with_buffer (without req x.buffer) x) h
      by_case (Err f) h = h

  pub judged_with : (A : Type 0) (r : Result A Refusal) → Refuses {B = A} (serving.foreseen stamp number req op bytes (slot_of handle s).live) r → Refuses {B = A} (foreseen_pushed handle stamp number req op s) r
  judged_with A r h = subst (λ o. Refuses {B = A} (foreseen_with handle stamp number req op s o) r) is h

-- what a call that is accepted answers is nobody's refusal
pub not_refused : (A B : Type 0) (o : Option Refusal) (a : A) (b : B) → Refuses {B = A} o (Ok a) → Refuses {B = B} o (Ok b)
not_refused A B None a b h = h
not_refused A B (Some e) a b h = h

pub is_there : {A B : Type 0} (f : A → B) (o : Option A) (x : B) → option_map f o ≡ Some x → is_some o ≡ true
is_there f None x h = absurd (false≢true (ap is_some h))
is_there f (Some a) x h = refl

pub still_refused : (A B : Type 0) (o : Option Refusal) (e : Refusal) → Refuses {B = A} o (Err e) → Refuses {B = B} o (Err e)
still_refused A B None e h = h
still_refused A B (Some f) e h = h
