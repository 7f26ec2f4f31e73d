-- Runs of the calls of a store: promises that rise.
use Rattle.std.proofs.Common.{◌≡◌, ℕ, Bool, true, false, List, [], ◌∷◌, Option, Some, None, Ok, Err, refl, sym, ap, subst}
use Rattle.std.specs.Prelude.{Result, ◌==◌, option_map}
use Rattle.std.proofs.lemmas.Bool.{eqb-true}
use Rattle.std.specs.FinMap as fin
use Rattle.gs_base.specs.declared.numbers.Stamp.{Stamp}
use Rattle.gs_base.specs.declared.numbers.ReqId.{ReqId}
use Rattle.gs_base.specs.Stamps.{is_before}
use Rattle.gs_base.specs.declared.epoch.EpochEnd.{EpochEnd}
use Rattle.gs_base.specs.declared.refusal.Refusal.{Refusal}
use Rattle.gs_replica.specs.declared.op.Op.{Op}
use Rattle.gs_replica.specs.Held.{Held}
use Rattle.gs_replica.specs.Copies.{and_then}
use Rattle.gs_store.specs.Slots.{Slot}
use Rattle.gs_store.specs.Slots as slots
use Rattle.gs_store.specs.Moves as moves
use Rattle.gs_store.specs.Calls.{Call}
use Rattle.gs_store.specs.Calls as calls
use Rattle.gs_store.specs.Buffers.{pushed}
use Rattle.gs_store.specs.Stores.{Store, or_nothing, slot_of, with_slot, set_slot, put_slot, used, apply_with, learn}
use Rattle.gs_store.specs.StoreCalls.{StoreCall, Creates, Advances, Drops, TakesLease, Applies, AppliesPushed, CopiesIn, MakesCopy, MarksBad, Loses, Damages, Pushes, TakesPushed, Restarts, Learns, called, LeadsTo}
use Rattle.gs_store.proofs.Laws.{Holds, not_before_itself}
use Rattle.gs_store.proofs.Running.{Goes, goes, never_below}
use Rattle.gs_store.proofs.StoreLaws.{ok_same, own_slot, other_slot, taught, slot_goes, gone_rises}

abbrev pub Rises : ℕ → Store → Store → Type 0
Rises handle s s2 = is_before (slot_of handle s2).promise (slot_of handle s).promise ≡ false

abbrev HoldsIn : (Store → Type 0) → Result Store Refusal → Type 0
HoldsIn P (Ok s) = P s
HoldsIn P (Err e) = Unit {0}

of_in : (P : Store → Type 0) (m : Result Store Refusal) (s : Store) → m ≡ Ok s → HoldsIn P m → P s
of_in P m s is h = subst (HoldsIn P) is h

put_rises : (handle other : ℕ) (t : Slot) (s : Store) → is_before t.promise (slot_of handle s).promise ≡ false → Rises other s (with_slot handle t s)
put_rises handle other t s above = by_case (other == handle) refl
  where
    by_case : (b : Bool) → (other == handle) ≡ b → Rises other s (with_slot handle t s)
    by_case true is =
        subst (λ k. Rises k s (with_slot handle t s)) (sym (eqb-true other handle is))
        (subst (λ (x : Slot). is_before x.promise (slot_of handle s).promise ≡ false) (sym (own_slot handle t s)) above)
    by_case false is = subst (λ (x : Slot). is_before x.promise (slot_of other s).promise ≡ false) (sym (other_slot handle other t s is)) (not_before_itself (slot_of other s).promise)

changed : (handle other : ℕ) (s : Store) (m : Result Slot Refusal) → Holds (Goes (slot_of handle s)) m → HoldsIn (Rises other s) (put_slot handle s m)
changed handle other s (Ok t) g = put_rises handle other t s g.rises
changed handle other s (Err e) g = tt

-- a call of one handle's slot
one_slot : (handle other : ℕ) (s : Store) (c : Call) → HoldsIn (Rises other s) (put_slot handle s (calls.called s.block s.chunk c (slot_of handle s)))
one_slot handle other s c = changed handle other s (calls.called s.block s.chunk c (slot_of handle s)) (goes s.block s.chunk c (slot_of handle s))

copied : (block chunk : ℕ) (m : Result Held Refusal) (target : Slot) → Holds (Goes target) (and_then m (λ h. moves.take_copy h target))
copied block chunk (Ok h) target = goes block chunk (calls.TakesCopy h) target
copied block chunk (Err e) target = tt

with_pushed : (req : ReqId) (other : ℕ) (s : Store) (m : Result Store Refusal) → HoldsIn (Rises other s) m → HoldsIn (Rises other s) (used req m)
with_pushed req other s (Ok x) h = h
with_pushed req other s (Err e) h = h

applied : (handle other : ℕ) (stamp : Stamp) (number : ℕ) (req : ReqId) (op : Op) (s : Store) (bytes : Option (List ℕ)) → HoldsIn (Rises other s) (apply_with handle stamp number req op s bytes)
applied handle other stamp number req op s None = tt
applied handle other stamp number req op s (Some bytes) = with_pushed req other s _ (one_slot handle other s (calls.Applies stamp number req op bytes))

marked : (handle other block : ℕ) (s : Store) (o : Option Slot) → fin.get s.slots handle ≡ o → Rises other s (set_slot handle s (option_map (slots.mark_bad block) o))
marked handle other block s None is = not_before_itself (slot_of other s).promise
marked handle other block s (Some t) is =
    put_rises handle other (slots.mark_bad block t) s (subst (λ (p : Stamp). is_before t.promise p ≡ false) (sym (ap (λ o. (or_nothing o).promise) is)) (not_before_itself t.promise))

learned : (epoch : ℕ) (end : EpochEnd) (s s2 : Store) (handle : ℕ) → learn epoch end s ≡ Ok s2 → Rises handle s s2
learned epoch end s s2 handle is =
    taught (Rises handle s) epoch end s s2 is (λ _. not_before_itself (slot_of handle s).promise)
    (λ _. subst (λ (t : Slot). is_before t.promise (slot_of handle s).promise ≡ false) (sym (slot_goes epoch end s handle)) (gone_rises epoch end (slot_of handle s)))

same_store : (s s2 : Store) (P : Store → Type 0) → ◌≡◌ {A = Result Store Refusal} (Ok s) (Ok s2) → P s → P s2
same_store s s2 P is h = subst P (ok_same s s2 is) h

pub call_rises : (c : StoreCall) (s s2 : Store) (other : ℕ) → called c s ≡ Ok s2 → Rises other s s2
call_rises (Creates handle stamp) s s2 other is = of_in (Rises other s) _ s2 is (one_slot handle other s (calls.Creates stamp))
call_rises (Advances handle stamp) s s2 other is = of_in (Rises other s) _ s2 is (one_slot handle other s (calls.Advances stamp))
call_rises (Drops handle promise) s s2 other is = of_in (Rises other s) _ s2 is (one_slot handle other s (calls.Drops promise))
call_rises (TakesLease handle stamp) s s2 other is = of_in (Rises other s) _ s2 is (one_slot handle other s (calls.TakesLease stamp))
call_rises (Applies handle stamp number req op bytes) s s2 other is = of_in (Rises other s) _ s2 is (one_slot handle other s (calls.Applies stamp number req op bytes))
call_rises (AppliesPushed handle stamp number req op) s s2 other is = of_in (Rises other s) _ s2 is (applied handle other stamp number req op s (pushed req s.buffer))
call_rises (CopiesIn handle stamp image sealed) s s2 other is = of_in (Rises other s) _ s2 is (one_slot handle other s (calls.CopiesIn stamp image sealed))
call_rises (MakesCopy handle at new_handle stamp) s s2 other is =
    of_in (Rises other s) _ s2 is
    (changed new_handle other s (moves.make_copy at stamp (slot_of handle s) (slot_of new_handle s)) (copied s.block s.chunk (moves.copied_from at stamp (slot_of handle s)) (slot_of new_handle s)))
call_rises (MarksBad handle block) s s2 other is = same_store _ s2 (Rises other s) is (marked handle other block s (fin.get s.slots handle) refl)
call_rises (Loses handle) s s2 other is = of_in (Rises other s) _ s2 is (one_slot handle other s calls.Loses)
call_rises (Damages handle block) s s2 other is = of_in (Rises other s) _ s2 is (one_slot handle other s (calls.Damages block))
call_rises (Pushes req bytes) s s2 other is = same_store _ s2 (Rises other s) is (not_before_itself (slot_of other s).promise)
call_rises (TakesPushed req) s s2 other is = same_store _ s2 (Rises other s) is (not_before_itself (slot_of other s).promise)
call_rises Restarts s s2 other is = same_store _ s2 (Rises other s) is (not_before_itself (slot_of other s).promise)
call_rises (Learns epoch end) s s2 other is = learned epoch end s s2 other is

pub run_rises : (list : List StoreCall) (s end : Store) (handle : ℕ) → LeadsTo s list end → Rises handle s end
run_rises [] s end handle leads = subst (Rises handle s) (sym leads) (not_before_itself (slot_of handle s).promise)
run_rises (c ∷ list) s end handle leads =
    let next : Store = leads.0 in
    never_below (slot_of handle s).promise (slot_of handle next).promise (slot_of handle end).promise (call_rises c s next handle leads.1) (run_rises list next end handle leads.2)
