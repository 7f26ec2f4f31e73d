-- A live replica that is neither lost, damaged nor dropped stays live and undamaged, until another comes under a greater promise.
use Rattle.std.proofs.Common.{◌≡◌, ◌∙◌, ◌⊎◌, inl, inr, ℕ, true, false, List, Option, Some, None, refl, sym, ap, subst}
use Rattle.std.specs.Prelude.{Err, Ok, Result, is_some}
use Rattle.std.proofs.lemmas.Bool.{false≢true}
use Rattle.std.proofs.lemmas.Bool.Decides.{nat_tests}
use Rattle.std.proofs.Common.{arith}
use Rattle.gs_base.specs.Stamps.{is_before}
use Rattle.gs_base.specs.declared.numbers.Stamp.{Stamp}
use Rattle.gs_base.specs.declared.refusal.Refusal.{Refusal}
use Rattle.gs_block.specs.Edits.{unless_damaged}
use Rattle.gs_laws_chunk.specs.machine.Machine.{Member}
use Rattle.gs_laws_parts.proofs.lemmas.server.Forwarding.{IsEdited, edited}
use Rattle.gs_laws_parts.specs.server.Showing.{SealUndamaged}
use Rattle.gs_replica.specs.Copies.{and_then}
use Rattle.gs_replica.specs.Seals.{Sealed, State, roll_back_to}
use Rattle.gs_replica.specs.Stands.{Edit}
use Rattle.gs_store_seal.specs.Rollback.{later}
use Rattle.gs_server.specs.Runs.{BecomesBy}
use Rattle.gs_store.proofs.Laws.{Holds, of_again, of_cond, of_ok, of_raised, of_unless}
use Rattle.gs_store.specs.Calls as calls
use Rattle.gs_store.specs.Calls.{Call, called}
use Rattle.gs_store.specs.Learning.{finalized, prepared, rolled_back, rolled_to, sealed_live, start_of, unsealed_live}
use Rattle.gs_store.specs.Moves.{copied_in, copy_in, in_trash, replicas_of, take_copy}
use Rattle.gs_store.specs.Slots.{Live, Slot, advance, again, create, live_under, mark_bad, marked_live, replaced, risen, seal_of, sealed_of, take_lease, taking}
use Rattle.gs_store.specs.Standing.{IsToldIn, LiveStandsFor, LiveUndamaged, StandsIn}

-- a live replica, and what is sealed, without a damaged block
pub record StillLive (s : Slot) : Type 0 where
  pub live : is_some s.live ≡ true
  pub whole : LiveUndamaged s.live
  pub sealed : SealUndamaged (sealed_of s)

-- a call is no loss, damage or drop; and for a rollback something is sealed
abbrev pub Allows : Slot → Call → Type 0
Allows s calls.Loses = ⊥
Allows s (calls.Damages block) = ⊥
Allows s (calls.Drops promise) = ⊥
Allows s (calls.RollsBack epoch) = is_some (sealed_of s) ≡ true
Allows s call = Unit {0}

abbrev pub AllowsIn : Slot → Option Call → Type 0
AllowsIn s None = Unit {0}
AllowsIn s (Some call) = Allows s call

over : (a b c : Stamp) → is_before b a ≡ false → is_before b c ≡ true → is_before a c ≡ true
over a b c least up = grind (arith, nat_tests)

-- ---- what calls leave

marked_there : (block : ℕ) (o : Option Live) → is_some o ≡ true → LiveUndamaged o → (is_some (marked_live block o) ≡ true) × LiveUndamaged (marked_live block o)
marked_there block None live whole = absurd (false≢true live)
marked_there block (Some l) live whole = (refl, whole)

marked_sealed : (block : ℕ) (o : Option Live) (trash : Option State) → SealUndamaged (seal_of o trash) → SealUndamaged (seal_of (marked_live block o) trash)
marked_sealed block None trash sealed = sealed
marked_sealed block (Some l) trash sealed = sealed

risen_there : (stamp : Stamp) (o : Option Live) → is_some o ≡ true → LiveUndamaged o → (is_some (live_under stamp o) ≡ true) × LiveUndamaged (live_under stamp o)
risen_there stamp None live whole = absurd (false≢true live)
risen_there stamp (Some l) live whole = (refl, whole)

risen_sealed : (stamp : Stamp) (o : Option Live) (trash : Option State) → SealUndamaged (seal_of o trash) → SealUndamaged (seal_of (live_under stamp o) trash)
risen_sealed stamp None trash sealed = sealed
risen_sealed stamp (Some l) trash sealed = sealed

sealed_then : (o : Option Live) → is_some o ≡ true → LiveUndamaged o → (is_some (sealed_live o) ≡ true) × LiveUndamaged (sealed_live o) × SealUndamaged (seal_of (sealed_live o) None)
sealed_then None live whole = absurd (false≢true live)
sealed_then (Some l) live whole = (refl, whole, whole)

unsealed_then : (o : Option Live) → is_some o ≡ true → LiveUndamaged o → (is_some (unsealed_live o) ≡ true) × LiveUndamaged (unsealed_live o) × SealUndamaged (seal_of (unsealed_live o) None)
unsealed_then None live whole = absurd (false≢true live)
unsealed_then (Some l) live whole = (refl, whole, tt)

live_stands : (block chunk : ℕ) (o : Option Live) (xs : List Edit) → LiveStandsFor block chunk o xs → is_some o ≡ true
live_stands block chunk None xs stands = absurd stands
live_stands block chunk (Some l) xs stands = refl

trashed_promise : (trash : Option State) (s : Slot) → (in_trash trash s).promise ≡ s.promise
trashed_promise None s = refl
trashed_promise (Some r) s = refl

module _ (block chunk : ℕ) (m : Member) (bound : Stamp) (s : Slot) (xs : List Edit) (stands : StandsIn block chunk s xs) (told : IsToldIn block chunk s xs) (least : is_before s.promise bound ≡ false) (k : StillLive s) where
  -- another replica is live under a greater promise, or it stays
  abbrev pub StaysLive : Slot → Type 0
  StaysLive t = (is_before bound t.promise ≡ true) ⊎ StillLive t

  rolled_live : (epoch : ℕ) (o : Option Sealed) → sealed_of s ≡ o → is_some o ≡ true → SealUndamaged o → StillLive (rolled_back epoch s)
  rolled_live epoch None is some whole = absurd (false≢true some)
  rolled_live epoch (Some t) is some whole =
      let promise : Stamp = later s.promise (start_of epoch) in
      let r : State = record { held = record { chunk = t.undone; count = t.count; done = t.done; promise = promise }; sealed = None } in
      let made : rolled_back epoch s ≡ rolled_to promise (Ok r) s = ap (λ o. rolled_to promise (roll_back_to promise o) s) is ∙ ap (λ d. rolled_to promise (unless_damaged d r) s) whole in
      subst StillLive (sym made) (record { live = refl; whole = whole; sealed = tt })

  call_stays : (call : Call) (t : Slot) → Allows s call → called block chunk call s ≡ Ok t → StaysLive t
  call_stays (calls.Creates stamp) t allowed made = of_ok StaysLive (create block chunk stamp s) t made (of_raised StaysLive stamp false _ s (inr k) (λ up. inl (over bound s.promise stamp least up)))
  call_stays (calls.Advances stamp) t allowed made =
      let live = risen_there stamp s.live k.live k.whole in
      of_ok StaysLive (advance stamp s) t made (of_unless StaysLive _ (risen stamp s) (λ none. inr (record { live = live.0; whole = live.1; sealed = risen_sealed stamp s.live s.trash k.sealed })))
  call_stays (calls.CopiesIn stamp image sealed) t allowed made =
      of_ok StaysLive (copy_in block chunk stamp image sealed s) t made
      (of_cond StaysLive (is_before s.promise stamp) (copied_in block chunk stamp image sealed s) (again stamp s) (λ up. by_made up (replicas_of block chunk stamp image sealed)) (λ below. of_again StaysLive stamp s (inr k)))
    where
      by_made : is_before s.promise stamp ≡ true → (r : Result (State × Option State) Refusal) → Holds StaysLive (and_then r (λ p. Ok (in_trash p.1 (replaced stamp (is_some sealed) p.0 s))))
      by_made up (Ok p) = inl (subst (λ q. is_before bound q ≡ true) (sym (trashed_promise p.1 (replaced stamp (is_some sealed) p.0 s))) (over bound s.promise stamp least up))
      by_made up (Err e) = tt
  call_stays (calls.TakesCopy h) t allowed made = of_ok StaysLive (take_copy h s) t made (of_raised StaysLive h.promise false _ s (inr k) (λ up. inl (over bound s.promise h.promise least up)))
  call_stays (calls.Drops promise) t allowed made = absurd allowed
  call_stays (calls.TakesLease stamp) t allowed made = of_ok StaysLive (take_lease stamp s) t made (of_unless StaysLive _ (taking stamp s) (λ none. inr (record { live = k.live; whole = k.whole; sealed = k.sealed })))
  call_stays calls.Loses t allowed made = absurd allowed
  call_stays (calls.Damages index) t allowed made = absurd allowed
  call_stays (calls.MarksBad index) t allowed made =
      let live = marked_there index s.live k.live k.whole in
      of_ok StaysLive (Ok (mark_bad index s)) t made (inr (record { live = live.0; whole = live.1; sealed = marked_sealed index s.live s.trash k.sealed }))
  call_stays (calls.Applies stamp number req op bytes) t allowed made =
      let e : IsEdited block chunk s m xs (record { req = req; op = op; bytes = bytes }) t = edited block chunk s m xs stamp number req op bytes t stands told made in
      inr (record { live = live_stands block chunk t.live _ e.stands; whole = e.undamaged k.whole; sealed = e.sealed.undamaged k.sealed })
  call_stays calls.Seals t allowed made = (let q = sealed_then s.live k.live k.whole in of_ok StaysLive (Ok (prepared s)) t made (inr (record { live = q.0; whole = q.1; sealed = q.2 })))
  call_stays calls.Unseals t allowed made = (let q = unsealed_then s.live k.live k.whole in of_ok StaysLive (Ok (finalized s)) t made (inr (record { live = q.0; whole = q.1; sealed = q.2 })))
  call_stays (calls.RollsBack epoch) t allowed made = of_ok StaysLive (Ok (rolled_back epoch s)) t made (inr (rolled_live epoch (sealed_of s) refl allowed k.sealed))

  pub stays_by : (o : Option Call) (t : Slot) → AllowsIn s o → BecomesBy block chunk s o t → StaysLive t
  stays_by None t allowed same = inr (subst StillLive (sym same) k)
  stays_by (Some call) t allowed made = call_stays call t allowed made
