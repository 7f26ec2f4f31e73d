-- Leases and drops at the chunk's own place: grant, renewed, drop.
use Rattle.std.proofs.Common.{◌≡◌, ◌≢◌, ℕ, ◌<◌, ◌≤◌, ◌⊎◌, inl, inr, ⊎_elim, Bool, true, false, cond, List, [], ◌∷◌, Option, Some, None, refl, sym, ap, subst, ◌∙◌, arith}
use Rattle.std.specs.Prelude.{Result, Ok, Err, is_some, nat_lt}
use Rattle.std.proofs.lemmas.Bool.Decides.{nat_tests}
use Rattle.gs_base.specs.declared.numbers.Moment.{Moment}
use Rattle.gs_base.specs.declared.numbers.Stamp.{Stamp}
use Rattle.gs_base.specs.declared.numbers.ReqId.{ReqId}
use Rattle.gs_base.specs.declared.refusal.Refusal.{Refusal}
use Rattle.gs_base.specs.declared.refusal.Refusal.TheVariants as refusals
use Rattle.gs_base.specs.Stamps.{is_same}
use Rattle.gs_lease.specs.declared.held.Grant.{Grant}
use Rattle.gs_replica.specs.Stands.{Edit}
use Rattle.gs_msg.specs.declared.chunk.Chunk.TheVariants as chunks
use Rattle.gs_store.specs.Slots.{Slot, first_of, when, unless_live, unless_promised, check_grant, is_taken, take_lease, taking, removed}
use Rattle.gs_store.specs.Slots as slots
use Rattle.gs_store.proofs.Laws.{Holds, of_unless, removed_stays}
use Rattle.gs_server_lease.specs.Leases as primary
use Rattle.gs_server_lease.specs.Leases.{granted, renews}
use Rattle.gs_server.specs.Places.{Place, Here, SlotStays, SlotBecomes, LeaseBecomes, LeaseSpent, changing, sending, unanswered, other_epoch}
use Rattle.gs_server.specs.Promises.{drops}
use Rattle.gs_server.specs.Promises as messages
use Rattle.gs_server.specs.Holding.{is_held, takes, goes_on, unless_leased}
use Rattle.gs_server.specs.Holding as holding
use Rattle.gs_server.proofs.Walks.{of_epoch}
use Rattle.gs_laws_chunk.specs.machine.Stamps.{stamp_at}
use Rattle.gs_laws_chunk.specs.machine.Machine.{Member, MemberLease, Known, ChunkWorld, WasTold, Drop}
use Rattle.gs_laws_chunk.specs.machine.Events.{TakesLease, Drops, new_lease}
use Rattle.gs_laws_parts.specs.server.Showing.{Setting, setting_at, ShowsTaken, ShowsLease, ShowsLeaseAt, SealUndamaged, ShowsPlace}
use Rattle.gs_laws_parts.specs.server.Telling.{TellsServer}
use Rattle.gs_laws_parts.specs.server.Moving.{IsHere, FollowsPart}
use Rattle.gs_laws_parts.proofs.lemmas.server.Stamps.{is_itself, same_stamp, stamp_number}
use Rattle.gs_laws_parts.proofs.lemmas.server.Tests.{head_none, tail_none, not_met, met_not, live_there, never_both, zeros}
use Rattle.gs_laws_parts.proofs.lemmas.server.Engine.{stays_put, none_contains, moves_so, same_promise}
use Rattle.gs_laws_parts.proofs.lemmas.server.Places.{grows_by, counts_back, image_same, live_same, live_back}
use Rattle.gs_laws_parts.proofs.lemmas.server.Promising.{lives, or_outcome, either_outcome, nothing_happens}

pub either_way : (a b : ℕ) → (a < b) ⊎ (b ≤ a)
either_way a b = by_case (nat_lt a b) refl
  where
    by_case : (t : Bool) → nat_lt a b ≡ t → (a < b) ⊎ (b ≤ a)
    by_case true is = inl (grind (arith, nat_tests))
    by_case false is = inr (grind (arith, nat_tests))

-- a server that has a live replica is of an epoch not before the birth
pub shown_late : (c : Setting) (k : Known) (epoch : ℕ) (p : Place) (m : Member) → ShowsPlace c k epoch p m → is_some p.slot.live ≡ true → c.born ≤ epoch
shown_late c k epoch p m shows live = ⊎_elim
    (λ (early : epoch < c.born). absurd (let none : is_some p.slot.live ≡ false = ap (λ (s : Slot). is_some s.live) (shows.early early).1 in (cc)))
    (λ (late : c.born ≤ epoch). late)
    (either_way epoch c.born)

pub is_late : (bytes : ReqId → List ℕ) (born : ℕ) (w : ChunkWorld) (h : Here) (p : Place) → IsHere bytes born w h p → is_some p.slot.live ≡ true → born ≤ h.epoch
is_late bytes born w h p here live = shown_late (setting_at bytes born h) w.known h.epoch p (w.members h.me) here.shows live

module _ (bytes : ReqId → List ℕ) (born : ℕ) (w : ChunkWorld) (h : Here) (p : Place) where
  abbrev c : Setting
  c = setting_at bytes born h

  quiet_part : IsHere bytes born w h p → (e : Refusal) → FollowsPart bytes born w h p (unanswered e)
  quiet_part here e = nothing_happens bytes born w h p here.shows [] tt

  -- ---- a lease that is taken

  other_taken : (stamp : Stamp) (t : ℕ) (o : Option Stamp) (taken : ℕ) → ShowsTaken o taken → stamp ≡ stamp_at t → 0 < t → is_taken stamp o ≡ false → taken ≢ t
  other_taken stamp t None taken shown is above none same = (omega arith)
  other_taken stamp t (Some last) taken shown is above none same =
      never_both (is_same stamp last) (subst (λ x. is_same stamp x ≡ true) (is ∙ ap stamp_at (sym same) ∙ sym shown) (is_itself stamp)) none

  new_shows : (list : ℕ → List Edit) (given : Grant) (t : ℕ) → given.stamp ≡ stamp_at t → ShowsLease c list (granted given) (new_lease t given.members)
  new_shows list given t is = record {
    stamp = is;
    members = refl;
    told = λ server. (let z = zeros 16 server in omega arith);
    waits = λ number x there. none_contains (number, x) there;
    opens = λ o there. none_contains o there;
  }

  take : IsHere bytes born w h p → (given : Grant) → TellsServer c w h.me (chunks.Grant given) → first_of (check_grant given.stamp p.slot ∷ when (is_taken given.stamp p.slot.taken) refusals.Old ∷ []) ≡ None
      → FollowsPart bytes born w h p (changing (SlotBecomes (taking given.stamp p.slot)) (LeaseBecomes (granted given)) [])
  take here given tells none =
      let m : Member = w.members h.me in
      let t : ℕ = tells.0 in
      let is : given.stamp ≡ stamp_at t = tells.1 in
      let fits = head_none (check_grant given.stamp p.slot) (when (is_taken given.stamp p.slot.taken) refusals.Old ∷ []) none in
      let live = live_there p.slot.live (head_none (unless_live p.slot.live) (unless_promised given.stamp p.slot ∷ []) fits) in
      let same = met_not (is_same given.stamp p.slot.promise) (refusals.Stamp p.slot.promise) (head_none (unless_promised given.stamp p.slot) [] (tail_none (unless_live p.slot.live) (unless_promised given.stamp p.slot ∷ []) fits)) in
      let untaken = not_met (is_taken given.stamp p.slot.taken) refusals.Old (head_none (when (is_taken given.stamp p.slot.taken) refusals.Old) [] (tail_none (check_grant given.stamp p.slot) (when (is_taken given.stamp p.slot.taken) refusals.Old ∷ []) none)) in
      let t_is : t ≡ m.promise = stamp_number t m.promise (sym is ∙ same_stamp given.stamp p.slot.promise same ∙ here.shows.promise) in
      let l = lives c p.slot m.live here.shows.live live in
      let there = here.shows.promised (ap is_some l.1) in
      let late = is_late bytes born w h p here live in
      let n : Member = record m { taken = t; lease = Some (new_lease t given.members) } in
      let so = moves_so w (TakesLease h.me t given.members) h.me n [] (tells.2, t_is, other_taken given.stamp t p.slot.taken m.taken here.shows.taken is (omega arith) untaken) refl in
      let moved = so.moved in
      let g = grows_by w h.me n [] moved in record {
        member = n;
        sends = [];
        moved = moved;
        lists = λ t. inl (so.list t);
        numbers = λ t. (so.list t);
        intact = λ spared whole. whole;
        gains = same_promise (w.members h.me) n refl;
        shows = record {
          epoch_is = here.shows.epoch_is;
          early = λ early. absurd (omega arith);
          promise = here.shows.promise;
          carried = here.shows.carried;
          live = live_same c p.slot (taking given.stamp p.slot) m.live refl here.shows.live;
          image = image_same c p.slot (taking given.stamp p.slot) m.image refl here.shows.image;
          taken = is;
          lease = new_shows moved.world.known.list given t is;
          promised = here.shows.promised;
          intact = λ whole. let x = here.shows.intact whole in (λ counts. x.0 (live_back w.known moved.world.known m.epoch g counts), λ counts. x.1 (counts_back w.known moved.world.known m.epoch g counts));
        };
        tells = tt;
      }

  takes_outcome : IsHere bytes born w h p → (given : Grant) → (m : Result Slot Refusal) → Holds (λ s. FollowsPart bytes born w h p (changing (SlotBecomes s) (LeaseBecomes (granted given)) [])) m → FollowsPart bytes born w h p (takes given m)
  takes_outcome here given (Ok s) holds = holds
  takes_outcome here given (Err e) holds = quiet_part here e

  pub grant_outcome : IsHere bytes born w h p → (given : Grant) → TellsServer c w h.me (chunks.Grant given) → FollowsPart bytes born w h p (holding.grant h p given)
  grant_outcome here given tells =
      or_outcome bytes born w h p (first_of (other_epoch h given.stamp.epoch ∷ check_grant given.stamp p.slot ∷ [])) unanswered (cond (is_held given.stamp p.lease) (sending []) (takes given (take_lease given.stamp p.slot))) (quiet_part here)
      (λ none. either_outcome bytes born w h p (is_held given.stamp p.lease) (sending []) (takes given (take_lease given.stamp p.slot))
      (λ held. nothing_happens bytes born w h p here.shows [] tt)
      (λ free. takes_outcome here given (take_lease given.stamp p.slot)
      (of_unless (λ s. FollowsPart bytes born w h p (changing (SlotBecomes s) (LeaseBecomes (granted given)) [])) (first_of (check_grant given.stamp p.slot ∷ when (is_taken given.stamp p.slot.taken) refusals.Old ∷ [])) (taking given.stamp p.slot)
      (λ fits. take here given tells fits))))

  -- ---- one that goes on

  renewed_shows : (list : ℕ → List Edit) (end : Moment) (l : primary.PrimaryLease) (o : Option MemberLease) → ShowsLeaseAt c list (Some l) o → ShowsLeaseAt c list (Some (renews end l)) o
  renewed_shows list end l None is = is
  renewed_shows list end l (Some m) is = record { stamp = is.stamp; members = is.members; told = is.told; waits = is.waits; opens = is.opens }

  renewed_place : IsHere bytes born w h p → (end : Moment) (l : primary.PrimaryLease) → p.lease ≡ Some l → FollowsPart bytes born w h p (changing SlotStays (LeaseBecomes (renews end l)) [])
  renewed_place here end l is = stays_put c h.handle w h.me h.epoch (record { slot = p.slot; lease = Some (renews end l) }) [] (record {
    epoch_is = here.shows.epoch_is;
    early = here.shows.early;
    promise = here.shows.promise;
    carried = here.shows.carried;
    live = here.shows.live;
    image = here.shows.image;
    taken = here.shows.taken;
    lease = renewed_shows w.known.list end l (w.members h.me).lease (subst (λ o. ShowsLeaseAt c w.known.list o (w.members h.me).lease) is here.shows.lease);
    promised = here.shows.promised;
    intact = here.shows.intact;
  }) tt

  pub renewed_outcome : IsHere bytes born w h p → (stamp : Stamp) (end : Moment) → FollowsPart bytes born w h p (holding.renewed p stamp end)
  renewed_outcome here stamp end = or_outcome bytes born w h p (unless_leased stamp p.slot p.lease) unanswered (goes_on (renews end) (λ l. []) p.lease) (quiet_part here) (λ none. by_case p.lease refl)
    where
      by_case : (o : Option primary.PrimaryLease) → p.lease ≡ o → FollowsPart bytes born w h p (goes_on (renews end) (λ l. []) o)
      by_case None is = nothing_happens bytes born w h p here.shows [] tt
      by_case (Some l) is = renewed_place here end l is

  -- ---- a drop

  drop_it : IsHere bytes born w h p → (epoch : ℕ) (promise : Stamp) → TellsServer c w h.me (chunks.Drop epoch promise) → epoch ≡ h.epoch → first_of (unless_promised promise p.slot ∷ unless_live p.slot.live ∷ []) ≡ None
      → FollowsPart bytes born w h p (changing (SlotBecomes (removed p.slot)) LeaseSpent [])
  drop_it here epoch promise tells epoch_is none =
      let m : Member = w.members h.me in
      let t : ℕ = tells.0 in
      let same = met_not (is_same promise p.slot.promise) (refusals.Stamp p.slot.promise) (head_none (unless_promised promise p.slot) (unless_live p.slot.live ∷ []) none) in
      let live = live_there p.slot.live (head_none (unless_live p.slot.live) [] (tail_none (unless_promised promise p.slot) (unless_live p.slot.live ∷ []) none)) in
      let late = is_late bytes born w h p here live in
      let t_is : t ≡ m.promise = stamp_number t m.promise (sym tells.1 ∙ same_stamp promise p.slot.promise same ∙ here.shows.promise) in
      let e_is : epoch ≡ m.epoch = epoch_is ∙ sym (here.shows.epoch_is late) in
      let n : Member = record m { live = None; lease = None } in
      let so = moves_so w (Drops h.me) h.me n [] (subst (λ x. WasTold w h.me (Drop m.epoch x)) t_is (subst (λ x. WasTold w h.me (Drop x t)) e_is tells.2)) refl in
      let moved = so.moved in
      let g = grows_by w h.me n [] moved in record {
        member = n;
        sends = [];
        moved = moved;
        lists = λ t. inl (so.list t);
        numbers = λ t. (so.list t);
        intact = λ spared whole. whole;
        gains = same_promise (w.members h.me) n refl;
        shows = record {
          epoch_is = here.shows.epoch_is;
          early = λ early. absurd (omega arith);
          promise = here.shows.promise;
          carried = here.shows.carried;
          live = refl;
          image = image_same c p.slot (removed p.slot) m.image (removed_stays p.slot) here.shows.image;
          taken = here.shows.taken;
          lease = tt;
          promised = λ none. absurd (cc);
          intact = λ whole. let x = here.shows.intact whole in (λ _. tt, λ counts. subst SealUndamaged (sym (removed_stays p.slot)) (x.1 (counts_back w.known moved.world.known m.epoch g counts)));
        };
        tells = tt;
      }

  drops_outcome : IsHere bytes born w h p → (m : Result Slot Refusal) → Holds (λ s. FollowsPart bytes born w h p (changing (SlotBecomes s) LeaseSpent [])) m → FollowsPart bytes born w h p (drops m)
  drops_outcome here (Ok s) holds = holds
  drops_outcome here (Err e) holds = quiet_part here e

  pub drop_outcome : IsHere bytes born w h p → (epoch : ℕ) (promise : Stamp) → TellsServer c w h.me (chunks.Drop epoch promise) → FollowsPart bytes born w h p (messages.drop_replica h p epoch promise)
  drop_outcome here epoch promise tells =
      or_outcome bytes born w h p (other_epoch h epoch) unanswered (drops (slots.drop_replica promise p.slot)) (quiet_part here)
      (λ none. drops_outcome here (slots.drop_replica promise p.slot)
      (of_unless (λ s. FollowsPart bytes born w h p (changing (SlotBecomes s) LeaseSpent [])) (first_of (unless_promised promise p.slot ∷ unless_live p.slot.live ∷ [])) (removed p.slot) (λ fits. drop_it here epoch promise tells (of_epoch h epoch none) fits)))
