-- Copies at the chunk's own place: those that are sent, and those that are taken.
use Rattle.std.proofs.Common.{◌≡◌, ℕ, ◌≤◌, ◌⊎◌, inl, inr, Bool, true, false, not, cond, List, [], ◌∷◌, Option, Some, None, refl, sym, ap, subst, ◌∙◌}
use Rattle.std.specs.Prelude.{Result, Ok, Err, is_some}
use Rattle.gs_base.specs.declared.numbers.Stamp.{Stamp}
use Rattle.gs_base.specs.declared.numbers.ReqId.{ReqId}
use Rattle.gs_base.specs.declared.refusal.Refusal.{Refusal}
use Rattle.gs_base.specs.declared.refusal.Refusal.TheVariants as refusals
use Rattle.gs_base.specs.Stamps.{is_before, is_same}
use Rattle.gs_replica.specs.Seals.{Sealed, State, lowest_damaged}
use Rattle.gs_replica.specs.Copies.{Image, SealedImage, image, as_sealed, and_then}
use Rattle.gs_replica.specs.Stands.{Edit, StoodFor, IsTaken, replica_of}
use Rattle.gs_replica.proofs.Listing.{seal_ok}
use Rattle.gs_msg.specs.declared.node.NodeId.TheVariants as nodes
use Rattle.gs_msg.specs.declared.chunk.Chunk.TheVariants as chunks
use Rattle.gs_store.specs.Slots.{Live, Slot, when, unless, first_of, unless_live, unless_promised, if_bad, sealed_of, replaced, again}
use Rattle.gs_store.specs.Moves.{sound_image, unless_lost, copied_in, copy_in, source, live_in, in_trash, carried_in}
use Rattle.gs_store.specs.Moves as moves
use Rattle.gs_store.specs.Standing.{LiveStandsFor, StandsIn, IsToldIn, SealToldIn}
use Rattle.gs_store.proofs.Laws.{Holds, of_ok, of_cond, replaced_stays}
use Rattle.gs_store.proofs.Standing.{same_ok, unless_ok}
use Rattle.gs_store.proofs.Copying.{then_ok, live_stands, live_told, image_stands, sound_stands, Arrives, arrived, ArrivesSealed, arrived_sealed, of_copied}
use Rattle.gs_server.specs.Places.{Place, Here, about, other_epoch, promising, sending}
use Rattle.gs_server.specs.Promises.{promised, unpromised, promises, sends_copy}
use Rattle.gs_server.specs.Promises as messages
use Rattle.gs_server.proofs.Walks.{of_epoch}
use Rattle.gs_laws_chunk.specs.machine.Stamps.{epoch_of, stamp_at}
use Rattle.gs_laws_chunk.specs.machine.Machine.{Member, ChunkWorld, WasTold, CopyIn}
use Rattle.gs_laws_chunk.specs.machine.Events.{SendsCopy, one}
use Rattle.gs_laws_parts.specs.server.Showing.{Setting, setting_at, ShowsImage, SealUndamaged, ShowsPlace}
use Rattle.gs_laws_parts.specs.server.Telling.{IsImage, AreImages, TellsServer}
use Rattle.gs_laws_parts.specs.server.Moving.{IsHere, IsToldApart, FollowsPart}
use Rattle.gs_laws_parts.proofs.lemmas.server.Stamps.{stamp_number, same_stamp}
use Rattle.gs_laws_parts.proofs.lemmas.server.Engine.{said_one, moves_so, same_promise}
use Rattle.gs_laws_parts.proofs.lemmas.server.Places.{grows_by, place_grown}
use Rattle.gs_laws_parts.proofs.lemmas.server.Promising.{SealRaised, epoch_same, IsRaised, lives, holds_from, again_holds, or_outcome, unpromised_outcome, promises_outcome, raise_new, again_told}

-- a sealed image that goes along is of no damaged blocks
sound_undamaged : (o : Option Sealed) (i : SealedImage) → sound_image o ≡ Some i → SealUndamaged o
sound_undamaged None i is = tt
sound_undamaged (Some t) i is = by_case (lowest_damaged t.undone) is
  where
    by_case : (d : Option ℕ) → unless_lost d (as_sealed t) ≡ Some i → d ≡ None
    by_case None is = refl
    by_case (Some block) is = absurd (cc)

none_sound : (o : Option Sealed) (i : SealedImage) → o ≡ None → sound_image o ≡ Some i → ⊥
none_sound None i none is = (cc)
none_sound (Some t) i none is = (cc)

first_promised : (stamp : Stamp) (s : Slot) (rest : List (Option Refusal)) → first_of (unless_promised stamp s ∷ rest) ≡ None → is_same stamp s.promise ≡ true
first_promised stamp s rest none = by_case (is_same stamp s.promise) none
  where
    by_case : (b : Bool) → first_of (when (not b) (refusals.Stamp s.promise) ∷ rest) ≡ None → b ≡ true
    by_case true none = refl
    by_case false none = absurd (cc)

module _ (bytes : ReqId → List ℕ) (born : ℕ) (w : ChunkWorld) (h : Here) (p : Place) where
  abbrev c : Setting
  c = setting_at bytes born h

  -- ---- a copy that is sent

  -- what is sent: the live replica's image, and the sealed one where it is asked for and sound
  record Copies (stamp : Stamp) (flag : Bool) (copy : Image × Option SealedImage) : Type 0 where
    same : is_same stamp p.slot.promise ≡ true
    live : is_some p.slot.live ≡ true
    image : (edits : List Edit) → StandsIn h.block h.chunk p.slot edits → IsToldIn h.block h.chunk p.slot edits → copy.0 ≡ replica_of h.chunk edits
    sealed : copy.1 ≡ cond flag (sound_image (sealed_of p.slot)) None

  unless_none : {A : Type 0} (o : Option Refusal) (m : Result A Refusal) (a : A) → unless o m ≡ Ok a → o ≡ None
  unless_none None m a is = refl
  unless_none (Some e) m a is = absurd (cc)

  live_is : (live : Option Live) (r : State) → live_in live ≡ Ok r → is_some live ≡ true
  live_is None r is = absurd (cc)
  live_is (Some l) r is = refl

  copies : (stamp : Stamp) (flag : Bool) (copy : Image × Option SealedImage) → moves.copy_out stamp flag p.slot ≡ Ok copy → Copies stamp flag copy
  copies stamp flag copy is =
      let sealed : Option SealedImage = cond flag (sound_image (sealed_of p.slot)) None in
      let a = then_ok (source stamp p.slot) (λ (r : State). and_then {B = Image × Option SealedImage} (image r) (λ i. Ok (i, sealed))) copy is in
      let b = then_ok {B = Image × Option SealedImage} (image a.first) (λ i. Ok (i, sealed)) copy a.then in
      let tests = unless_promised stamp p.slot ∷ unless_live p.slot.live ∷ if_bad p.slot.live ∷ [] in
      let live = unless_ok (first_of tests) (live_in p.slot.live) a.first a.made in
      let all : copy ≡ (b.first, sealed) = same_ok (b.first, sealed) copy b.then in record {
        same = first_promised stamp p.slot (unless_live p.slot.live ∷ if_bad p.slot.live ∷ []) (unless_none (first_of tests) (live_in p.slot.live) a.first a.made);
        live = live_is p.slot.live a.first live;
        image = λ edits stands told. ap (λ (q : Image × Option SealedImage). q.0) all ∙ image_stands h.block h.chunk a.first b.first edits (live_stands h.block h.chunk p.slot.live a.first edits stands live) (live_told h.block h.chunk p.slot.live a.first edits told live) b.made;
        sealed = ap (λ (q : Image × Option SealedImage). q.1) all;
      }

  -- the list of the sealed image that goes along
  record Sealing (flag : Bool) (carried : Option SealedImage) : Type 0 where
    old : Option (List Edit)
    may : (old ≡ None) ⊎ ((flag ≡ true) × (old ≡ (w.members h.me).image))
    are : AreImages c carried old

  sealing_some : (i : SealedImage) (o : Option (List Edit)) → ShowsImage c p.slot o → ((edits : List Edit) → o ≡ Some edits → SealToldIn h.block h.chunk p.slot edits) → sound_image (sealed_of p.slot) ≡ Some i → AreImages c (Some i) o
  sealing_some i None shown told is = elim (none_sound (sealed_of p.slot) i shown is) [ ]
  sealing_some i (Some edits) shown told is =
      let k = sound_stands h.block h.chunk (sealed_of p.slot) i edits shown (told edits refl) is in
      (record { taken = stood_taken (sealed_of p.slot) shown; is = k.image }, k.digests)
    where
      stood_taken : (s : Option Sealed) → StoodFor h.block h.chunk s edits → IsTaken h.chunk edits
      stood_taken None stood = elim stood [ ]
      stood_taken (Some t) stood = stood.taken

  sealing : ShowsPlace c w.known h.epoch p (w.members h.me) → IsToldApart h.block h.chunk p.slot (w.members h.me) → (flag : Bool) (carried : Option SealedImage) → carried ≡ cond flag (sound_image (sealed_of p.slot)) None → Sealing flag carried
  sealing shows told flag None is = record { old = None; may = inl refl; are = tt }
  sealing shows told false (Some i) is = absurd (cc)
  sealing shows told true (Some i) is = record { old = (w.members h.me).image; may = inr (refl, refl); are = sealing_some i (w.members h.me).image shows.image told.image (sym is) }

  stands_taken : (live : Option Live) (edits : List Edit) → LiveStandsFor h.block h.chunk live edits → IsTaken h.chunk edits
  stands_taken None edits stands = elim stands [ ]
  stands_taken (Some l) edits stands = stands.taken

  sent_outcome : IsHere bytes born w h p → IsToldApart h.block h.chunk p.slot (w.members h.me) → (stamp : Stamp) (target : ℕ) (flag : Bool) → TellsServer c w h.me (chunks.CopyOut stamp target flag) → stamp.epoch ≡ h.epoch → (copy : Image × Option SealedImage) → Copies stamp flag copy
      → FollowsPart bytes born w h p (sending (about h (nodes.Server target) (chunks.CopyIn stamp copy.0 copy.1) ∷ []))
  sent_outcome here told stamp target flag tells epoch copy made =
      let m : Member = w.members h.me in
      let t : ℕ = tells.0 in
      let is : stamp ≡ stamp_at t = tells.1 in
      let l = lives c p.slot m.live here.shows.live made.live in
      let edits : List Edit = l.0 in
      let stamp_is : stamp ≡ p.slot.promise = same_stamp stamp p.slot.promise made.same in
      let t_is : t ≡ m.promise = stamp_number t m.promise (sym is ∙ stamp_is ∙ here.shows.promise) in
      let there = here.shows.promised (ap is_some l.1) in
      let after : born ≤ epoch_of t = subst (λ n. born ≤ epoch_of n) (sym t_is) there.1 in
      let same = epoch_same bytes born w h p here stamp t is after epoch in
      let s = sealing here.shows told flag copy.1 made.sealed in
      let so = moves_so w (SendsCopy h.me t target edits s.old) h.me m (one target (CopyIn t edits s.old)) (t_is, same.1, l.1, (flag, tells.2, s.may)) refl in
      let moved = so.moved in
      let said : WasTold moved.world target (CopyIn t edits s.old) = said_one w h.me target m (CopyIn t edits s.old) moved in record {
        member = m;
        sends = one target (CopyIn t edits s.old);
        moved = moved;
        lists = λ t. inl (so.list t);
        numbers = λ t. (so.list t);
        intact = λ spared whole. whole;
        gains = same_promise (w.members h.me) m refl;
        shows = place_grown c w.known moved.world.known (grows_by w h.me m _ moved) h.epoch p m here.shows;
        tells = ((λ _. (tt, (t, edits, s.old, is, after, record { taken = stands_taken p.slot.live edits l.2; is = made.image edits l.2 (told.live edits l.1) }, s.are, said))), tt);
      }

  sends_outcome : IsHere bytes born w h p → IsToldApart h.block h.chunk p.slot (w.members h.me) → (stamp : Stamp) (target : ℕ) (flag : Bool) → TellsServer c w h.me (chunks.CopyOut stamp target flag) → stamp.epoch ≡ h.epoch → (m : Result (Image × Option SealedImage) Refusal) → moves.copy_out stamp flag p.slot ≡ m
      → FollowsPart bytes born w h p (sends_copy h p stamp target m)
  sends_outcome here told stamp target flag tells epoch (Ok copy) is = sent_outcome here told stamp target flag tells epoch copy (copies stamp flag copy is)
  sends_outcome here told stamp target flag tells epoch (Err e) is = unpromised_outcome bytes born w h p here.shows stamp e

  pub copy_out_outcome : IsHere bytes born w h p → IsToldApart h.block h.chunk p.slot (w.members h.me) → (stamp : Stamp) (target : ℕ) (flag : Bool) → TellsServer c w h.me (chunks.CopyOut stamp target flag) → FollowsPart bytes born w h p (messages.copy_out h p stamp target flag)
  copy_out_outcome here told stamp target flag tells =
      or_outcome bytes born w h p (other_epoch h stamp.epoch) (unpromised h p stamp) (sends_copy h p stamp target (moves.copy_out stamp flag p.slot)) (unpromised_outcome bytes born w h p here.shows stamp)
      (λ none. sends_outcome here told stamp target flag tells (of_epoch h stamp.epoch none) (moves.copy_out stamp flag p.slot) refl)

  -- ---- a copy that is taken

  trash_sets : (o : Option State) (s : Slot) → ((in_trash o s).promise ≡ s.promise) × ((in_trash o s).carried ≡ s.carried) × ((in_trash o s).taken ≡ s.taken)
  trash_sets None s = (refl, refl, refl)
  trash_sets (Some t) s = (refl, refl, refl)

  abbrev Sets : Stamp → Option SealedImage → Slot → Type 0
  Sets stamp o x = (x.promise ≡ stamp) × (x.carried ≡ is_some o) × (x.taken ≡ p.slot.taken)

  sets : (stamp : Stamp) (i : Image) (o : Option SealedImage) → Holds (Sets stamp o) (copied_in h.block h.chunk stamp i o p.slot)
  sets stamp i o = of_copied (Sets stamp o) h.block h.chunk stamp i o p.slot (λ q made. trash_sets q.1 (replaced stamp (is_some o) q.0 p.slot))

  none_in : (trash : Option State) → carried_in h.block h.chunk None ≡ Ok trash → trash ≡ None
  none_in trash is = same_ok None trash is

  own_stays : (stamp : Stamp) (i : Image) → Holds (λ x. sealed_of x ≡ sealed_of p.slot) (copied_in h.block h.chunk stamp i None p.slot)
  own_stays stamp i =
      of_copied (λ x. sealed_of x ≡ sealed_of p.slot) h.block h.chunk stamp i None p.slot
      (λ q made. subst (λ o. sealed_of (in_trash o (replaced stamp false q.0 p.slot)) ≡ sealed_of p.slot) (sym (none_in q.1 made.trash)) (replaced_stays stamp false q.0 p.slot (seal_ok _ _ q.0 made.live).1))

  some_same : (o : Option SealedImage) (old : Option (List Edit)) → AreImages c o old → is_some o ≡ is_some old
  some_same None None are = refl
  some_same None (Some edits) are = elim are [ ]
  some_same (Some i) None are = elim are [ ]
  some_same (Some i) (Some edits) are = refl

  copied_raised : IsHere bytes born w h p → (stamp : Stamp) (i : Image) (o : Option SealedImage) (edits : List Edit) (old : Option (List Edit)) → IsImage c i edits → AreImages c o old → (s : Slot) → copied_in h.block h.chunk stamp i o p.slot ≡ Ok s
      → IsRaised bytes born w h p stamp edits old s
  copied_raised here stamp i o edits old is are s made =
      let set = of_ok (Sets stamp o) (copied_in h.block h.chunk stamp i o p.slot) s made (sets stamp i o) in
      let live = of_ok (λ x. Arrives h.block h.chunk edits x.live) (copied_in h.block h.chunk stamp i o p.slot) s made (arrived h.block h.chunk stamp i o p.slot edits here.some_block here.block_fits here.chunk_fits is.taken is.is) in record {
        promise = set.0;
        carried = set.1 ∙ some_same o old are;
        stands = live.0;
        undamaged = λ _ _. live.1;
        taken = set.2;
        sealed = by_case o old are made;
      }
    where
      by_case : (o : Option SealedImage) (old : Option (List Edit)) → AreImages c o old → copied_in h.block h.chunk stamp i o p.slot ≡ Ok s → SealRaised bytes born w h p old s
      by_case None None are made = of_ok (λ x. sealed_of x ≡ sealed_of p.slot) (copied_in h.block h.chunk stamp i None p.slot) s made (own_stays stamp i)
      by_case None (Some e) are made = elim are [ ]
      by_case (Some t) None are made = elim are [ ]
      by_case (Some t) (Some e) are made =
          let a = of_ok (λ x. ArrivesSealed h.block h.chunk e t (sealed_of x)) (copied_in h.block h.chunk stamp i (Some t) p.slot) s made (arrived_sealed h.block h.chunk stamp i t p.slot e here.some_block here.block_fits here.chunk_fits are.0.taken are.0.is are.1) in
          (a.0, sound_undamaged (sealed_of s) t a.1)

  pub copy_in_outcome : IsHere bytes born w h p → (stamp : Stamp) (i : Image) (o : Option SealedImage) → TellsServer c w h.me (chunks.CopyIn stamp i o) → FollowsPart bytes born w h p (messages.copy_in h p stamp i o)
  copy_in_outcome here stamp i o tells =
      let t : ℕ = tells.0 in
      let edits : List Edit = tells.1 in
      let old : Option (List Edit) = tells.2 in
      let is : stamp ≡ stamp_at t = tells.3 in
      let P : Slot → Type 0 = λ s. FollowsPart bytes born w h p (promising s p (promised h stamp s ∷ [])) in
      or_outcome bytes born w h p (other_epoch h stamp.epoch) (unpromised h p stamp) (promises h p stamp (copy_in h.block h.chunk stamp i o p.slot)) (unpromised_outcome bytes born w h p here.shows stamp)
      (λ none. promises_outcome bytes born w h p here.shows stamp (copy_in h.block h.chunk stamp i o p.slot)
      (of_cond P (is_before p.slot.promise stamp) (copied_in h.block h.chunk stamp i o p.slot) (again stamp p.slot)
      (λ above. holds_from P (copied_in h.block h.chunk stamp i o p.slot) (λ s made. raise_new bytes born w h p here stamp t edits old s is tells.4 (of_epoch h stamp.epoch none) above (inr tells.7) (copied_raised here stamp i o edits old tells.5 tells.6 s made)))
      (λ below. again_holds P stamp p.slot (λ same live. again_told bytes born w h p here stamp t is same live (λ e. inr (edits, old, inr (subst (λ n. WasTold w h.me (CopyIn n edits old)) e tells.7)))))))
