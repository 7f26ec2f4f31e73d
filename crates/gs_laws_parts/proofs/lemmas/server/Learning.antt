-- The end of an epoch, and what is named behind it.
use Rattle.std.proofs.Common.{◌≡◌, ℕ, ◌+◌, ◌<◌, ◌≤◌, ⊎_elim, Bool, true, false, cond, List, [], ◌∷◌, ◌++◌, Option, Some, None, refl, sym, ap, subst, ◌∙◌, arith, inl}
use Rattle.std.specs.Prelude.{Result, Ok, Err, is_some, ◌&&◌}
use Rattle.std.specs.List.{AllByRecursion}
use Rattle.gs_base.specs.declared.numbers.Stamp.{Stamp}
use Rattle.gs_base.specs.declared.epoch.EpochEnd.{EpochEnd}
use Rattle.gs_base.specs.declared.epoch.EpochEnd.TheVariants.{Prepare, Finalize, Rollback}
use Rattle.gs_base.specs.Stamps.{is_same}
use Rattle.gs_replica.specs.Seals.{Sealed, State, lowest_damaged, roll_back_to}
use Rattle.gs_replica.specs.Stands.{Edit, StoodFor}
use Rattle.gs_base.specs.declared.refusal.Refusal.{Refusal}
use Rattle.gs_block.specs.Edits.{unless_damaged}
use Rattle.gs_store.proofs.Standing.{same_ok}
use Rattle.gs_store_seal.specs.Rollback.{later}
use Rattle.gs_store.specs.Slots.{Live, Slot, lost, sealed_of}
use Rattle.gs_store.specs.Standing.{LiveStandsFor, StoodIn, LiveUndamaged}
use Rattle.gs_store.specs.Learning.{start_of as first_of_epoch, sealed_live, unsealed_live, prepared, finalized, rolled_back, rolled_to, is_named, is_sound}
use Rattle.gs_store.specs.Stores.{gone_on}
use Rattle.gs_store.proofs.StoreLaws.{empty_stays}
use Rattle.gs_store.proofs.Sealing.{prepared_stood, back}
use Rattle.gs_server_lease.specs.Leases as primary
use Rattle.gs_server.specs.Places.{Place}
use Rattle.gs_server.specs.Lifts.{lease_at}
use Rattle.gs_server.specs.Lifts as lifts
use Rattle.gs_laws_chunk.specs.machine.Stamps.{start_of, stamp_at}
use Rattle.gs_laws_chunk.specs.machine.Machine.{Member, Known, ChunkWorld, WasTold, Epoch, Learned}
use Rattle.gs_laws_chunk.specs.machine.Events.{Learns, Names, one, learned, rolled}
use Rattle.gs_laws_parts.specs.server.Showing.{Setting, ShowsLive, ShowsImage, ShowsTaken, SealUndamaged, ShowsPlace, LiveCounts}
use Rattle.gs_laws_parts.specs.server.Messages.{NamesIt}
use Rattle.gs_laws_parts.specs.server.Moving.{FollowsServer, IsNext, MadeIntact}
use Rattle.gs_laws_parts.specs.server.Blocks.{GoesOn}
use Rattle.gs_laws_parts.specs.server.Causes.{Calm}
use Rattle.gs_laws_parts.proofs.lemmas.server.Stamps.{same_stamp, stamp_number, start_stamp, start_epoch, start_above, later_start}
use Rattle.gs_laws_parts.proofs.lemmas.server.Engine.{and_then, stays_put, first_contains, moves_so, Stays, then_list, same_promise}
use Rattle.std.proofs.lemmas.List.Elements.{Contains-append_right}
use Rattle.gs_msg.specs.declared.node.NodeId.TheVariants as nodes
use Rattle.gs_msg.specs.declared.body.Body.TheVariants as bodies
use Rattle.gs_server_lease.specs.Leases.{tell}
use Rattle.gs_laws_parts.proofs.lemmas.server.Places.{Grows, grows_by, grows_then, lease_at_grown, place_grown, live_back}
use Rattle.gs_laws_parts.proofs.lemmas.server.Leasing.{either_way, shown_late}
use Rattle.gs_laws_parts.proofs.lemmas.server.Promising.{lives}

-- ---- the slot of a server that goes on

prepared_live : (c : Setting) (s : Slot) (o : Option (List Edit)) → ShowsLive c s o → ShowsLive c (prepared s) o
prepared_live c s None is = ap sealed_live is
prepared_live c s (Some xs) is = by_case s.live is
  where
    by_case : (live : Option Live) → LiveStandsFor c.block c.size live xs → LiveStandsFor c.block c.size (sealed_live live) xs
    by_case None stands = stands
    by_case (Some l) stands = stands

prepared_image : (c : Setting) (s : Slot) (o : Option (List Edit)) → ShowsLive c s o → ShowsImage c (prepared s) o
prepared_image c s None is = none_sealed s.live is
  where
    none_sealed : (live : Option Live) → live ≡ None → sealed_of (record { promise = s.promise; carried = s.carried; live = sealed_live live; trash = None; taken = s.taken }) ≡ None
    none_sealed None is = refl
    none_sealed (Some l) is = absurd (cc)
prepared_image c s (Some xs) is = prepared_stood c.block c.size xs s s.live refl is

prepared_undamaged : (s : Slot) → LiveUndamaged s.live → LiveUndamaged (prepared s).live × SealUndamaged (sealed_of (prepared s))
prepared_undamaged s none = by_case s.live none
  where
    by_case : (live : Option Live) → LiveUndamaged live → LiveUndamaged (sealed_live live) × SealUndamaged (sealed_of (record { promise = s.promise; carried = s.carried; live = sealed_live live; trash = None; taken = s.taken }))
    by_case None none = (tt, tt)
    by_case (Some l) none = (none, none)

finalized_live : (c : Setting) (s : Slot) (o : Option (List Edit)) → ShowsLive c s o → ShowsLive c (finalized s) o
finalized_live c s None is = ap unsealed_live is
finalized_live c s (Some xs) is = by_case s.live is
  where
    by_case : (live : Option Live) → LiveStandsFor c.block c.size live xs → LiveStandsFor c.block c.size (unsealed_live live) xs
    by_case None stands = stands
    by_case (Some l) stands = stands

finalized_sealed : (s : Slot) → sealed_of (finalized s) ≡ None
finalized_sealed s = by_case s.live
  where
    by_case : (live : Option Live) → sealed_of (record { promise = s.promise; carried = s.carried; live = unsealed_live live; trash = None; taken = s.taken }) ≡ None
    by_case None = refl
    by_case (Some l) = refl

finalized_undamaged : (s : Slot) → LiveUndamaged s.live → LiveUndamaged (finalized s).live
finalized_undamaged s none = by_case s.live none
  where
    by_case : (live : Option Live) → LiveUndamaged live → LiveUndamaged (unsealed_live live)
    by_case None none = none
    by_case (Some l) none = none

none_undamaged : (o : Option Sealed) → o ≡ None → SealUndamaged o
none_undamaged None is = tt
none_undamaged (Some t) is = absurd (cc)

-- what a rollback makes of a slot: what was sealed without damage is live, or nothing is
data RollsTo (s : Slot) (epoch : ℕ) : Type 0 where
  Restores : (t : Sealed) → sealed_of s ≡ Some t → lowest_damaged t.undone ≡ None → is_some (rolled_back epoch s).live ≡ true → (rolled_back epoch s).promise ≡ later s.promise (first_of_epoch epoch) → (rolled_back epoch s).carried ≡ false → RollsTo s epoch
  Fails : (t : Sealed) (block : ℕ) → sealed_of s ≡ Some t → lowest_damaged t.undone ≡ Some block → rolled_back epoch s ≡ lost s → RollsTo s epoch
  Leaves : sealed_of s ≡ None → rolled_back epoch s ≡ lost s → RollsTo s epoch

rolls : (s : Slot) (epoch : ℕ) → RollsTo s epoch
rolls s epoch = by_seal (sealed_of s) refl
  where
    promise : Stamp
    promise = later s.promise (first_of_epoch epoch)

    by_seal : (o : Option Sealed) → sealed_of s ≡ o → RollsTo s epoch
    by_seal None is = Leaves is (ap (λ o. rolled_to promise (roll_back_to promise o) s) is)
    by_seal (Some t) is = by_damage (lowest_damaged t.undone) refl
      where
        by_damage : (d : Option ℕ) → lowest_damaged t.undone ≡ d → RollsTo s epoch
        by_damage None none =
            let r : State = record { held = record { chunk = t.undone; count = t.count; done = t.done; promise = promise }; sealed = None } in
            let made : rolled_back epoch s ≡ rolled_to promise (Ok r) s = ap (λ o. rolled_to promise (roll_back_to promise o) s) is ∙ ap (λ d. rolled_to promise (unless_damaged d r) s) none in
            Restores t is none (ap (λ (x : Slot). is_some x.live) made) (ap (λ (x : Slot). x.promise) made) (ap (λ (x : Slot). x.carried) made)
        by_damage (Some block) some =
            let r : State = record { held = record { chunk = t.undone; count = t.count; done = t.done; promise = promise }; sealed = None } in
            Fails t block is some (ap (λ o. rolled_to promise (roll_back_to promise o) s) is ∙ ap (λ d. rolled_to promise (unless_damaged d r) s) some)

rolled_taken : (s : Slot) (epoch : ℕ) → (rolled_back epoch s).taken ≡ s.taken
rolled_taken s epoch = by_case (roll_back_to (later s.promise (first_of_epoch epoch)) (sealed_of s))
  where
    by_case : (m : Result State Refusal) → (rolled_to (later s.promise (first_of_epoch epoch)) m s).taken ≡ s.taken
    by_case (Ok r) = refl
    by_case (Err e) = refl

rolled_sealed : (s : Slot) (epoch : ℕ) → sealed_of (rolled_back epoch s) ≡ None
rolled_sealed s epoch = by_case (roll_back_to (later s.promise (first_of_epoch epoch)) (sealed_of s)) refl
  where
    by_case : (m : Result State Refusal) → roll_back_to (later s.promise (first_of_epoch epoch)) (sealed_of s) ≡ m → sealed_of (rolled_to (later s.promise (first_of_epoch epoch)) m s) ≡ None
    by_case (Ok r) is = unsealed (sealed_of s) r is
      where
        unsealed : (o : Option Sealed) (r : State) → roll_back_to (later s.promise (first_of_epoch epoch)) o ≡ Ok r → sealed_of (rolled_to (later s.promise (first_of_epoch epoch)) (Ok r) s) ≡ None
        unsealed None r is = absurd (cc)
        unsealed (Some t) r is = damage (lowest_damaged t.undone) is
          where
            damage : (d : Option ℕ) → unless_damaged d (record { held = record { chunk = t.undone; count = t.count; done = t.done; promise = later s.promise (first_of_epoch epoch) }; sealed = None }) ≡ Ok r → sealed_of (rolled_to (later s.promise (first_of_epoch epoch)) (Ok r) s) ≡ None
            damage None is = subst (λ (x : State). sealed_of (rolled_to (later s.promise (first_of_epoch epoch)) (Ok x) s) ≡ None) (same_ok r _ (sym is)) refl
            damage (Some block) is = absurd (cc)
    by_case (Err e) is = refl

-- an epoch leaves a member intact
learned_intact : (m : Member) (epoch : ℕ) (end : EpochEnd) (fails : Bool) → m.intact ≡ true → (learned m epoch end fails).intact ≡ true
learned_intact m epoch Prepare fails whole = whole
learned_intact m epoch Finalize fails whole = whole
learned_intact m epoch Rollback fails whole = rolled_intact (cond fails None m.image)
  where
    rolled_intact : (o : Option (List Edit)) → (rolled m epoch o).intact ≡ true
    rolled_intact None = whole
    rolled_intact (Some edits) = refl

-- and a rollback makes it so
learned_gains : (m : Member) (epoch : ℕ) (end : EpochEnd) (fails : Bool) → MadeIntact m (learned m epoch end fails)
learned_gains m epoch Prepare fails = same_promise m (learned m epoch Prepare fails) refl
learned_gains m epoch Finalize fails = same_promise m (learned m epoch Finalize fails) refl
learned_gains m epoch Rollback fails = rolled_gains (cond fails None m.image)
  where
    rolled_gains : (o : Option (List Edit)) → MadeIntact m (rolled m epoch o)
    rolled_gains None = same_promise m (rolled m epoch None) refl
    rolled_gains (Some edits) = record { brought = λ up carries. refl; rolled = λ next up. refl }

module _ (c : Setting) (chunk : ℕ) (w : ChunkWorld) (me : ℕ) (p : Place) where
  -- ---- a server that goes on to the next epoch

  went_on : (epoch : ℕ) (end : EpochEnd) (fails : Bool) (n : Member) (q : Place) → WasTold w me (Epoch (epoch + 1) end) → (w.members me).epoch ≡ epoch → (fails ≡ true → (w.members me).intact ≡ false)
      → learned (w.members me) ((w.members me).epoch + 1) end fails ≡ n → ((k : Known) → Grows w.known k → ShowsPlace c k (epoch + 1) q n) → FollowsServer Calm c chunk w me (epoch + 1) q []
  went_on epoch end fails n q told is may becomes shows =
      let so : Stays w me n [] = subst (λ x. Stays w me x []) becomes (moves_so w (Learns me end fails) me (learned (w.members me) ((w.members me).epoch + 1) end fails) [] (subst (λ x. WasTold w me (Epoch (x + 1) end)) (sym is) told, may) refl) in
      let moved_so = so.moved in record { member = n; sends = []; moved = moved_so; lists = λ t. inl (so.list t); numbers = λ t. so.list t; intact = λ spared whole. ap (λ (x : Member). x.intact) (sym becomes) ∙ learned_intact (w.members me) ((w.members me).epoch + 1) end fails whole; gains = subst (λ x. MadeIntact (w.members me) x) becomes (learned_gains (w.members me) ((w.members me).epoch + 1) end fails); shows = shows moved_so.world.known (grows_by w me n [] moved_so); tells = tt }

  later_is : (epoch : ℕ) (a : Stamp) → a.epoch ≤ epoch → later a (first_of_epoch (epoch + 1)) ≡ first_of_epoch (epoch + 1)
  later_is epoch a within = ap (λ b. cond b (first_of_epoch (epoch + 1)) a) (later_start a (first_of_epoch (epoch + 1)) (omega arith))

  -- what is live is to be sealed at the prepare of which it learns
  unsealed : (epoch : ℕ) → IsNext c w me p epoch → c.born ≤ epoch → WasTold w me (Epoch (epoch + 1) Prepare) → LiveCounts w.known (w.members me).epoch
  unsealed epoch here late told =
      let t = here.known me (epoch + 1) Prepare told in
      let is : (w.members me).epoch ≡ epoch = here.shows.epoch_is late in
      inl (epoch + 1, omega arith, t.0, t.1)

  -- behind a finalize what is live counts for no other prepare than before
  still_counts : (epoch : ℕ) → IsNext c w me p epoch → c.born ≤ epoch → WasTold w me (Epoch (epoch + 1) Finalize) → (k : Known) → Grows w.known k → LiveCounts k ((w.members me).epoch + 1) → LiveCounts w.known (w.members me).epoch
  still_counts epoch here late told k g counts =
      let is : (w.members me).epoch ≡ epoch = here.shows.epoch_is late in
      ⊎_elim
      (λ (x : (x : ℕ) × ((w.members me).epoch + 1 < x) × (x ≤ w.known.current) × (w.known.how x ≡ Prepare)). inl (x.0, (let l = x.1 in omega arith), x.2, x.3))
      (λ (rolled : w.known.how ((w.members me).epoch + 1) ≡ Rollback). absurd (let how : w.known.how ((w.members me).epoch + 1) ≡ Finalize = ap (λ x. w.known.how (x + 1)) is ∙ (here.known me (epoch + 1) Finalize told).1 in (cc)))
      (live_back w.known k ((w.members me).epoch + 1) g counts)

  prepares : (epoch : ℕ) → IsNext c w me p epoch → c.born ≤ epoch → WasTold w me (Epoch (epoch + 1) Prepare) → FollowsServer Calm c chunk w me (epoch + 1) (lifts.gone_on Prepare (epoch + 1) p) []
  prepares epoch here late told =
      let m : Member = w.members me in
      let is : m.epoch ≡ epoch = here.shows.epoch_is late in
      went_on epoch Prepare false (record m { epoch = m.epoch + 1; image = m.live }) (lifts.gone_on Prepare (epoch + 1) p) told is (λ x. absurd (cc)) refl
      (λ k g. record {
        epoch_is = λ _. ap (λ x. x + 1) is;
        early = λ early. absurd (omega arith);
        promise = here.shows.promise;
        carried = here.shows.carried;
        live = prepared_live c p.slot m.live here.shows.live;
        image = prepared_image c p.slot m.live here.shows.live;
        taken = here.shows.taken;
        lease = lease_at_grown c w.known k g p.lease m.lease here.shows.lease;
        promised = here.shows.promised;
        intact = λ whole. let x = prepared_undamaged p.slot ((here.shows.intact whole).0 (unsealed epoch here late told)) in (λ _. x.0, λ _. x.1);
      })

  finalizes : (epoch : ℕ) → IsNext c w me p epoch → c.born ≤ epoch → WasTold w me (Epoch (epoch + 1) Finalize) → FollowsServer Calm c chunk w me (epoch + 1) (lifts.gone_on Finalize (epoch + 1) p) []
  finalizes epoch here late told =
      let m : Member = w.members me in
      let is : m.epoch ≡ epoch = here.shows.epoch_is late in
      went_on epoch Finalize false (record m { epoch = m.epoch + 1; image = None }) (lifts.gone_on Finalize (epoch + 1) p) told is (λ x. absurd (cc)) refl
      (λ k g. record {
        epoch_is = λ _. ap (λ x. x + 1) is;
        early = λ early. absurd (omega arith);
        promise = here.shows.promise;
        carried = here.shows.carried;
        live = finalized_live c p.slot m.live here.shows.live;
        image = finalized_sealed p.slot;
        taken = here.shows.taken;
        lease = lease_at_grown c w.known k g p.lease m.lease here.shows.lease;
        promised = here.shows.promised;
        intact = λ whole. (λ counts. finalized_undamaged p.slot ((here.shows.intact whole).0 (still_counts epoch here late told k g counts)), λ _. none_undamaged (sealed_of (finalized p.slot)) (finalized_sealed p.slot));
      })

  -- a rollback that makes nothing live
  goes : (epoch : ℕ) → IsNext c w me p epoch → c.born ≤ epoch → WasTold w me (Epoch (epoch + 1) Rollback) → rolled_back (epoch + 1) p.slot ≡ lost p.slot → (fails : Bool) → (fails ≡ true → (w.members me).intact ≡ false)
      → cond fails None (w.members me).image ≡ None → FollowsServer Calm c chunk w me (epoch + 1) (lifts.gone_on Rollback (epoch + 1) p) []
  goes epoch here late told made fails may image =
      let m : Member = w.members me in
      let is : m.epoch ≡ epoch = here.shows.epoch_is late in
      went_on epoch Rollback fails (rolled m (m.epoch + 1) None) (lifts.gone_on Rollback (epoch + 1) p) told is may (ap (rolled m (m.epoch + 1)) image)
      (λ k g. subst (λ x. ShowsPlace c k (epoch + 1) (record { slot = x; lease = None }) (rolled m (m.epoch + 1) None)) (sym made) (record {
        epoch_is = λ _. ap (λ x. x + 1) is;
        early = λ early. absurd (omega arith);
        promise = here.shows.promise;
        carried = here.shows.carried;
        live = refl;
        image = refl;
        taken = here.shows.taken;
        lease = tt;
        promised = λ none. absurd (cc);
        intact = λ whole. (λ _. tt, λ _. tt);
      }))

  restores : (epoch : ℕ) → IsNext c w me p epoch → c.born ≤ epoch → WasTold w me (Epoch (epoch + 1) Rollback) → (xs : List Edit) → (w.members me).image ≡ Some xs → StoodIn c.block c.size p.slot xs → is_some (rolled_back (epoch + 1) p.slot).live ≡ true
      → (rolled_back (epoch + 1) p.slot).promise ≡ later p.slot.promise (first_of_epoch (epoch + 1)) → (rolled_back (epoch + 1) p.slot).carried ≡ false → FollowsServer Calm c chunk w me (epoch + 1) (lifts.gone_on Rollback (epoch + 1) p) []
  restores epoch here late told xs image stood live promise carried =
      let m : Member = w.members me in
      let is : m.epoch ≡ epoch = here.shows.epoch_is late in
      let b = back c.block c.size xs (epoch + 1) p.slot stood live in
      went_on epoch Rollback false (rolled m (m.epoch + 1) (Some xs)) (lifts.gone_on Rollback (epoch + 1) p) told is (λ x. absurd (cc)) (ap (rolled m (m.epoch + 1)) image)
      (λ k g. record {
        epoch_is = λ _. ap (λ x. x + 1) is;
        early = λ early. absurd (omega arith);
        promise = promise ∙ later_is epoch p.slot.promise here.within ∙ sym (start_stamp (epoch + 1)) ∙ ap (λ x. stamp_at (start_of (x + 1))) (sym is);
        carried = sym carried;
        live = b.0;
        image = rolled_sealed p.slot (epoch + 1);
        taken = subst (λ o. ShowsTaken o m.taken) (sym (rolled_taken p.slot (epoch + 1))) here.shows.taken;
        lease = tt;
        promised = λ _. (start_above (m.epoch + 1) (omega arith), (let x = start_epoch (m.epoch + 1) in omega arith));
        intact = λ whole. (λ _. b.1, λ _. none_undamaged (sealed_of (rolled_back (epoch + 1) p.slot)) (rolled_sealed p.slot (epoch + 1)));
      })

  damaged_seal : (t : Sealed) (block : ℕ) (o : Option Sealed) → o ≡ Some t → lowest_damaged t.undone ≡ Some block → SealUndamaged o → ⊥
  damaged_seal t block None is some none = (cc)
  damaged_seal t block (Some u) is some none = (let same : u ≡ t = cc in let x : lowest_damaged t.undone ≡ None = subst (λ (y : Sealed). lowest_damaged y.undone ≡ None) same none in (cc))

  not_intact : (epoch : ℕ) → IsNext c w me p epoch → c.born ≤ epoch → WasTold w me (Epoch (epoch + 1) Rollback) → (t : Sealed) (block : ℕ) → sealed_of p.slot ≡ Some t → lowest_damaged t.undone ≡ Some block → (w.members me).intact ≡ false
  not_intact epoch here late told t block is some = by_case (w.members me).intact refl
    where
      by_case : (b : Bool) → (w.members me).intact ≡ b → b ≡ false
      by_case false whole = refl
      by_case true whole = elim (damaged_seal t block (sealed_of p.slot) is some ((here.shows.intact whole).1 (λ below. ap (λ x. w.known.how (x + 1)) (here.shows.epoch_is late) ∙ (here.known me (epoch + 1) Rollback told).1))) [ ]

  image_there : (t : Sealed) (o : Option (List Edit)) → sealed_of p.slot ≡ Some t → ShowsImage c p.slot o → (xs : List Edit) × (o ≡ Some xs) × StoodIn c.block c.size p.slot xs
  image_there t None is shown = absurd (cc)
  image_there t (Some xs) is shown = (xs, refl, shown)

  stood_none : (o : Option Sealed) (xs : List Edit) → o ≡ None → StoodFor c.block c.size o xs → ⊥
  stood_none None xs is stood = stood
  stood_none (Some t) xs is stood = (cc)

  image_none : (o : Option (List Edit)) → sealed_of p.slot ≡ None → ShowsImage c p.slot o → o ≡ None
  image_none None is shown = refl
  image_none (Some xs) is shown = elim (stood_none (sealed_of p.slot) xs is shown) [ ]

  rolls_back : (epoch : ℕ) → IsNext c w me p epoch → c.born ≤ epoch → WasTold w me (Epoch (epoch + 1) Rollback) → RollsTo p.slot (epoch + 1) → FollowsServer Calm c chunk w me (epoch + 1) (lifts.gone_on Rollback (epoch + 1) p) []
  rolls_back epoch here late told (Restores t is none live promise carried) =
      let x = image_there t (w.members me).image is here.shows.image in
      restores epoch here late told x.0 x.1 x.2 live promise carried
  rolls_back epoch here late told (Fails t block is some made) = goes epoch here late told made true (λ _. not_intact epoch here late told t block is some) refl
  rolls_back epoch here late told (Leaves is made) = goes epoch here late told made false (λ x. absurd (cc)) (image_none (w.members me).image is here.shows.image)

  -- before the birth nothing is kept
  none_held : (o : Option primary.PrimaryLease) (taken : Option Stamp) → taken ≡ None → ((l : primary.PrimaryLease) → o ≡ Some l → taken ≡ Some l.grant.stamp) → o ≡ None
  none_held None taken none held = refl
  none_held (Some l) taken none held = absurd (let x = held l refl in (cc))

  none_at : (end : EpochEnd) (o : Option primary.PrimaryLease) → o ≡ None → lease_at end o ≡ o
  none_at Prepare o is = refl
  none_at Finalize o is = refl
  none_at Rollback o is = sym is

  before_birth : (epoch : ℕ) (end : EpochEnd) → IsNext c w me p epoch → epoch < c.born → FollowsServer Calm c chunk w me (epoch + 1) (lifts.gone_on end (epoch + 1) p) []
  before_birth epoch end here early =
      let m : Member = w.members me in
      let e = here.shows.early early in
      let slot : gone_on end (epoch + 1) p.slot ≡ p.slot = ap (gone_on end (epoch + 1)) e.1 ∙ empty_stays (epoch + 1) end ∙ sym e.1 in
      let lease : lease_at end p.lease ≡ p.lease = none_at end p.lease (none_held p.lease p.slot.taken (ap (λ (s : Slot). s.taken) e.1) here.held) in
      let place : lifts.gone_on end (epoch + 1) p ≡ p = (λ i. record { slot = slot i; lease = lease i }) in
      stays_put c chunk w me (epoch + 1) (lifts.gone_on end (epoch + 1) p) []
      (subst (λ q. ShowsPlace c w.known (epoch + 1) q m) (sym place) (record {
        epoch_is = λ late. (let x = e.0 in omega arith);
        early = λ _. e;
        promise = here.shows.promise;
        carried = here.shows.carried;
        live = here.shows.live;
        image = here.shows.image;
        taken = here.shows.taken;
        lease = here.shows.lease;
        promised = here.shows.promised;
        intact = here.shows.intact;
      })) tt

  pub learns : (epoch : ℕ) (end : EpochEnd) → IsNext c w me p epoch → (c.born < epoch + 1 → WasTold w me (Epoch (epoch + 1) end)) → FollowsServer Calm c chunk w me (epoch + 1) (lifts.gone_on end (epoch + 1) p) []
  learns epoch end here told = ⊎_elim (λ early. before_birth epoch end here early) (λ late. by_end end late (told (omega arith))) (either_way epoch c.born)
    where
      by_end : (end : EpochEnd) → c.born ≤ epoch → WasTold w me (Epoch (epoch + 1) end) → FollowsServer Calm c chunk w me (epoch + 1) (lifts.gone_on end (epoch + 1) p) []
      by_end Prepare late told = prepares epoch here late told
      by_end Finalize late told = finalizes epoch here late told
      by_end Rollback late told = rolls_back epoch here late told (rolls p.slot (epoch + 1))

  -- ---- names

  names_moves : (v : ChunkWorld) (m : Member) (xs : List Edit) → v.members me ≡ m → m.live ≡ Some xs → m.promise ≡ start_of m.epoch → Stays v me m (one me (Learned m.epoch))
  names_moves v m xs is live starts =
      subst (λ n. n.live ≡ Some xs → n.promise ≡ start_of n.epoch → Stays v me n (one me (Learned n.epoch))) is (λ a b. moves_so v (Names me xs) me (v.members me) (one me (Learned (v.members me).epoch)) (a, b) refl) live starts

  all_named : (v : ChunkWorld) (epoch : ℕ) (handles : List ℕ) → WasTold v me (Learned epoch) → AllByRecursion (NamesIt chunk v me epoch) handles
  all_named v epoch [] told = tt
  all_named v epoch (handle ∷ handles) told = ((λ _. told), all_named v epoch handles told)

  none_named : (v : ChunkWorld) (epoch : ℕ) (named : Bool) (handles : List ℕ) → named ≡ false → AllByRecursion (λ handle. handle ≡ chunk → named ≡ true) handles → AllByRecursion (NamesIt chunk v me epoch) handles
  none_named v epoch named [] none all = tt
  none_named v epoch named (handle ∷ handles) none all = ((λ same. absurd (let x = all.0 same in (cc))), none_named v epoch named handles none all.1)

  both : (a b : Bool) → (a && b) ≡ true → (a ≡ true) × (b ≡ true)
  both true true is = (refl, refl)
  both true false is = absurd (cc)
  both false b is = absurd (cc)

  sound_live : (live : Option Live) → is_sound live ≡ true → is_some live ≡ true
  sound_live None is = absurd (cc)
  sound_live (Some l) is = refl

  pub named : (epoch : ℕ) (q : Place) (handles : List ℕ) → FollowsServer Calm c chunk w me epoch q [] → AllByRecursion (λ handle. handle ≡ chunk → is_named epoch q.slot ≡ true) handles → FollowsServer Calm c chunk w me epoch q (tell me nodes.Master (bodies.Learned epoch handles) ∷ [])
  named epoch q handles f all = by_case (is_named epoch q.slot) refl
    where
      by_case : (b : Bool) → is_named epoch q.slot ≡ b → FollowsServer Calm c chunk w me epoch q (tell me nodes.Master (bodies.Learned epoch handles) ∷ [])
      by_case false none = record { member = f.member; sends = f.sends; moved = f.moved; lists = f.lists; numbers = f.numbers; intact = f.intact; gains = f.gains; shows = f.shows; tells = (none_named f.moved.world epoch (is_named epoch q.slot) handles none all, tt) }
      by_case true is =
          let m : Member = f.member in
          let t = both (is_same q.slot.promise (first_of_epoch epoch)) (is_sound q.slot.live) is in
          let live = sound_live q.slot.live t.1 in
          let l = lives c q.slot m.live f.shows.live live in
          let late : c.born ≤ epoch = shown_late c f.moved.world.known epoch q m f.shows live in
          let epoch_is : m.epoch ≡ epoch = f.shows.epoch_is late in
          let starts : m.promise ≡ start_of m.epoch = stamp_number m.promise (start_of m.epoch) (sym f.shows.promise ∙ same_stamp q.slot.promise (first_of_epoch epoch) t.0 ∙ sym (start_stamp epoch) ∙ ap (λ x. stamp_at (start_of x)) (sym epoch_is)) in
          let so = names_moves f.moved.world m l.0 f.moved.is l.1 starts in
          let second = so.moved in
          let moved = and_then w me m m f.sends (one me (Learned m.epoch)) f.moved second (refl, refl, refl) in
          let said : WasTold moved.world me (Learned m.epoch) = moved.says (record { server = me; body = Learned m.epoch }) (Contains-append_right f.sends (one me (Learned m.epoch)) (record { server = me; body = Learned m.epoch }) (first_contains (record { server = me; body = Learned m.epoch }) [])) in record {
            member = m;
            sends = f.sends ++ one me (Learned m.epoch);
            moved = moved;
            lists = λ t. subst (GoesOn c q.slot (w.known.list t)) (sym (then_list w me m m f.sends (one me (Learned m.epoch)) f.moved second (refl, refl, refl) t ∙ so.list t)) (f.lists t);
            numbers = λ t. then_list w me m m f.sends (one me (Learned m.epoch)) f.moved second (refl, refl, refl) t ∙ so.list t ∙ f.numbers t;
            intact = f.intact;
            gains = f.gains;
            shows = place_grown c f.moved.world.known moved.world.known (grows_then w me m m f.sends (one me (Learned m.epoch)) f.moved second (refl, refl, refl)) epoch q m f.shows;
            tells = (all_named moved.world epoch handles (subst (λ x. WasTold moved.world me (Learned x)) epoch_is said), tt);
          }
