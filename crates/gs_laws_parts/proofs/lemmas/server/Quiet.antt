-- What happens to a chunk without a message: a lease is spent, a replica is lost or damaged, and what is live is reported.
use Rattle.std.proofs.Common.{◌≡◌, ◌≢◌, ◌<◌, ◌≤◌, ◌⊎◌, ℕ, zero, suc, Bool, true, false, cond, List, [], ◌∷◌, Option, Some, None, refl, sym, ap, subst, ◌∙◌, arith, inl, inr}
use Rattle.std.specs.Prelude.{Result, Ok, Err, is_some}
use Rattle.std.specs.List.{AllByRecursion}
use Rattle.std.proofs.lemmas.Bool.{cases_lt}
use Rattle.gs_base.specs.declared.epoch.EpochEnd.{EpochEnd}
use Rattle.gs_base.specs.declared.epoch.EpochEnd.TheVariants.{Prepare, Finalize, Rollback}
use Rattle.gs_base.specs.declared.numbers.Moment.{Moment}
use Rattle.gs_base.specs.declared.refusal.Refusal.{Refusal}
use Rattle.gs_base.specs.declared.refusal.Refusal.TheVariants as refusals
use Rattle.gs_replica.specs.Seals.{Sealed, State, on_seal, damage_seal, with_seal}
use Rattle.gs_replica.specs.Seals as replicas
use Rattle.gs_replica.specs.Held.{Held}
use Rattle.gs_replica.specs.Edits as edits
use Rattle.gs_replica.specs.Stands.{Edit}
use Rattle.gs_msg.specs.declared.body.Reported.{Reported}
use Rattle.gs_msg.specs.declared.body.Body.TheVariants as bodies
use Rattle.gs_msg.specs.declared.node.NodeId.TheVariants as nodes
use Rattle.gs_store.specs.Slots.{Live, Slot, lost, lose, sealed_of, damage, damage_of, seal_in, seal_of, nothing}
use Rattle.gs_store.specs.Standing.{LiveStandsFor}
use Rattle.gs_store.specs.Calls.{Damages as DamagesBlock}
use Rattle.gs_store.proofs.Laws.{Holds, of_ok}
use Rattle.gs_store.proofs.Standing.{same_ok, of_live, of_trash, damage_kept}
use Rattle.gs_store.proofs.Sealing.{run_stood}
use Rattle.gs_server_lease.specs.Leases.{tell}
use Rattle.gs_server.specs.Places.{Place}
use Rattle.gs_server.specs.Lifts.{ticked, restarted, with_lease}
use Rattle.gs_server.specs.Servers.{stands_at}
use Rattle.gs_laws_chunk.specs.machine.Machine.{Member, Known, ChunkWorld, WasTold, Report}
use Rattle.gs_laws_chunk.specs.machine.Events.{Spends, Loses, Damages, Reports, one, reports}
use Rattle.gs_laws_parts.specs.server.Showing.{Setting, ShowsLive, ShowsImage, ShowsTaken, ShowsPlace, SealUndamaged, LiveCounts, LiveIsLater, IsLaterOne}
use Rattle.gs_laws_parts.specs.server.Messages.{ReportsIt}
use Rattle.gs_laws_parts.specs.server.Moving.{FollowsServer, Spares}
use Rattle.gs_laws_parts.specs.server.Causes.{Calm, Strikes}
use Rattle.gs_laws_parts.proofs.lemmas.server.Engine.{stays_put, said_one, moves_so, Stays, same_promise}
use Rattle.gs_laws_parts.proofs.lemmas.server.Places.{grows_by, counts_back, lease_at_grown, place_grown, live_back}
use Rattle.gs_laws_parts.proofs.lemmas.server.Promising.{lives}
use Rattle.gs_laws_parts.proofs.lemmas.server.Leasing.{shown_late}

some_same : (a b : Live) → ◌≡◌ {A = Option Live} (Some a) (Some b) → a ≡ b
some_same a b is = cc

-- ---- what damage leaves of a slot

seal_kept : (index : ℕ) (o : Option Sealed) → o ≡ None → on_seal (damage_seal index) o ≡ None
seal_kept index None is = refl
seal_kept index (Some t) is = absurd (cc)

in_seal : (index : ℕ) (o : Option Sealed) (trash : Option State) → seal_in o trash ≡ None → seal_in (on_seal (damage_seal index) o) trash ≡ None
in_seal index None trash is = is
in_seal index (Some t) trash is = absurd (cc)

sealed_so : (f : Sealed → Sealed) (o : Option Sealed) (m : Result Held Refusal) (r : State) → with_seal (on_seal f o) m ≡ Ok r → r.sealed ≡ on_seal f o
sealed_so f o (Ok h) r is = sym (ap (λ (x : State). x.sealed) (same_ok r (record { held = h; sealed = on_seal f o }) (sym is)))
sealed_so f o (Err e) r is = absurd (cc)

damaged_none : (index : ℕ) (s : Slot) (live : Option Live) (trash : Option State) → s.live ≡ live → s.trash ≡ trash → sealed_of s ≡ None → Holds (λ t. sealed_of t ≡ None) (damage_of index s live trash)
damaged_none index s None None is too none = tt
damaged_none index s None (Some r) is too none =
    of_trash (λ t. sealed_of t ≡ None) s (replicas.damage index r)
    (λ q e. subst (λ o. seal_of o (Some q) ≡ None) (sym is) (sealed_so (damage_seal index) r.sealed (edits.damage index r.held) q e ∙ seal_kept index r.sealed (subst (λ o. seal_of o (Some r) ≡ None) is (subst (λ o. seal_of s.live o ≡ None) too none))))
damaged_none index s (Some l) trash is too none =
    of_live (λ t. sealed_of t ≡ None) s l.bad (replicas.damage index l.replica)
    (λ q e. subst (λ o. seal_in o s.trash ≡ None) (sym (sealed_so (damage_seal index) l.replica.sealed (edits.damage index l.replica.held) q e)) (in_seal index l.replica.sealed s.trash (subst (λ o. seal_of o s.trash ≡ None) is none)))

-- a live replica that keeps nothing sealed leaves what is
damaged_sealed : (index : ℕ) (s : Slot) (l : Live) → s.live ≡ Some l → l.replica.sealed ≡ None → Holds (λ t. sealed_of t ≡ sealed_of s) (damage_of index s (Some l) s.trash)
damaged_sealed index s l is none =
    of_live (λ t. sealed_of t ≡ sealed_of s) s l.bad (replicas.damage index l.replica)
    (λ q e. ap (λ o. seal_in o s.trash) (sealed_so (damage_seal index) l.replica.sealed (edits.damage index l.replica.held) q e ∙ seal_kept index l.replica.sealed none ∙ sym none) ∙ sym (ap (λ o. seal_of o s.trash) is))

never_counts : (k : Known) (epoch : ℕ) → LiveIsLater k epoch → LiveCounts k epoch → ⊥
never_counts k epoch later counts = elim counts [
  | inl x ↦ later.1 x.0 x.1 x.2 x.3
  | inr rolled ↦ (let how = later.0 in (cc))
]

-- it keeps nothing sealed if it is damaged, and where it does then
seal_back : (index : ℕ) (o : Option Sealed) → on_seal (damage_seal index) o ≡ None → o ≡ None
seal_back index None is = refl
seal_back index (Some t) is = absurd (cc)

damaged_to : (index : ℕ) (s : Slot) (live : Option Live) (trash : Option State) → s.live ≡ live → Holds (λ t. IsLaterOne t → IsLaterOne s) (damage_of index s live trash)
damaged_to index s None None is = tt
damaged_to index s None (Some r) is = of_trash (λ t. IsLaterOne t → IsLaterOne s) s (replicas.damage index r) (λ q e one. (one.0, one.1, one.2))
damaged_to index s (Some l) trash is =
    of_live (λ t. IsLaterOne t → IsLaterOne s) s l.bad (replicas.damage index l.replica)
    (λ q e one.
    let live : Live = record { replica = q; bad = l.bad } in
    let same : live ≡ one.0 = some_same live one.0 one.1 in
    (l, is, seal_back index l.replica.sealed (sym (sealed_so (damage_seal index) l.replica.sealed (edits.damage index l.replica.held) q e) ∙ ap (λ (x : Live). x.replica.sealed) same ∙ one.2)))

damaged_back : (index : ℕ) (s t : Slot) → damage index s ≡ Ok t → IsLaterOne t → IsLaterOne s
damaged_back index s t is = of_ok (λ x. IsLaterOne x → IsLaterOne s) (damage index s) t is (damaged_to index s s.live s.trash refl)

pub damaged_later : (index : ℕ) (s t : Slot) → damage index s ≡ Ok t → IsLaterOne s → IsLaterOne t
damaged_later index s t is one =
    of_ok IsLaterOne (damage_of index s (Some one.0) s.trash) t (subst (λ o. damage_of index s o s.trash ≡ Ok t) one.1 is)
    (of_live IsLaterOne s one.0.bad (replicas.damage index one.0.replica)
    (λ q e. (record { replica = q; bad = one.0.bad }, refl, sealed_so (damage_seal index) one.0.replica.sealed (edits.damage index one.0.replica.held) q e ∙ seal_kept index one.0.replica.sealed one.2)))

-- ---- whether it counts

later_slot : (s : Slot) → IsLaterOne s ⊎ (IsLaterOne s → ⊥)
later_slot s = by_live s.live refl
  where
    by_seal : (l : Live) → s.live ≡ Some l → (o : Option Sealed) → l.replica.sealed ≡ o → IsLaterOne s ⊎ (IsLaterOne s → ⊥)
    by_seal l is None none = inl (l, is, none)
    by_seal l is (Some t) some = inr (λ one. let same : l ≡ one.0 = some_same l one.0 (sym is ∙ one.1) in let none : Some t ≡ None = sym some ∙ ap (λ (x : Live). x.replica.sealed) same ∙ one.2 in absurd (cc))

    by_live : (o : Option Live) → s.live ≡ o → IsLaterOne s ⊎ (IsLaterOne s → ⊥)
    by_live None is = inr (λ one. let none : None ≡ Some one.0 = sym is ∙ one.1 in absurd (cc))
    by_live (Some l) is = by_seal l is l.replica.sealed refl

is_prepare : (e : EpochEnd) → (e ≡ Prepare) ⊎ (e ≢ Prepare)
is_prepare Prepare = inl refl
is_prepare Finalize = inr (λ same. absurd (cc))
is_prepare Rollback = inr (λ same. absurd (cc))

-- an epoch up to this one has begun by a prepare, or none has
prepared_later : (how : ℕ → EpochEnd) (epoch last : ℕ) → ((x : ℕ) × (epoch < x) × (x ≤ last) × (how x ≡ Prepare)) ⊎ ((x : ℕ) → epoch < x → x ≤ last → how x ≢ Prepare)
prepared_later how epoch zero = inr (λ x above within is. absurd (omega arith))
prepared_later how epoch (suc last) = elim (prepared_later how epoch last) [
  | inl one ↦ inl (one.0, one.1, (let l = one.2 in omega arith), one.3)
  | inr none ↦ elim (is_prepare (how (suc last))) [
    | inl is ↦ elim (cases_lt epoch (suc last)) [
      | inl below ↦ inl (suc last, below, omega arith, is)
      | inr above ↦ inr (λ x after within same. absurd (omega arith))
    ]
    | inr never ↦ inr (λ x after within same. elim (cases_lt x (suc last)) [
      | inl before ↦ none x after (omega arith) same
      | inr at ↦ never (let last_one : x ≡ suc last = omega arith in ap how (sym last_one) ∙ same)
    ])
  ]
]

later_known : (k : Known) (epoch : ℕ) → LiveIsLater k epoch ⊎ (LiveIsLater k epoch → ⊥)
later_known k epoch = elim (is_prepare (k.how epoch)) [
  | inl is ↦ elim (prepared_later k.how epoch k.current) [
    | inl one ↦ inr (λ later. later.1 one.0 one.1 one.2 one.3)
    | inr none ↦ inl (is, none)
  ]
  | inr never ↦ inr (λ later. never later.0)
]

no_spared : (k : Known) (epoch : ℕ) (s : Slot) → (IsLaterOne s → LiveIsLater k epoch → ⊥) → Spares Strikes k epoch s → ⊥
no_spared k epoch s never spared = elim spared [
  | inl none ↦ absurd (cc)
  | inr one ↦ never one.0 one.1
]

damaged_sets : (index : ℕ) (s : Slot) (live : Option Live) (trash : Option State) → Holds (λ t. (t.promise ≡ s.promise) × (t.carried ≡ s.carried) × (t.taken ≡ s.taken)) (damage_of index s live trash)
damaged_sets index s None None = tt
damaged_sets index s None (Some r) = of_trash (λ t. (t.promise ≡ s.promise) × (t.carried ≡ s.carried) × (t.taken ≡ s.taken)) s (replicas.damage index r) (λ q e. (refl, refl, refl))
damaged_sets index s (Some l) trash = of_live (λ t. (t.promise ≡ s.promise) × (t.carried ≡ s.carried) × (t.taken ≡ s.taken)) s l.bad (replicas.damage index l.replica) (λ q e. (refl, refl, refl))

damaged_dead : (index : ℕ) (s : Slot) (live : Option Live) (trash : Option State) → s.live ≡ live → live ≡ None → Holds (λ t. t.live ≡ None) (damage_of index s live trash)
damaged_dead index s None None is none = tt
damaged_dead index s None (Some r) is none = of_trash (λ t. t.live ≡ None) s (replicas.damage index r) (λ q e. is)
damaged_dead index s (Some l) trash is none = absurd (cc)

damaged_live : (c : Setting) (index : ℕ) (s t : Slot) (o : Option (List Edit)) → damage index s ≡ Ok t → ShowsLive c s o → ShowsLive c t o
damaged_live c index s t None made is = of_ok (λ x. x.live ≡ None) (damage index s) t made (damaged_dead index s s.live s.trash refl is)
damaged_live c index s t (Some xs) made is = of_ok (λ x. LiveStandsFor c.block c.size x.live xs) (damage index s) t made (damage_kept c.block c.size index s s.live s.trash xs refl is)

damaged_image : (c : Setting) (index : ℕ) (s t : Slot) (o : Option (List Edit)) → damage index s ≡ Ok t → ShowsImage c s o → ShowsImage c t o
damaged_image c index s t None made is = of_ok (λ x. sealed_of x ≡ None) (damage index s) t made (damaged_none index s s.live s.trash refl refl is)
damaged_image c index s t (Some xs) made is = run_stood c.block c.size xs s t (DamagesBlock index ∷ []) (tt, tt) (t, made, refl) is

-- what is lost is lost
lost_is : (s t : Slot) → lose s ≡ Ok t → t ≡ lost s
lost_is s t is = by_case (is_some s.live) (is_some s.trash) is
  where
    by_case : (a b : Bool) → cond a (Ok (lost s)) (cond b (Ok (lost s)) (Err refusals.NoReplica)) ≡ Ok t → t ≡ lost s
    by_case true b is = same_ok (lost s) t is
    by_case false true is = same_ok (lost s) t is
    by_case false false is = absurd (cc)

module _ (c : Setting) (chunk : ℕ) (w : ChunkWorld) (me epoch : ℕ) (p : Place) (shows : ShowsPlace c w.known epoch p (w.members me)) where
  -- ---- a lease is spent

  pub spends : FollowsServer Calm c chunk w me epoch (restarted p) []
  spends =
      let m : Member = w.members me in
      let n : Member = record m { lease = None } in
      let so = moves_so w (Spends me) me n [] tt refl in
      let moved = so.moved in
      let g = grows_by w me n [] moved in record {
        member = n;
        sends = [];
        moved = moved;
        lists = λ t. inl (so.list t);
        numbers = λ t. (so.list t);
        intact = λ spared whole. whole;
        gains = same_promise (w.members me) n refl;
        shows = record {
          epoch_is = shows.epoch_is;
          early = shows.early;
          promise = shows.promise;
          carried = shows.carried;
          live = shows.live;
          image = shows.image;
          taken = shows.taken;
          lease = tt;
          promised = shows.promised;
          intact = λ whole. let x = shows.intact whole in (λ counts. x.0 (live_back w.known moved.world.known m.epoch g counts), λ counts. x.1 (counts_back w.known moved.world.known m.epoch g counts));
        };
        tells = tt;
      }

  pub ticks : (moment : Moment) → stands_at moment p.lease ≡ false → FollowsServer Calm c chunk w me epoch (ticked moment p) []
  ticks moment over = subst (λ b. FollowsServer Calm c chunk w me epoch (with_lease (cond b p.lease None) p) []) (sym over) spends

  -- ---- a replica is lost, or damaged

  pub loses : (t : Slot) → lose p.slot ≡ Ok t → FollowsServer Strikes c chunk w me epoch (record { slot = t; lease = p.lease }) []
  loses t is =
      let m : Member = w.members me in
      let n : Member = record m { live = None; image = None; intact = false } in
      let so = moves_so w (Loses me) me n [] tt refl in
      let moved = so.moved in
      let g = grows_by w me n [] moved in record {
        member = n;
        sends = [];
        moved = moved;
        lists = λ t. inl (so.list t);
        numbers = λ t. (so.list t);
        intact = λ spared. absurd (no_spared w.known (w.members me).epoch t (λ one _. none_live one) spared);
        gains = same_promise (w.members me) n refl;
        shows = subst (λ x. ShowsPlace c moved.world.known epoch (record { slot = x; lease = p.lease }) n) (sym (lost_is p.slot t is)) (record {
          epoch_is = shows.epoch_is;
          early = λ early. let x = shows.early early in (x.0, ap lost x.1);
          promise = shows.promise;
          carried = shows.carried;
          live = refl;
          image = refl;
          taken = shows.taken;
          lease = lease_at_grown c w.known moved.world.known g p.lease m.lease shows.lease;
          promised = λ none. absurd (cc);
          intact = λ none. absurd (cc);
        });
        tells = tt;
      }
    where
      none_live : IsLaterOne t → ⊥
      none_live one = (let x : None ≡ Some one.0 = sym (ap (λ (s : Slot). s.live) (lost_is p.slot t is)) ∙ one.1 in (cc))

  -- it is damaged
  struck : (index : ℕ) (t : Slot) → damage index p.slot ≡ Ok t → (IsLaterOne t → LiveIsLater w.known (w.members me).epoch → ⊥) → FollowsServer Strikes c chunk w me epoch (record { slot = t; lease = p.lease }) []
  struck index t is never =
      let m : Member = w.members me in
      let n : Member = record m { intact = false } in
      let so = moves_so w (Damages me) me n [] tt refl in
      let moved = so.moved in
      let g = grows_by w me n [] moved in
      let set = of_ok (λ x. (x.promise ≡ p.slot.promise) × (x.carried ≡ p.slot.carried) × (x.taken ≡ p.slot.taken)) (damage index p.slot) t is (damaged_sets index p.slot p.slot.live p.slot.trash) in record {
        member = n;
        sends = [];
        moved = moved;
        lists = λ t. inl (so.list t);
        numbers = λ t. (so.list t);
        intact = λ spared. absurd (no_spared w.known (w.members me).epoch t never spared);
        gains = same_promise (w.members me) n refl;
        shows = record {
          epoch_is = shows.epoch_is;
          early = λ early. absurd (nothing_damaged (shows.early early).1);
          promise = set.0 ∙ shows.promise;
          carried = shows.carried ∙ sym set.1;
          live = damaged_live c index p.slot t m.live is shows.live;
          image = damaged_image c index p.slot t m.image is shows.image;
          taken = subst (λ o. ShowsTaken o m.taken) (sym set.2) shows.taken;
          lease = lease_at_grown c w.known moved.world.known g p.lease m.lease shows.lease;
          promised = shows.promised;
          intact = λ none. absurd (cc);
        };
        tells = tt;
      }
    where
      nothing_damaged : p.slot ≡ nothing → ⊥
      nothing_damaged none = (let x = subst (λ s. damage index s ≡ Ok t) none is in (cc))

  -- damage of what is live only, where that counts no more, is nothing that happens
  spared_then : IsLaterOne p.slot → LiveIsLater w.known (w.members me).epoch → (index : ℕ) (t : Slot) → damage index p.slot ≡ Ok t → FollowsServer Calm c chunk w me epoch (record { slot = t; lease = p.lease }) []
  spared_then one later index t is =
      let m : Member = w.members me in
      let set = of_ok (λ x. (x.promise ≡ p.slot.promise) × (x.carried ≡ p.slot.carried) × (x.taken ≡ p.slot.taken)) (damage index p.slot) t is (damaged_sets index p.slot p.slot.live p.slot.trash) in
      let made : damage_of index p.slot (Some one.0) p.slot.trash ≡ Ok t = subst (λ o. damage_of index p.slot o p.slot.trash ≡ Ok t) one.1 is in
      let seal = of_ok (λ x. sealed_of x ≡ sealed_of p.slot) (damage_of index p.slot (Some one.0) p.slot.trash) t made (damaged_sealed index p.slot one.0 one.1 one.2) in
      stays_put c chunk w me epoch (record { slot = t; lease = p.lease }) [] (record {
        epoch_is = shows.epoch_is;
        early = λ early. absurd (none_live (shows.early early).1);
        promise = set.0 ∙ shows.promise;
        carried = shows.carried ∙ sym set.1;
        live = damaged_live c index p.slot t m.live is shows.live;
        image = damaged_image c index p.slot t m.image is shows.image;
        taken = subst (λ o. ShowsTaken o m.taken) (sym set.2) shows.taken;
        lease = shows.lease;
        promised = shows.promised;
        intact = λ whole. let x = shows.intact whole in (λ counts. absurd (never_counts w.known m.epoch later counts), λ counts. subst SealUndamaged (sym seal) (x.1 counts));
      }) tt
    where
      none_live : p.slot ≡ nothing → ⊥
      none_live none = (let x : None ≡ Some one.0 = sym (ap (λ (s : Slot). s.live) none) ∙ one.1 in (cc))

  -- what leaves all that the server has to keep may be taken for a strike
  as_struck : (q : Place) → FollowsServer Calm c chunk w me epoch q [] → FollowsServer Strikes c chunk w me epoch q []
  as_struck q f = record { member = f.member; sends = f.sends; moved = f.moved; lists = f.lists; numbers = f.numbers; intact = λ spared. f.intact (inl refl); gains = f.gains; shows = f.shows; tells = f.tells }

  pub damages : (index : ℕ) (t : Slot) → damage index p.slot ≡ Ok t → FollowsServer Strikes c chunk w me epoch (record { slot = t; lease = p.lease }) []
  damages index t is = elim (later_slot p.slot) [
    | inl one ↦ elim (later_known w.known (w.members me).epoch) [
      | inl later ↦ as_struck (record { slot = t; lease = p.lease }) (spared_then one later index t is)
      | inr never ↦ struck index t is (λ _ later. never later)
    ]
    | inr never ↦ struck index t is (λ one _. never (damaged_back index p.slot t is one))
  ]

  -- ---- what is live is reported

  reports_live : (v : ChunkWorld) (replicas : List Reported) → WasTold v me (Report epoch (w.members me).promise) → AllByRecursion (λ (r : Reported). r.handle ≡ chunk → r.promise ≡ p.slot.promise) replicas → AllByRecursion (ReportsIt chunk v me epoch) replicas
  reports_live v [] told all = tt
  reports_live v (r ∷ rest) told all = ((λ same. ((w.members me).promise, all.0 same ∙ shows.promise, told)), reports_live v rest told all.1)

  reports_none : (v : ChunkWorld) (replicas : List Reported) → AllByRecursion (λ (r : Reported). r.handle ≡ chunk → ⊥) replicas → AllByRecursion (ReportsIt chunk v me epoch) replicas
  reports_none v [] all = tt
  reports_none v (r ∷ rest) all = ((λ same. elim (all.0 same) [ ]), reports_none v rest all.1)

  pub reported : (replicas : List Reported) → AllByRecursion (λ (r : Reported). r.handle ≡ chunk → (is_some p.slot.live ≡ true) × (r.promise ≡ p.slot.promise)) replicas → FollowsServer Calm c chunk w me epoch p (tell me nodes.Master (bodies.Report epoch replicas) ∷ [])
  reported replicas all = by_case (is_some p.slot.live) refl
    where
      of_dead : (rest : List Reported) → is_some p.slot.live ≡ false → AllByRecursion (λ (r : Reported). r.handle ≡ chunk → (is_some p.slot.live ≡ true) × (r.promise ≡ p.slot.promise)) rest → AllByRecursion (λ (r : Reported). r.handle ≡ chunk → ⊥) rest
      of_dead [] none all = tt
      of_dead (r ∷ rest) none all = ((λ same. let x = (all.0 same).0 in (cc)), of_dead rest none all.1)

      of_live_one : (rest : List Reported) → AllByRecursion (λ (r : Reported). r.handle ≡ chunk → (is_some p.slot.live ≡ true) × (r.promise ≡ p.slot.promise)) rest → AllByRecursion (λ (r : Reported). r.handle ≡ chunk → r.promise ≡ p.slot.promise) rest
      of_live_one [] all = tt
      of_live_one (r ∷ rest) all = ((λ same. (all.0 same).1), of_live_one rest all.1)

      by_case : (b : Bool) → is_some p.slot.live ≡ b → FollowsServer Calm c chunk w me epoch p (tell me nodes.Master (bodies.Report epoch replicas) ∷ [])
      by_case false none = stays_put c chunk w me epoch p (tell me nodes.Master (bodies.Report epoch replicas) ∷ []) shows (reports_none w replicas (of_dead replicas none all), tt)
      by_case true live =
          let m : Member = w.members me in
          let l = lives c p.slot m.live shows.live live in
          let e : m.epoch ≡ epoch = shows.epoch_is (shown_late c w.known epoch p m shows live) in
          let so : Stays w me m (one me (Report m.epoch m.promise)) = subst (λ o. Stays w me m (reports me m o)) l.1 (moves_so w (Reports me) me m (reports me m m.live) tt refl) in
          let moved_so = so.moved in
          let said = said_one w me me m (Report m.epoch m.promise) moved_so in record {
            member = m;
            sends = one me (Report m.epoch m.promise);
            moved = moved_so;
            lists = λ t. inl (so.list t);
            numbers = λ t. (so.list t);
            intact = λ spared whole. whole;
            gains = same_promise (w.members me) m refl;
            shows = place_grown c w.known moved_so.world.known (grows_by w me m (one me (Report m.epoch m.promise)) moved_so) epoch p m shows;
            tells = (reports_live moved_so.world replicas (subst (λ x. WasTold moved_so.world me (Report x m.promise)) e said) (of_live_one replicas all), tt);
          }
