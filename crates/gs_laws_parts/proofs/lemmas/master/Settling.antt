-- A view is settled: of the chunk, on those that have promised; or of another, which the machine doesn't see.
use Rattle.std.proofs.Common.{◌≡◌, ◌≢◌, ℕ, ◌<◌, ◌≤◌, ◌⊎◌, inl, inr, Bool, true, false, not, cond, ◌&&◌, ◌||◌, List, [], ◌∷◌, Option, Some, None, refl, sym, ap, subst, ◌∙◌, arith}
use Rattle.std.specs.Prelude.{◌==◌, ◌%◌, is_some, nat_eq, nat_le, nat_lt, if◌then◌else◌}
use Rattle.std.specs.FinMap as fin
use Rattle.std.specs.Cmp.{nat_cmp_total, tied_itself}
use Rattle.std.specs.List.{list_all, list_any}
use Rattle.std.specs.Ordering.{is_eq}
use Rattle.std.proofs.lemmas.Bool.{false≢true, true≢false, and_parts}
use Rattle.std.proofs.lemmas.Bool.Decides.{nat_tests}
use Rattle.gs_base.specs.Members.{is_member, with_member}
use Rattle.gs_base.specs.MemberLaws.{eqb_itself}
use Rattle.gs_base.specs.Stamps.{is_same}
use Rattle.gs_base.specs.Told.{IsNumber}
use Rattle.gs_base.specs.declared.config.Config.{Config}
use Rattle.gs_edit.specs.View.{NamesView}
use Rattle.gs_lease.specs.declared.view.Term.{Term}
use Rattle.gs_lease.specs.declared.view.View.{View}
use Rattle.gs_msg.specs.declared.body.Body.TheVariants as bodies
use Rattle.gs_msg.specs.declared.chunk.Chunk.TheVariants as abouts
use Rattle.gs_master_record.specs.Plain.{Holder, Settle}
use Rattle.gs_master_record.specs.declared.entry.SettledView.{SettledView}
use Rattle.gs_master_spec.specs.Applied.{applied, follows_view, held_by, is_since, is_sound, may_be_settled, replayed, with_view}
use Rattle.gs_master_spec.specs.Chunks.{has_entry, holder_records, is_any_in, is_holder, is_target, target_of}
use Rattle.gs_master_spec.specs.Durable.{Durable, Settled, has_its_primary, is_given, is_ordinary, is_upgrade, prepared_view, upgrade_epoch, with_prepared}
use Rattle.gs_master_spec.specs.Settling.{grant_of}
use Rattle.gs_master_spec.specs.State.{State}
use Rattle.gs_master_spec.specs.Undoing.{all_undone}
use Rattle.gs_master_spec.specs.Whole.{is_empty}
use Rattle.gs_master_spec.specs.declared.asking.Asking.{Asking}
use Rattle.gs_master_spec.specs.declared.asking.Prepared.{Prepared}
use Rattle.gs_master_spec.specs.declared.change.Change.TheVariants as changes
use Rattle.gs_laws_master.proofs.lemmas.upgrades.Beginnings.{fits_gives}
use Rattle.gs_laws_master.proofs.lemmas.keeping.Counters.{keeps_given}
use Rattle.gs_laws_master.proofs.lemmas.keeping.Kept.{keeps_prepared}
use Rattle.gs_laws_moves.proofs.lemmas.moves.Asked.{where_passes}
use Rattle.gs_laws_moves.proofs.lemmas.moves.Events.{same_stamp}
use Rattle.gs_laws_moves.proofs.lemmas.moves.Fitting.{AreSplit, split}
use Rattle.gs_laws_moves.proofs.lemmas.moves.Right.{one_fits, settled_gives}
use Rattle.gs_laws_moves.proofs.lemmas.moves.Settling.{answered_so}
use Rattle.gs_laws_moves.specs.moves.Asked.{IsByAnswers, WasHeard}
use Rattle.gs_view.specs.Choice.{is_count}
use Rattle.gs_laws_moves.specs.moves.Guards.{HasCarried, Heard, IsMade, settled_chunk}
use Rattle.gs_laws_moves.specs.moves.Moves.{Settles, move_turn}
use Rattle.gs_laws_chunk.specs.machine.Stamps.{epoch_of, radix, stamp_at}
use Rattle.gs_laws_chunk.specs.machine.Machine.{Entry, Promised, WasTold, ChunkWorld}
use Rattle.gs_laws_chunk.specs.machine.Events.{Can, Goes as Happens, HasWitness, Holds, Leads, Rests, Settles as SettlesIt, is_of, nobody, settled_view}
use Rattle.gs_laws_parts.specs.master.Laws.{is_plain_message}
use Rattle.gs_laws_parts.specs.master.Proposals.{SettlingsFollow}
use Rattle.gs_laws_parts.specs.master.Showing.{IsPast, ShowsDurable, ShowsPrepared, ShowsSettled, primary_of}
use Rattle.gs_laws_chunk.specs.machine.Mastering.{AreOfMaster}
use Rattle.gs_laws_parts.specs.master.Single.{FollowsAs, IsUnmoved}
use Rattle.gs_laws_parts.specs.master.Telling.{Says, Shows}
use Rattle.gs_laws_parts.proofs.lemmas.master.Marking.{same_epoch}
use Rattle.gs_laws_parts.proofs.lemmas.master.Epochs.{up_not_ordinary}
use Rattle.gs_laws_parts.proofs.lemmas.master.Leaving.{LeavesDurable, changes_leave, durable_itself, inserted, leaves_entry}
use Rattle.gs_laws_parts.proofs.lemmas.master.Moving.{shown_then, unseen}
use Rattle.gs_laws_parts.proofs.lemmas.master.Proposing.{prepared_same}
use Rattle.gs_laws_parts.proofs.lemmas.master.Stamps.{of_member, same_number, stamp_number}

durable_is : {a b : Durable} → ◌≡◌ {A = Option Durable} (Some a) (Some b) → a ≡ b
durable_is k = cc

prepared_is : {a b : Prepared} → ◌≡◌ {A = Option Prepared} (Some a) (Some b) → a ≡ b
prepared_is k = cc

settled_is : {a b : Settled} → ◌≡◌ {A = Option Settled} (Some a) (Some b) → a ≡ b
settled_is k = cc

number_is : {a b : ℕ} → ◌≡◌ {A = Option ℕ} (Some a) (Some b) → a ≡ b
number_is k = cc

past_same : (d next : Durable) (top : ℕ) → next.epoch ≡ d.epoch → next.next_version ≡ d.next_version → IsPast d top → IsPast next top
past_same d next top epoch version p = record { epoch = subst (λ n. epoch_of top ≤ n) (sym epoch) p.epoch; given = subst (λ v. (top % radix ≡ 0) ⊎ (is_given v (top % radix) ≡ true)) (sym version) p.given }

-- ---- another chunk

leaves_then : (chunk : ℕ) (a b c : Durable) → LeavesDurable chunk a b → LeavesDurable chunk b c → LeavesDurable chunk a c
leaves_then chunk a b c l m = record {
  epoch = m.epoch ∙ l.epoch;
  ends = m.ends ∙ l.ends;
  phase = m.phase ∙ l.phase;
  handles = λ is. m.handles (l.handles is);
  versions = λ n is. m.versions n (l.versions n is);
  counter = λ is. m.counter (l.counter is);
  settled = m.settled ∙ l.settled;
  prepared = m.prepared ∙ l.prepared;
  undone = λ names phase is. l.undone names phase (m.undone names (ap is_ordinary l.phase ∙ phase) is);
}

other_held : (chunk : ℕ) (d next : Durable) (q server : ℕ) → (q == chunk) ≡ false → applied d (Holder q server) ≡ Some next → LeavesDurable chunk d next
unfolding applied
other_held chunk d next q server other fit = record {
  epoch = ap (λ (x : Durable). x.epoch) (sym gives);
  ends = ap (λ (x : Durable). x.ends) (sym gives);
  phase = ap (λ (x : Durable). x.phase) (sym gives);
  handles = (keeps_given (Holder q server) d next chunk refl fit).0;
  versions = λ n. (keeps_given (Holder q server) d next n refl fit).1;
  counter = λ is. subst (λ (x : Durable). IsNumber x.next_version) gives is;
  settled = ap (λ (x : Durable). fin.get x.chunks chunk) (sym gives);
  prepared = prepared_same (Holder q server) chunk d next refl (ap (λ b. if b then held_by server (prepared_view d chunk) else prepared_view d chunk) other) fit (ap (λ (x : Durable). x.phase) (sym gives));
  undone = λ names phase h. subst (λ (x : Durable). all_undone x.inverses x.names ≡ Some names) (sym gives) h;
}
  where
    gives : record d { prepared = with_prepared d q (held_by server (prepared_view d q)) } ≡ next
    gives = (fits_gives (is_upgrade d.phase && (nat_lt server 16 && is_some (prepared_view d q))) (record d { prepared = with_prepared d q (held_by server (prepared_view d q)) }) next fit).1

other_settled : (chunk : ℕ) (d next : Durable) (v : SettledView) → (v.handle == chunk) ≡ false → applied d (Settle v) ≡ Some next → LeavesDurable chunk d next
unfolding applied
other_settled chunk d next v other fit = record {
  epoch = ap (λ (x : Durable). x.epoch) (sym gives);
  ends = ap (λ (x : Durable). x.ends) (sym gives);
  phase = ap (λ (x : Durable). x.phase) (sym gives);
  handles = (keeps_given (Settle v) d next chunk refl fit).0;
  versions = λ n. (keeps_given (Settle v) d next n refl fit).1;
  counter = λ is. subst (λ (x : Durable). IsNumber x.next_version) gives is;
  settled = ap (λ (x : Durable). fin.get x.chunks chunk) (sym gives) ∙ inserted chunk d.chunks v.handle (record { view = v.view; is_moving = false }) (ap not other);
  prepared = prepared_same (Settle v) chunk d next refl refl fit (ap (λ (x : Durable). x.phase) (sym gives));
  undone = λ names phase h. subst (λ (x : Durable). all_undone x.inverses x.names ≡ Some names) (sym gives) h;
}
  where
    gives : with_view d v ≡ next
    gives = (fits_gives (may_be_settled d v) (with_view d v) next fit).1

pub other_holds : (chunk : ℕ) (d next : Durable) (q : ℕ) (b : Bool) (target : Option ℕ) → (q == chunk) ≡ false → replayed d (holder_records b q target) ≡ Some next → LeavesDurable chunk d next
other_holds chunk d next q b None other fit = subst (LeavesDurable chunk d) (durable_is fit) (durable_itself chunk d)
other_holds chunk d next q false (Some server) other fit = subst (LeavesDurable chunk d) (durable_is fit) (durable_itself chunk d)
other_holds chunk d next q true (Some server) other fit = other_held chunk d next q server other (one_fits d next (Holder q server) fit)

-- names stay as they are
pub holds_names : (d next : Durable) (q : ℕ) (b : Bool) (target : Option ℕ) → replayed d (holder_records b q target) ≡ Some next → next.names ≡ d.names
unfolding applied
holds_names d next q b None fit = ap (λ (x : Durable). x.names) (sym (durable_is fit))
holds_names d next q false (Some server) fit = ap (λ (x : Durable). x.names) (sym (durable_is fit))
holds_names d next q true (Some server) fit =
    ap (λ (x : Durable). x.names) (sym (fits_gives (is_upgrade d.phase && (nat_lt server 16 && is_some (prepared_view d q))) (record d { prepared = with_prepared d q (held_by server (prepared_view d q)) }) next (one_fits d next (Holder q server) fit)).1)

settle_names : (d next : Durable) (v : SettledView) → applied d (Settle v) ≡ Some next → next.names ≡ d.names
unfolding applied
settle_names d next v fit = ap (λ (x : Durable). x.names) (sym (fits_gives (may_be_settled d v) (with_view d v) next fit).1)

grants_plain : (q : ℕ) (view : View) (term : Option Term) → list_all is_plain_message (grant_of q view term) ≡ true
grants_plain q view None = refl
grants_plain q view (Some term) = refl

-- ---- who took the image

abbrev pub held_entry : Entry → (ℕ → Bool) → Entry
held_entry e holders = record e { holders = holders }

abbrev pub held_world : ChunkWorld → (ℕ → Bool) → ChunkWorld
held_world w holders = record w { entry = held_entry w.entry holders }

pub record Held (chunk : ℕ) (w : ChunkWorld) (mid : Durable) : Type 0 where
  pub holders : ℕ → Bool
  pub leads : Leads w (held_world w holders)
  pub masters : AreOfMaster w (held_world w holders) leads
  pub shows : ShowsDurable chunk mid (held_entry w.entry holders)

one_more : (j server : ℕ) (old : ℕ → Bool) (xs : List ℕ) → (is_member xs j ≡ true → old j ≡ true) → is_member (with_member xs server) j ≡ true → (nat_eq j server || old j) ≡ true
one_more j server old xs was here = by_who (j == server) refl (where_passes (λ s. (s == server) || is_member xs s) j here)
  where
    same_test : (a b : ℕ) → (a == b) ≡ true → nat_eq a b ≡ true
    same_test a b e = grind (arith, nat_tests)

    second : (a b : Bool) → b ≡ true → (a || b) ≡ true
    second true b e = refl
    second false b e = e

    by_who : (b : Bool) → (j == server) ≡ b → (b || is_member xs j) ≡ true → (nat_eq j server || old j) ≡ true
    by_who true is h = ap (λ b. b || old j) (same_test j server is)
    by_who false is h = second (nat_eq j server) (old j) (was h)

held_shows : (chunk : ℕ) (d mid : Durable) (e : Entry) (server : ℕ) → applied d (Holder chunk server) ≡ Some mid → ShowsDurable chunk d e → ShowsDurable chunk mid (held_entry e (λ j. nat_eq j server || e.holders j))
unfolding applied
held_shows chunk d mid e server fit k = subst (λ x. ShowsDurable chunk x after) fits.1 (record {
  epoch = k.epoch;
  how = k.how;
  upgrade = k.upgrade;
  rolling = k.rolling;
  given = k.given;
  counter = k.counter;
  behind = k.behind;
  past = past_same d next e.top refl refl k.past;
  settled = λ x has. (let s = k.settled x has in record { view = s.view; moving = s.moving; still = s.still });
  bare = k.bare;
  listed = k.listed;
  was = λ p is known. was_so (prepared_view d chunk) refl p (sym behind ∙ is) known;
  prepared = λ p is was. prepared_so (prepared_view d chunk) refl p (sym behind ∙ is) was;
  restores = k.restores;
})
  where
    after : Entry
    after = held_entry e (λ j. nat_eq j server || e.holders j)

    next : Durable
    next = record d { prepared = with_prepared d chunk (held_by server (prepared_view d chunk)) }

    fits : (is_upgrade d.phase && (nat_lt server 16 && is_some (prepared_view d chunk)) ≡ true) × (next ≡ mid)
    fits = fits_gives (is_upgrade d.phase && (nat_lt server 16 && is_some (prepared_view d chunk))) next mid fit

    up : is_upgrade d.phase ≡ true
    up = (and_parts (is_upgrade d.phase) (nat_lt server 16 && is_some (prepared_view d chunk)) fits.0).0

    behind : prepared_view next chunk ≡ held_by server (prepared_view d chunk)
    behind =
        ap (λ x. prepared_view x chunk) fits.1 ∙ keeps_prepared (Holder chunk server) d mid (up_not_ordinary d.phase up) refl fit chunk
        ∙ ap (λ b. if b then held_by server (prepared_view d chunk) else prepared_view d chunk) (eqb_itself chunk)

    was_so : (o : Option Prepared) → prepared_view d chunk ≡ o → (p : Prepared) → held_by server o ≡ Some p → e.is_known ≡ true → e.was_known ≡ true
    was_so None is p h known = absurd (false≢true (ap is_some h))
    was_so (Some q) is p h known = k.was q is known

    prepared_so : (o : Option Prepared) → prepared_view d chunk ≡ o → (p : Prepared) → held_by server o ≡ Some p → e.was_known ≡ true → ShowsPrepared p after
    prepared_so None is p h was = absurd (false≢true (ap is_some h))
    prepared_so (Some q) is p h was = (let s = k.prepared q is was in subst (λ x. ShowsPrepared x after) (prepared_is h) (record { view = s.view; holders = λ j here. one_more j server e.holders q.holders (s.holders j) here }))

pub holds_here : (chunk : ℕ) (w : ChunkWorld) (d mid : Durable) (b : Bool) (target : Option ℕ) → ((server : ℕ) → b ≡ true → target ≡ Some server → Can w (Holds server)) → replayed d (holder_records b chunk target) ≡ Some mid → ShowsDurable chunk d w.entry → Held chunk w mid
holds_here chunk w d mid b None can fit k = record { holders = w.entry.holders; leads = Rests; masters = tt; shows = subst (λ x. ShowsDurable chunk x w.entry) (durable_is fit) k }
holds_here chunk w d mid false (Some server) can fit k = record { holders = w.entry.holders; leads = Rests; masters = tt; shows = subst (λ x. ShowsDurable chunk x w.entry) (durable_is fit) k }
holds_here chunk w d mid true (Some server) can fit k =
    record { holders = λ j. nat_eq j server || w.entry.holders j; leads = Happens w (Holds server) Rests (can server refl refl); masters = (tt, refl); shows = held_shows chunk d mid w.entry server (one_fits d mid (Holder chunk server) fit) k }

-- the target of a copy
the_target : (o : Option ℕ) (a b : ℕ) → is_count a o ≡ true → o ≡ Some b → a ≡ b
the_target None a b is has = absurd (false≢true is)
the_target (Some t) a b is has = same_number a t (is_so a t is) ∙ number_is has
  where
    is_so : (a t : ℕ) → is_count a (Some t) ≡ true → (a == t) ≡ true
    is_so a t e = grind (arith, nat_tests)

-- ---- the view

abbrev settled_entry : Entry → View → Entry
settled_entry e view = record e { view = record { stamp = e.top; members = view.members; count = view.count; holder = primary_of view.term }; asked = nobody }

settled_shows : (chunk : ℕ) (d next : Durable) (e : Entry) (view : View) → view.stamp ≡ stamp_at e.top → applied d (Settle (record { handle = chunk; view = view })) ≡ Some next → ShowsDurable chunk d e → ShowsDurable chunk next (settled_entry e view)
unfolding applied
settled_shows chunk d next e view under fit k = subst (λ x. ShowsDurable chunk x after) fits.1 (record {
  epoch = k.epoch;
  how = k.how;
  upgrade = k.upgrade;
  rolling = k.rolling;
  given = k.given;
  counter = k.counter;
  behind = omega arith;
  past = past_same d (with_view d v) e.top refl refl k.past;
  settled = λ x has. subst (λ z. ShowsSettled z after) (settled_is (sym got ∙ has)) (record { view = record { stamp = under; members = refl; count = refl; holder = refl }; moving = λ m. absurd (false≢true m); still = λ m. refl });
  bare = λ known none. absurd (false≢true (sym (ap is_some none) ∙ ap is_some got));
  listed = k.listed;
  was = λ p is known. k.was p (sym same ∙ is) known;
  prepared = λ p is was. (let s = k.prepared p (sym same ∙ is) was in record { view = s.view; holders = s.holders });
  restores = k.restores;
})
  where
    v : SettledView
    v = record { handle = chunk; view = view }

    after : Entry
    after = settled_entry e view

    fits : (may_be_settled d v ≡ true) × (with_view d v ≡ next)
    fits = fits_gives (may_be_settled d v) (with_view d v) next fit

    got : fin.get (fin.insert d.chunks chunk (record { view = view; is_moving = false })) chunk ≡ Some (record { view = view; is_moving = false })
    got = fin.get-insert nat_cmp_total d.chunks chunk (record { view = view; is_moving = false }) chunk ∙ ap (λ o. cond (is_eq o) (Some (record { view = view; is_moving = false })) (fin.get d.chunks chunk)) (tied_itself nat_cmp_total chunk)

    same : prepared_view (with_view d v) chunk ≡ prepared_view d chunk
    same = ap (λ x. prepared_view x chunk) fits.1 ∙ prepared_same (Settle v) chunk d next refl refl fit (ap (λ (x : Durable). x.phase) (sym fits.1))

-- a view that may be settled has its primary
its_primary : (d next : Durable) (v : SettledView) → applied d (Settle v) ≡ Some next → has_its_primary v.view ≡ true
unfolding applied
its_primary d next v fit =
    let settled = fin.get d.chunks v.handle in
    let since = follows_view settled v.view.stamp && is_since (upgrade_epoch d.phase d.epoch) settled v.view.stamp in
    let sound = is_sound v.view && since in
    let epoch = nat_le v.view.stamp.epoch d.epoch && sound in
    let version = is_given d.next_version v.view.stamp.version && epoch in
    let may = (fits_gives (may_be_settled d v) (with_view d v) next fit).0 in
    let all = and_parts (is_given d.next_handle v.handle) version may in
    let behind = and_parts (is_given d.next_version v.view.stamp.version) epoch all.1 in
    let told = and_parts (nat_le v.view.stamp.epoch d.epoch) sound behind.1 in
    (and_parts (not (is_empty v.view.members)) (has_its_primary v.view) (and_parts (is_sound v.view) since told.1).0).1

primary_among : (view : View) (term : Option Term) → has_its_primary (record view { term = term }) ≡ true → (j : ℕ) → primary_of term ≡ Some j → is_member view.members j ≡ true
primary_among view None has j is = absurd (false≢true (ap is_some is))
primary_among view (Some term) has j is = subst (λ n. is_member view.members n ≡ true) (number_is is) has

-- ---- the move

-- the row of the chunk behind it
pub row_settled : (config : Config) (heard : Heard) (s : State) (chunk : ℕ) (asking : Asking) (carried : Bool) (view : View) → IsMade config heard s (Settles chunk asking carried view)
    → fin.get (move_turn config s (Settles chunk asking carried view)).after.durable.chunks chunk ≡ Some (record { view = view; is_moving = false })
row_settled config heard s chunk asking carried view made =
    let u = (move_turn config s (Settles chunk asking carried view)).after in
    let parts = split (holder_records (is_holder s.durable.phase (prepared_view s.durable chunk) carried asking view) chunk (target_of asking.purpose)) (Settle (record { handle = chunk; view = view }) ∷ []) s.durable u.durable made.fits in
    settled_gives parts.mid u.durable chunk view (one_fits parts.mid u.durable (Settle (record { handle = chunk; view = view })) parts.then)

module _ (born chunk : ℕ) (whole : ℕ → Bool) (config : Config) (heard : Heard) (s : State) (w : ChunkWorld) (k : Shows chunk s w) (was : WasHeard (Says chunk w) heard) where
  settles_other : (q : ℕ) (asking : Asking) (carried : Bool) (view : View) → (q == chunk) ≡ false → IsMade config heard s (Settles q asking carried view)
      → FollowsAs born chunk whole w (move_turn config s (Settles q asking carried view)).after (move_turn config s (Settles q asking carried view)).sent (IsUnmoved w)
  settles_other q asking carried view other made =
      unseen born chunk whole config heard s w k was (Settles q asking carried view) made (grants_plain q view view.term)
      (leaves_entry chunk s u w.entry
      (leaves_then chunk s.durable parts.mid u.durable (other_holds chunk s.durable parts.mid q holds (target_of asking.purpose) other parts.first) (other_settled chunk parts.mid u.durable v other last))
      (ap (λ (x : NamesView). is_some (fin.get x.refs chunk)) (settle_names parts.mid u.durable v last ∙ holds_names s.durable parts.mid q holds (target_of asking.purpose) parts.first))
      (changes_leave chunk (changes.Settled q ∷ []) s.volatile (ap (λ b. not b && true) other)) k.entry)
    where
      u : State
      u = (move_turn config s (Settles q asking carried view)).after

      v : SettledView
      v = record { handle = q; view = view }

      holds : Bool
      holds = is_holder s.durable.phase (prepared_view s.durable q) carried asking view

      parts : AreSplit s.durable (holder_records holds q (target_of asking.purpose)) (Settle v ∷ []) u.durable
      parts = split (holder_records holds q (target_of asking.purpose)) (Settle v ∷ []) s.durable u.durable made.fits

      last : applied parts.mid (Settle v) ≡ Some u.durable
      last = one_fits parts.mid u.durable (Settle v) parts.then

  -- who took the image may be kept as a holder
  pub may_hold : (asking : Asking) (carried : Bool) (view : View) → IsMade config heard s (Settles chunk asking carried view) → (server : ℕ) → is_holder s.durable.phase (prepared_view s.durable chunk) carried asking view ≡ true → target_of asking.purpose ≡ Some server → Can w (Holds server)
  may_hold asking carried view made server is target =
      let first = and_parts carried (is_upgrade s.durable.phase && (is_some (prepared_view s.durable chunk) && list_any (is_target asking) view.members)) is in
      let second = and_parts (is_upgrade s.durable.phase) (is_some (prepared_view s.durable chunk) && list_any (is_target asking) view.members) first.1 in
      (k.entry.durable.upgrade second.0, asked.1, told (made.may.carries first.0))
    where
      asked : (asking.stamp ≡ stamp_at w.entry.top) × (w.entry.view.stamp < w.entry.top) × (w.entry.is_known ≡ true)
      asked = k.entry.memory.asking asking made.may.has

      told : (c : HasCarried heard chunk asking) → (count : ℕ) × WasTold w server (Promised (w.entry.top) count true)
      told c =
          let h = was c.server (bodies.About chunk (abouts.Promised (c.yes.stamp) c.count true)) c.yes.said refl in
          let stamps : c.yes.stamp ≡ asking.stamp = sym (same_stamp asking.stamp c.yes.stamp (and_parts (is_same asking.stamp c.yes.stamp) (is_member asking.asked c.server || is_target asking c.server) c.yes.counts).0) in
          let number = stamp_number h.0 w.entry.top (sym h.1 ∙ stamps ∙ asked.0) in
          let who : c.server ≡ server = the_target (target_of asking.purpose) c.server server c.target target in
          (c.count, subst (λ n. WasTold w n (Promised (w.entry.top) c.count true)) who (subst (λ t. WasTold w c.server (Promised t c.count true)) number h.2))

  settles_here : (asking : Asking) (carried : Bool) (view : View) → IsMade config heard s (Settles chunk asking carried view)
      → FollowsAs born chunk whole w (move_turn config s (Settles chunk asking carried view)).after (move_turn config s (Settles chunk asking carried view)).sent (λ v. (chunk == chunk) ≡ false → IsUnmoved w v)
  settles_here asking carried view made =
      shown_then born chunk whole config heard s (Settles chunk asking carried view) w (settled_view before view.members view.count (primary_of view.term)) k was made (grants_plain chunk view view.term)
      (Happens before (SettlesIt view.members view.count (primary_of view.term)) held.leads can) (held.masters, refl) (λ j. inl refl) (same_epoch whole w (settled_view before view.members view.count (primary_of view.term)) refl) (λ x there. there)
      (record {
        durable = settled_shows chunk parts.mid u.durable before.entry view (by.stamp ∙ asked.0) last held.shows;
        memory = record {
          known = k.entry.memory.known ∙ sym entry;
          asked = λ j. sym (ap (is_any_in j) removed);
          asking = λ a has. absurd (false≢true (sym (ap is_some removed) ∙ ap is_some has));
          sought = λ known none. absurd (false≢true (sym (ap is_some none) ∙ ap is_some settled));
        };
      })
      (λ v. (chunk == chunk) ≡ false → IsUnmoved w v) (λ x e k other. absurd (true≢false (sym (itself chunk) ∙ other)))
    where
      u : State
      u = (move_turn config s (Settles chunk asking carried view)).after

      v : SettledView
      v = record { handle = chunk; view = view }

      holds : Bool
      holds = is_holder s.durable.phase (prepared_view s.durable chunk) carried asking view

      parts : AreSplit s.durable (holder_records holds chunk (target_of asking.purpose)) (Settle v ∷ []) u.durable
      parts = split (holder_records holds chunk (target_of asking.purpose)) (Settle v ∷ []) s.durable u.durable made.fits

      last : applied parts.mid (Settle v) ≡ Some u.durable
      last = one_fits parts.mid u.durable (Settle v) parts.then

      asked : (asking.stamp ≡ stamp_at w.entry.top) × (w.entry.view.stamp < w.entry.top) × (w.entry.is_known ≡ true)
      asked = k.entry.memory.asking asking made.may.has

      by : IsByAnswers (Says chunk w) chunk asking view
      by = answered_so (Says chunk w) heard was s chunk asking (k.said.asked asking made.may.has) (settled_chunk s chunk) made.may.by made.may.moment view made.may.made made.may.view_is

      told : (j : ℕ) → is_member view.members j ≡ true → (c : Bool) × WasTold w j (Promised (w.entry.top) view.count c)
      told j here = (let said = by.said j here in let h = said.1 refl in (said.0, subst (λ t. WasTold w j (Promised t view.count said.0)) (stamp_number h.0 w.entry.top (sym h.1 ∙ asked.0)) h.2))

      held : Held chunk w parts.mid
      held = holds_here chunk w s.durable parts.mid holds (target_of asking.purpose) (may_hold asking carried view made) parts.first k.entry.durable

      before : ChunkWorld
      before = held_world w held.holders

      itself : (n : ℕ) → (n == n) ≡ true
      itself n = grind (arith, nat_tests)

      some_member : view.members ≢ []
      some_member none = true≢false (sym by.among ∙ ap (λ ms. is_member ms by.one) none)

      witness : (o : Option Settled) → fin.get s.durable.chunks chunk ≡ o → HasWitness before view.count
      witness None is = inl (k.entry.durable.bare asked.2 is).members
      witness (Some x) is =
          let t = told by.one by.among in
          inr (by.one, view.count, t.0, of_member w.entry.view.members by.one ∙ ap (λ ms. is_member ms by.one) ((k.entry.durable.settled x is).view.members ∙ sym ((k.said.asked asking made.may.has).members x is)) ∙ by.was, t.1, omega arith)

      counted : (j : ℕ) → is_of view.members j ≡ true → (before.entry.asked j ≡ true) × ((c : Bool) × WasTold before j (Promised (before.entry.top) view.count c))
      counted j of = (let here = sym (of_member view.members j) ∙ of in (k.entry.memory.asked j ∙ ap (is_any_in j) made.may.has ∙ by.asked j here, told j here))

      can : Can before (SettlesIt view.members view.count (primary_of view.term))
      can = (asked.1, some_member, counted, witness (fin.get s.durable.chunks chunk) refl, λ j is. of_member view.members j ∙ primary_among view view.term (its_primary parts.mid u.durable v last) j is)

      removed : fin.get u.volatile.moving chunk ≡ None
      removed = fin.get-remove nat_cmp_total s.volatile.moving chunk chunk ∙ ap (λ o. cond (is_eq o) None (fin.get s.volatile.moving chunk)) (tied_itself nat_cmp_total chunk)

      settled : fin.get u.durable.chunks chunk ≡ Some (record { view = view; is_moving = false })
      settled = row_settled config heard s chunk asking carried view made

      entry : has_entry u chunk ≡ has_entry s chunk
      entry = ap (λ (x : NamesView). is_some (fin.get x.refs chunk) || is_member s.volatile.unplaced chunk) (settle_names parts.mid u.durable v last ∙ holds_names s.durable parts.mid chunk holds (target_of asking.purpose) parts.first)

pub settlings_follow : SettlingsFollow
settlings_follow born chunk whole config heard s q asking carried view w k was made = by_key (q == chunk) refl
  where
    Goes : ℕ → Type 0
    Goes h = FollowsAs born chunk whole w (move_turn config s (Settles h asking carried view)).after (move_turn config s (Settles h asking carried view)).sent (λ v. (h == chunk) ≡ false → IsUnmoved w v)

    by_key : (b : Bool) → (q == chunk) ≡ b → Goes q
    by_key true same = subst (λ h. IsMade config heard s (Settles h asking carried view) → Goes h) (sym (same_number q chunk same)) (settles_here born chunk whole config heard s w k was asking carried view) made
    by_key false other = (let f = settles_other born chunk whole config heard s w k was q asking carried view other made in record { follows = f.follows; leaves = λ out. f.leaves })
