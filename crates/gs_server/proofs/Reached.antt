-- What holds of each chunk at every server that began with nothing.
use Rattle.std.proofs.Common.{◌≡◌, ◌≢◌, ◌≤◌, ℕ, ◌+◌, Bool, true, false, cond, List, [], ◌∷◌, Option, Some, None, refl, sym, ap, subst, ◌∙◌, inl, inr, arith}
use Rattle.std.specs.Prelude.{Result, Ok, Err, ◌==◌, is_some}
use Rattle.std.proofs.lemmas.Bool.{eqb-true, eq-eqb}
use Rattle.std.proofs.lemmas.Bool.Decides.{nat_tests}
use Rattle.std.specs.FinMap as fin
use Rattle.std.specs.Ordering.{nat_cmp}
use Rattle.gs_base.specs.declared.numbers.Moment.{Moment}
use Rattle.gs_base.specs.declared.numbers.Stamp.{Stamp}
use Rattle.gs_base.specs.declared.numbers.ReqId.{ReqId}
use Rattle.gs_base.specs.declared.epoch.EpochEnd.{EpochEnd}
use Rattle.gs_base.specs.declared.epoch.EpochEnd.TheVariants.{Rollback}
use Rattle.gs_base.specs.declared.refusal.Refusal.{Refusal}
use Rattle.gs_base.specs.declared.refusal.Refusal.TheVariants as refusals
use Rattle.gs_base.specs.Stamps.{is_before}
use Rattle.gs_replica.specs.Edits.{fresh}
use Rattle.gs_replica.specs.Held.{Held}
use Rattle.gs_replica.specs.Seals.{State, roll_back_to}
use Rattle.gs_replica.specs.Seals as replicas
use Rattle.gs_replica.specs.declared.op.Op.{Op}
use Rattle.gs_msg.specs.declared.node.NodeId.{NodeId}
use Rattle.gs_msg.specs.declared.body.Body.{Body}
use Rattle.gs_msg.specs.declared.body.Body.TheVariants as bodies
use Rattle.gs_store.specs.Slots.{Live, Slot, nothing, take_lease, is_taken, taking, when, first_of, unless_live, unless_promised, if_bad, check_grant, lost, removed, risen, again, damage_of, sealed_of}
use Rattle.gs_store.specs.Slots as slots
use Rattle.gs_store.specs.Serving.{apply_to}
use Rattle.gs_store.specs.Moves.{copied_in}
use Rattle.gs_store_seal.specs.Rollback.{later}
use Rattle.gs_store.specs.Learning.{start_of, rolled_to}
use Rattle.gs_store.specs.Stores.{or_nothing, put_slot, learn}
use Rattle.gs_store.specs.Stores as stores
use Rattle.gs_store.specs.StoreCalls.{names}
use Rattle.gs_store.specs.Whole.{Reaches}
use Rattle.gs_store.specs.Calls.{Call, Creates, Advances, CopiesIn, TakesCopy, Drops, TakesLease, Loses, Damages, MarksBad, Applies, Seals, Unseals, RollsBack, called}
use Rattle.gs_store.proofs.Laws.{Holds, of_ok, of_cond, of_unless, of_again, of_raised}
use Rattle.gs_store.proofs.Standing.{of_live, of_trash}
use Rattle.gs_store.proofs.Copying.{of_copied, trash_leaves}
use Rattle.gs_store.proofs.Running.{Goes, goes, keeps, never_below}
use Rattle.gs_store.proofs.Running.{IsSpent, taken_spent, run_spent, spent_refused}
use Rattle.gs_store.proofs.Named.{named_is}
use Rattle.gs_server.specs.Laws as laws
use Rattle.gs_server_lease.specs.Leases.{PrimaryLease}
use Rattle.gs_server.specs.Places.{Place}
use Rattle.gs_server.specs.Promises as messages
use Rattle.gs_server.specs.Promises.{Copying}
use Rattle.gs_server.specs.Servers.{Server, new, place_of, here_of, store_of, change_slot, with_store, in_store, request_in, about_chunk, handle_body}
use Rattle.gs_server.specs.Runs.{Event, Hears, Ticks, Restarts, Loses, Damages, unless_refused, behind, behind_all, slot_in, rolled_back, reseals, Spares, IsReached}
use Rattle.gs_server.proofs.Lifts.{apart}
use Rattle.gs_server.proofs.Others.{slot_epoch, rest_stays}
use Rattle.gs_server.proofs.Walks.{GoesOn, IsOf, Suits, IsWithin, leased_promise}
use Rattle.gs_server.proofs.Walks as walks
use Rattle.gs_server.proofs.Happening.{goes_at, step_if, IsCopied}
use Rattle.gs_server.proofs.Wholes.{each_whole}
use Rattle.gs_server.proofs.Behind.{last_taken, not_refused, rolled_slot, taken_itself}

-- ---- promises of no later epoch

abbrev Within : ℕ → Slot → Type 0
Within epoch s = s.promise.epoch ≤ epoch

same_within : (epoch : ℕ) (s x : Slot) → x.promise ≡ s.promise → Within epoch s → Within epoch x
same_within epoch s x is within = subst (λ (p : Stamp). p.epoch ≤ epoch) (sym is) within

at_most : (a b : ℕ) → a ≡ b → a ≤ b
at_most a b is = omega arith

damaged_within : (epoch index : ℕ) (s : Slot) (live : Option Live) (trash : Option State) → Within epoch s → Holds (Within epoch) (damage_of index s live trash)
damaged_within epoch index s None None within = tt
damaged_within epoch index s None (Some r) within = of_trash (Within epoch) s (replicas.damage index r) (λ q e. within)
damaged_within epoch index s (Some l) trash within = of_live (Within epoch) s l.bad (replicas.damage index l.replica) (λ q e. within)

applied_within : (epoch : ℕ) (stamp : Stamp) (number : ℕ) (req : ReqId) (op : Op) (bytes : List ℕ) (s : Slot) (live : Option Live) → Within epoch s → Holds (Within epoch) (apply_to stamp number req op bytes s live)
applied_within epoch stamp number req op bytes s None within = tt
applied_within epoch stamp number req op bytes s (Some l) within = of_live (Within epoch) s l.bad (replicas.apply stamp number req op bytes l.replica) (λ q e. within)

later_within : (epoch : ℕ) (b : Bool) (p q : Stamp) → p.epoch ≤ epoch → q.epoch ≤ epoch → (cond b q p).epoch ≤ epoch
later_within epoch true p q first second = second
later_within epoch false p q first second = first

rolled_within : (epoch : ℕ) (p : Stamp) (m : Result State Refusal) (s : Slot) → p.epoch ≤ epoch → Within epoch s → Holds (Within epoch) (Ok (rolled_to p m s))
rolled_within epoch p (Ok r) s low within = low
rolled_within epoch p (Err e) s low within = within

stays_within : (epoch block chunk : ℕ) (c : Call) (s : Slot) → IsWithin epoch c → Within epoch s → Holds (Within epoch) (called block chunk c s)
stays_within epoch block chunk (Creates stamp) s here within = of_raised (Within epoch) stamp false (record { held = fresh block chunk stamp; sealed = None }) s within (λ _. at_most stamp.epoch epoch here)
stays_within epoch block chunk (Advances stamp) s here within =
    of_unless (Within epoch) (first_of (unless_live s.live ∷ if_bad s.live ∷ when (is_before stamp s.promise) refusals.Old ∷ [])) (risen stamp s) (λ _. at_most stamp.epoch epoch here)
stays_within epoch block chunk (CopiesIn stamp image sealed) s here within =
    of_cond (Within epoch) (is_before s.promise stamp) (copied_in block chunk stamp image sealed s) (again stamp s)
    (λ _. of_copied (Within epoch) block chunk stamp image sealed s
    (λ p m. subst (λ (x : Stamp). x.epoch ≤ epoch) (sym (trash_leaves (λ x _ _. x) p.1 (slots.replaced stamp (is_some sealed) p.0 s))) (at_most stamp.epoch epoch here)))
    (λ _. of_again (Within epoch) stamp s within)
stays_within epoch block chunk (TakesCopy h) s here within = of_raised (Within epoch) h.promise false (record { held = h; sealed = None }) s within (λ _. at_most h.promise.epoch epoch here)
stays_within epoch block chunk (Drops promise) s here within = of_unless (Within epoch) (first_of (unless_promised promise s ∷ unless_live s.live ∷ [])) (removed s) (λ _. within)
stays_within epoch block chunk (TakesLease stamp) s here within = of_unless (Within epoch) (first_of (check_grant stamp s ∷ when (is_taken stamp s.taken) refusals.Old ∷ [])) (taking stamp s) (λ _. within)
stays_within epoch block chunk Loses s here within =
    of_cond (Within epoch) (is_some s.live) (Ok (lost s)) (cond (is_some s.trash) (Ok (lost s)) (Err refusals.NoReplica)) (λ _. within)
    (λ _. of_cond (Within epoch) (is_some s.trash) (Ok (lost s)) (Err refusals.NoReplica) (λ _. within) (λ _. tt))
stays_within epoch block chunk (Damages index) s here within = damaged_within epoch index s s.live s.trash within
stays_within epoch block chunk (MarksBad index) s here within = within
stays_within epoch block chunk (Applies stamp number req op bytes) s here within = applied_within epoch stamp number req op bytes s s.live within
stays_within epoch block chunk Seals s here within = within
stays_within epoch block chunk Unseals s here within = within
stays_within epoch block chunk (RollsBack last) s here within =
    rolled_within epoch (later s.promise (start_of last)) (roll_back_to (later s.promise (start_of last)) (sealed_of s)) s
    (later_within epoch (is_before s.promise (start_of last)) s.promise (start_of last) within (at_most last epoch here)) within

-- ---- epochs rise

up_to : (a b c : ℕ) → a ≤ b → b ≤ c → a ≤ c
up_to a b c first second = omega arith

learn_rises : (epoch : ℕ) (end : EpochEnd) (s : Server) (here next : Bool) → (epoch == s.kept.epoch + 1) ≡ next → s.kept.epoch ≤ (step_if epoch end s here next).after.kept.epoch
learn_rises epoch end s true next is = at_most s.kept.epoch s.kept.epoch refl
learn_rises epoch end s false true is = (let rise : epoch ≡ s.kept.epoch + 1 = eqb-true epoch (s.kept.epoch + 1) is in omega arith)
learn_rises epoch end s false false is = at_most s.kept.epoch s.kept.epoch refl

body_rises : (s : Server) (from : NodeId) (body : Body) (moment : Moment) → s.kept.epoch ≤ (handle_body s from body moment).after.kept.epoch
body_rises s from (bodies.About handle chunk) moment =
    at_most _ _ (sym (rest_stays handle (request_in chunk) (about_chunk (here_of s moment handle (request_in chunk)) (place_of handle s) from chunk) s).epoch)
body_rises s from (bodies.Push req bytes) moment = at_most s.kept.epoch s.kept.epoch refl
body_rises s from (bodies.MakeCopy handle at new_handle stamp) moment =
    let copying : Copying = messages.make_copy (here_of s moment handle None) (place_of handle s) at (here_of s moment new_handle None) (place_of new_handle s) stamp in
    at_most _ _ (sym ((rest_stays new_handle None copying.target (with_store (change_slot handle copying.source (store_of s)) s)).epoch ∙ slot_epoch handle copying.source (store_of s)))
body_rises s from (bodies.Epoch epoch end) moment = learn_rises epoch end s (epoch == s.kept.epoch) (epoch == s.kept.epoch + 1) refl
body_rises s from (bodies.Call req call) moment = at_most s.kept.epoch s.kept.epoch refl
body_rises s from (bodies.Reply req result) moment = at_most s.kept.epoch s.kept.epoch refl
body_rises s from (bodies.Done req result) moment = at_most s.kept.epoch s.kept.epoch refl
body_rises s from (bodies.Bytes req result) moment = at_most s.kept.epoch s.kept.epoch refl
body_rises s from (bodies.Report epoch replicas) moment = at_most s.kept.epoch s.kept.epoch refl
body_rises s from (bodies.Learned epoch handles) moment = at_most s.kept.epoch s.kept.epoch refl
body_rises s from (bodies.Behind epoch) moment = at_most s.kept.epoch s.kept.epoch refl

put_rises : (handle : ℕ) (s : Server) (m : Result Slot Refusal) → s.kept.epoch ≤ (unless_refused s (in_store s (put_slot handle (store_of s) m))).kept.epoch
put_rises handle s (Ok t) = at_most s.kept.epoch s.kept.epoch refl
put_rises handle s (Err e) = at_most s.kept.epoch s.kept.epoch refl

epoch_rises : (e : Event) (s : Server) → s.kept.epoch ≤ (behind e s).kept.epoch
epoch_rises (Hears message moment) s = body_rises s message.from message.body moment
epoch_rises (Ticks moment) s = at_most s.kept.epoch s.kept.epoch refl
epoch_rises Restarts s = at_most s.kept.epoch s.kept.epoch refl
epoch_rises (Loses handle) s = put_rises handle s (slots.lose (slot_in handle s))
epoch_rises (Damages handle block) s = put_rises handle s (slots.damage block (slot_in handle s))

pub epochs_rise : (events : List Event) (s : Server) → s.kept.epoch ≤ (behind_all events s).kept.epoch
epochs_rise [] s = at_most s.kept.epoch s.kept.epoch refl
epochs_rise (e ∷ events) s = up_to s.kept.epoch (behind e s).kept.epoch (behind_all events (behind e s)).kept.epoch (epoch_rises e s) (epochs_rise events (behind e s))

-- ---- what every place keeps

-- a lease that is held is of the stamp that was taken last
abbrev pub LastOf : Option PrimaryLease → Option Stamp → Type 0
LastOf None taken = Unit {0}
LastOf (Some l) taken = taken ≡ Some l.grant.stamp

pub record IsSound (epoch : ℕ) (p : Place) : Type 0 where
  pub held : LastOf p.lease p.slot.taken
  pub promised : IsOf p.slot.promise p.lease
  pub reaches : Reaches p.slot.promise p.slot.taken
  pub within : p.slot.promise.epoch ≤ epoch

last_on : (old new : Option PrimaryLease) (taken : Option Stamp) → GoesOn old new → LastOf old taken → LastOf new taken
last_on old None taken on last = tt
last_on old (Some l) taken on last = subst (λ (o : Option PrimaryLease). LastOf o taken) on.is last ∙ ap (λ (x : Stamp). Some x) (sym on.same)

of_on : (old new : Option PrimaryLease) (promise : Stamp) → GoesOn old new → IsOf promise old → IsOf promise new
of_on old None promise on of = tt
of_on old (Some l) promise on of = on.same ∙ subst (IsOf promise) on.is of

reaches_on : (a b : Stamp) (taken : Option Stamp) → is_before b a ≡ false → Reaches a taken → Reaches b taken
reaches_on a b None rises reached = tt
reaches_on a b (Some t) rises reached = never_below t a b reached rises

same_slot : (epoch : ℕ) (p q : Place) → q.slot ≡ p.slot → GoesOn p.lease q.lease → IsSound epoch p → IsSound epoch q
same_slot epoch p q is on sound = record {
  held = subst (λ (x : Slot). LastOf q.lease x.taken) (sym is) (last_on p.lease q.lease p.slot.taken on sound.held);
  promised = subst (λ (x : Slot). IsOf x.promise q.lease) (sym is) (of_on p.lease q.lease p.slot.promise on sound.promised);
  reaches = subst (λ (x : Slot). Reaches x.promise x.taken) (sym is) sound.reaches;
  within = subst (Within epoch) (sym is) sound.within;
}

sound_on : (block chunk epoch now : ℕ) (reseals : Bool) (Comes : Held → Type 0) (Spared : Type 0) (p q : Place) → epoch ≤ now → walks.Goes block chunk (Suits now reseals Comes Spared p.slot) p q → IsSound epoch p → IsSound now q
sound_on block chunk epoch now reseals Comes Spared p q rise (inl still) sound =
    same_slot now p q still.slot still.lease (record { held = sound.held; promised = sound.promised; reaches = sound.reaches; within = up_to p.slot.promise.epoch epoch now sound.within rise })
sound_on block chunk epoch now reseals Comes Spared p q rise (inr (inl m)) sound =
    let taken : q.slot.taken ≡ p.slot.taken = of_ok (λ (x : Slot). x.taken ≡ p.slot.taken) (called block chunk m.call p.slot) q.slot m.is (keeps block chunk m.call p.slot m.no_lease) in
    let g = of_ok (Goes p.slot) (called block chunk m.call p.slot) q.slot m.is (goes block chunk m.call p.slot) in
    record {
      held = subst (LastOf q.lease) (sym taken) (last_on p.lease q.lease p.slot.taken m.lease sound.held);
      promised = m.promised sound.promised;
      reaches = subst (Reaches q.slot.promise) (sym taken) (reaches_on p.slot.promise q.slot.promise p.slot.taken g.rises sound.reaches);
      within = of_ok (Within now) (called block chunk m.call p.slot) q.slot m.is (stays_within now block chunk m.call p.slot m.fits.within (up_to p.slot.promise.epoch epoch now sound.within rise));
    }
sound_on block chunk epoch now reseals Comes Spared p q rise (inr (inr t)) sound =
    let taken = last_taken t.given.stamp p.slot q.slot t.is in
    let spent = of_ok (IsSpent t.given.stamp) (take_lease t.given.stamp p.slot) q.slot t.is (taken_spent t.given.stamp p.slot) in
    record {
      held = subst (λ (o : Option PrimaryLease). LastOf o q.slot.taken) (sym t.lease) taken;
      promised = subst (IsOf q.slot.promise) (sym t.lease) (leased_promise t.given.stamp p.slot q.slot t.is).1;
      reaches = subst (Reaches q.slot.promise) (sym taken) spent.reached;
      within = of_ok (Within now) (take_lease t.given.stamp p.slot) q.slot t.is (stays_within now block chunk (TakesLease t.given.stamp) p.slot tt (up_to p.slot.promise.epoch epoch now sound.within rise));
    }

sound_behind : (handle : ℕ) (e : Event) (s : Server) → IsSound s.kept.epoch (place_of handle s) → IsSound (behind e s).kept.epoch (place_of handle (behind e s))
sound_behind handle e s sound =
    sound_on s.block s.chunk s.kept.epoch (behind e s).kept.epoch (reseals handle e s) (IsCopied s) (Spares handle e s) (place_of handle s) (place_of handle (behind e s)) (epoch_rises e s) (goes_at handle e s) sound

sound_behind_all : (handle : ℕ) (events : List Event) (s : Server) → IsSound s.kept.epoch (place_of handle s) → IsSound (behind_all events s).kept.epoch (place_of handle (behind_all events s))
sound_behind_all handle [] s sound = sound
sound_behind_all handle (e ∷ events) s sound = sound_behind_all handle events (behind e s) (sound_behind handle e s sound)

nothing_sound : (me block chunk handle : ℕ) → IsSound 0 (place_of handle (new me block chunk))
nothing_sound me block chunk handle =
    subst (λ (o : Option PrimaryLease). IsSound 0 (record { slot = slot_in handle (new me block chunk); lease = o })) (sym (fin.get-empty nat_cmp handle))
    (subst (λ (o : Option Slot). IsSound 0 (record { slot = or_nothing o; lease = None })) (sym (fin.get-empty nat_cmp handle))
    (record { held = tt; promised = tt; reaches = tt; within = at_most 0 0 refl }))

pub sound_where : (handle : ℕ) (s : Server) → IsReached s → IsSound s.kept.epoch (place_of handle s)
sound_where handle s r =
    subst (λ (x : Server). IsSound x.kept.epoch (place_of handle x)) (sym r.is) (sound_behind_all handle r.events (new r.me r.block r.chunk) (nothing_sound r.me r.block r.chunk handle))

pub held_last : (handle : ℕ) (s : Server) (l : PrimaryLease) → IsReached s → (place_of handle s).lease ≡ Some l → (slot_in handle s).taken ≡ Some l.grant.stamp
held_last handle s l r held = subst (λ (o : Option PrimaryLease). LastOf o (slot_in handle s).taken) held (sound_where handle s r).held

pub held_promise : (handle : ℕ) (s : Server) (l : PrimaryLease) → IsReached s → (place_of handle s).lease ≡ Some l → l.grant.stamp ≡ (slot_in handle s).promise
held_promise handle s l r held = subst (IsOf (slot_in handle s).promise) held (sound_where handle s r).promised

-- ---- a promise that changes spends the lease

both_of : (p q : Place) (lease : Option PrimaryLease) → q.lease ≡ lease → q.slot.promise ≢ p.slot.promise → GoesOn p.lease lease → IsOf p.slot.promise p.lease → IsOf q.slot.promise lease → q.lease ≡ None
both_of p q None is changed on old new = is
both_of p q (Some l) is changed on old new = absurd (changed (sym new ∙ of_on p.lease (Some l) p.slot.promise on old))

changed_spends : (block chunk : ℕ) (P : Call → Type 0) (p q : Place) → IsOf p.slot.promise p.lease → q.slot.promise ≢ p.slot.promise → walks.Goes block chunk P p q → q.lease ≡ None
changed_spends block chunk P p q of changed (inl still) = absurd (changed (ap (λ (x : Slot). x.promise) still.slot))
changed_spends block chunk P p q of changed (inr (inl m)) = both_of p q q.lease refl changed m.lease of (m.promised of)
changed_spends block chunk P p q of changed (inr (inr t)) = absurd (changed (leased_promise t.given.stamp p.slot q.slot t.is).0)

pub rises_spend : (handle : ℕ) (e : Event) (s : Server) → IsReached s → (slot_in handle (behind e s)).promise ≢ (slot_in handle s).promise → (place_of handle (behind e s)).lease ≡ None
rises_spend handle e s r changed = changed_spends s.block s.chunk _ (place_of handle s) (place_of handle (behind e s)) (sound_where handle s r).promised changed (goes_at handle e s)

-- ---- a spent lease

abbrev Apart : Stamp → Option PrimaryLease → Type 0
Apart stamp None = Unit {0}
Apart stamp (Some l) = l.grant.stamp ≡ stamp → ⊥

record IsOver (stamp : Stamp) (p : Place) : Type 0 where
  spent : IsSpent stamp p.slot
  none : Apart stamp p.lease

apart_on : (stamp : Stamp) (old new : Option PrimaryLease) → GoesOn old new → Apart stamp old → Apart stamp new
apart_on stamp old None on none = tt
apart_on stamp old (Some l) on none = λ same. (subst (Apart stamp) on.is none) (sym on.same ∙ same)

over_on : (block chunk : ℕ) (P : Call → Type 0) (stamp : Stamp) (p q : Place) → walks.Goes block chunk P p q → IsOver stamp p → IsOver stamp q
over_on block chunk P stamp p q (inl still) over = record { spent = subst (IsSpent stamp) (sym still.slot) over.spent; none = apart_on stamp p.lease q.lease still.lease over.none }
over_on block chunk P stamp p q (inr (inl m)) over = record { spent = run_spent block chunk stamp p.slot q.slot (m.call ∷ []) over.spent (q.slot, m.is, refl); none = apart_on stamp p.lease q.lease m.lease over.none }
over_on block chunk P stamp p q (inr (inr t)) over = record {
  spent = run_spent block chunk stamp p.slot q.slot (TakesLease t.given.stamp ∷ []) over.spent (q.slot, t.is, refl);
  none = subst (Apart stamp) (sym t.lease) (λ same. not_refused p.slot q.slot (take_lease stamp p.slot) (subst (λ (x : Stamp). take_lease x p.slot ≡ Ok q.slot) same t.is) (spent_refused stamp p.slot over.spent));
}

over_behind : (handle : ℕ) (stamp : Stamp) (events : List Event) (s : Server) → IsOver stamp (place_of handle s) → IsOver stamp (place_of handle (behind_all events s))
over_behind handle stamp [] s over = over
over_behind handle stamp (e ∷ events) s over = over_behind handle stamp events (behind e s) (over_on s.block s.chunk _ stamp (place_of handle s) (place_of handle (behind e s)) (goes_at handle e s) over)

pub never_again : (handle : ℕ) (stamp : Stamp) (events : List Event) (s : Server) (l : PrimaryLease) → IsReached s → laws.IsSpent stamp (place_of handle s) → (place_of handle (behind_all events s)).lease ≡ Some l → l.grant.stamp ≡ stamp → ⊥
never_again handle stamp events s l r spent held =
    let sound = sound_where handle s r in
    let start : IsOver stamp (place_of handle s) = record {
      spent = record {
        reached = subst (Reaches (slot_in handle s).promise) spent.taken sound.reaches;
        last = λ _. ap (is_taken stamp) spent.taken ∙ taken_itself stamp;
      };
      none = subst (Apart stamp) (sym spent.none) tt;
    } in
    subst (Apart stamp) held (over_behind handle stamp events s start).none

-- ---- what a rollback names

before_start : (p : Stamp) (epoch : ℕ) → p.epoch ≤ epoch → is_before p (start_of (epoch + 1)) ≡ true
before_start p epoch low = grind (arith, nat_tests)

not_above : (p : Stamp) (epoch : ℕ) → p.epoch ≤ epoch → is_before (start_of (epoch + 1)) p ≡ false
not_above p epoch low = grind (arith, nat_tests)

starts_where : (p q : Stamp) (m : Result State Refusal) (s : Slot) → p ≡ q → is_some (rolled_to p m s).live ≡ true → (rolled_to p m s).promise ≡ q
starts_where p q (Ok r) s is live = is
starts_where p q (Err e) s is live = absurd (cc)

pub starts_anew : (handle : ℕ) (s : Server) → IsReached s → is_some (slot_in handle (rolled_back s)).live ≡ true → (slot_in handle (rolled_back s)).promise ≡ start_of (s.kept.epoch + 1)
starts_anew handle s r live =
    let t : Slot = slot_in handle s in
    let first : Stamp = start_of (s.kept.epoch + 1) in
    let rolled = rolled_slot handle s in
    subst (λ (x : Slot). x.promise ≡ first) (sym rolled)
    (starts_where (later t.promise first) first (roll_back_to (later t.promise first) (sealed_of t)) t
    (ap (λ b. cond b first t.promise) (before_start t.promise s.kept.epoch (sound_where handle s r).within))
    (subst (λ (x : Slot). is_some x.live ≡ true) rolled live))

learned_store : (s : Server) → learn (s.kept.epoch + 1) Rollback (store_of s) ≡ Ok (store_of (rolled_back s))
learned_store s =
    let epoch : ℕ = s.kept.epoch + 1 in
    subst (λ here. cond here (Ok (store_of s)) (cond (epoch == s.kept.epoch + 1) (Ok (stores.learned epoch Rollback (store_of s))) (Err (refusals.Epoch s.kept.epoch))) ≡ Ok (store_of (step_if epoch Rollback s here (epoch == s.kept.epoch + 1)).after))
    (sym (apart epoch s.kept.epoch (epoch == s.kept.epoch) refl refl))
    (subst (λ next. cond next (Ok (stores.learned epoch Rollback (store_of s))) (Err (refusals.Epoch s.kept.epoch)) ≡ Ok (store_of (step_if epoch Rollback s false next).after)) (sym (eq-eqb epoch (s.kept.epoch + 1) refl)) refl)

pub names_live : (handle : ℕ) (s : Server) → IsReached s → names handle (s.kept.epoch + 1) (store_of (rolled_back s)) ≡ is_some (slot_in handle (rolled_back s)).live
names_live handle s r =
    named_is (s.kept.epoch + 1) handle (store_of s) (store_of (rolled_back s)) refl (learned_store s) (each_whole handle s r) (not_above (slot_in handle s).promise s.kept.epoch (sound_where handle s r).within)
