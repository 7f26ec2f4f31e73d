-- What stands is kept where views are begun.
use Rattle.std.proofs.Common.{◌≡◌, ◌∙◌, ◌≤◌, ◌&&◌, ◌||◌, ◌==◌, ◌⊎◌, inl, inr, ℕ, zero, suc, Bool, true, false, not, cond, List, [], ◌∷◌, ◌++◌, length, refl, ap, subst, sym, arith}
use Rattle.std.specs.Prelude.{is_some, nat_le, nat_lt, replicate, unwrap_or, Option, Some, None, if◌then◌else◌}
use Rattle.std.specs.Cmp.{nat_cmp_total, tied_itself}
use Rattle.std.specs.FinMap as fin
use Rattle.std.specs.List.{AllByRecursion, list_all}
use Rattle.std.specs.Ordering.{is_eq}
use Rattle.std.proofs.lemmas.Bool.{false≢true, true≢false, and_parts}
use Rattle.std.proofs.lemmas.Bool.Decides.{nat_tests}
use Rattle.std.proofs.lemmas.List.Folds.{list_all-append, list_any-append}
use Rattle.gs_base.specs.Members.{is_member}
use Rattle.gs_base.specs.MemberLaws.{eqb_itself}
use Rattle.gs_base.specs.Told.{IsNumber}
use Rattle.gs_base.specs.declared.numbers.ReqId.{ReqId}
use Rattle.gs_base.specs.declared.refusal.Refusal.TheVariants as refusals
use Rattle.gs_tree.proofs.Levels.{both_true}
use Rattle.gs_lease.specs.Transitions.{is_for_lease}
use Rattle.gs_lease.specs.declared.view.Purpose.{Purpose}
use Rattle.gs_lease.specs.declared.view.Purpose.TheVariants as purposes
use Rattle.gs_master_record.specs.Plain.{Propose}
use Rattle.gs_master_record.specs.declared.checkpoint.Phase.{Phase}
use Rattle.gs_master_record.specs.declared.checkpoint.Phase.TheVariants.{Ordinary, Upgrade, Rolling}
use Rattle.gs_master_spec.specs.Applied.{applied, follows_view, is_fresh, is_since, is_visible, proposed, raised, with_proposal}
use Rattle.gs_master_spec.specs.Beginning.{all_begun, begin_at, begun, has_handle, has_versions, members_at, next_stamp, waits_from_now}
use Rattle.gs_master_spec.specs.Chunks.{asking_for, chunk_at, has_entry}
use Rattle.gs_master_spec.specs.Durable.{Durable, Settled, after_number, is_given, is_listed, is_rolling, upgrade_epoch, values_left}
use Rattle.gs_master_state.specs.Sane.{is_waited_by, makes, may_wait_for}
use Rattle.gs_master_spec.specs.State.{State, Plan, turned, unmoved, if_room, refused}
use Rattle.gs_master_spec.specs.Volatile.{Volatile, changed, is_call, is_pending, paths_of}
use Rattle.gs_master_spec.specs.Working.{begins, begins_new}
use Rattle.gs_master_spec.specs.declared.asking.Asking.{Asking}
use Rattle.gs_master_spec.specs.declared.change.Change.TheVariants as changes
use Rattle.gs_master_spec.specs.declared.pending.Pending.{Pending}
use Rattle.gs_master_spec.specs.declared.pending.Waiting.{Waiting}
use Rattle.gs_master_spec.specs.declared.pending.Waiting.TheVariants as waits
use Rattle.gs_laws_master.specs.Standing.{CanWait, IsSought, IsToldCount, IsToldWaiting, Stands, may_ask, was_answered}
use Rattle.gs_laws_master.proofs.lemmas.fitting.AcceptedViews.{is_settled, or_left, or_right, proposes}
use Rattle.gs_laws_master.proofs.lemmas.versions.Fresh.{next_is_fresh, not_false, left_after}
use Rattle.gs_laws_master.proofs.lemmas.keeping.KeptRecords.{proposed_some}
use Rattle.gs_laws_master.proofs.lemmas.standing.Standing.{ask, begin, enter, fresh_call, recorded, same_call, same_parts, same_self}
use Rattle.gs_laws_master.proofs.lemmas.standing.StandingRecords.{number_more, propose_onto}
use Rattle.gs_laws_master.proofs.lemmas.names.Numbered.{keeps_numbers}
use Rattle.gs_laws_master.proofs.lemmas.standing.StandingTurns.{Good, Holds, one_good, refused_good, room_good, same_good, test_good, then_good}

-- ---- numbers

given_itself : (n : ℕ) → is_fresh n n ≡ true → is_given (after_number n) n ≡ true
given_itself n fresh = grind (arith, nat_tests)

given_raised_itself : (next n : ℕ) → is_fresh next n ≡ true → is_given (raised next n) n ≡ true
given_raised_itself next n fresh = grind (arith, nat_tests)

raised_settled : (next n : ℕ) → is_given next n ≡ true → IsNumber next → IsNumber (raised next n)
raised_settled next n given low = by_test (is_given next n) given (nat_lt 0 n)
  where
    by_test : (g : Bool) → g ≡ true → (p : Bool) → IsNumber (if p && not g then after_number n else next)
    by_test true e true = low
    by_test true e false = low
    by_test false e p = absurd (false≢true e)

raised_new : (next n : ℕ) → IsNumber n → IsNumber next → IsNumber (raised next n)
raised_new next n few low = by_test (is_fresh next n)
  where
    by_test : (f : Bool) → IsNumber (if f then after_number n else next)
    by_test true = number_more n few
    by_test false = low

none_told : (n : ℕ) → AllByRecursion IsToldCount (replicate n None)
none_told zero = tt
none_told (suc n) = (tt, none_told n)

-- a version that was given comes before the next one
version_before : (next version : ℕ) → is_fresh next next ≡ true → (version ≡ 0) ⊎ (is_given next version ≡ true) → nat_lt version next ≡ true
version_before next version fresh (inl none) = grind (arith, nat_tests)
version_before next version fresh (inr given) = grind (arith, nat_tests)

comes_before : (epoch version now next : ℕ) → epoch ≤ now → nat_lt version next ≡ true → (nat_lt epoch now || ((epoch == now) && nat_lt version next)) ≡ true
comes_before epoch version now next low before = grind (arith, nat_tests)

since_now : (phase : Phase) (epoch version : ℕ) (o : Option Settled) → is_rolling phase ≡ false → is_since (upgrade_epoch phase epoch) o (record { epoch = epoch; version = version }) ≡ true
since_now Ordinary epoch version o rolling = refl
since_now Upgrade epoch version None rolling = itself epoch
  where
    itself : (n : ℕ) → nat_le n n ≡ true
    itself n = grind (arith, nat_tests)
since_now Upgrade epoch version (Some s) rolling = refl
since_now Rolling epoch version o rolling = absurd (true≢false rolling)

-- ---- for which call a chunk moves

pub record IsFor (d : Durable) (w : Volatile) (chunk : ℕ) (purpose : Purpose) (call : Option ReqId) : Type 0 where
  pub wanted : list_all (λ (p : Pending). not (is_call p.req call) || may_wait_for chunk p.waits) w.pending ≡ true
  pub purposed : list_all (λ (p : Pending). not (is_call p.req call) || may_ask purpose p.waits) w.pending ≡ true
  pub past : (req : ReqId) → call ≡ Some req → (is_pending w.pending req || was_answered d w req) ≡ true

pub for_none : (d : Durable) (w : Volatile) (chunk : ℕ) (purpose : Purpose) → IsFor d w chunk purpose None
for_none d w chunk purpose = record { wanted = nobody (may_wait_for chunk) w.pending; purposed = nobody (may_ask purpose) w.pending; past = λ req call. absurd (false≢true (ap is_some call)) }
  where
    nobody : (f : Waiting → Bool) (ps : List Pending) → list_all (λ (p : Pending). not (is_call p.req None) || f p.waits) ps ≡ true
    nobody f [] = refl
    nobody f (p ∷ ps) = nobody f ps

other_way : (a b : ReqId) → same_call a b ≡ false → same_call b a ≡ false
other_way a b h = by_test (same_call b a) refl
  where
    by_test : (c : Bool) → same_call b a ≡ c → c ≡ false
    by_test true is = sym (same_self b) ∙ ap (λ x. same_call x b) (same_parts b a is) ∙ h
    by_test false is = refl

unwaited : (req : ReqId) (f : Waiting → Bool) (ps : List Pending) → is_pending ps req ≡ false → list_all (λ (p : Pending). not (same_call p.req req) || f p.waits) ps ≡ true
unwaited req f [] out = refl
unwaited req f (p ∷ ps) out = by_test (same_call req p.req) refl out (λ h. unwaited req f ps h)
  where
    by_test : (c : Bool) → same_call req p.req ≡ c → (c || is_pending ps req) ≡ false → (is_pending ps req ≡ false → list_all (λ (q : Pending). not (same_call q.req req) || f q.waits) ps ≡ true) → ((not (same_call p.req req) || f p.waits) && list_all (λ (q : Pending). not (same_call q.req req) || f q.waits) ps) ≡ true
    by_test true is h rest = absurd (true≢false h)
    by_test false is h rest = both_true (not (same_call p.req req) || f p.waits) _ (ap (λ b. not b || f p.waits) (other_way req p.req is)) (rest h)

-- who makes a chunk waits for no lease
makes_asks : (chunk : ℕ) (w : Waiting) → makes chunk w ≡ true → may_ask purposes.Quiet w ≡ true
makes_asks chunk (waits.Extend path new) is = refl
makes_asks chunk (waits.Lease path index leased) is = absurd (false≢true is)
makes_asks chunk (waits.Quiet path index quiet) is = refl
makes_asks chunk (waits.Copy path index old new) is = refl
makes_asks chunk (waits.Snapshot from to) is = refl
makes_asks chunk (waits.Replicate copied target) is = refl

-- a call that has just begun to wait
pub for_begun : (d : Durable) (v : Volatile) (p : Pending) (chunk : ℕ) (purpose : Purpose) → is_pending v.pending p.req ≡ false → may_wait_for chunk p.waits ≡ true → may_ask purpose p.waits ≡ true → IsFor d (changed v (changes.Begin p)) chunk purpose (Some p.req)
for_begun d v p chunk purpose out may asks = record {
  wanted = own (may_wait_for chunk) may;
  purposed = own (may_ask purpose) asks;
  past = λ req call. or_left (is_pending (v.pending ++ p ∷ []) req) (was_answered d v req) (here req (req_is call));
}
  where
    own : (f : Waiting → Bool) → f p.waits ≡ true → list_all (λ (q : Pending). not (same_call q.req p.req) || f q.waits) (v.pending ++ p ∷ []) ≡ true
    own f so = list_all-append (λ (q : Pending). not (same_call q.req p.req) || f q.waits) v.pending (p ∷ [])
        ∙ both_true (list_all (λ (q : Pending). not (same_call q.req p.req) || f q.waits) v.pending) ((not (same_call p.req p.req) || f p.waits) && true)
        (unwaited p.req f v.pending out) (both_true (not (same_call p.req p.req) || f p.waits) true (or_right (not (same_call p.req p.req)) (f p.waits) so) refl)

    req_is : {a b : ReqId} → ◌≡◌ {A = Option ReqId} (Some a) (Some b) → a ≡ b
    req_is e = cc

    here : (req : ReqId) → p.req ≡ req → is_pending (v.pending ++ p ∷ []) req ≡ true
    here req e = list_any-append (λ (q : Pending). same_call req q.req) v.pending (p ∷ []) ∙ or_right (is_pending v.pending req) (same_call req p.req || false) (or_left (same_call req p.req) false (ap (λ x. same_call x p.req) (sym e) ∙ same_self p.req))

pub made_begun : (v : Volatile) (p : Pending) (chunk : ℕ) → makes chunk p.waits ≡ true → is_waited_by (Some p.req) (makes chunk) (changed v (changes.Begin p)).pending ≡ true
made_begun v p chunk made =
    list_any-append (λ (q : Pending). same_call q.req p.req && makes chunk q.waits) v.pending (p ∷ [])
    ∙ or_right (is_waited_by (Some p.req) (makes chunk) v.pending) ((same_call p.req p.req && makes chunk p.waits) || false) (or_left (same_call p.req p.req && makes chunk p.waits) false (both_true (same_call p.req p.req) (makes chunk p.waits) (same_self p.req) made))

-- ---- what is asked now

module _ (d : Durable) (w : Volatile) (purpose : Purpose) (members : List ℕ) (call : Option ReqId) (h : Stands d w) (rolling : is_rolling d.phase ≡ false) (left : has_versions d 1 ≡ true) where
  -- for a chunk that is settled
  sought_settled : (chunk : ℕ) (s : Settled) → fin.get d.chunks chunk ≡ Some s → (is_listed d chunk || is_member w.unplaced chunk) ≡ true → ((is_listed d chunk ≡ true) ⊎ (call ≡ None)) → (is_for_lease purpose ≡ true → is_listed d chunk ≡ true) → IsFor d w chunk purpose call
      → IsSought (proposed d chunk d.next_version) w chunk (asking_for (next_stamp d) purpose members call)
  sought_settled chunk s has known owned leases for =
      let fresh = next_is_fresh d.next_version 1 (omega arith) left in
      let view = h.kept.views chunk s has in
      let now : fin.get (proposed d chunk d.next_version).chunks chunk ≡ Some (record s { is_moving = true }) = moved in
      record {
        known = known;
        handle = still_given d.next_handle chunk (h.kept.handles chunk (ap is_some has));
        version = given_itself d.next_version fresh;
        number = h.counters.version;
        epoch = omega arith;
        follows = ap (λ o. follows_view o (next_stamp d)) now ∙ comes_before s.view.stamp.epoch s.view.stamp.version d.epoch d.next_version view.epoch (version_before d.next_version s.view.stamp.version fresh view.version);
        since = since_now d.phase d.epoch d.next_version (fin.get (proposed d chunk d.next_version).chunks chunk) rolling;
        told = none_told 16;
        wanted = for.wanted;
        leased = leases;
        purposed = for.purposed;
        made = λ none. absurd (false≢true (sym (ap is_some none) ∙ ap is_some now));
        own = λ r is here. not_owned r is here owned;
        first = λ r is here. absurd (no_owner r is here owned);
        past = for.past;
      }
    where
      no_owner : (r : ReqId) → call ≡ Some r → is_member w.unplaced chunk ≡ true → (is_listed d chunk ≡ true) ⊎ (call ≡ None) → ⊥
      no_owner r is here (inl listed) = true≢false (sym listed ∙ (h.unplaced chunk here).1)
      no_owner r is here (inr none) = false≢true (sym (ap is_some none) ∙ ap is_some is)

      not_owned : (r : ReqId) → call ≡ Some r → is_member w.unplaced chunk ≡ true → (is_listed d chunk ≡ true) ⊎ (call ≡ None) → is_waited_by call (makes chunk) w.pending ≡ true
      not_owned r is here (inl listed) = absurd (true≢false (sym listed ∙ (h.unplaced chunk here).1))
      not_owned r is here (inr none) = absurd (false≢true (sym (ap is_some none) ∙ ap is_some is))

      still_given : (next n : ℕ) → is_given next n ≡ true → is_given (raised next n) n ≡ true
      still_given next n g = grind (arith, nat_tests)

      moved : fin.get (proposed d chunk d.next_version).chunks chunk ≡ Some (record s { is_moving = true })
      moved =
          ap (λ o. fin.get (with_proposal d chunk o) chunk) has ∙ fin.get-insert nat_cmp_total d.chunks chunk (record s { is_moving = true }) chunk
          ∙ ap (λ o. cond (is_eq o) (Some (record s { is_moving = true })) (fin.get d.chunks chunk)) (tied_itself nat_cmp_total chunk)

  -- and for a new one
  none_settled : is_fresh d.next_handle d.next_handle ≡ true → fin.get d.chunks d.next_handle ≡ None
  none_settled fresh = by_entry (fin.get d.chunks d.next_handle) refl
    where
      not_given : (n : ℕ) → is_given n n ≡ true → is_fresh n n ≡ true → ⊥
      not_given n g f = absurd (grind (arith, nat_tests))

      by_entry : (o : Option Settled) → fin.get d.chunks d.next_handle ≡ o → o ≡ None
      by_entry None is = refl
      by_entry (Some s) is = absurd (not_given d.next_handle (h.kept.handles d.next_handle (ap is_some is)) fresh)

  sought_new : is_fresh d.next_handle d.next_handle ≡ true → is_for_lease purpose ≡ false → IsFor d w d.next_handle purpose call → is_waited_by call (makes d.next_handle) w.pending ≡ true
      → IsSought (proposed d d.next_handle d.next_version) (changed w (changes.Enter d.next_handle)) d.next_handle (asking_for (next_stamp d) purpose members call)
  sought_new fresh quiet for made =
      let new = d.next_handle in
      let e = proposed d d.next_handle d.next_version in
      let now : fin.get e.chunks d.next_handle ≡ None = ap (λ o. fin.get (with_proposal d d.next_handle o) d.next_handle) (none_settled fresh) ∙ none_settled fresh in
      record {
        known = or_right (is_listed d new) (is_member (w.unplaced ++ new ∷ []) new)
            (list_any-append (λ m. m == new) w.unplaced (new ∷ []) ∙ or_right (is_member w.unplaced new) ((new == new) || false) (or_left (new == new) false (eqb_itself new)));
        handle = given_raised_itself d.next_handle d.next_handle fresh;
        version = given_itself d.next_version (next_is_fresh d.next_version 1 (omega arith) left);
        number = h.counters.version;
        epoch = omega arith;
        follows = ap (λ o. follows_view o (next_stamp d)) now;
        since = since_now d.phase d.epoch d.next_version (fin.get e.chunks d.next_handle) rolling;
        told = none_told 16;
        wanted = for.wanted;
        leased = λ lease. absurd (true≢false (sym lease ∙ quiet));
        purposed = for.purposed;
        made = λ none. made;
        own = λ r is here. made;
        first = λ r is here. now;
        past = for.past;
      }

  -- ---- so it is proposed

  pub proposed_settled : (chunk : ℕ) → is_settled d chunk ≡ true → (is_listed d chunk || is_member w.unplaced chunk) ≡ true → ((is_listed d chunk ≡ true) ⊎ (call ≡ None)) → (is_for_lease purpose ≡ true → is_listed d chunk ≡ true) → IsFor d w chunk purpose call
      → Stands (proposed d chunk d.next_version) (changed w (changes.Ask chunk (asking_for (next_stamp d) purpose members call)))
  proposed_settled chunk some known owned leases for = by_entry (fin.get d.chunks chunk) refl some
    where
      e : Durable
      e = proposed d chunk d.next_version

      by_entry : (o : Option Settled) → fin.get d.chunks chunk ≡ o → is_some o ≡ true → Stands e (changed w (changes.Ask chunk (asking_for (next_stamp d) purpose members call)))
      by_entry None is k = absurd (false≢true k)
      by_entry (Some s) is k =
          let fit = proposes d chunk zero rolling left (or_left (is_settled d chunk) (is_fresh d.next_handle chunk) some) in
          let few = raised_settled d.next_handle chunk (h.kept.handles chunk some) h.counters.handle in
          ask e w (recorded d e w (propose_onto d e w chunk d.next_version h h.counters.version few fit) h) chunk (asking_for (next_stamp d) purpose members call) (sought_settled chunk s is known owned leases for)

  pub proposed_new : has_handle d ≡ true → is_for_lease purpose ≡ false → IsFor d w d.next_handle purpose call → is_waited_by call (makes d.next_handle) w.pending ≡ true
      → Stands (proposed d d.next_handle d.next_version) (changed (changed w (changes.Enter d.next_handle)) (changes.Ask d.next_handle (asking_for (next_stamp d) purpose members call)))
  proposed_new handle quiet for made =
      let fresh = next_is_fresh d.next_handle 1 (omega arith) handle in
      let new = d.next_handle in
      let e = proposed d new d.next_version in
      let fit = proposes d new zero rolling left (or_right (is_settled d new) (is_fresh new new) fresh) in
      let few = raised_new new new h.counters.handle h.counters.handle in
      let on = recorded d e w (propose_onto d e w new d.next_version h h.counters.version few fit) h in
      let entered = enter e w on new (given_raised_itself new new fresh) (unlisted fresh) (never_out fresh) (unasked fresh) in
      let x = changed w (changes.Enter new) in
      ask e x entered new (asking_for (next_stamp d) purpose members call)
      (sought_new fresh quiet for made)
    where
      not_given : (n : ℕ) → is_given n n ≡ true → is_fresh n n ≡ true → ⊥
      not_given n g f = absurd (grind (arith, nat_tests))

      never_out : is_fresh d.next_handle d.next_handle ≡ true → is_member w.taken_out d.next_handle ≡ false
      never_out fresh = by_test (is_member w.taken_out d.next_handle) refl
        where
          by_test : (b : Bool) → is_member w.taken_out d.next_handle ≡ b → b ≡ false
          by_test true is = absurd (not_given d.next_handle (h.out d.next_handle is).0 fresh)
          by_test false is = refl

      unasked : is_fresh d.next_handle d.next_handle ≡ true → fin.get w.moving d.next_handle ≡ None
      unasked fresh = by_entry (fin.get w.moving d.next_handle) refl
        where
          by_entry : (o : Option Asking) → fin.get w.moving d.next_handle ≡ o → o ≡ None
          by_entry None is = refl
          by_entry (Some a) is = absurd (not_given d.next_handle (h.asked d.next_handle a is).handle fresh)

      unlisted : is_fresh d.next_handle d.next_handle ≡ true → is_listed d d.next_handle ≡ false
      unlisted fresh = by_test (is_listed d d.next_handle) refl
        where
          by_test : (b : Bool) → is_listed d d.next_handle ≡ b → b ≡ false
          by_test true is = absurd (false≢true (sym (ap is_some (none_settled fresh)) ∙ h.kept.settled d.next_handle is))
          by_test false is = refl

-- ---- a call may begin to wait

pub record MayBegin (s : State) (req : ReqId) : Type 0 where
  pub out : is_pending s.volatile.pending req ≡ false
  pub new : was_answered s.durable s.volatile req ≡ false
  pub rolling : is_rolling s.durable.phase ≡ false
  pub preparing : s.volatile.is_preparing ≡ false

module _ (b : Bool) (s : State) (req : ReqId) (h : Holds b s) (may : MayBegin s req) where
  pub not_rolling : {P : Type 0} (d : Durable) → d.phase ≡ s.durable.phase → b ≡ true → is_rolling d.phase ≡ true → P
  not_rolling d same c r = absurd (true≢false (sym r ∙ ap is_rolling same ∙ may.rolling))

  abbrev pub waiting_call : Waiting → Pending
  waiting_call waiting = record { req = req; waits = waiting }

  pub begun_call : (waiting : Waiting) → CanWait (waiting_call waiting) → Stands s.durable (changed s.volatile (changes.Begin (waiting_call waiting)))
  begun_call waiting can = begin s.durable s.volatile h.stands (waiting_call waiting) can may.out (fresh_call s.durable s.volatile h.stands req may.out may.new) may.preparing

  -- a view is begun for it
  pub begins_good : (chunk : ℕ) (purpose : Purpose) (waiting : Waiting) → is_settled s.durable chunk ≡ true → is_listed s.durable chunk ≡ true → may_wait_for chunk waiting ≡ true → may_ask purpose waiting ≡ true → CanWait (waiting_call waiting)
      → Good b s (begins s req (begin_at s chunk purpose (Some req)) waiting)
  begins_good chunk purpose waiting known listed right asks can =
      let plan = waits_from_now (begin_at s chunk purpose (Some req)) req waiting in
      test_good b s (not (has_versions s.durable 1)) (refused s req refusals.Exhausted) (if_room s (turned s plan) (refused s req refusals.Full)) (λ c. refused_good b s req refusals.Exhausted h)
      (λ left. let some = not_false (has_versions s.durable 1) left in
      room_good b s req (turned s plan) h
      (one_good b s (Propose chunk s.durable.next_version) plan (proposed s.durable chunk s.durable.next_version) (proposes s.durable chunk zero may.rolling some (or_left (is_settled s.durable chunk) (is_fresh s.durable.next_handle chunk) known))
      (proposed_settled s.durable (changed s.volatile (changes.Begin (waiting_call waiting))) purpose (members_at (chunk_at s chunk)) (Some req) (begun_call waiting can) may.rolling some chunk known (or_left (is_listed s.durable chunk) (is_member s.volatile.unplaced chunk) listed) (inl listed) (λ lease. listed)
      (for_begun s.durable s.volatile (waiting_call waiting) chunk purpose may.out right asks))
      (not_rolling (proposed s.durable chunk s.durable.next_version) refl)
      (λ n. keeps_numbers (Propose chunk s.durable.next_version) refl s.durable (proposed s.durable chunk s.durable.next_version) tt h.stands.kept n (proposes s.durable chunk zero may.rolling some (or_left (is_settled s.durable chunk) (is_fresh s.durable.next_handle chunk) known)))))

  -- and so is one of a new chunk
  pub begins_new_good : (plan : Plan) (members : List ℕ) (waiting : Waiting) → may_wait_for s.durable.next_handle waiting ≡ true → makes s.durable.next_handle waiting ≡ true → (has_handle s.durable ≡ true → IsToldWaiting waiting) → list_all is_visible (paths_of waiting) ≡ true
      → Good b s (begins_new s req (record plan { records = Propose s.durable.next_handle s.durable.next_version ∷ []; changes = changes.Enter s.durable.next_handle ∷ changes.Ask s.durable.next_handle (asking_for (next_stamp s.durable) purposes.Quiet members (Some req)) ∷ [] }) waiting)
  begins_new_good plan members waiting right makes_it told visible =
      let new = s.durable.next_handle in
      let first = record plan { records = Propose new s.durable.next_version ∷ []; changes = changes.Enter new ∷ changes.Ask new (asking_for (next_stamp s.durable) purposes.Quiet members (Some req)) ∷ [] } in
      let whole = waits_from_now first req waiting in
      test_good b s (not (has_handle s.durable)) (refused s req refusals.Exhausted) (begins s req first waiting) (λ c. refused_good b s req refusals.Exhausted h)
      (λ handle. let one = not_false (has_handle s.durable) handle in
      test_good b s (not (has_versions s.durable 1)) (refused s req refusals.Exhausted) (if_room s (turned s whole) (refused s req refusals.Full)) (λ c. refused_good b s req refusals.Exhausted h)
      (λ left. let some = not_false (has_versions s.durable 1) left in
      room_good b s req (turned s whole) h
      (one_good b s (Propose new s.durable.next_version) whole (proposed s.durable new s.durable.next_version) (proposes s.durable new zero may.rolling some (or_right (is_settled s.durable new) (is_fresh new new) (next_is_fresh new 1 (omega arith) one)))
      (proposed_new s.durable (changed s.volatile (changes.Begin (waiting_call waiting))) purposes.Quiet members (Some req) (begun_call waiting (visible, told one)) may.rolling some one refl
      (for_begun s.durable s.volatile (waiting_call waiting) new purposes.Quiet may.out right (makes_asks new waiting makes_it)) (made_begun s.volatile (waiting_call waiting) new makes_it))
      (not_rolling (proposed s.durable new s.durable.next_version) refl)
      (λ n. keeps_numbers (Propose new s.durable.next_version) refl s.durable (proposed s.durable new s.durable.next_version) tt h.stands.kept n (proposes s.durable new zero may.rolling some (or_right (is_settled s.durable new) (is_fresh new new) (next_is_fresh new 1 (omega arith) one)))))))

-- ---- several are begun

module _ (b : Bool) where
  pub record AreBegun (s : State) (many : List ℕ) (purpose : Purpose) (call : Option ReqId) : Type 0 where
    pub rolling : is_rolling s.durable.phase ≡ false
    pub left : has_versions s.durable (length many) ≡ true
    pub known : list_all (λ c. is_settled s.durable c && has_entry s c) many ≡ true
    pub quiet : is_for_lease purpose ≡ false
    pub owned : (list_all (is_listed s.durable) many ≡ true) ⊎ (call ≡ None)
    pub for : (chunk : ℕ) → IsFor s.durable s.volatile chunk purpose call

  some_left : (d : Durable) (many : ℕ) → has_versions d (suc many) ≡ true → has_versions d 1 ≡ true
  some_left d many left = fewer many (values_left d.next_version) left
    where
      fewer : (m n : ℕ) → nat_le (suc m) n ≡ true → nat_le 1 n ≡ true
      fewer m n e = grind (arith, nat_tests)

  pub all_begun_good : (many : List ℕ) (purpose : Purpose) (call : Option ReqId) (s : State) → Holds b s → AreBegun s many purpose call → Good b s (all_begun s many purpose call)
  all_begun_good [] purpose call s h a = same_good b s (unmoved s) refl refl h
  all_begun_good (chunk ∷ many) purpose call s h a =
      let parts = and_parts (is_settled s.durable chunk && has_entry s chunk) (list_all (λ c. is_settled s.durable c && has_entry s c) many) a.known in
      let here = and_parts (is_settled s.durable chunk) (has_entry s chunk) parts.0 in
      let some = some_left s.durable (length many) a.left in
      let next = proposed s.durable chunk s.durable.next_version in
      let fit = proposes s.durable chunk (length many) a.rolling a.left (or_left (is_settled s.durable chunk) (is_fresh s.durable.next_handle chunk) here.0) in
      let stands = proposed_settled s.durable s.volatile purpose (members_at (chunk_at s chunk)) call h.stands a.rolling some chunk here.0 here.1 (first_owned a.owned) (λ lease. absurd (true≢false (sym lease ∙ a.quiet))) (a.for chunk) in
      let one = one_good b s (Propose chunk s.durable.next_version) (begin_at s chunk purpose call) next fit stands (λ c r. h.rolling c r) (λ n. keeps_numbers (Propose chunk s.durable.next_version) refl s.durable next tt h.stands.kept n fit) in
      then_good b s (begun s chunk purpose call) (λ after. all_begun after many purpose call) one
      (all_begun_good many purpose call (begun s chunk purpose call).after one.holds (record {
        rolling = ap (λ o. is_rolling (unwrap_or o s.durable).phase) fit ∙ a.rolling;
        left = left_after s chunk (length many) a.left;
        known = ap (λ o. list_all (λ c. is_settled (unwrap_or o s.durable) c && (is_listed (unwrap_or o s.durable) c || is_member s.volatile.unplaced c)) many) fit
            ∙ ap (λ (f : ℕ → Bool). list_all f many) (λ i c. proposed_some s.durable chunk c (fin.get s.durable.chunks chunk) refl i && has_entry s c) ∙ parts.1;
        quiet = a.quiet;
        owned = rest_owned fit a.owned;
        for = λ c. subst (λ o. IsFor (unwrap_or o s.durable) (begun s chunk purpose call).after.volatile c purpose call) (sym fit) (record { wanted = (a.for c).wanted; purposed = (a.for c).purposed; past = (a.for c).past });
      }))
    where
      first_owned : (list_all (is_listed s.durable) (chunk ∷ many) ≡ true) ⊎ (call ≡ None) → (is_listed s.durable chunk ≡ true) ⊎ (call ≡ None)
      first_owned (inl all) = inl (and_parts (is_listed s.durable chunk) (list_all (is_listed s.durable) many) all).0
      first_owned (inr none) = inr none

      rest_owned : applied s.durable (Propose chunk s.durable.next_version) ≡ Some (proposed s.durable chunk s.durable.next_version) → (list_all (is_listed s.durable) (chunk ∷ many) ≡ true) ⊎ (call ≡ None)
          → (list_all (is_listed (unwrap_or (applied s.durable (Propose chunk s.durable.next_version)) s.durable)) many ≡ true) ⊎ (call ≡ None)
      rest_owned fit (inl all) = inl (ap (λ o. list_all (is_listed (unwrap_or o s.durable)) many) fit ∙ (and_parts (is_listed s.durable chunk) (list_all (is_listed s.durable) many) all).1)
      rest_owned fit (inr none) = inr none
