-- What stands is kept by a checkpoint.
use Rattle.std.proofs.Common.{◌≡◌, ◌∙◌, ◌||◌, ◌==◌, ℕ, Bool, true, false, cond, List, [], ◌∷◌, filter, refl, ap, sym}
use Rattle.std.specs.Prelude.{fold, is_none, is_some, Option, Some, None}
use Rattle.std.specs.Cmp.{nat_cmp_total, tied_itself}
use Rattle.std.specs.FinMap as fin
use Rattle.std.specs.Ordering.{eq_by_cmp, is_eq, nat_cmp}
use Rattle.std.proofs.lemmas.Bool.{false≢true, true≢false}
use Rattle.gs_base.specs.Members.{is_member}
use Rattle.gs_base.specs.declared.refusal.Refusal.{Refusal}
use Rattle.gs_edit.proofs.References.{among}
use Rattle.gs_tree.proofs.Levels.{both_true}
use Rattle.gs_master_spec.specs.Applied.{follows_view, is_since}
use Rattle.gs_master_spec.specs.Durable.{Settled, is_listed, upgrade_epoch}
use Rattle.gs_master_spec.specs.Handling.{awaits_first, checkpoint, checkpoint_body, checkpoint_tests, due, still_new, tidied, without_place, written_if_due, written_unless}
use Rattle.gs_master_spec.specs.State.{State, unmoved, met_by, first_of, is_failed}
use Rattle.gs_master_spec.specs.declared.asking.Asking.{Asking}
use Rattle.gs_laws_master.specs.Standing.{Stands}
use Rattle.gs_laws_master.proofs.lemmas.fitting.AcceptedMessages.{written_fits}
use Rattle.gs_laws_master.proofs.lemmas.fitting.AcceptedViews.{or_left, or_right}
use Rattle.gs_laws_master.proofs.lemmas.keeping.KeptAll.{tidied_kept}
use Rattle.gs_laws_master.proofs.lemmas.standing.Standing.{same_number}
use Rattle.gs_laws_master.proofs.lemmas.standing.StandingTurns.{Good, Holds, same_good, test_good}
use Rattle.gs_laws_master.proofs.lemmas.standing.StandingUpgrades.{kept_out}
use Rattle.gs_laws_master.proofs.lemmas.telling.ToldAgain.{get_tidied}

-- ---- those of a list that pass a test

pub member_was : (f : ℕ → Bool) (xs : List ℕ) (q : ℕ) → is_member (filter f xs) q ≡ true → is_member xs q ≡ true
member_was f [] q e = e
member_was f (x ∷ xs) q e = by_test (f x) (member_was f xs q) e
  where
    by_test : (b : Bool) → (is_member (filter f xs) q ≡ true → is_member xs q ≡ true) → is_member (cond b (x ∷ filter f xs) (filter f xs)) q ≡ true → ((x == q) || is_member xs q) ≡ true
    by_test true rest k = by_head (x == q) k
      where
        by_head : (h : Bool) → (h || is_member (filter f xs) q) ≡ true → (h || is_member xs q) ≡ true
        by_head true j = refl
        by_head false j = rest j
    by_test false rest k = or_right (x == q) (is_member xs q) (rest k)

pub member_stays : (f : ℕ → Bool) (xs : List ℕ) (q : ℕ) → f q ≡ true → is_member xs q ≡ true → is_member (filter f xs) q ≡ true
member_stays f [] q pass e = e
member_stays f (x ∷ xs) q pass e = by_head (x == q) refl (member_stays f xs q pass) e
  where
    by_test : (b : Bool) → is_member (filter f xs) q ≡ true → is_member (cond b (x ∷ filter f xs) (filter f xs)) q ≡ true
    by_test true k = or_right (x == q) (is_member (filter f xs) q) k
    by_test false k = k

    by_head : (h : Bool) → (x == q) ≡ h → (is_member xs q ≡ true → is_member (filter f xs) q ≡ true) → (h || is_member xs q) ≡ true → is_member (cond (f x) (x ∷ filter f xs) (filter f xs)) q ≡ true
    by_head true is rest k =
        ap (λ b. is_member (cond b (x ∷ filter f xs) (filter f xs)) q) (ap f (same_number x q is) ∙ pass) ∙ or_left (x == q) (is_member (filter f xs) q) is
    by_head false is rest k = by_test (f x) (rest k)

member_among : (xs : List ℕ) (q : ℕ) → is_member xs q ≡ true → among q xs ≡ true
member_among [] q e = e
member_among (x ∷ xs) q e = by_head (x == q) refl (member_among xs q) e
  where
    by_head : (h : Bool) → (x == q) ≡ h → (is_member xs q ≡ true → among q xs ≡ true) → (h || is_member xs q) ≡ true → (eq_by_cmp nat_cmp q x || among q xs) ≡ true
    by_head true is rest k = or_left (eq_by_cmp nat_cmp q x) (among q xs) (ap (eq_by_cmp nat_cmp q) (same_number x q is) ∙ ap is_eq (tied_itself nat_cmp_total q))
    by_head false is rest k = or_right (eq_by_cmp nat_cmp q x) (among q xs) (rest k)

was_asked : (chunks : List ℕ) (m : fin.FinMap nat_cmp Asking) (q : ℕ) (a : Asking) → fin.get (fold fin.remove m chunks) q ≡ Some a → fin.get m q ≡ Some a
was_asked [] m q a has = has
was_asked (c ∷ chunks) m q a has = by_key (eq_by_cmp nat_cmp q c) (sym (fin.get-remove nat_cmp_total m c q) ∙ was_asked chunks (fin.remove m c) q a has)
  where
    by_key : (b : Bool) → cond b None (fin.get m q) ≡ Some a → fin.get m q ≡ Some a
    by_key true e = absurd (false≢true (ap is_some e))
    by_key false e = e

-- ---- what is asked still

record StillSame (s : State) (chunk : ℕ) : Type 0 where
  same : fin.get (tidied s.durable).chunks chunk ≡ fin.get s.durable.chunks chunk
  known : (is_listed s.durable chunk || is_member (filter (awaits_first s) s.volatile.unplaced) chunk) ≡ true

module _ (s : State) (h : Stands s.durable s.volatile) where
  still_same : (chunk : ℕ) (a : Asking) → fin.get (fold fin.remove s.volatile.moving (without_place s)) chunk ≡ Some a → StillSame s chunk
  still_same chunk a has = by_listed (is_listed s.durable chunk) refl (h.asked chunk a was).known
    where
      was : fin.get s.volatile.moving chunk ≡ Some a
      was = was_asked (without_place s) s.volatile.moving chunk a has

      out : among chunk (without_place s) ≡ false
      out = (kept_out (without_place s) s.volatile.moving chunk (ap is_some has)).0

      by_settled : is_member s.volatile.unplaced chunk ≡ true → (o : Option Settled) → fin.get s.durable.chunks chunk ≡ o → o ≡ None
      by_settled here None is = refl
      by_settled here (Some x) is = absurd (true≢false (sym (member_among (without_place s) chunk (member_stays (λ c. is_some (fin.get s.durable.chunks c)) s.volatile.unplaced chunk (ap is_some is) here)) ∙ out))

      by_listed : (b : Bool) → is_listed s.durable chunk ≡ b → (b || is_member s.volatile.unplaced chunk) ≡ true → StillSame s chunk
      by_listed true is k = record {
        same = get_tidied s.durable chunk ∙ ap (λ b. cond b (fin.get s.durable.chunks chunk) None) is;
        known = or_left (is_listed s.durable chunk) (is_member (filter (awaits_first s) s.volatile.unplaced) chunk) is;
      }
      by_listed false is k =
          let none = by_settled k (fin.get s.durable.chunks chunk) refl in
          record {
            same = get_tidied s.durable chunk ∙ ap (λ b. cond b (fin.get s.durable.chunks chunk) None) is ∙ sym none;
            known = or_right (is_listed s.durable chunk) (is_member (filter (awaits_first s) s.volatile.unplaced) chunk)
                (member_stays (awaits_first s) s.volatile.unplaced chunk (both_true (is_none (fin.get s.durable.chunks chunk)) (is_some (fin.get s.volatile.moving chunk)) (ap is_none none) (ap is_some was)) k);
          }

  tidied_stands : Stands (tidied s.durable) (still_new s)
  tidied_stands = record {
    kept = tidied_kept s.durable h.kept;
    counters = record { handle = h.counters.handle; version = h.counters.version; hidden = h.counters.hidden };
    asked = λ chunk a has.
        (let k = h.asked chunk a (was_asked (without_place s) s.volatile.moving chunk a has) in
        let still = still_same chunk a has in
        record {
          known = still.known;
          handle = k.handle;
          version = k.version;
          number = k.number;
          epoch = k.epoch;
          follows = ap (λ o. follows_view o a.stamp) still.same ∙ k.follows;
          since = ap (λ o. is_since (upgrade_epoch s.durable.phase s.durable.epoch) o a.stamp) still.same ∙ k.since;
          told = k.told;
          wanted = k.wanted;
          leased = k.leased;
          purposed = k.purposed;
          made = λ none. k.made (sym still.same ∙ none);
          own = λ req call here. k.own req call (member_was (awaits_first s) s.volatile.unplaced chunk here);
          first = λ req call here. still.same ∙ k.first req call (member_was (awaits_first s) s.volatile.unplaced chunk here);
          past = k.past;
        });
    unplaced = λ chunk here. h.unplaced chunk (member_was (awaits_first s) s.volatile.unplaced chunk here);
    counted = λ chunk some. told_listed chunk (is_listed s.durable chunk) (sym (ap is_some (get_tidied s.durable chunk)) ∙ some);
    out = λ chunk here. absurd (false≢true here);
    apart = h.apart;
    calls = h.calls;
    preparing = h.preparing;
  }
    where
      told_listed : (chunk : ℕ) (b : Bool) → is_some (cond b (fin.get s.durable.chunks chunk) None) ≡ true → (b || (is_member (filter (awaits_first s) s.volatile.unplaced) chunk || false)) ≡ true
      told_listed chunk true some = refl
      told_listed chunk false some = absurd (false≢true some)

pub written_good : (s : State) (refusal : Option Refusal) → Holds true s → Good true s (written_unless s refusal)
written_good s None h = record { numbers = λ n. record { now = n.now; before = n.before }; fits = (written_fits s None h.stands.kept).fits; holds = record { stands = tidied_stands s h.stands; rolling = λ c r. h.rolling c r } }
written_good s (Some refusal) h = same_good true s (met_by s refusal) refl refl h

pub checkpoint_good : (s : State) → Holds true s → Good true s (checkpoint s)
unfolding checkpoint
checkpoint_good s h = written_good s (first_of (checkpoint_tests (is_failed s.fault) s.volatile.is_preparing s.log (checkpoint_body s.durable))) h

pub due_good : (s : State) → Holds true s → Good true s (written_if_due s)
due_good s h =
    let t = checkpoint s in
    let g = checkpoint_good s h in
    test_good true s (due s) (record t { said = None }) (unmoved s) (λ _. record { numbers = g.numbers; fits = g.fits; holds = g.holds }) (λ _. same_good true s (unmoved s) refl refl h)
