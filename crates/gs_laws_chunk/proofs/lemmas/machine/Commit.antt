-- A stamp is proposed or given up; a rollback is committed.
use Rattle.std.proofs.Common.{◌≡◌, ◌≢◌, ℕ, ◌+◌, ◌-◌, ◌<◌, ◌≤◌, ◌⊎◌, inl, inr, ⊎_elim, List, [], length, take, Some, None, Bool, true, false, refl, sym, ap, ◌∙◌, subst, arith, append-nil}
use Rattle.std.proofs.lemmas.List.{take_all}
use Rattle.std.proofs.lemmas.Bool.{cases_eq, cases_lt, eq-eqb, ne_eqb}
use Rattle.gs_base.specs.declared.epoch.EpochEnd.TheVariants.{Rollback}
use Rattle.gs_replica.specs.Stands.{Edit}
use Rattle.gs_laws_chunk.specs.machine.Stamps.{epoch_of, start_of}
use Rattle.gs_laws_chunk.specs.machine.Machine.{Member, Known}
use Rattle.gs_laws_chunk.specs.machine.Events.{is_of, waits, nobody, restored_known, removed_known}
use Rattle.gs_laws_chunk.proofs.lemmas.machine.Stamps.{epoch_of-start, start_of-less}
use Rattle.gs_laws_chunk.proofs.lemmas.machine.Known.{Begins_grown, closed_grown, LeaseOk_grown, Undone, between_grown, Link, Link_grown, false_true, KeepOk, Fit, IsPrepared, Stamped, Grows, Prefix, Rising-nil, Stands_grown, KnownOk, ViewsOk, SealOk}
use Rattle.gs_laws_chunk.proofs.lemmas.machine.Moved.{seal_same, keep_same}

module _ (k : Known) (known : KnownOk k) where
  below_top : (me : ℕ) (s : Member) → ((E : ℕ) → E ≤ k.current → k.how E ≡ Rollback → start_of E ≤ k.view) → SealOk k me s → s.promise ≤ k.top
  below_top me s done seal = ⊎_elim
      (λ (x : s.promise ≤ k.top). x)
      (λ (x : (s.promise ≡ start_of k.current) × (k.how k.current ≡ Rollback)). let d = done k.current (omega arith) x.1 in let e = x.0 in let v = known.viewtop in omega arith)
      seal.below

  -- a stamp is proposed
  module _ (t : ℕ) (asked : ℕ → Bool) (up : k.top < t) (here : epoch_of t ≡ k.current) (later : start_of k.current < t)
      (done : (E : ℕ) → E ≤ k.current → k.how E ≡ Rollback → start_of E ≤ k.view) where
    abbrev pub begun_known : Known
    begun_known = record k { top = t; asked = asked }

    pub begin_grows : Grows k begun_known
    begin_grows = record {
      born = refl;
      view = omega arith;
      top = omega arith;
      current = omega arith;
      overtaken = λ l. absurd (omega arith);
      list = λ t l. ([], sym (append-nil (k.list t)));
      members = λ t j l. refl;
      holder = λ t l. refl;
      asked = λ j s h. absurd (omega arith);
      chosen = λ t j v l w m. absurd (omega arith);
      preparing = λ e l p. absurd (let x = p.0 in omega arith);
      knew = λ s h. h;
      how = λ e l. refl;
      prepared = λ e l. refl;
      kept = λ e l. refl;
      image = λ e p. refl;
      carries = λ e j c. c;
      promise = λ j. omega arith;
      epoch = λ j. omega arith;
      frozen = λ j t l. refl;
      quiet = λ t l n. refl;
      base = λ t l. refl;
      prev = λ t l. refl;
      still = λ j t l v. refl;
      legit = λ t l h. h;
      before = known.before;
      more = λ j t l. omega arith;
      carried = λ e j l c. c;
      stood = λ t l. refl;
    }

    pub begin_stamped : Stamped begun_known t
    begin_stamped = record {
      top = omega arith;
      legit = λ e p. inr (let l = p.0 in omega arith);
      fresh = λ e x. let y : epoch_of t ≡ e = ap epoch_of x ∙ epoch_of-start e in let z : start_of e ≡ start_of k.current = ap start_of (omega arith) in omega arith;
      late = (let b = known.blank.0 in let v = known.viewtop in omega arith);
    }

    pub begin_known_ok : KnownOk begun_known
    begin_known_ok = record {
      viewtop = (let v = known.viewtop in omega arith);
      topepoch = omega arith;
      members = known.members;
      quiet = known.quiet;
      held = known.held;
      before = known.before;
      prepared = known.prepared;
      straight = known.straight;
      rolled = λ E l h. ((known.rolled E l h).0, inl (done E l h));
      unheld = known.unheld;
      first = known.first;
      links = λ t z l m. Link_grown k begun_known begin_grows t l (known.links t z l m);
      fresh = known.fresh;
      floor = known.floor;
      peopled = known.peopled;
      between = between_grown k begun_known begin_grows known;
      now = known.now;
      ready = known.ready;
      blank = known.blank;
      early = known.early;
      lists = known.lists;
    }

    pub begin_views_ok : (me : ℕ) (s : Member) → ViewsOk k me s → SealOk k me s → ViewsOk begun_known me s
    begin_views_ok me s ok seal = record {
      promise = ok.promise;
      epoch = ok.epoch;
      count = ok.count;
      idle = λ v l r is. Begins_grown k begun_known begin_grows r refl (ok.idle v (below_top me s done seal) r is);
      mine = λ v l. ok.mine v (below_top me s done seal);
      member = ok.member;
      whole = ok.whole;
      lease = λ l e. LeaseOk_grown k begun_known begin_grows me l (ok.lease l e);
      same = ok.same;
      closed = λ l r e is n lt. closed_grown k begun_known begin_grows l.stamp ((ok.lease l e).within) n (waits l.waiting n) (ok.closed l r e is n lt);
      untaken = ok.untaken;
      stands = λ r is. Stands_grown k begun_known begin_grows r (ok.stands r is);
      pictures = λ r is. Stands_grown k begun_known begin_grows r (ok.pictures r is);
    }

    pub begin_keep_ok : (me : ℕ) (s : Member) → KeepOk k me s → KeepOk begun_known me s
    begin_keep_ok me s = keep_same k begun_known known begin_grows me (record { current = refl; how = λ e. refl; prepared = λ e. refl; kept = λ e. refl; carries = λ e c. c }) s

    pub begin_seal_ok : (me : ℕ) (s : Member) → SealOk k me s → SealOk begun_known me s
    begin_seal_ok me s = seal_same k begun_known known begin_grows me (record { current = refl; how = λ e. refl; prepared = λ e. refl; kept = λ e. refl; carries = λ e c. c }) s

  -- nobody is counted any more, and perhaps the master forgets the chunk
  module _ (standing : Bool) (less : standing ≡ true → k.is_known ≡ true) where
    abbrev pub calm_known : Known
    calm_known = record k { asked = nobody; is_known = standing }

    pub calm_grows : Grows k calm_known
    calm_grows = record {
      born = refl;
      view = omega arith;
      top = omega arith;
      current = omega arith;
      overtaken = λ l. absurd (omega arith);
      list = λ t l. ([], sym (append-nil (k.list t)));
      members = λ t j l. refl;
      holder = λ t l. refl;
      asked = λ j s h. absurd (cc);
      chosen = λ t j v l w m. absurd (omega arith);
      preparing = λ e l p. absurd (let x = p.0 in omega arith);
      knew = λ s h. less h;
      how = λ e l. refl;
      prepared = λ e l. refl;
      kept = λ e l. refl;
      image = λ e p. refl;
      carries = λ e j c. c;
      promise = λ j. omega arith;
      epoch = λ j. omega arith;
      frozen = λ j t l. refl;
      quiet = λ t l n. refl;
      base = λ t l. refl;
      prev = λ t l. refl;
      still = λ j t l v. refl;
      legit = λ t l h. h;
      before = known.before;
      more = λ j t l. omega arith;
      carried = λ e j l c. c;
      stood = λ t l. refl;
    }

    pub calm_known_ok : KnownOk calm_known
    calm_known_ok = record {
      viewtop = known.viewtop;
      topepoch = known.topepoch;
      members = known.members;
      quiet = known.quiet;
      held = known.held;
      before = known.before;
      prepared = known.prepared;
      straight = known.straight;
      rolled = known.rolled;
      unheld = known.unheld;
      first = known.first;
      links = λ t z l m. Link_grown k calm_known calm_grows t l (known.links t z l m);
      fresh = known.fresh;
      floor = known.floor;
      peopled = known.peopled;
      between = between_grown k calm_known calm_grows known;
      now = λ h. known.now (less h);
      ready = known.ready;
      blank = known.blank;
      early = known.early;
      lists = known.lists;
    }

    pub calm_views_ok : (me : ℕ) (s : Member) → ViewsOk k me s → ViewsOk calm_known me s
    calm_views_ok me s ok = record {
      promise = ok.promise;
      epoch = ok.epoch;
      count = ok.count;
      idle = λ v l r is. Begins_grown k calm_known calm_grows r refl (ok.idle v l r is);
      mine = ok.mine;
      member = ok.member;
      whole = ok.whole;
      lease = λ l e. LeaseOk_grown k calm_known calm_grows me l (ok.lease l e);
      same = ok.same;
      closed = λ l r e is n lt. closed_grown k calm_known calm_grows l.stamp ((ok.lease l e).within) n (waits l.waiting n) (ok.closed l r e is n lt);
      untaken = ok.untaken;
      stands = λ r is. Stands_grown k calm_known calm_grows r (ok.stands r is);
      pictures = λ r is. Stands_grown k calm_known calm_grows r (ok.pictures r is);
    }

    pub calm_keep_ok : (me : ℕ) (s : Member) → KeepOk k me s → KeepOk calm_known me s
    calm_keep_ok me s = keep_same k calm_known known calm_grows me (record { current = refl; how = λ e. refl; prepared = λ e. refl; kept = λ e. refl; carries = λ e c. c }) s

    pub calm_seal_ok : (me : ℕ) (s : Member) → SealOk k me s → SealOk calm_known me s
    calm_seal_ok me s = seal_same k calm_known known calm_grows me (record { current = refl; how = λ e. refl; prepared = λ e. refl; kept = λ e. refl; carries = λ e c. c }) s

  module _ (how : k.how k.current ≡ Rollback) (below : k.top < start_of k.current) where
    abbrev pub T : ℕ
    T = start_of k.current

    -- a stamp is an old one, one that failed, or the new one
    cases_stamp : (t : ℕ) → t ≤ T → ((t ≤ k.view) × (t ≢ T)) ⊎ ((k.view < t) × (t ≢ T)) ⊎ (t ≡ T)
    cases_stamp t l = ⊎_elim
        (λ (x : t ≡ T). inr (inr x))
        (λ (d : t ≢ T). ⊎_elim (λ (x : k.view < t). inr (inl (x, d))) (λ (x : t ≤ k.view). inl (x, d)) (cases_lt k.view t))
        (cases_eq t T)

    on_stamp : (P : ℕ → Type 0) (t : ℕ) → t ≤ T → (t ≤ k.view → t ≢ T → P t) → (k.view < t → t ≢ T → P t) → P T → P t
    on_stamp P t l old failed new = elim (cases_stamp t l) [ inl x ↦ old x.0 x.1 | inr y ↦ elim y [ inl x ↦ failed x.0 x.1 | inr x ↦ subst P (sym x) new ] ]

    old_less : (t : ℕ) → t ≤ k.view → t ≢ T
    old_less t l e = let v = known.viewtop in omega arith

    past_done : (E : ℕ) → E ≤ k.current → start_of E ≤ T
    past_done E l = ⊎_elim
        (λ (x : E ≡ k.current). let y : start_of E ≡ T = ap start_of x in omega arith)
        (λ (d : E ≢ k.current). let y = start_of-less E k.current (omega arith) in omega arith)
        (cases_eq E k.current)

    -- The chunk was prepared: who becomes a member is fit, and has told that it rolled back.
    module _ (members : List ℕ) (positive : 0 < k.current) (was : IsPrepared k (k.current - 1))
        (fit : (j : ℕ) → is_of members j ≡ true → Fit k (k.current - 1) j × (start_of k.current ≤ k.promise j) × (k.base (k.prepared (k.current - 1)) ≤ k.reached j (start_of k.current))) where
      abbrev pub next : Known
      next = restored_known k members

      abbrev pub s₀ : ℕ
      s₀ = k.prepared (k.current - 1)

      list-old : (t : ℕ) → t ≢ T → next.list t ≡ k.list t
      list-old t d = rw (ne_eqb t T d) refl

      prev-old : (t : ℕ) → t ≢ T → next.prev t ≡ k.prev t
      prev-old t d = rw (ne_eqb t T d) refl

      prev-new : next.prev T ≡ s₀
      prev-new = rw (eq-eqb T T refl) refl

      pub list-new : next.list T ≡ k.list s₀
      list-new = rw (eq-eqb T T refl) refl

      stood-old : (t : ℕ) → t ≢ T → next.stood t ≡ k.stood t
      stood-old t d = rw (ne_eqb t T d) refl

      stood-new : next.stood T ≡ true
      stood-new = rw (eq-eqb T T refl) refl

      members-old : (t j : ℕ) → t ≢ T → next.members t j ≡ k.members t j
      members-old t j d = rw (ne_eqb t T d) refl

      pub members-new : (j : ℕ) → next.members T j ≡ is_of members j
      members-new j = rw (eq-eqb T T refl) refl

      holder-old : (t : ℕ) → t ≢ T → next.holder t ≡ k.holder t
      holder-old t d = rw (ne_eqb t T d) refl

      pub holder-new : next.holder T ≡ None
      holder-new = rw (eq-eqb T T refl) refl

      base-old : (t : ℕ) → t ≢ T → next.base t ≡ k.base t
      base-old t d = rw (ne_eqb t T d) refl

      pub base-new : next.base T ≡ k.base s₀
      base-new = rw (eq-eqb T T refl) refl

      pub full : length (k.list s₀) ≡ k.base s₀
      full = known.quiet s₀ (known.before (k.current - 1) was) (known.prepared (k.current - 1) was)

      whole_list : take (k.base s₀) (k.list s₀) ≡ k.list s₀
      whole_list = take_all (k.base s₀) (k.list s₀) (let f = full in omega arith)

      s₀-old : s₀ ≤ k.view
      s₀-old = known.before (k.current - 1) was

      s₀-less : s₀ < T
      s₀-less = let v = known.viewtop in let o = s₀-old in omega arith

      pub grows : Grows k next
      grows = record {
        born = refl;
        view = (let v = known.viewtop in omega arith);
        top = omega arith;
        current = omega arith;
        overtaken = λ l. omega arith;
        list = λ t l. ([], list-old t (old_less t l) ∙ sym (append-nil (k.list t)));
        members = λ t j l. members-old t j (old_less t l);
        holder = λ t l. holder-old t (old_less t l);
        asked = λ j s h. absurd (cc);
        chosen = λ t j v l w m. absurd (false_true (k.members t j) ((known.fresh t v).2 j) (sym (members-old t j (λ e. omega arith)) ∙ m));
        preparing = λ e l p. absurd (let x = p.0 in omega arith);
        knew = λ s h. absurd (let v = known.viewtop in omega arith);
        how = λ e l. refl;
        prepared = λ e l. refl;
        kept = λ e l. refl;
        image = λ e p. list-old (k.prepared e) (old_less (k.prepared e) (known.before e p));
        carries = λ e j c. c;
        promise = λ j. omega arith;
        epoch = λ j. omega arith;
        frozen = λ j t l. refl;
        quiet = λ t l n. list-old t (old_less t l);
        base = λ t l. base-old t (old_less t l);
        prev = λ t l. prev-old t (old_less t l);
        still = λ j t l v. refl;
        legit = λ t l h. h;
        before = known.before;
        more = λ j t l. omega arith;
        carried = λ e j l c. c;
        stood = λ t l. stood-old t (old_less t l);
      }

      s₀-is : s₀ ≢ T
      s₀-is e = let l = s₀-less in omega arith

      new_link : Link next T
      new_link = record {
        top = omega arith;
        legit = λ e p. inr (let l = p.0 in let e = epoch_of-start k.current in omega arith);
        earlier = rw prev-new s₀-less;
        stood = rw prev-new (stood-old s₀ s₀-is ∙ known.ready (k.current - 1) was);
        within = rw (prev-new, base-new, list-old s₀ s₀-is) (let f = full in omega arith);
        more = [];
        list = rw (prev-new, base-new, list-new, list-old s₀ s₀-is) (sym (append-nil (take (k.base s₀) (k.list s₀)) ∙ whole_list));
        covers = inl (rw prev-new (holder-old s₀ s₀-is ∙ known.prepared (k.current - 1) was), rw (prev-new, base-new, list-old s₀ s₀-is) (sym full));
      }

      pub known_ok : KnownOk next
      known_ok = record {
        viewtop = omega arith;
        topepoch = (let e = epoch_of-start k.current in omega arith);
        members = λ t j l. on_stamp (λ t. next.members t j ≡ true → t ≤ k.promise j) t l
            (λ o d. rw (members-old t j d) (known.members t j o))
            (λ f d m. absurd (false_true (k.members t j) ((known.fresh t f).2 j) (sym (members-old t j d) ∙ m)))
            (λ m. (fit j (sym (members-new j) ∙ m)).1);
        quiet = λ t l. on_stamp (λ t. next.holder t ≡ None → length (next.list t) ≡ next.base t) t l
            (λ o d. rw (holder-old t d, list-old t d, base-old t d) (known.quiet t o))
            (λ f d h. rw (list-old t d, base-old t d) (known.fresh t f).1)
            (λ h. rw (list-new, base-new) full);
        held = λ t j l. on_stamp (λ t. next.holder t ≡ Some j → next.members t j ≡ true) t l
            (λ o d. rw (holder-old t d, members-old t j d) (known.held t j o))
            (λ f d h. absurd (let y = (known.fresh t f).0 in let z = sym (holder-old t d) ∙ h in cc))
            (λ h. absurd (let z = sym holder-new ∙ h in cc));
        before = λ e p. let b = known.before e p in let v = known.viewtop in omega arith;
        prepared = λ e p. holder-old (k.prepared e) (old_less (k.prepared e) (known.before e p)) ∙ known.prepared e p;
        straight = known.straight;
        rolled = λ E l h. ((known.rolled E l h).0, inl (past_done E l));
        unheld = λ E l h v. on_stamp (λ t. t ≡ start_of E → next.holder t ≡ None) (start_of E) v
            (λ o d x. holder-old (start_of E) d ∙ known.unheld E l h o)
            (λ f d x. holder-old (start_of E) d ∙ (known.fresh (start_of E) f).0)
            (λ x. holder-new) refl;
        first = λ j. members-old k.born j (old_less k.born known.blank.0) ∙ known.first j;
        links = λ t z l. on_stamp (λ t. next.stood t ≡ true → Link next t) t l
            (λ o d m. Link_grown k next grows t o (known.links t z o (sym (stood-old t d) ∙ m)))
            (λ f d m. absurd (false_true (k.stood t) (known.fresh t f).3 (sym (stood-old t d) ∙ m)))
            (λ m. new_link);
        fresh = λ t v. let f = known.fresh t (let w = known.viewtop in omega arith) in
            (holder-old t (λ e. omega arith) ∙ f.0, rw (list-old t (λ e. omega arith), base-old t (λ e. omega arith)) f.1, λ j. members-old t j (λ e. omega arith) ∙ f.2 j, stood-old t (λ e. omega arith) ∙ f.3);
        floor = λ t j l. on_stamp (λ t. next.members t j ≡ true → next.base t ≤ k.reached j t) t l
            (λ o d. rw (members-old t j d, base-old t d) (known.floor t j o))
            (λ f d m. absurd (false_true (k.members t j) ((known.fresh t f).2 j) (sym (members-old t j d) ∙ m)))
            (λ m. rw base-new (fit j (sym (members-new j) ∙ m)).2);
        peopled = λ t j l. on_stamp (λ t. next.members t j ≡ true → next.stood t ≡ true) t l
            (λ o d. rw (members-old t j d, stood-old t d) (known.peopled t j o))
            (λ f d m. absurd (false_true (k.members t j) ((known.fresh t f).2 j) (sym (members-old t j d) ∙ m)))
            (λ m. stood-new);
        between = λ t a l. on_stamp (λ t. next.stood t ≡ true → next.stood a ≡ true → next.prev t < a → a < t → Undone next a t) t l
            (λ o d s sa p lt. between_grown k next grows known t a o s sa p lt)
            (λ f d s. absurd (false_true (k.stood t) (known.fresh t f).3 (sym (stood-old t d) ∙ s)))
            (λ s sa p lt. let same : k.current - 1 + 1 ≡ k.current = omega arith in record { e = k.current - 1; within = omega arith; is = was; how = rw same how; accepted = rw same (omega arith); after = rw prev-new at p; before = rw same lt });
        now = λ h. stood-new;
        ready = λ e p. stood-old (k.prepared e) (old_less (k.prepared e) (known.before e p)) ∙ known.ready e p;
        blank = ((let b = known.blank.0 in let v = known.viewtop in omega arith), stood-old k.born (old_less k.born known.blank.0) ∙ known.blank.1, holder-old k.born (old_less k.born known.blank.0) ∙ known.blank.2);
        early = λ t s. ⊎_elim (λ (e : t ≡ T). let b = known.blank.0 in let v = known.viewtop in omega arith) (λ (d : t ≢ T). known.early t (sym (stood-old t d) ∙ s)) (cases_eq t T);
        lists = λ t. ⊎_elim (λ (e : t ≡ T). rw (e, list-new) (known.lists s₀)) (λ (d : t ≢ T). rw (list-old t d) (known.lists t)) (cases_eq t T);
      }

      module _ (me : ℕ) (s : Member) (ok : ViewsOk k me s) (seal : SealOk k me s) where
        -- a member that has promised no more holds the prepared list
        pub restored_list : s.promise ≡ T → is_of members me ≡ true → (r : List Edit) → s.live ≡ Some r → r ≡ k.list s₀
        restored_list e m r is =
            let p = positive in
            let same : k.current - 1 + 1 ≡ k.current = omega arith in
            seal.rolled (k.current - 1) (omega arith) (rw same how) was (rw same e) (fit me m).0 r is

        joined : s.promise ≡ T → next.members T me ≡ true → (r : List Edit) → s.live ≡ Some r → (k.base s₀ ≤ length r) × Prefix (k.list s₀) r
        joined e m r is =
            let t : r ≡ k.list s₀ = restored_list e (sym (members-new me) ∙ m) r is in
            let c : length r ≡ length (k.list s₀) = ap (λ (x : List Edit). length x) t in
            let f = full in
            (omega arith, record { within = omega arith; stands = t ∙ sym (take_all (length r) (k.list s₀) (omega arith)) })

        pub views_ok : ViewsOk next me s
        views_ok = record {
          promise = ok.promise;
          epoch = ok.epoch;
          count = ok.count;
          idle = λ v t. absurd (omega arith);
          mine = λ v t. absurd (omega arith);
          member = λ v. elim (cases_stamp s.promise v) [
            | inl x ↦ rw (members-old s.promise me x.1, base-old s.promise x.1, list-old s.promise x.1) (ok.member x.0)
            | inr y ↦ elim y [
              | inl x ↦ λ m. absurd (false_true (k.members s.promise me) ((known.fresh s.promise x.0).2 me) (sym (members-old s.promise me x.1) ∙ m))
              | inr x ↦ rw (x, base-new, list-new) (λ m r is. joined x m r is)
            ]
          ];
          whole = λ v. elim (cases_stamp s.promise v) [
            | inl x ↦ rw (holder-old s.promise x.1, list-old s.promise x.1) (ok.whole x.0)
            | inr y ↦ elim y [
              | inl x ↦ λ h. absurd (let f = (known.fresh s.promise x.0).0 in let z = sym (holder-old s.promise x.1) ∙ h in cc)
              | inr x ↦ rw x (λ h. absurd (let z = sym holder-new ∙ h in cc))
            ]
          ];
          lease = λ l e. LeaseOk_grown k next grows me l (ok.lease l e);
          same = ok.same;
          closed = λ l r e is n lt. closed_grown k next grows l.stamp ((ok.lease l e).within) n (waits l.waiting n) (ok.closed l r e is n lt);
          untaken = λ v. elim (cases_stamp s.promise v) [
            | inl x ↦ rw (holder-old s.promise x.1, list-old s.promise x.1, base-old s.promise x.1) (ok.untaken x.0)
            | inr y ↦ elim y [
              | inl x ↦ λ h. absurd (let f = (known.fresh s.promise x.0).0 in let z = sym (holder-old s.promise x.1) ∙ h in cc)
              | inr x ↦ rw x (λ h. absurd (let z = sym holder-new ∙ h in cc))
            ]
          ];
          stands = λ r is. Stands_grown k next grows r (ok.stands r is);
          pictures = λ r is. Stands_grown k next grows r (ok.pictures r is);
        }

        pub keep_ok : KeepOk k me s → KeepOk next me s
        keep_ok = keep_same k next known grows me (record { current = refl; how = λ e. refl; prepared = λ e. refl; kept = λ e. refl; carries = λ e c. c }) s

        pub seal_ok : SealOk next me s
        seal_ok = seal_same k next known grows me (record { current = refl; how = λ e. refl; prepared = λ e. refl; kept = λ e. refl; carries = λ e c. c }) s seal

    -- any other chunk is given up
    abbrev pub gone : Known
    gone = removed_known k

    gone_list : (t : ℕ) → t ≢ T → gone.list t ≡ k.list t
    gone_list t d = rw (ne_eqb t T d) refl

    gone_list_new : gone.list T ≡ []
    gone_list_new = rw (eq-eqb T T refl) refl

    gone_stood : (t : ℕ) → t ≢ T → gone.stood t ≡ k.stood t
    gone_stood t d = rw (ne_eqb t T d) refl

    gone_stood_new : gone.stood T ≡ false
    gone_stood_new = rw (eq-eqb T T refl) refl

    gone_members : (t j : ℕ) → t ≢ T → gone.members t j ≡ k.members t j
    gone_members t j d = rw (ne_eqb t T d) refl

    pub gone_members_new : (j : ℕ) → gone.members T j ≡ false
    gone_members_new j = rw (eq-eqb T T refl) refl

    gone_holder : (t : ℕ) → t ≢ T → gone.holder t ≡ k.holder t
    gone_holder t d = rw (ne_eqb t T d) refl

    pub gone_holder_new : gone.holder T ≡ None
    gone_holder_new = rw (eq-eqb T T refl) refl

    gone_base : (t : ℕ) → t ≢ T → gone.base t ≡ k.base t
    gone_base t d = rw (ne_eqb t T d) refl

    pub gone_base_new : gone.base T ≡ 0
    gone_base_new = rw (eq-eqb T T refl) refl

    pub gone_grows : Grows k gone
    gone_grows = record {
      born = refl;
      view = (let v = known.viewtop in omega arith);
      top = omega arith;
      current = omega arith;
      overtaken = λ l. omega arith;
      list = λ t l. ([], gone_list t (old_less t l) ∙ sym (append-nil (k.list t)));
      members = λ t j l. gone_members t j (old_less t l);
      holder = λ t l. gone_holder t (old_less t l);
      asked = λ j s h. absurd (cc);
      chosen = λ t j v l w m. absurd (false_true (k.members t j) ((known.fresh t v).2 j) (sym (gone_members t j (λ e. omega arith)) ∙ m));
      preparing = λ e l p. absurd (let x = p.0 in omega arith);
      knew = λ s h. absurd (cc);
      how = λ e l. refl;
      prepared = λ e l. refl;
      kept = λ e l. refl;
      image = λ e p. gone_list (k.prepared e) (old_less (k.prepared e) (known.before e p));
      carries = λ e j c. c;
      promise = λ j. omega arith;
      epoch = λ j. omega arith;
      frozen = λ j t l. refl;
      quiet = λ t l n. gone_list t (old_less t l);
      base = λ t l. gone_base t (old_less t l);
      prev = λ t l. refl;
      still = λ j t l v. refl;
      legit = λ t l h. h;
      before = known.before;
      more = λ j t l. omega arith;
      carried = λ e j l c. c;
      stood = λ t l. gone_stood t (old_less t l);
    }

    pub gone_known_ok : KnownOk gone
    gone_known_ok = record {
      viewtop = omega arith;
      topepoch = (let e = epoch_of-start k.current in omega arith);
      members = λ t j l. on_stamp (λ t. gone.members t j ≡ true → t ≤ k.promise j) t l
          (λ o d. rw (gone_members t j d) (known.members t j o))
          (λ f d m. absurd (false_true (k.members t j) ((known.fresh t f).2 j) (sym (gone_members t j d) ∙ m)))
          (λ m. absurd (false_true (gone.members T j) (gone_members_new j) m));
      quiet = λ t l. on_stamp (λ t. gone.holder t ≡ None → length (gone.list t) ≡ gone.base t) t l
          (λ o d. rw (gone_holder t d, gone_list t d, gone_base t d) (known.quiet t o))
          (λ f d h. rw (gone_list t d, gone_base t d) (known.fresh t f).1)
          (λ h. rw (gone_list_new, gone_base_new) refl);
      held = λ t j l. on_stamp (λ t. gone.holder t ≡ Some j → gone.members t j ≡ true) t l
          (λ o d. rw (gone_holder t d, gone_members t j d) (known.held t j o))
          (λ f d h. absurd (let y = (known.fresh t f).0 in let z = sym (gone_holder t d) ∙ h in cc))
          (λ h. absurd (let z = sym gone_holder_new ∙ h in cc));
      before = λ e p. let b = known.before e p in let v = known.viewtop in omega arith;
      prepared = λ e p. gone_holder (k.prepared e) (old_less (k.prepared e) (known.before e p)) ∙ known.prepared e p;
      straight = known.straight;
      rolled = λ E l h. ((known.rolled E l h).0, inl (past_done E l));
      unheld = λ E l h v. on_stamp (λ t. t ≡ start_of E → gone.holder t ≡ None) (start_of E) v
          (λ o d x. gone_holder (start_of E) d ∙ known.unheld E l h o)
          (λ f d x. gone_holder (start_of E) d ∙ (known.fresh (start_of E) f).0)
          (λ x. gone_holder_new) refl;
      first = λ j. gone_members k.born j (old_less k.born known.blank.0) ∙ known.first j;
      links = λ t z l. on_stamp (λ t. gone.stood t ≡ true → Link gone t) t l
          (λ o d m. Link_grown k gone gone_grows t o (known.links t z o (sym (gone_stood t d) ∙ m)))
          (λ f d m. absurd (false_true (k.stood t) (known.fresh t f).3 (sym (gone_stood t d) ∙ m)))
          (λ m. absurd (false_true (gone.stood T) gone_stood_new m));
      fresh = λ t v. let f = known.fresh t (let w = known.viewtop in omega arith) in
          (gone_holder t (λ e. omega arith) ∙ f.0, rw (gone_list t (λ e. omega arith), gone_base t (λ e. omega arith)) f.1, λ j. gone_members t j (λ e. omega arith) ∙ f.2 j, gone_stood t (λ e. omega arith) ∙ f.3);
      floor = λ t j l. on_stamp (λ t. gone.members t j ≡ true → gone.base t ≤ k.reached j t) t l
          (λ o d. rw (gone_members t j d, gone_base t d) (known.floor t j o))
          (λ f d m. absurd (false_true (k.members t j) ((known.fresh t f).2 j) (sym (gone_members t j d) ∙ m)))
          (λ m. absurd (false_true (gone.members T j) (gone_members_new j) m));
      peopled = λ t j l. on_stamp (λ t. gone.members t j ≡ true → gone.stood t ≡ true) t l
          (λ o d. rw (gone_members t j d, gone_stood t d) (known.peopled t j o))
          (λ f d m. absurd (false_true (k.members t j) ((known.fresh t f).2 j) (sym (gone_members t j d) ∙ m)))
          (λ m. absurd (false_true (gone.members T j) (gone_members_new j) m));
      between = λ t a l. on_stamp (λ t. gone.stood t ≡ true → gone.stood a ≡ true → gone.prev t < a → a < t → Undone gone a t) t l
          (λ o d s sa p lt. between_grown k gone gone_grows known t a o s sa p lt)
          (λ f d s. absurd (false_true (k.stood t) (known.fresh t f).3 (sym (gone_stood t d) ∙ s)))
          (λ s. absurd (false_true (gone.stood T) gone_stood_new s));
      now = λ h. absurd (cc);
      ready = λ e p. gone_stood (k.prepared e) (old_less (k.prepared e) (known.before e p)) ∙ known.ready e p;
      blank = ((let b = known.blank.0 in let v = known.viewtop in omega arith), gone_stood k.born (old_less k.born known.blank.0) ∙ known.blank.1, gone_holder k.born (old_less k.born known.blank.0) ∙ known.blank.2);
      early = λ t s. ⊎_elim (λ (e : t ≡ T). let b = known.blank.0 in let v = known.viewtop in omega arith) (λ (d : t ≢ T). known.early t (sym (gone_stood t d) ∙ s)) (cases_eq t T);
      lists = λ t. ⊎_elim (λ (e : t ≡ T). rw (e, gone_list_new) Rising-nil) (λ (d : t ≢ T). rw (gone_list t d) (known.lists t)) (cases_eq t T);
    }

    module _ (me : ℕ) (s : Member) (ok : ViewsOk k me s) (seal : SealOk k me s) where
      pub gone_views_ok : ViewsOk gone me s
      gone_views_ok = record {
        promise = ok.promise;
        epoch = ok.epoch;
        count = ok.count;
        idle = λ v t. absurd (omega arith);
        mine = λ v t. absurd (omega arith);
        member = λ v. elim (cases_stamp s.promise v) [
          | inl x ↦ rw (gone_members s.promise me x.1, gone_base s.promise x.1, gone_list s.promise x.1) (ok.member x.0)
          | inr y ↦ elim y [
            | inl x ↦ λ m. absurd (false_true (k.members s.promise me) ((known.fresh s.promise x.0).2 me) (sym (gone_members s.promise me x.1) ∙ m))
            | inr x ↦ rw x (λ m. absurd (false_true (gone.members T me) (gone_members_new me) m))
          ]
        ];
        whole = λ v. elim (cases_stamp s.promise v) [
          | inl x ↦ rw (gone_holder s.promise x.1, gone_list s.promise x.1) (ok.whole x.0)
          | inr y ↦ elim y [
            | inl x ↦ λ h. absurd (let f = (known.fresh s.promise x.0).0 in let z = sym (gone_holder s.promise x.1) ∙ h in cc)
            | inr x ↦ rw x (λ h. absurd (let z = sym gone_holder_new ∙ h in cc))
          ]
        ];
        lease = λ l e. LeaseOk_grown k gone gone_grows me l (ok.lease l e);
        same = ok.same;
        closed = λ l r e is n lt. closed_grown k gone gone_grows l.stamp ((ok.lease l e).within) n (waits l.waiting n) (ok.closed l r e is n lt);
        untaken = λ v. elim (cases_stamp s.promise v) [
          | inl x ↦ rw (gone_holder s.promise x.1, gone_list s.promise x.1, gone_base s.promise x.1) (ok.untaken x.0)
          | inr y ↦ elim y [
            | inl x ↦ λ h. absurd (let f = (known.fresh s.promise x.0).0 in let z = sym (gone_holder s.promise x.1) ∙ h in cc)
            | inr x ↦ rw x (λ h. absurd (let z = sym gone_holder_new ∙ h in cc))
          ]
        ];
        stands = λ r is. Stands_grown k gone gone_grows r (ok.stands r is);
        pictures = λ r is. Stands_grown k gone gone_grows r (ok.pictures r is);
      }

      pub gone_keep_ok : KeepOk k me s → KeepOk gone me s
      gone_keep_ok = keep_same k gone known gone_grows me (record { current = refl; how = λ e. refl; prepared = λ e. refl; kept = λ e. refl; carries = λ e c. c }) s

      pub gone_seal_ok : SealOk gone me s
      gone_seal_ok = seal_same k gone known gone_grows me (record { current = refl; how = λ e. refl; prepared = λ e. refl; kept = λ e. refl; carries = λ e c. c }) s seal
