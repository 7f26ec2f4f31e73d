-- The master's epoch goes up.
use Rattle.std.proofs.Common.{◌≡◌, ◌≢◌, ℕ, ◌+◌, ◌<◌, ◌≤◌, ◌⊎◌, inl, inr, ⊎_elim, List, [], length, Option, Some, None, Bool, true, refl, sym, ◌∙◌, subst, arith, append-nil}
use Rattle.std.specs.Prelude.{is_some}
use Rattle.std.proofs.lemmas.List.{take_all}
use Rattle.std.proofs.lemmas.Bool.{cases_eq, eq-eqb, ne_eqb}
use Rattle.gs_base.specs.declared.epoch.EpochEnd.{EpochEnd}
use Rattle.gs_base.specs.declared.epoch.EpochEnd.TheVariants.{Prepare, Rollback}
use Rattle.gs_replica.specs.Stands.{Edit}
use Rattle.gs_laws_chunk.specs.machine.Stamps.{epoch_of, start_of}
use Rattle.gs_laws_chunk.specs.machine.Machine.{Member, Known}
use Rattle.gs_laws_chunk.specs.machine.Events.{waits, next_known, prepared_known, marked}
use Rattle.gs_laws_chunk.proofs.lemmas.machine.Stamps.{epoch_of-start, start_of-below}
use Rattle.gs_laws_chunk.proofs.lemmas.machine.Known.{Begins_grown, closed_grown, LeaseOk_grown, between_grown, Link_grown, Fit, IsPrepared, Latest, KeepOk, Legit, Grows, Stands_grown, KnownOk, ViewsOk, SealOk}

pub two_ends : (h : EpochEnd) → h ≡ Prepare → h ≡ Rollback → ⊥
two_ends h a b = (cc)

module _ (k : Known) (known : KnownOk k) where
  -- a prepare: a chunk that the master knows is quiet
  module _ (settled : k.is_known ≡ true → k.top ≡ k.view) (free : k.is_known ≡ true → k.holder k.view ≡ None) (done : (E : ℕ) → E ≤ k.current → k.how E ≡ Rollback → start_of E ≤ k.view)
      (straight : (E : ℕ) → epoch_of k.view < E → E ≤ k.current → k.how E ≢ Rollback) where
    abbrev pub prep : Known
    prep = prepared_known k

    pub how-old : (e : ℕ) → e ≤ k.current → prep.how e ≡ k.how e
    how-old e l = rw (ne_eqb e (k.current + 1) (λ x. omega arith)) refl

    pub how-new : prep.how (k.current + 1) ≡ Prepare
    how-new = rw (eq-eqb (k.current + 1) (k.current + 1) refl) refl

    prepared-old : (e : ℕ) → e ≤ k.current → prep.prepared e ≡ k.prepared e
    prepared-old e l = rw (ne_eqb e (k.current + 1) (λ x. omega arith)) refl

    pub prepared-new : prep.prepared (k.current + 1) ≡ k.view
    prepared-new = rw (eq-eqb (k.current + 1) (k.current + 1) refl) refl

    kept-old : (e : ℕ) → e ≤ k.current → prep.kept e ≡ k.kept e
    kept-old e l = rw (ne_eqb e (k.current + 1) (λ x. omega arith)) refl

    pub kept-new : prep.kept (k.current + 1) ≡ k.is_known
    kept-new = rw (eq-eqb (k.current + 1) (k.current + 1) refl) refl

    on_epoch : (P : ℕ → Type 0) (e : ℕ) → e ≤ k.current + 1 → (e ≤ k.current → P e) → P (k.current + 1) → P e
    on_epoch P e l old new = ⊎_elim (λ (x : e ≡ k.current + 1). subst P (sym x) new) (λ (d : e ≢ k.current + 1). old (omega arith)) (cases_eq e (k.current + 1))

    back : (e : ℕ) → e ≤ k.current → IsPrepared prep e → IsPrepared k e
    back e l p = (l, sym (how-old e l) ∙ p.1, sym (kept-old e l) ∙ p.2)

    standing : IsPrepared prep (k.current + 1) → k.is_known ≡ true
    standing p = sym kept-new ∙ p.2

    legit_prep : (t : ℕ) → t ≤ k.top → Legit k t → Legit prep t
    legit_prep t l h e p = on_epoch (λ e. IsPrepared prep e → (t ≤ prep.prepared e) ⊎ (e ≤ epoch_of t)) e p.0
        (λ o q. rw (prepared-old e o) (h e (back e o q)))
        (λ q. inl (rw prepared-new (let s = settled (standing q) in omega arith))) p

    pub prepare_grows : Grows k prep
    prepare_grows = record {
      born = refl;
      view = omega arith;
      top = omega arith;
      current = omega arith;
      overtaken = λ l. absurd (omega arith);
      list = λ t l. ([], sym (append-nil (k.list t)));
      members = λ t j l. refl;
      holder = λ t l. refl;
      asked = λ j s h. h;
      chosen = λ t j v l w m. absurd (omega arith);
      preparing = λ e l p. (let x : e ≡ k.current + 1 = (let q = p.0 in omega arith) in (rw x prepared-new, refl, standing (rw x at p)));
      knew = λ s h. h;
      how = how-old;
      prepared = prepared-old;
      kept = kept-old;
      image = λ e p. refl;
      carries = λ e j c. c;
      promise = λ j. omega arith;
      epoch = λ j. omega arith;
      frozen = λ j t l. refl;
      quiet = λ t l n. refl;
      base = λ t l. refl;
      prev = λ t l. refl;
      still = λ j t l v. refl;
      legit = legit_prep;
      before = known.before;
      more = λ j t l. omega arith;
      carried = λ e j l c. c;
      stood = λ t l. refl;
    }

    pub prepare_known_ok : KnownOk prep
    prepare_known_ok = record {
      viewtop = known.viewtop;
      topepoch = (let t = known.topepoch in omega arith);
      members = known.members;
      quiet = known.quiet;
      held = known.held;
      before = λ e p. on_epoch (λ e. IsPrepared prep e → prep.prepared e ≤ k.view) e p.0 (λ o q. rw (prepared-old e o) (known.before e (back e o q))) (λ q. rw prepared-new (omega arith)) p;
      prepared = λ e p. on_epoch (λ e. IsPrepared prep e → k.holder (prep.prepared e) ≡ None) e p.0
          (λ o q. rw (prepared-old e o) (known.prepared e (back e o q)))
          (λ q. rw prepared-new (free (standing q))) p;
      straight = λ e E p. on_epoch (λ e. IsPrepared prep e → epoch_of (prep.prepared e) < E → E < e → prep.how E ≢ Rollback) e p.0
          (λ o q. rw (prepared-old e o) (λ a b. rw (how-old E (omega arith)) (known.straight e E (back e o q) a b)))
          (λ q. rw prepared-new (λ a b. rw (how-old E (omega arith)) (straight E a (omega arith)))) p;
      rolled = λ E l. on_epoch (λ E. prep.how E ≡ Rollback → Legit prep (start_of E) × ((start_of E ≤ k.view) ⊎ ((E ≡ k.current + 1) × (k.top < start_of E)))) E l
          (λ o h. let h' = sym (how-old E o) ∙ h in let d = done E o h' in (legit_prep (start_of E) (let v = known.viewtop in omega arith) (known.rolled E o h').0, inl d))
          (λ h. absurd (two_ends (prep.how (k.current + 1)) how-new h));
      unheld = λ E l. on_epoch (λ E. prep.how E ≡ Rollback → start_of E ≤ k.view → k.holder (start_of E) ≡ None) E l
          (λ o h. known.unheld E o (sym (how-old E o) ∙ h))
          (λ h. absurd (two_ends (prep.how (k.current + 1)) how-new h));
      first = known.first;
      links = λ t z l m. Link_grown k prep prepare_grows t l (known.links t z l m);
      fresh = known.fresh;
      floor = known.floor;
      peopled = known.peopled;
      between = between_grown k prep prepare_grows known;
      now = known.now;
      blank = known.blank;
      early = known.early;
      lists = known.lists;
      ready = λ e p. on_epoch (λ e. IsPrepared prep e → k.stood (prep.prepared e) ≡ true) e p.0 (λ o q. rw (prepared-old e o) (known.ready e (back e o q))) (λ q. rw prepared-new (known.now (standing q))) p;
    }

    pub prepare_views_ok : (me : ℕ) (s : Member) (whole : Bool) → ViewsOk k me s → ViewsOk prep me (marked s whole)
    prepare_views_ok me s whole ok = record {
      promise = ok.promise;
      epoch = ok.epoch;
      count = ok.count;
      idle = λ v t r is. Begins_grown k prep prepare_grows r refl (ok.idle v t r is);
      mine = ok.mine;
      member = ok.member;
      whole = ok.whole;
      lease = λ l e. LeaseOk_grown k prep prepare_grows me l (ok.lease l e);
      same = ok.same;
      closed = λ l r e is n lt. closed_grown k prep prepare_grows l.stamp ((ok.lease l e).within) n (waits l.waiting n) (ok.closed l r e is n lt);
      untaken = ok.untaken;
      stands = λ r is. Stands_grown k prep prepare_grows r (ok.stands r is);
      pictures = λ r is. Stands_grown k prep prepare_grows r (ok.pictures r is);
    }

    below : (me : ℕ) (s : Member) → SealOk k me s → s.promise ≤ k.top
    below me s ok = ⊎_elim
        (λ (x : s.promise ≤ k.top). x)
        (λ (x : (s.promise ≡ start_of k.current) × (k.how k.current ≡ Rollback)). let d = done k.current (omega arith) x.1 in let e = x.0 in let v = known.viewtop in omega arith)
        ok.below

    fit : (me e : ℕ) → e ≤ k.current → Fit prep e me → Fit k e me
    fit me e l f = rw (prepared-old e l) at f

    pub prepare_seal_ok : (me : ℕ) (s : Member) (whole : Bool) → ViewsOk k me s → SealOk k me s → SealOk prep me (marked s whole)
    prepare_seal_ok me s whole views ok = record {
      learned = (let l = ok.learned in omega arith);
      low = ok.low;
      below = inl (below me s ok);
      legit = legit_prep s.promise (below me s ok) ok.legit;
      carried = ok.carried;
      carries = ok.carries;
      none = λ n. ok.none (λ p. n (how-old s.epoch ok.learned ∙ p));
      unlearned = λ e p. on_epoch (λ e. IsPrepared prep e → s.epoch < e → k.members (prep.prepared e) me ≡ true → (r : List Edit) → s.live ≡ Some r → r ≡ k.list (prep.prepared e)) e p.0
          (λ o q. rw (prepared-old e o) (ok.unlearned e (back e o q)))
          (λ q. rw prepared-new (λ l m r is.
          let kn = standing q in
          let top = settled kn in
          let low = known.members k.view me (omega arith) m in
          let mine = views.promise in
          let b = below me s ok in
          let same : s.promise ≡ k.view = omega arith in
          let h = rw same at (views.member (omega arith) (rw same m) r is) in
          let c = h.0 in
          let w = h.1.within in
          let q = known.quiet k.view (omega arith) (free kn) in
          h.1.stands ∙ take_all (length r) (k.list k.view) (omega arith))) p;
      sealed = λ p f r is. let l = ok.learned in rw (prepared-old s.epoch l) (ok.sealed (back s.epoch l p) (fit me s.epoch l f) r is);
      rolled = λ e l. on_epoch (λ x. prep.how x ≡ Rollback → IsPrepared prep e → s.promise ≡ start_of x → Fit prep e me → (r : List Edit) → s.live ≡ Some r → r ≡ k.list (prep.prepared e)) (e + 1) l
          (λ o h q p f r is. rw (prepared-old e (omega arith)) (ok.rolled e o (sym (how-old (e + 1) o) ∙ h) (back e (omega arith) q) p (fit me e (omega arith) f) r is))
          (λ h. absurd (two_ends (prep.how (k.current + 1)) how-new h));
    }

    some_live : (live : Option (List Edit)) → is_some live ≡ true → live ≢ None
    some_live None c n = absurd (cc)
    some_live (Some r) c n = (cc)

    pub prepare_keep_ok : (me : ℕ) (s : Member) (whole : Bool) → (whole ≡ true → is_some s.live ≡ true) → SealOk k me s → KeepOk prep me (marked s whole)
    prepare_keep_ok me s whole is seal = record {
      unlearned = λ e l x m c. some_live s.live (is c);
      sealed = λ l f c. absurd (let x = l.last (k.current + 1) (omega arith) how-new in let y = seal.learned in omega arith);
      rolled = λ e cu h. absurd (let same : e ≡ k.current = omega arith in two_ends (prep.how (k.current + 1)) how-new (rw same at h));
    }

  -- a finalize, or the beginning of a rollback
  module _ (end : EpochEnd) (other : end ≢ Prepare) (was : k.how k.current ≡ Prepare) where
    abbrev pub turn : Known
    turn = next_known k end

    pub how-kept : (e : ℕ) → e ≤ k.current → turn.how e ≡ k.how e
    how-kept e l = rw (ne_eqb e (k.current + 1) (λ x. omega arith)) refl

    pub how-turned : turn.how (k.current + 1) ≡ end
    how-turned = rw (eq-eqb (k.current + 1) (k.current + 1) refl) refl

    on_turn : (P : ℕ → Type 0) (e : ℕ) → e ≤ k.current + 1 → (e ≤ k.current → P e) → P (k.current + 1) → P e
    on_turn P e l old new = ⊎_elim (λ (x : e ≡ k.current + 1). subst P (sym x) new) (λ (d : e ≢ k.current + 1). old (omega arith)) (cases_eq e (k.current + 1))

    pub prepared_before : (e : ℕ) → IsPrepared turn e → IsPrepared k e
    prepared_before e p = on_turn (λ e. turn.how e ≡ Prepare → k.kept e ≡ true → IsPrepared k e) e p.0 (λ o h s. (o, sym (how-kept e o) ∙ h, s)) (λ h s. absurd (other (sym how-turned ∙ h))) p.1 p.2

    not_rolled : (E : ℕ) → E ≡ k.current → k.how E ≡ Rollback → ⊥
    not_rolled E e h = two_ends (k.how k.current) was (rw e at h)

    pub turn_done : (E : ℕ) → E ≤ k.current → k.how E ≡ Rollback → start_of E ≤ k.view
    turn_done E l h = ⊎_elim (λ (x : start_of E ≤ k.view). x) (λ (x : (E ≡ k.current) × (k.top < start_of E)). absurd (not_rolled E x.0 h)) (known.rolled E l h).1

    legit_turn : (t : ℕ) → Legit k t → Legit turn t
    legit_turn t l e p = l e (prepared_before e p)

    pub top_below : k.top < start_of (k.current + 1)
    top_below = start_of-below (k.current + 1) k.top (let t = known.topepoch in omega arith)

    pub turn_grows : Grows k turn
    turn_grows = record {
      born = refl;
      view = omega arith;
      top = omega arith;
      current = omega arith;
      overtaken = λ l. absurd (omega arith);
      list = λ t l. ([], sym (append-nil (k.list t)));
      members = λ t j l. refl;
      holder = λ t l. refl;
      asked = λ j s h. h;
      chosen = λ t j v l w m. absurd (omega arith);
      preparing = λ e l p. absurd (let q = (prepared_before e p).0 in omega arith);
      knew = λ s h. h;
      how = how-kept;
      prepared = λ e l. refl;
      kept = λ e l. refl;
      image = λ e p. refl;
      carries = λ e j c. c;
      promise = λ j. omega arith;
      epoch = λ j. omega arith;
      frozen = λ j t l. refl;
      quiet = λ t l n. refl;
      base = λ t l. refl;
      prev = λ t l. refl;
      still = λ j t l v. refl;
      legit = λ t l h. legit_turn t h;
      before = known.before;
      more = λ j t l. omega arith;
      carried = λ e j l c. c;
      stood = λ t l. refl;
    }

    pub turn_known_ok : KnownOk turn
    turn_known_ok = record {
      viewtop = known.viewtop;
      topepoch = (let t = known.topepoch in omega arith);
      members = known.members;
      quiet = known.quiet;
      held = known.held;
      before = λ e p. known.before e (prepared_before e p);
      prepared = λ e p. known.prepared e (prepared_before e p);
      straight = λ e E p a b. let q = prepared_before e p in let l = q.0 in rw (how-kept E (omega arith)) (known.straight e E q a b);
      rolled = λ E l. on_turn (λ E. turn.how E ≡ Rollback → Legit turn (start_of E) × ((start_of E ≤ k.view) ⊎ ((E ≡ k.current + 1) × (k.top < start_of E)))) E l
          (λ o h. let h' = sym (how-kept E o) ∙ h in (legit_turn (start_of E) (known.rolled E o h').0, inl (turn_done E o h')))
          (λ h. ((λ e p. inr (let x = epoch_of-start (k.current + 1) in let y = p.0 in omega arith)), inr (refl, top_below)));
      unheld = λ E l. on_turn (λ E. turn.how E ≡ Rollback → start_of E ≤ k.view → k.holder (start_of E) ≡ None) E l
          (λ o h. known.unheld E o (sym (how-kept E o) ∙ h))
          (λ h v. absurd (let x = top_below in let y = known.viewtop in omega arith));
      first = known.first;
      links = λ t z l m. Link_grown k turn turn_grows t l (known.links t z l m);
      fresh = known.fresh;
      floor = known.floor;
      peopled = known.peopled;
      between = between_grown k turn turn_grows known;
      now = known.now;
      blank = known.blank;
      early = known.early;
      lists = known.lists;
      ready = λ e p. known.ready e (prepared_before e p);
    }

    pub turn_views_ok : (me : ℕ) (s : Member) → ViewsOk k me s → ViewsOk turn me s
    turn_views_ok me s ok = record {
      promise = ok.promise;
      epoch = ok.epoch;
      count = ok.count;
      idle = λ v t r is. Begins_grown k turn turn_grows r refl (ok.idle v t r is);
      mine = ok.mine;
      member = ok.member;
      whole = ok.whole;
      lease = λ l e. LeaseOk_grown k turn turn_grows me l (ok.lease l e);
      same = ok.same;
      closed = λ l r e is n lt. closed_grown k turn turn_grows l.stamp ((ok.lease l e).within) n (waits l.waiting n) (ok.closed l r e is n lt);
      untaken = ok.untaken;
      stands = λ r is. Stands_grown k turn turn_grows r (ok.stands r is);
      pictures = λ r is. Stands_grown k turn turn_grows r (ok.pictures r is);
    }

    below_turn : (me : ℕ) (s : Member) → SealOk k me s → s.promise ≤ k.top
    below_turn me s ok = ⊎_elim
        (λ (x : s.promise ≤ k.top). x)
        (λ (x : (s.promise ≡ start_of k.current) × (k.how k.current ≡ Rollback)). absurd (not_rolled k.current refl x.1))
        ok.below

    pub turn_seal_ok : (me : ℕ) (s : Member) → SealOk k me s → SealOk turn me s
    turn_seal_ok me s ok = record {
      learned = (let l = ok.learned in omega arith);
      low = ok.low;
      below = inl (below_turn me s ok);
      legit = legit_turn s.promise ok.legit;
      carried = ok.carried;
      carries = ok.carries;
      none = λ n. ok.none (λ p. n (how-kept s.epoch ok.learned ∙ p));
      unlearned = λ e p. ok.unlearned e (prepared_before e p);
      sealed = λ p. ok.sealed (prepared_before s.epoch p);
      rolled = λ e l. on_turn (λ x. turn.how x ≡ Rollback → IsPrepared turn e → s.promise ≡ start_of x → Fit k e me → (r : List Edit) → s.live ≡ Some r → r ≡ k.list (k.prepared e)) (e + 1) l
          (λ o h q. ok.rolled e o (sym (how-kept (e + 1) o) ∙ h) (prepared_before e q))
          (λ h q p. absurd (let x = top_below in let y = below_turn me s ok in omega arith));
    }

    latest_turn : (e : ℕ) → Latest turn e → Latest k e
    latest_turn e l = record { is = prepared_before e l.is; last = λ x x' p. l.last x (omega arith) (how-kept x x' ∙ p) }

    pub turn_keep_ok : (me : ℕ) (s : Member) → SealOk k me s → KeepOk k me s → KeepOk turn me s
    turn_keep_ok me s seal ok = record {
      unlearned = λ e l. ok.unlearned e (latest_turn e l);
      sealed = λ l. ok.sealed (latest_turn s.epoch l);
      rolled = λ e cu h p v ep. absurd (let y = seal.learned in omega arith);
    }
