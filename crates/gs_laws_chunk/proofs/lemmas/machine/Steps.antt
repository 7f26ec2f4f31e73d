-- A step that is right at its server is right in what is known.
use Rattle.std.proofs.Common.{◌≡◌, ◌≢◌, ℕ, ◌+◌, ◌<◌, ◌≤◌, ◌⊎◌, inl, inr, ⊎_elim, List, [], ◌++◌, length, Option, Some, None, true, ◌&&◌, eqb, refl, sym, ◌∙◌, arith, append-nil}
use Rattle.std.specs.List.{All}
use Rattle.std.proofs.lemmas.Bool.{cases_eq, eqb-true, eq-eqb, ne_eqb, cond_both, cond-true, cond-false, and_right, and_parts, or_cases, or_left, or_right}
use Rattle.gs_base.specs.declared.epoch.EpochEnd.TheVariants.{Prepare, Rollback}
use Rattle.gs_replica.specs.Stands.{Edit}
use Rattle.gs_laws_chunk.specs.machine.Stamps.{epoch_of, start_of}
use Rattle.gs_laws_chunk.specs.machine.Machine.{MemberLease, Member, Known}
use Rattle.gs_laws_chunk.specs.machine.Events.{Step, waits, after, count_or}
use Rattle.gs_laws_chunk.proofs.lemmas.machine.Stamps.{epoch_of-le}
use Rattle.gs_laws_chunk.proofs.lemmas.machine.Known.{Covered, Rising, Begins, Begins_grown, LeaseOk, floor_grown, between_grown, Link_grown, Fit, IsPrepared, Latest, Legit, Grows, SentOk, Prefix, StandsIf, KnownOk, ViewsOk, SealOk, StepOk}

eqb_self : (n : ℕ) → eqb n n ≡ true
eqb_self n = eq-eqb n n refl

pub count_or-same : (n : ℕ) (live : Option (List Edit)) → ((r : List Edit) → live ≡ Some r → length r ≡ n) → count_or n live ≡ n
count_or-same n None h = refl
count_or-same n (Some r) h = h r refl

pub count_or-least : (n : ℕ) (live : Option (List Edit)) → ((r : List Edit) → live ≡ Some r → n ≤ length r) → n ≤ count_or n live
count_or-least n None h = omega arith
count_or-least n (Some r) h = h r refl

not_none : (me : ℕ) (o : Option ℕ) → o ≡ None → o ≡ Some me → ⊥
not_none me o a b = (cc)

module _ (k : Known) (me : ℕ) (s : Member) (st : Step) where
  pub record Moves : Type 0 where
    pub up : s.promise ≤ st.member.promise
    pub upe : s.epoch ≤ st.member.epoch
    pub same : s.promise ≡ st.member.promise → k.view < s.promise → (r : List Edit) → st.member.live ≡ Some r → length r ≡ k.reached me s.promise
    pub rises : s.promise ≡ st.member.promise → (r : List Edit) → st.member.live ≡ Some r → k.reached me s.promise ≤ length r
    pub lone : (st.edits ≡ []) ⊎ ((st.member.promise ≤ k.view) × (k.holder st.member.promise ≡ Some me) × Rising (k.list st.member.promise ++ st.edits))

  pub record Local : Type 0 where
    pub idle : k.view < st.member.promise → st.member.promise ≤ k.top → (r : List Edit) → st.member.live ≡ Some r → Begins k r
    pub mine : k.view < st.member.promise → st.member.promise ≤ k.top → (r : List Edit) → st.member.live ≡ Some r → k.members k.view me ≡ true → k.reached me k.view ≤ length r
    pub member : st.member.promise ≤ k.view → k.members st.member.promise me ≡ true → (r : List Edit) → st.member.live ≡ Some r → (k.base st.member.promise ≤ length r) × Prefix (k.list st.member.promise ++ st.edits) r
    pub whole : st.member.promise ≤ k.view → k.holder st.member.promise ≡ Some me → (r : List Edit) → st.member.live ≡ Some r → length r ≡ length (k.list st.member.promise ++ st.edits)
    pub lease : Grows k (after k me st) → (l : MemberLease) → st.member.lease ≡ Some l → LeaseOk (after k me st) me l
    pub same : (l : MemberLease) → st.member.lease ≡ Some l → (l.stamp ≡ st.member.promise) × (st.member.taken ≡ st.member.promise)
    pub closed : Grows k (after k me st) → (l : MemberLease) (r : List Edit) → st.member.lease ≡ Some l → st.member.live ≡ Some r → (n : ℕ) → n < length r → (waits l.waiting n ≡ true) ⊎ Covered (after k me st) l.stamp n
    pub untaken : st.member.promise ≤ k.view → k.holder st.member.promise ≡ Some me → st.member.taken ≢ st.member.promise → length (k.list st.member.promise ++ st.edits) ≡ k.base st.member.promise
    pub learned : st.member.epoch ≤ k.current
    pub low : epoch_of st.member.promise ≤ st.member.epoch
    pub below : (st.member.promise ≤ k.top) ⊎ ((st.member.promise ≡ start_of k.current) × (k.how k.current ≡ Rollback))
    pub legit : Legit k st.member.promise
    pub none : k.how st.member.epoch ≢ Prepare → st.member.image ≡ None
    pub unlearned : (e : ℕ) → IsPrepared k e → st.member.epoch < e → k.members (k.prepared e) me ≡ true → (r : List Edit) → st.member.live ≡ Some r → r ≡ k.list (k.prepared e)
    pub sealed : IsPrepared k st.member.epoch → Fit (after k me st) st.member.epoch me → (r : List Edit) → st.member.image ≡ Some r → r ≡ k.list (k.prepared st.member.epoch)
    pub left : (e : ℕ) → Latest k e → st.member.epoch < e → k.members (k.prepared e) me ≡ true → st.member.intact ≡ true → st.member.live ≢ None
    pub kept : Latest k st.member.epoch → Fit (after k me st) st.member.epoch me → st.member.intact ≡ true → st.member.image ≢ None
    pub stays : (e : ℕ) → k.current ≡ e + 1 → k.how (e + 1) ≡ Rollback → IsPrepared k e → k.view < start_of (e + 1) → st.member.epoch ≡ e + 1 → Fit (after k me st) e me → st.member.intact ≡ true → (st.member.promise ≡ start_of (e + 1)) × (st.member.live ≢ None)
    pub stands : Grows k (after k me st) → StandsIf (after k me st) st.member.live
    pub pictures : Grows k (after k me st) → StandsIf (after k me st) st.member.image
    pub rolled : (e : ℕ) → e + 1 ≤ k.current → k.how (e + 1) ≡ Rollback → IsPrepared k e → st.member.promise ≡ start_of (e + 1) → Fit (after k me st) e me → (r : List Edit) → st.member.live ≡ Some r → r ≡ k.list (k.prepared e)

  pub list-same : (after k me st).list st.member.promise ≡ k.list st.member.promise ++ st.edits
  list-same = cond-true (eqb st.member.promise st.member.promise) _ _ (eqb_self st.member.promise)

  pub list-other : (t : ℕ) → t ≢ st.member.promise → (after k me st).list t ≡ k.list t
  list-other t d = cond-false (eqb t st.member.promise) _ _ (ne_eqb t st.member.promise d)

  pub reached-same : (after k me st).reached me st.member.promise ≡ count_or (k.reached me st.member.promise) st.member.live
  reached-same = rw (eqb_self me, eqb_self st.member.promise) refl

  pub reached-server : (j t : ℕ) → j ≢ me → (after k me st).reached j t ≡ k.reached j t
  reached-server j t d = rw (ne_eqb j me d) refl

  pub reached-stamp : (j t : ℕ) → t ≢ st.member.promise → (after k me st).reached j t ≡ k.reached j t
  reached-stamp j t d = cond-false (eqb j me && eqb t st.member.promise) _ _ (and_right (eqb j me) (eqb t st.member.promise) (ne_eqb t st.member.promise d))

  pub promise-same : (after k me st).promise me ≡ st.member.promise
  promise-same = rw (eqb_self me) refl

  pub promise-other : (j : ℕ) → j ≢ me → (after k me st).promise j ≡ k.promise j
  promise-other j d = rw (ne_eqb j me d) refl

  pub epoch-same : (after k me st).epoch me ≡ st.member.epoch
  epoch-same = rw (eqb_self me) refl

  pub epoch-other : (j : ℕ) → j ≢ me → (after k me st).epoch j ≡ k.epoch j
  epoch-other j d = rw (ne_eqb j me d) refl

  pub carries-back : (e : ℕ) → (after k me st).carries e me ≡ true → (k.carries e me ≡ true) ⊎ ((e ≡ epoch_of st.member.promise) × (st.member.carried ≡ true))
  carries-back e h = ⊎_elim
      (λ (c : k.carries e me ≡ true). inl c)
      (λ (c : (eqb me me && (eqb e (epoch_of st.member.promise) && st.member.carried)) ≡ true).
      let p = and_parts (eqb me me) (eqb e (epoch_of st.member.promise) && st.member.carried) c in
      let q = and_parts (eqb e (epoch_of st.member.promise)) st.member.carried p.1 in inr (eqb-true e (epoch_of st.member.promise) q.0, q.1))
      (or_cases (k.carries e me) (eqb me me && (eqb e (epoch_of st.member.promise) && st.member.carried)) h)

  pub carries-other : (e j : ℕ) → j ≢ me → (after k me st).carries e j ≡ true → k.carries e j ≡ true
  carries-other e j d h = ⊎_elim
      (λ (c : k.carries e j ≡ true). c)
      (λ (c : (eqb j me && (eqb e (epoch_of st.member.promise) && st.member.carried)) ≡ true).
      absurd (d (eqb-true j me (and_parts (eqb j me) (eqb e (epoch_of st.member.promise) && st.member.carried) c).0)))
      (or_cases (k.carries e j) (eqb j me && (eqb e (epoch_of st.member.promise) && st.member.carried)) h)

  pub carries-new : st.member.carried ≡ true → (after k me st).carries (epoch_of st.member.promise) me ≡ true
  carries-new c = or_right (k.carries (epoch_of st.member.promise) me) _ (rw (eqb_self me, eqb_self (epoch_of st.member.promise)) c)

  -- a server that carries no more than before
  pub fit_back : (st.member.carried ≡ true → k.carries (epoch_of st.member.promise) me ≡ true) → (e : ℕ) → Fit (after k me st) e me → Fit k e me
  fit_back old e f = ⊎_elim
      (λ (m : k.members (k.prepared e) me ≡ true). inl m)
      (λ (c : (after k me st).carries e me ≡ true). inr (⊎_elim
      (λ (x : k.carries e me ≡ true). x)
      (λ (x : (e ≡ epoch_of st.member.promise) × (st.member.carried ≡ true)). rw x.0 (old x.1))
      (carries-back e c)))
      f

  module _ (known : KnownOk k) (ok : ViewsOk k me s) (seal : SealOk k me s) (moves : Moves) where
    pub list-quiet : (t : ℕ) → k.holder t ≡ None → (after k me st).list t ≡ k.list t
    list-quiet t n = ⊎_elim
        (λ (e : t ≡ st.member.promise). ⊎_elim
        (λ (x : st.edits ≡ []). rw (e, list-same, x) (append-nil (k.list st.member.promise)))
        (λ (x : (st.member.promise ≤ k.view) × (k.holder st.member.promise ≡ Some me) × Rising (k.list st.member.promise ++ st.edits)). absurd (not_none me (k.holder t) n (rw e x.1)))
        moves.lone)
        (λ (d : t ≢ st.member.promise). list-other t d)
        (cases_eq t st.member.promise)

    pub grows : Grows k (after k me st)
    grows = record {
      born = refl;
      view = omega arith;
      top = omega arith;
      current = omega arith;
      overtaken = λ l. absurd (omega arith);
      list = λ t l. ⊎_elim
          (λ (e : t ≡ st.member.promise). rw e (st.edits, list-same))
          (λ (d : t ≢ st.member.promise). ([], list-other t d ∙ sym (append-nil (k.list t))))
          (cases_eq t st.member.promise);
      members = λ t j l. refl;
      holder = λ t l. refl;
      asked = λ j s h. h;
      knew = λ s h. h;
      kept = λ e l. refl;
      chosen = λ t j v l w m. absurd (omega arith);
      preparing = λ e l p. absurd (let x = p.0 in omega arith);
      how = λ e l. refl;
      prepared = λ e l. refl;
      image = λ e p. list-quiet (k.prepared e) (known.prepared e p);
      carries = λ e j c. or_left (k.carries e j) _ c;
      promise = λ j. cond_both (eqb j me) st.member.promise (k.promise j) (λ n. k.promise j ≤ n) (λ h. rw (eqb-true j me h, ok.promise) moves.up) (λ h. omega arith);
      epoch = λ j. cond_both (eqb j me) st.member.epoch (k.epoch j) (λ n. k.epoch j ≤ n) (λ h. rw (eqb-true j me h, ok.epoch) moves.upe) (λ h. omega arith);
      frozen = λ j t l. cond_both (eqb j me && eqb t st.member.promise) (count_or (k.reached j t) st.member.live) (k.reached j t) (λ n. n ≡ k.reached j t)
          (λ h. let b = and_parts (eqb j me) (eqb t st.member.promise) h in
          let i : j ≡ me = eqb-true j me b.0 in let q : t ≡ st.member.promise = eqb-true t st.member.promise b.1 in
          let p : k.promise j ≡ s.promise = rw i ok.promise in let u = moves.up in absurd (omega arith))
          (λ h. refl);
      quiet = λ t l n. list-quiet t n;
      base = λ t l. refl;
      prev = λ t l. refl;
      still = λ j t l v. cond_both (eqb j me && eqb t st.member.promise) (count_or (k.reached j t) st.member.live) (k.reached j t) (λ n. n ≡ k.reached j t)
          (λ h. let b = and_parts (eqb j me) (eqb t st.member.promise) h in
          let i : j ≡ me = eqb-true j me b.0 in let q : t ≡ st.member.promise = eqb-true t st.member.promise b.1 in
          let p : k.promise j ≡ s.promise = rw i ok.promise in
          let u = moves.up in
          let same : s.promise ≡ st.member.promise = omega arith in
          count_or-same (k.reached j t) st.member.live (λ r is. moves.same same (omega arith) r is ∙ rw (i, q, same) refl))
          (λ h. refl);
      legit = λ t l h. h;
      before = known.before;
      more = λ j t l. cond_both (eqb j me && eqb t st.member.promise) (count_or (k.reached j t) st.member.live) (k.reached j t) (λ n. k.reached j t ≤ n)
          (λ h. let b = and_parts (eqb j me) (eqb t st.member.promise) h in
          let i : j ≡ me = eqb-true j me b.0 in let q : t ≡ st.member.promise = eqb-true t st.member.promise b.1 in
          let p : k.promise j ≡ s.promise = rw i ok.promise in
          let u = moves.up in
          let same : s.promise ≡ st.member.promise = omega arith in
          count_or-least (k.reached j t) st.member.live (λ r is. rw (i, q, sym same) (moves.rises same r is)))
          (λ h. omega arith);
      carried = λ e j l c. ⊎_elim
          (λ (i : j ≡ me). ⊎_elim
          (λ (x : k.carries e me ≡ true). rw i x)
          (λ (x : (e ≡ epoch_of st.member.promise) × (st.member.carried ≡ true)).
          absurd (let p : k.promise j ≡ s.promise = rw i ok.promise in let u = moves.up in let v = epoch_of-le (k.promise j) st.member.promise (omega arith) in let y = x.0 in omega arith))
          (carries-back e (rw i at c)))
          (λ (d : j ≢ me). carries-other e j d c)
          (cases_eq j me);
      stood = λ t l. refl;
    }

    list_ok : (t : ℕ) → Rising ((after k me st).list t)
    list_ok t = ⊎_elim
        (λ (e : t ≡ st.member.promise). rw (e, list-same) (⊎_elim
        (λ (x : st.edits ≡ []). rw (x, append-nil (k.list st.member.promise)) (known.lists st.member.promise))
        (λ (x : (st.member.promise ≤ k.view) × (k.holder st.member.promise ≡ Some me) × Rising (k.list st.member.promise ++ st.edits)). x.2)
        moves.lone))
        (λ (d : t ≢ st.member.promise). rw (list-other t d) (known.lists t))
        (cases_eq t st.member.promise)

    known_ok : KnownOk (after k me st)
    known_ok = record {
      viewtop = known.viewtop;
      topepoch = known.topepoch;
      members = λ t j l m. let h = known.members t j l m in let p = grows.promise j in omega arith;
      quiet = λ t l n. rw (list-quiet t n) (known.quiet t l n);
      held = known.held;
      before = known.before;
      prepared = known.prepared;
      straight = known.straight;
      rolled = known.rolled;
      unheld = known.unheld;
      first = known.first;
      links = λ t z l m. Link_grown k (after k me st) grows t l (known.links t z l m);
      fresh = λ t v. let f = known.fresh t v in (f.0, rw (list-quiet t f.0) f.1, f.2, f.3);
      floor = floor_grown k (after k me st) grows known;
      peopled = known.peopled;
      between = between_grown k (after k me st) grows known;
      now = known.now;
      ready = known.ready;
      blank = known.blank;
      early = known.early;
      lists = list_ok;
    }

    latest : (e : ℕ) → Latest (after k me st) e → Latest k e
    latest e l = record { is = l.is; last = l.last }

    pub step_ok : Local → (Grows k (after k me st) → All (SentOk (after k me st)) st.sends) → StepOk k me s st
    step_ok local sends = record {
      grows = grows;
      known = known_ok;
      sends = sends grows;
      lone = ⊎_elim (λ (x : st.edits ≡ []). inl x) (λ (x : (st.member.promise ≤ k.view) × (k.holder st.member.promise ≡ Some me) × Rising (k.list st.member.promise ++ st.edits)). inr (x.0, x.1)) moves.lone;
      keep = record {
        unlearned = λ e l. local.left e (latest e l);
        sealed = λ l. local.kept (latest st.member.epoch l);
        rolled = local.stays;
      };
      views = record {
        promise = promise-same;
        epoch = epoch-same;
        count = λ r is. reached-same ∙ rw is refl;
        idle = λ v l r is. Begins_grown k (after k me st) grows r refl (local.idle v l r is);
        mine = λ v t r is m. rw (reached-stamp me k.view (λ e. omega arith)) (local.mine v t r is m);
        member = λ v m r is. let h = local.member v m r is in (h.0, rw list-same h.1);
        whole = λ v h r is. rw list-same (local.whole v h r is);
        lease = local.lease grows;
        same = local.same;
        closed = local.closed grows;
        untaken = λ v h t. rw list-same (local.untaken v h t);
        stands = local.stands grows;
        pictures = local.pictures grows;
      };
      seal = record {
        learned = local.learned;
        low = local.low;
        below = local.below;
        legit = local.legit;
        carried = carries-new;
        carries = λ e c. ⊎_elim
            (λ (x : k.carries e me ≡ true). let y = seal.carries e x in let u = moves.upe in omega arith)
            (λ (x : (e ≡ epoch_of st.member.promise) × (st.member.carried ≡ true)). rw x.0 local.low)
            (carries-back e c);
        none = local.none;
        unlearned = λ e p l m r is. local.unlearned e p l m r is ∙ sym (list-quiet (k.prepared e) (known.prepared e p));
        sealed = λ p f r is. local.sealed p f r is ∙ sym (list-quiet (k.prepared st.member.epoch) (known.prepared st.member.epoch p));
        rolled = λ e l h q p f r is. local.rolled e l h q p f r is ∙ sym (list-quiet (k.prepared e) (known.prepared e q));
      };
    }
