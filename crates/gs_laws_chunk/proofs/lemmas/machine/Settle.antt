-- The master settles the stamp that it proposed last.
use Rattle.std.proofs.Common.{◌≡◌, ◌≢◌, ℕ, ◌<◌, ◌≤◌, ◌⊎◌, inl, inr, ⊎_elim, List, [], ◌∷◌, length, take, Option, Some, None, true, eqb, refl, sym, ap, ◌∙◌, subst, arith, append-nil}
use Rattle.std.proofs.lemmas.List.{take-take, length-take-le}
use Rattle.std.proofs.lemmas.Bool.{cases_eq, cases_lt, eq-eqb, ne_eqb, or_left}
use Rattle.gs_replica.specs.Stands.{Edit}
use Rattle.gs_laws_chunk.specs.machine.Stamps.{start_of}
use Rattle.gs_laws_chunk.specs.machine.Machine.{Member, Known}
use Rattle.gs_laws_chunk.specs.machine.Events.{is_of, waits, settled_known}
use Rattle.gs_laws_chunk.proofs.lemmas.machine.Known.{Legit, Bare, closed_grown, Rising-take, LeaseOk_grown, Undone, between_grown, Link, Link_grown, false_true, KeepOk, Grows, Prefix, Stands_grown, KnownOk, ViewsOk, SealOk}
use Rattle.gs_laws_chunk.proofs.lemmas.machine.Moved.{seal_same, keep_same}

-- what is known of a server that may be counted for the stamp proposed last
pub record AnswerOk (k : Known) (server told : ℕ) : Type 0 where
  pub promise : k.top ≤ k.promise server
  pub count : told ≡ k.reached server k.top
  pub within : told ≤ length (k.list k.view)
  pub own : k.members k.view server ≡ true → k.reached server k.view ≤ told
  pub whole : Bare k → told ≡ length (k.list k.view)

pub record Answered (k : Known) (server count : ℕ) : Type 0 where
  pub answer : AnswerOk k server count
  pub asked : k.asked server ≡ true

-- a former member that promised with no more, where there is a member
abbrev pub Witness : Known → ℕ → Type 0
Witness k count = Bare k ⊎ ((x : ℕ) × (c : ℕ) × (k.members k.view x ≡ true) × AnswerOk k x c × (c ≤ count))

some_first : (members : List ℕ) → members ≢ [] → (x : ℕ) × (is_of members x ≡ true)
some_first [] n = absurd (n refl)
some_first (x ∷ xs) n = (x, or_left (eqb x x) _ (eq-eqb x x refl))

module _ (k : Known) (known : KnownOk k) (members : List ℕ) (n : ℕ) (holder : Option ℕ) (some : members ≢ []) (answers : (j : ℕ) → is_of members j ≡ true → Answered k j n) (held_in : (j : ℕ) → holder ≡ Some j → is_of members j ≡ true)
    (moving : k.view < k.top) (standing : k.is_known ≡ true) (witness : Witness k n) (legit : Legit k k.top) where
  abbrev pub next : Known
  next = settled_known k members n holder

  list-old : (t : ℕ) → t ≢ k.top → next.list t ≡ k.list t
  list-old t d = rw (ne_eqb t k.top d) refl

  prev-old : (t : ℕ) → t ≢ k.top → next.prev t ≡ k.prev t
  prev-old t d = rw (ne_eqb t k.top d) refl

  prev-new : next.prev k.top ≡ k.view
  prev-new = rw (eq-eqb k.top k.top refl) refl

  pub list-new : next.list k.top ≡ take n (k.list k.view)
  list-new = rw (eq-eqb k.top k.top refl) refl

  stood-old : (t : ℕ) → t ≢ k.top → next.stood t ≡ k.stood t
  stood-old t d = rw (ne_eqb t k.top d) refl

  stood-new : next.stood k.top ≡ true
  stood-new = rw (eq-eqb k.top k.top refl) refl

  members-old : (t j : ℕ) → t ≢ k.top → next.members t j ≡ k.members t j
  members-old t j d = rw (ne_eqb t k.top d) refl

  pub members-new : (j : ℕ) → next.members k.top j ≡ is_of members j
  members-new j = rw (eq-eqb k.top k.top refl) refl

  holder-old : (t : ℕ) → t ≢ k.top → next.holder t ≡ k.holder t
  holder-old t d = rw (ne_eqb t k.top d) refl

  pub holder-new : next.holder k.top ≡ holder
  holder-new = rw (eq-eqb k.top k.top refl) refl

  base-old : (t : ℕ) → t ≢ k.top → next.base t ≡ k.base t
  base-old t d = rw (ne_eqb t k.top d) refl

  pub base-new : next.base k.top ≡ n
  base-new = rw (eq-eqb k.top k.top refl) refl

  -- a member of the new view answered with this count
  member : (i : ℕ) → next.members k.top i ≡ true → Answered k i n
  member i m = answers i (sym (members-new i) ∙ m)

  pub grows : Grows k next
  grows = record {
    born = refl;
    view = omega arith;
    top = omega arith;
    current = omega arith;
    overtaken = λ l. omega arith;
    list = λ t l. ([], list-old t (λ e. omega arith) ∙ sym (append-nil (k.list t)));
    members = λ t j l. members-old t j (λ e. omega arith);
    holder = λ t l. holder-old t (λ e. omega arith);
    asked = λ j s h. absurd (cc);
    chosen = λ t j v l w. ⊎_elim
        (λ (e : t ≡ k.top). rw e (λ m. (refl, (member j m).asked)))
        (λ (d : t ≢ k.top). λ m. absurd (false_true (k.members t j) ((known.fresh t v).2 j) (sym (members-old t j d) ∙ m)))
        (cases_eq t k.top);
    preparing = λ e l p. absurd (let x = p.0 in omega arith);
    knew = λ s h. h;
    how = λ e l. refl;
    prepared = λ e l. refl;
    kept = λ e l. refl;
    image = λ e p. list-old (k.prepared e) (λ x. let b = known.before e p in omega arith);
    carries = λ e j c. c;
    promise = λ j. omega arith;
    epoch = λ j. omega arith;
    frozen = λ j t l. refl;
    quiet = λ t l n. list-old t (λ e. omega arith);
    base = λ t l. base-old t (λ e. omega arith);
    prev = λ t l. prev-old t (λ e. omega arith);
    still = λ j t l v. refl;
    legit = λ t l h. h;
    before = known.before;
    more = λ j t l. omega arith;
    carried = λ e j l c. c;
    stood = λ t l. stood-old t (λ e. omega arith);
  }

  told : (i : ℕ) → AnswerOk k i n → k.reached i k.top ≡ n
  told i ok = sym ok.count

  first : (x : ℕ) × (is_of members x ≡ true)
  first = some_first members some

  pub within : n ≤ length (k.list k.view)
  within = (answers first.0 first.1).answer.within

  held_new : (j : ℕ) → next.holder k.top ≡ Some j → next.members k.top j ≡ true
  held_new j h = members-new j ∙ held_in j (sym holder-new ∙ h)

  -- a stamp that was settled, failed, or is settled now
  cases_stamp : (t : ℕ) → t ≤ k.top → ((t ≤ k.view) × (t ≢ k.top)) ⊎ ((k.view < t) × (t ≢ k.top)) ⊎ (t ≡ k.top)
  cases_stamp t l = ⊎_elim
      (λ (x : t ≡ k.top). inr (inr x))
      (λ (d : t ≢ k.top). ⊎_elim (λ (x : k.view < t). inr (inl (x, d))) (λ (x : t ≤ k.view). inl (x, d)) (cases_lt k.view t))
      (cases_eq t k.top)

  on_stamp : (P : ℕ → Type 0) (t : ℕ) → t ≤ k.top → (t ≤ k.view → t ≢ k.top → P t) → (k.view < t → t ≢ k.top → P t) → P k.top → P t
  on_stamp P t l old failed new = elim (cases_stamp t l) [ inl x ↦ old x.0 x.1 | inr y ↦ elim y [ inl x ↦ failed x.0 x.1 | inr x ↦ subst P (sym x) new ] ]

  new_link : Link next k.top
  new_link = record {
    top = omega arith;
    legit = legit;
    earlier = rw prev-new moving;
    stood = rw prev-new (stood-old k.view (λ e. omega arith) ∙ known.now standing);
    within = rw (prev-new, base-new, list-old k.view (λ e. omega arith)) within;
    more = [];
    list = rw (prev-new, base-new, list-new, list-old k.view (λ e. omega arith)) (sym (append-nil (take n (k.list k.view))));
    covers = elim witness [
      | inl z ↦ inl (rw prev-new (holder-old k.view (λ e. omega arith) ∙ z.holder), rw (prev-new, base-new, list-old k.view (λ e. omega arith)) ((answers first.0 first.1).answer.whole z))
      | inr x ↦ inr (x.0, rw prev-new (members-old k.view x.0 (λ e. omega arith) ∙ x.2), rw prev-new (let p = x.3.promise in omega arith), rw (prev-new, base-new) (let o = x.3.own x.2 in let c = x.4 in omega arith))
    ];
  }

  pub known_ok : KnownOk next
  known_ok = record {
    viewtop = omega arith;
    topepoch = known.topepoch;
    members = λ t j l. on_stamp (λ t. next.members t j ≡ true → t ≤ k.promise j) t l
        (λ o d. rw (members-old t j d) (known.members t j o))
        (λ f d m. absurd (false_true (k.members t j) ((known.fresh t f).2 j) (sym (members-old t j d) ∙ m)))
        (λ m. (member j m).answer.promise);
    quiet = λ t l. on_stamp (λ t. next.holder t ≡ None → length (next.list t) ≡ next.base t) t l
        (λ o d. rw (holder-old t d, list-old t d, base-old t d) (known.quiet t o))
        (λ f d h. rw (list-old t d, base-old t d) (known.fresh t f).1)
        (λ h. rw (list-new, base-new) (length-take-le n (k.list k.view) within));
    held = λ t j l. on_stamp (λ t. next.holder t ≡ Some j → next.members t j ≡ true) t l
        (λ o d. rw (holder-old t d, members-old t j d) (known.held t j o))
        (λ f d h. absurd (let y = (known.fresh t f).0 in let z = sym (holder-old t d) ∙ h in cc))
        (held_new j);
    before = λ e p. let b = known.before e p in omega arith;
    prepared = λ e p. let b = known.before e p in holder-old (k.prepared e) (λ x. omega arith) ∙ known.prepared e p;
    straight = known.straight;
    rolled = λ E l h. let r = known.rolled E l h in (r.0, ⊎_elim (λ (x : start_of E ≤ k.view). inl (omega arith)) (λ (x : (E ≡ k.current) × (k.top < start_of E)). inr x) r.1);
    unheld = λ E l h v. ⊎_elim
        (λ (x : start_of E ≤ k.view). holder-old (start_of E) (λ y. omega arith) ∙ known.unheld E l h x)
        (λ (x : (E ≡ k.current) × (k.top < start_of E)). absurd (let y = x.1 in omega arith))
        (known.rolled E l h).1;
    first = λ j. members-old k.born j (λ e. let b = known.blank.0 in omega arith) ∙ known.first j;
    links = λ t z l. on_stamp (λ t. next.stood t ≡ true → Link next t) t l
        (λ o d m. Link_grown k next grows t o (known.links t z o (sym (stood-old t d) ∙ m)))
        (λ f d m. absurd (false_true (k.stood t) (known.fresh t f).3 (sym (stood-old t d) ∙ m)))
        (λ m. new_link);
    fresh = λ t v. let f = known.fresh t (omega arith) in
        (holder-old t (λ e. omega arith) ∙ f.0, rw (list-old t (λ e. omega arith), base-old t (λ e. omega arith)) f.1, λ j. members-old t j (λ e. omega arith) ∙ f.2 j, stood-old t (λ e. omega arith) ∙ f.3);
    floor = λ t j l. on_stamp (λ t. next.members t j ≡ true → next.base t ≤ k.reached j t) t l
        (λ o d. rw (members-old t j d, base-old t d) (known.floor t j o))
        (λ f d m. absurd (false_true (k.members t j) ((known.fresh t f).2 j) (sym (members-old t j d) ∙ m)))
        (λ m. rw base-new (let r = told j (member j m).answer in omega arith));
    peopled = λ t j l. on_stamp (λ t. next.members t j ≡ true → next.stood t ≡ true) t l
        (λ o d. rw (members-old t j d, stood-old t d) (known.peopled t j o))
        (λ f d m. absurd (false_true (k.members t j) ((known.fresh t f).2 j) (sym (members-old t j d) ∙ m)))
        (λ m. stood-new);
    between = λ t x l. on_stamp (λ t. next.stood t ≡ true → next.stood x ≡ true → next.prev t < x → x < t → Undone next x t) t l
        (λ o d s sx p lt. between_grown k next grows known t x o s sx p lt)
        (λ f d s. absurd (false_true (k.stood t) (known.fresh t f).3 (sym (stood-old t d) ∙ s)))
        (λ s sx p lt. absurd (false_true (k.stood x) (known.fresh x (let y = rw prev-new at p in omega arith)).3 (sym (stood-old x (λ e. omega arith)) ∙ sx)));
    now = λ h. stood-new;
    ready = λ e p. stood-old (k.prepared e) (λ x. let b = known.before e p in omega arith) ∙ known.ready e p;
    blank = ((let b = known.blank.0 in omega arith), stood-old k.born (λ e. let b = known.blank.0 in omega arith) ∙ known.blank.1, holder-old k.born (λ e. let b = known.blank.0 in omega arith) ∙ known.blank.2);
    early = λ t s. ⊎_elim (λ (e : t ≡ k.top). let b = known.blank.0 in omega arith) (λ (d : t ≢ k.top). known.early t (sym (stood-old t d) ∙ s)) (cases_eq t k.top);
    lists = λ t. ⊎_elim (λ (e : t ≡ k.top). rw (e, list-new) (Rising-take (k.list k.view) n (known.lists k.view))) (λ (d : t ≢ k.top). rw (list-old t d) (known.lists t)) (cases_eq t k.top);
  }

  module _ (me : ℕ) (s : Member) (ok : ViewsOk k me s) where
    -- a new member that has promised no more holds the new list
    joined : s.promise ≡ k.top → next.members k.top me ≡ true → (r : List Edit) → s.live ≡ Some r → (length r ≡ n) × Prefix (take n (k.list k.view)) r
    joined e m r is =
        let x = member me m in
        let c : length r ≡ n = sym (ok.count r is) ∙ ap (k.reached me) e ∙ told me x.answer in
        let p = (ok.idle (omega arith) (omega arith) r is).prefix in (
          c,
          record {
            within = omega (arith, length-take-le n (k.list k.view) within);
            stands = rw (take-take (length r) n (k.list k.view) (omega arith)) p.stands;
          },
        )

    pub views_ok : ViewsOk next me s
    views_ok = record {
      promise = ok.promise;
      epoch = ok.epoch;
      count = ok.count;
      idle = λ v t. absurd (omega arith);
      mine = λ v t. absurd (omega arith);
      member = λ v. elim (cases_stamp s.promise v) [
        | inl x ↦ rw (members-old s.promise me x.1, base-old s.promise x.1, list-old s.promise x.1) (ok.member x.0)
        | inr y ↦ elim y [
          | inl x ↦ λ m. absurd (false_true (k.members s.promise me) ((known.fresh s.promise x.0).2 me) (sym (members-old s.promise me x.1) ∙ m))
          | inr x ↦ rw (x, base-new, list-new) (λ m r is. let h = joined x m r is in ((let c = h.0 in omega arith), h.1))
        ]
      ];
      whole = λ v. elim (cases_stamp s.promise v) [
        | inl x ↦ rw (holder-old s.promise x.1, list-old s.promise x.1) (ok.whole x.0)
        | inr y ↦ elim y [
          | inl x ↦ λ h. absurd (let f = (known.fresh s.promise x.0).0 in let z = sym (holder-old s.promise x.1) ∙ h in cc)
          | inr x ↦ rw (x, list-new) (λ h r is. (joined x (held_new me h) r is).0 ∙ sym (length-take-le n (k.list k.view) within))
        ]
      ];
      lease = λ l e. LeaseOk_grown k next grows me l (ok.lease l e);
      same = ok.same;
      closed = λ l r e is n lt. closed_grown k next grows l.stamp ((ok.lease l e).within) n (waits l.waiting n) (ok.closed l r e is n lt);
      untaken = λ v. elim (cases_stamp s.promise v) [
        | inl x ↦ rw (holder-old s.promise x.1, list-old s.promise x.1, base-old s.promise x.1) (ok.untaken x.0)
        | inr y ↦ elim y [
          | inl x ↦ λ h. absurd (let f = (known.fresh s.promise x.0).0 in let z = sym (holder-old s.promise x.1) ∙ h in cc)
          | inr x ↦ rw (x, list-new, base-new) (λ h t. length-take-le n (k.list k.view) within)
        ]
      ];
      stands = λ r is. Stands_grown k next grows r (ok.stands r is);
      pictures = λ r is. Stands_grown k next grows r (ok.pictures r is);
    }

    pub keep_ok : KeepOk k me s → KeepOk next me s
    keep_ok = keep_same k next known grows me (record { current = refl; how = λ e. refl; prepared = λ e. refl; kept = λ e. refl; carries = λ e c. c }) s

    pub seal_ok : SealOk k me s → SealOk next me s
    seal_ok = seal_same k next known grows me (record { current = refl; how = λ e. refl; prepared = λ e. refl; kept = λ e. refl; carries = λ e c. c }) s
