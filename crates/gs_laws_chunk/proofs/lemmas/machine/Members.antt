-- Each event of a server is right.
use Rattle.std.proofs.Common.{◌≡◌, ◌≢◌, ℕ, ◌+◌, ◌<◌, ◌≤◌, ◌⊎◌, inl, inr, ⊎_elim, List, [], ◌∷◌, ◌++◌, length, Option, Some, None, Bool, true, false, ◌||◌, cond, refl, sym, ap, ◌∙◌, subst, arith, append-nil, length-append}
use Rattle.std.specs.Prelude.{slice_get, nat_eq, is_some, Contains}
use Rattle.std.specs.List.{All}
use Rattle.std.proofs.lemmas.List.{take_all, take_more}
use Rattle.std.proofs.lemmas.Option.{slice_get_within, get_or_from_slice_get}
use Rattle.std.proofs.lemmas.Bool.{cases_lt, cases_eq, eq-eqb, or_left, or_right}
use Rattle.std.proofs.lemmas.List.Elements.{All-nil, All-cons, All-contains}
use Rattle.std.proofs.lemmas.List.Folds.{list_any-append}
use Rattle.gs_base.specs.declared.epoch.EpochEnd.{EpochEnd}
use Rattle.gs_base.specs.declared.epoch.EpochEnd.TheVariants.{Prepare, Finalize, Rollback}
use Rattle.gs_replica.specs.Stands.{Edit}
use Rattle.gs_laws_chunk.specs.machine.Stamps.{epoch_of, start_of}
use Rattle.gs_laws_chunk.specs.machine.Machine.{Open, MemberLease, Member, Message, Advance, Promised, Grant, Forward, Ack, Done, CopyOut, CopyIn, Report, Learned, Sent, Known}
use Rattle.gs_laws_chunk.specs.machine.Events.{is_of, waits, IsCovered, Step, quiet, one, after, or_image, raised, new_lease, told_by, opened, closed, rolled, learned, reports}
use Rattle.gs_laws_chunk.proofs.lemmas.machine.Lists.{at_end, take_from, some_same, some_none}
use Rattle.gs_laws_chunk.proofs.lemmas.machine.Stamps.{epoch_of-start, start_of-below, start_of-most}
use Rattle.gs_laws_chunk.proofs.lemmas.machine.Leases.{covered, hears_ok, opened_ok, closed_ok, closed_waits}
use Rattle.gs_laws_chunk.proofs.lemmas.machine.Known.{Above, Begins, whole_grown, Covered, Covered_grown, closed_grown, Rising-push, LeaseOk, LeaseOk_grown, Reached, false_true, Fit, IsPrepared, Latest, KeepOk, Stamped, Stands, StandsIf, Stands_grown, DropOk, Grows, MessageOk, SentOk, sent_grown, Prefix, ImageOk, KnownOk, ViewsOk, SealOk, StepOk}
use Rattle.gs_laws_chunk.proofs.lemmas.machine.Steps.{step_ok, fit_back, promise-same, list-same, list-other, reached-stamp, reached-same, carries-new}

pub Prefix-more : (list r : List Edit) (e : Edit) → Prefix list r → slice_get list (length r) ≡ Some e → Prefix list (r ++ e ∷ [])
Prefix-more list r e p at =
    let w = slice_get_within list (length r) e at in
    let longer : length (r ++ e ∷ []) ≡ length r + 1 = omega (arith, length-append r (e ∷ [])) in record {
      within = omega arith;
      stands = rw (longer, take_more list (length r) e w, get_or_from_slice_get list (length r) e e at) (ap (λ (x : List Edit). x ++ e ∷ []) p.stands);
    }

pub Prefix-push : (list r : List Edit) (e : Edit) → Prefix list r → length r ≡ length list → Prefix (list ++ e ∷ []) (r ++ e ∷ [])
Prefix-push list r e p whole =
    let longer : length (r ++ e ∷ []) ≡ length (list ++ e ∷ []) = omega (arith, length-append r (e ∷ []), length-append list (e ∷ [])) in
    let same : r ≡ list = p.stands ∙ take_all (length r) list (omega arith) in record {
      within = omega arith;
      stands = rw (take_all (length (r ++ e ∷ [])) (list ++ e ∷ []) (omega arith)) (ap (λ (x : List Edit). x ++ e ∷ []) same);
    }

pub Prefix-nil : (list : List Edit) → Prefix list []
Prefix-nil list = record { within = omega arith; stands = refl }

pub begin_empty : (k : Known) → k.list k.view ≡ [] → Begins k []
begin_empty k e = record { prefix = Prefix-nil (k.list k.view); whole = λ b. sym (ap length e) }

pub stands_empty : (k : Known) → Stands k []
stands_empty k = record { stamp = k.view; within = omega arith; begins = Prefix-nil (k.list k.view) }

two_ends : (h : EpochEnd) → h ≡ Prepare → h ≡ Rollback → ⊥
two_ends h a b = (cc)

none_from : (i j : Option (List Edit)) → ((r : List Edit) → i ≡ Some r → j ≡ Some r) → j ≡ None → i ≡ None
none_from None j h n = refl
none_from (Some r) j h n = absurd (some_none j r n (h r refl))

pub one' : (k : Known) (j : ℕ) (m : Message) → MessageOk k j m → All (SentOk k) (one j m)
one' k j m h = All-cons (SentOk k) _ [] h (All-nil (SentOk k))

module _ (k : Known) (known : KnownOk k) (me : ℕ) (s : Member) (ok : ViewsOk k me s) (seal : SealOk k me s) (keep : KeepOk k me s) where
  -- a member at a prepare that it has not learned has promised no more than the prepared stamp
  pub promise_is : (e : ℕ) → IsPrepared k e → s.epoch < e → k.members (k.prepared e) me ≡ true → s.promise ≡ k.prepared e
  promise_is e p l m =
      let low = known.members (k.prepared e) me (known.before e p) m in
      let mine = ok.promise in
      ⊎_elim
      (λ (x : s.promise ≤ k.prepared e). omega arith)
      (λ (x : e ≤ epoch_of s.promise). absurd (let y = seal.low in omega arith))
      (seal.legit e p)

  -- a drop that can't meet a replica that is needed
  pub record Dropped : Type 0 where
    pub old : (e : ℕ) → IsPrepared k e → s.epoch < e → k.members (k.prepared e) me ≡ true → ⊥
    pub done : k.how k.current ≡ Rollback → s.epoch ≡ k.current → start_of k.current ≤ k.view

  -- what a server whose promise stays may hold as its lease
  pub record Leased (l : Option (List Edit)) (o : Option MemberLease) (t : ℕ) : Type 0 where
    pub lease : (x : MemberLease) → o ≡ Some x → LeaseOk k me x
    pub same : (x : MemberLease) → o ≡ Some x → (x.stamp ≡ s.promise) × (t ≡ s.promise)
    pub closed : (x : MemberLease) (r : List Edit) → o ≡ Some x → l ≡ Some r → (n : ℕ) → n < length r → (waits x.waiting n ≡ true) ⊎ Covered k x.stamp n
    pub untaken : s.promise ≤ k.view → k.holder s.promise ≡ Some me → t ≢ s.promise → length (k.list s.promise) ≡ k.base s.promise

  as_held : (l : Option (List Edit)) → ((r : List Edit) → l ≡ Some r → s.live ≡ Some r) → Leased l s.lease s.taken
  as_held l hl = record { lease = ok.lease; same = ok.same; closed = λ x r e is. ok.closed x r e (hl r is); untaken = ok.untaken }

  no_lease : (l : Option (List Edit)) → Leased l None s.taken
  no_lease l = record { lease = λ x e. absurd (cc); same = λ x e. absurd (cc); closed = λ x r e. absurd (cc); untaken = ok.untaken }

  -- promise, epoch and marks stay; the replica or the image may go
  kept_ok : (l i : Option (List Edit)) (o : Option MemberLease) (t : ℕ) (b : Bool) → ((r : List Edit) → l ≡ Some r → s.live ≡ Some r) → ((r : List Edit) → i ≡ Some r → s.image ≡ Some r)
      → Leased l o t
      → (b ≡ true → s.intact ≡ true) → (b ≡ true → i ≡ None → s.image ≡ None) → (b ≡ true → l ≡ None → (s.live ≡ None) ⊎ Dropped)
      → (ms : List Sent) → All (SentOk k) ms → StepOk k me s (quiet (record s { live = l; image = i; lease = o; taken = t; intact = b }) ms)
  kept_ok l i o t b hl hi ho hb hn hd ms sends =
      let st : Step = quiet (record s { live = l; image = i; lease = o; taken = t; intact = b }) ms in
      step_ok k me s st known ok seal (record { up = omega arith; upe = omega arith; same = λ e v r is. sym (ok.count r (hl r is)); rises = λ e r is. (let c = ok.count r (hl r is) in omega arith); lone = inl refl })
      (record {
        idle = λ v t r is. ok.idle v t r (hl r is);
        mine = λ v t r is. ok.mine v t r (hl r is);
        member = λ v m r is. rw append-nil (ok.member v m r (hl r is));
        whole = λ v h r is. rw append-nil (ok.whole v h r (hl r is));
        lease = λ g x e. LeaseOk_grown k (after k me st) g me x (ho.lease x e);
        same = ho.same;
        closed = λ g x r e is n lt. closed_grown k (after k me st) g x.stamp ((ho.lease x e).within) n (waits x.waiting n) (ho.closed x r e is n lt);
        untaken = λ v h c. rw append-nil (ho.untaken v h c);
        stands = λ g r is. Stands_grown k (after k me st) g r (ok.stands r (hl r is));
        pictures = λ g r is. Stands_grown k (after k me st) g r (ok.pictures r (hi r is));
        learned = seal.learned;
        low = seal.low;
        below = seal.below;
        legit = seal.legit;
        none = λ n. none_from i s.image hi (seal.none n);
        unlearned = λ e p x m r is. seal.unlearned e p x m r (hl r is);
        sealed = λ p f r is. seal.sealed p (fit_back k me s st seal.carried s.epoch f) r (hi r is);
        rolled = λ e x h q p f r is. seal.rolled e x h q p (fit_back k me s st seal.carried e f) r (hl r is);
        left = λ e x y m c n. ⊎_elim (λ (z : s.live ≡ None). keep.unlearned e x y m (hb c) z) (λ (d : Dropped). d.old e x.is y m) (hd c n);
        kept = λ x f c n. keep.sealed x (fit_back k me s st seal.carried s.epoch f) (hb c) (hn c n);
        stays = λ e cu h p v ep f c. let q = keep.rolled e cu h p v ep (fit_back k me s st seal.carried e f) (hb c) in (
          q.0,
          λ n. ⊎_elim (λ (z : s.live ≡ None). q.1 z)
              (λ (d : Dropped). let x = d.done (ap k.how cu ∙ h) (ep ∙ sym cu) in let y = ap start_of cu in omega arith) (hd c n),
        );
      })
      (λ g. sent_grown k (after k me st) g ms sends)

  pub quiet_ok : (ms : List Sent) → All (SentOk k) ms → StepOk k me s (quiet s ms)
  quiet_ok ms sends = kept_ok s.live s.image s.lease s.taken s.intact (λ r e. e) (λ r e. e) (as_held s.live (λ r e. e)) (λ c. c) (λ c n. n) (λ c n. inl n) ms sends

  pub loses_ok : StepOk k me s (quiet (record s { live = None; image = None; intact = false }) [])
  loses_ok = kept_ok None None s.lease s.taken false (λ r e. absurd (cc)) (λ r e. absurd (cc)) (as_held None (λ r e. absurd (cc))) (λ c. absurd (cc)) (λ c n. absurd (cc)) (λ c n. absurd (cc)) [] (All-nil (SentOk k))

  pub damages_ok : StepOk k me s (quiet (record s { intact = false }) [])
  damages_ok = kept_ok s.live s.image s.lease s.taken false (λ r e. e) (λ r e. e) (as_held s.live (λ r e. e)) (λ c. absurd (cc)) (λ c n. n) (λ c n. inl n) [] (All-nil (SentOk k))

  pub spends_ok : StepOk k me s (quiet (record s { lease = None }) [])
  spends_ok = kept_ok s.live s.image None s.taken s.intact (λ r e. e) (λ r e. e) (no_lease s.live) (λ c. c) (λ c n. n) (λ c n. inl n) [] (All-nil (SentOk k))

  reported : (live : Option (List Edit)) → All (SentOk k) (reports me s live)
  reported None = All-nil (SentOk k)
  reported (Some r) = one' k me (Report s.epoch s.promise) (⊎_elim (λ (x : s.promise ≤ k.top). inl x) (λ (x : (s.promise ≡ start_of k.current) × (k.how k.current ≡ Rollback)). inr (k.current, x.0, omega arith, x.1)) seal.below)

  pub reports_ok : StepOk k me s (quiet s (reports me s s.live))
  reports_ok = quiet_ok (reports me s s.live) (reported s.live)

  kept_image : (i : Option (List Edit)) → Latest k s.epoch → (is_some i ≡ false → Fit k s.epoch me) → (is_some i || s.intact) ≡ true → or_image i s.image ≢ None
  kept_image None p f c = keep.sealed p (f refl) c
  kept_image (Some x) p f c = λ n. (cc)

  pictured : (i : Option (List Edit)) → StandsIf k i → StandsIf k (or_image i s.image)
  pictured None h = ok.pictures
  pictured (Some x) h = h

  none_there : (t : ℕ) → epoch_of t ≡ s.epoch → (i : Option (List Edit)) → ImageOk k (epoch_of t) i → k.how s.epoch ≢ Prepare → or_image i s.image ≡ None
  none_there t here None x n = seal.none n
  none_there t here (Some y) x n = absurd (n (rw (← here) (x.text y refl).0.1))

  sealed_there : (t : ℕ) → epoch_of t ≡ s.epoch → (i : Option (List Edit)) → ImageOk k (epoch_of t) i → IsPrepared k s.epoch → (is_some i ≡ false → Fit k s.epoch me) → (x : List Edit) → or_image i s.image ≡ Some x → x ≡ k.list (k.prepared s.epoch)
  sealed_there t here None o p f x is = seal.sealed p (f refl) x is
  sealed_there t here (Some y) o p f x is = rw (← here) ((o.text x is).1)

  -- a greater stamp is promised
  raised_ok : (t : ℕ) (r : List Edit) (img : Option (List Edit)) → s.promise < t → epoch_of t ≡ s.epoch → Stamped k t → (k.view < t → Begins k r) → (k.view < t → k.members k.view me ≡ true → k.reached me k.view ≤ length r) → ImageOk k (epoch_of t) img → Stands k r → StandsIf k img
      → StepOk k me s (quiet (raised s t r img) (one me (Promised t (length r) (is_some img))))
  raised_ok t r img up here stamped prefix own image stand pictures =
      let st : Step = quiet (raised s t r img) (one me (Promised t (length r) (is_some img))) in
      let mine = ok.promise in
      let out : t ≤ k.view → k.members t me ≡ true → ⊥ = λ v m. let l = known.members t me v m in omega arith in
      let no_fit : is_some img ≡ false → Fit (after k me st) s.epoch me → Fit k s.epoch me = λ no f. fit_back k me s st (λ c. absurd (false_true (is_some img) no c)) s.epoch f in
      step_ok k me s st known ok seal (record { up = omega arith; upe = omega arith; same = λ e v r is. absurd (omega arith); rises = λ e r is. absurd (omega arith); lone = inl refl })
      (record {
        idle = λ v l x is. subst (Begins k) (some_same r x is) (prefix v);
        mine = λ v l x is m. subst (λ (y : List Edit). k.reached me k.view ≤ length y) (some_same r x is) (own v m);
        member = λ v m x is. absurd (out v m);
        whole = λ v h x is. absurd (out v (known.held t me v h));
        lease = λ g l e. absurd (cc);
        same = λ l e. absurd (cc);
        closed = λ g l r e. absurd (cc);
        untaken = λ v h. absurd (out v (known.held t me v h));
        stands = λ g x is. Stands_grown k (after k me st) g x (subst (Stands k) (some_same r x is) stand);
        pictures = λ g x is. Stands_grown k (after k me st) g x (pictured img pictures x is);
        learned = seal.learned;
        low = omega arith;
        below = inl stamped.top;
        legit = stamped.legit;
        none = none_there t here img image;
        unlearned = λ e p l m x is. absurd (let q = promise_is e p l m in ⊎_elim (λ (y : t ≤ k.prepared e). omega arith) (λ (y : e ≤ epoch_of t). omega arith) (stamped.legit e p));
        sealed = λ p f. sealed_there t here img image p (λ no. no_fit no f);
        rolled = λ e l h p q f x is. absurd (stamped.fresh (e + 1) q);
        left = λ e p l m c n. absurd (let q = promise_is e p.is l m in ⊎_elim (λ (y : t ≤ k.prepared e). omega arith) (λ (y : e ≤ epoch_of t). omega arith) (stamped.legit e p.is));
        kept = λ p f c. kept_image img p (λ no. no_fit no f) c;
        stays = λ e cu h p v ep f c. absurd (let z = start_of-most (e + 1) t (omega arith) in let y = stamped.top in ⊎_elim
            (λ (x : start_of (e + 1) ≤ k.view). omega arith) (λ (x : (e + 1 ≡ k.current) × (k.top < start_of (e + 1))). let u = x.1 in omega arith) (known.rolled (e + 1) (omega arith) h).1);
      })
      (λ g. one' (after k me st) me (Promised t (length r) (is_some img)) ((let p = promise-same k me s st in omega arith), stamped.top, (λ v. (sym (reached-same k me s st), rw (list-other k me s st k.view (λ e. omega arith)) (prefix v).prefix.within, (λ m. rw (reached-stamp k me s st me k.view (λ e. omega arith)) (own v m)), whole_grown k (after k me st) g (length r) refl (prefix v).whole)), carries-new k me s st))

  pub brought_ok : (t : ℕ) (r : List Edit) (img : Option (List Edit)) → s.promise < t → epoch_of t ≡ s.epoch → Stamped k t → (k.view < t → Begins k r) → ImageOk k (epoch_of t) img → (k.view < t → k.members k.view me ≡ false) → Stands k r → StandsIf k img
      → StepOk k me s (quiet (raised s t r img) (one me (Promised t (length r) (is_some img))))
  brought_ok t r img up here stamped prefix image out stand pictures = raised_ok t r img up here stamped prefix (λ v m. absurd (false_true (k.members k.view me) (out v) m)) image stand pictures

  pub rises_ok : (t : ℕ) (r : List Edit) → s.promise < t → epoch_of t ≡ s.epoch → MessageOk k me (Advance t) → s.live ≡ Some r → StepOk k me s (quiet (raised s t r None) (one me (Promised t (length r) false)))
  rises_ok t r up here h is = raised_ok t r None up here h.0
      (λ v. let m = h.1 v in let low = known.members k.view me (omega arith) m in let mine = ok.promise in ⊎_elim
      (λ (x : k.view < s.promise). ok.idle x (let y = h.0.top in omega arith) r is)
      (λ (x : s.promise ≤ k.view). let e : s.promise ≡ k.view = omega arith in record { prefix = rw e at ((ok.member x (rw e m) r is).1); whole = λ b. absurd (false_true (k.members k.view me) (b.members me) m) })
      (cases_lt k.view s.promise))
      (λ v m. let low = known.members k.view me (omega arith) m in let mine = ok.promise in ⊎_elim
      (λ (x : k.view < s.promise). ok.mine x (let y = h.0.top in omega arith) r is m)
      (λ (x : s.promise ≤ k.view). let e : s.promise ≡ k.view = omega arith in let c = rw e at (ok.count r is) in omega arith)
      (cases_lt k.view s.promise))
      (record { text = λ x e. absurd (cc) }) (ok.stands r is) (λ x e. absurd (cc))

  -- a promise that is told again
  pub promises_ok : (r : List Edit) → s.live ≡ Some r → Stamped k s.promise → StepOk k me s (quiet s (one me (Promised s.promise (length r) s.carried)))
  promises_ok r is stamped = quiet_ok _ (one' k me (Promised s.promise (length r) s.carried) (
    (let mine = ok.promise in omega arith),
    stamped.top,
    (λ v. let i = ok.idle v stamped.top r is in (sym (ok.count r is), i.prefix.within, ok.mine v stamped.top r is, i.whole)),
    seal.carried,
  ))

  pub sends_copy_ok : (t target : ℕ) (r : List Edit) (image : Option (List Edit)) (with_image : Bool) → t ≡ s.promise → epoch_of t ≡ s.epoch → s.live ≡ Some r → MessageOk k me (CopyOut t target with_image) → (image ≡ None) ⊎ ((with_image ≡ true) × (image ≡ s.image)) → StepOk k me s (quiet s (one target (CopyIn t r image)))
  sends_copy_ok t target r image with_image same here is h i = quiet_ok _ (one' k target (CopyIn t r image) (
    h.0,
    (λ v. ok.idle (omega arith) (let y = h.0.top in omega arith) r is),
    record {
      text = λ x e. ⊎_elim
          (λ (n : image ≡ None). absurd (some_none image x n e))
          (λ (y : (with_image ≡ true) × (image ≡ s.image)). let f = h.1 y.0 in (f.0, rw here (seal.sealed (rw here at f.0) (rw here at f.1) x (sym y.1 ∙ e)))) i;
    },
    h.2,
    ok.stands r is,
    (λ x e. ⊎_elim
        (λ (n : image ≡ None). absurd (some_none image x n e))
        (λ (y : (with_image ≡ true) × (image ≡ s.image)). ok.pictures x (sym y.1 ∙ e)) i),
  ))

  -- under a stamp that nobody held, a member has all there is
  not_quiet : (r : List Edit) (e : Edit) → s.live ≡ Some r → s.promise ≤ k.view → k.members s.promise me ≡ true → slice_get (k.list s.promise) (length r) ≡ Some e → k.holder s.promise ≡ None → ⊥
  not_quiet r e live within member at none =
      let w = slice_get_within (k.list s.promise) (length r) e at in
      let q = known.quiet s.promise within none in
      let b = (ok.member within member r live).0 in omega arith

  -- a member takes the next edit
  pub applies_ok : (r : List Edit) (e : Edit) → s.live ≡ Some r → MessageOk k me (Forward s.promise (length r) e) → StepOk k me s (quiet (record s { live = Some (r ++ e ∷ []) }) [])
  applies_ok r e live h =
      let st : Step = quiet (record s { live = Some (r ++ e ∷ []) }) [] in
      let within = h.0 in let member = h.1 in let at = h.2 in
      let no = not_quiet r e live within member at in
      let old = ok.member within member r live in
      let longer : length (r ++ e ∷ []) ≡ length r + 1 = omega (arith, length-append r (e ∷ [])) in
      let more = Prefix-more (k.list s.promise) r e old.1 at in
      step_ok k me s st known ok seal (record { up = omega arith; upe = omega arith; same = λ x v y is. absurd (omega arith); rises = λ x y is. subst (λ (y : List Edit). k.reached me s.promise ≤ length y) (some_same (r ++ e ∷ []) y is) (let c = ok.count r live in omega arith); lone = inl refl })
      (record {
        idle = λ v. absurd (omega arith);
        mine = λ v. absurd (omega arith);
        member = λ v m x is. rw append-nil (subst (λ (y : List Edit). (k.base s.promise ≤ length y) × Prefix (k.list s.promise) y) (some_same (r ++ e ∷ []) x is) ((let b = old.0 in omega arith), more));
        whole = λ v h x is. absurd (let w = slice_get_within (k.list s.promise) (length r) e at in let y = ok.whole v h r live in omega arith);
        lease = λ g x e. LeaseOk_grown k (after k me st) g me x (ok.lease x e);
        same = ok.same;
        untaken = λ v h t. rw append-nil (ok.untaken v h t);
        closed = λ g l' x q y. absurd (let lok = ok.lease l' q in let c = (ok.same l' q).0 in let w = slice_get_within (k.list s.promise) (length r) e at in let y = ok.whole within (rw c at lok.holder) r live in omega arith);
        stands = λ g x is. Stands_grown k (after k me st) g x (subst (Stands k) (some_same (r ++ e ∷ []) x is) (record { stamp = s.promise; within = within; begins = more }));
        pictures = λ g x is. Stands_grown k (after k me st) g x (ok.pictures x is);
        learned = seal.learned;
        low = seal.low;
        below = seal.below;
        legit = seal.legit;
        none = seal.none;
        unlearned = λ e p x m y is. absurd (no (rw (promise_is e p x m) (known.prepared e p)));
        sealed = λ p f. seal.sealed p (fit_back k me s st seal.carried s.epoch f);
        rolled = λ e x h q p f y is. absurd (no (rw p (known.unheld (e + 1) x h (rw p at within))));
        left = λ e p x m c n. (cc);
        kept = λ p f c. keep.sealed p (fit_back k me s st seal.carried s.epoch f) c;
        stays = λ e cu h p v ep f c. ((keep.rolled e cu h p v ep (fit_back k me s st seal.carried e f) c).0, λ n. (cc));
      })
      (λ g. All-nil (SentOk (after k me st)))

  pub numbers_ok : (l : MemberLease) (r : List Edit) (e : Edit) → s.lease ≡ Some l → s.live ≡ Some r → l.stamp ≡ s.promise → Above r e
      → StepOk k me s (record { member = record s { live = Some (r ++ e ∷ []); lease = Some (opened me l (length r) e) }; sends = []; edits = e ∷ [] })
  numbers_ok l r e held live same new =
      let st : Step = record { member = record s { live = Some (r ++ e ∷ []); lease = Some (opened me l (length r) e) }; sends = []; edits = e ∷ [] } in
      let lok = ok.lease l held in
      let within : s.promise ≤ k.view = (let w = lok.within in omega arith) in
      let mine : k.holder s.promise ≡ Some me = rw same at lok.holder in
      let no : k.holder s.promise ≡ None → ⊥ = λ n. some_none (k.holder s.promise) me n mine in
      let member = known.held s.promise me within mine in
      let old = ok.member within member r live in
      let whole = ok.whole within mine r live in
      let longer : length (r ++ e ∷ []) ≡ length r + 1 = omega (arith, length-append r (e ∷ [])) in
      let here : slice_get (k.list s.promise ++ e ∷ []) (length r) ≡ Some e = rw whole (at_end (k.list s.promise) e) in
      let all : r ≡ k.list s.promise = old.1.stands ∙ take_all (length r) (k.list s.promise) (omega arith) in
      let o : Open = record { place = length r; edit = e } in
      let at : slice_get ((after k me st).list l.stamp) (length r) ≡ Some e = rw (same, list-same k me s st) here in
      let longest = Prefix-push (k.list s.promise) r e old.1 whole in
      let now : Grows k (after k me st) → LeaseOk (after k me st) me (opened me l (length r) e) = λ g.
      opened_ok (after k me st) me l (LeaseOk_grown k (after k me st) g me l lok) o at
      (record { promise = (let p = promise-same k me s st in omega arith); low = rw same (let q = reached-same k me s st in omega arith) }) in
      let closed_now : Grows k (after k me st) → (n : ℕ) → n < length r + 1 → (waits (l.waiting ++ o ∷ []) n ≡ true) ⊎ Covered (after k me st) l.stamp n = λ g n lt.
      rw (list_any-append (λ (o : Open). nat_eq n o.place) l.waiting (o ∷ [])) (⊎_elim
      (λ (d : n ≡ length r). inl (or_right (waits l.waiting n) _ (or_left (nat_eq n (length r)) _ (eq-eqb n (length r) d))))
      (λ (d : n ≢ length r). ⊎_elim
      (λ (w : waits l.waiting n ≡ true). inl (or_left (waits l.waiting n) _ w))
      (λ (c : Covered k l.stamp n). inr (Covered_grown k (after k me st) g l.stamp lok.within n c))
      (ok.closed l r held live n (omega arith)))
      (cases_eq n (length r))) in
      step_ok k me s st known ok seal (record {
        up = omega arith;
        upe = omega arith;
        same = λ x v y is. absurd (omega arith);
        rises = λ x y is. subst (λ (y : List Edit). k.reached me s.promise ≤ length y) (some_same (r ++ e ∷ []) y is) (let c = ok.count r live in omega arith);
        lone = inr (within, mine, Rising-push (k.list s.promise) e (known.lists s.promise) (subst (λ (x : List Edit). Above x e) all new));
      })
      (record {
        idle = λ v. absurd (omega arith);
        mine = λ v. absurd (omega arith);
        member = λ v m x is. subst (λ (y : List Edit). (k.base s.promise ≤ length y) × Prefix (k.list s.promise ++ e ∷ []) y) (some_same (r ++ e ∷ []) x is) ((let b = old.0 in omega arith), longest);
        whole = λ v h x is. subst (λ (y : List Edit). length y ≡ length (k.list s.promise ++ e ∷ [])) (some_same (r ++ e ∷ []) x is) (omega (arith, length-append (k.list s.promise) (e ∷ [])));
        lease = λ g x q. subst (LeaseOk (after k me st) me) (some_same (opened me l (length r) e) x q) (now g);
        same = λ x q. subst (λ (y : MemberLease). (y.stamp ≡ s.promise) × (s.taken ≡ s.promise)) (some_same (opened me l (length r) e) x q) (same, (ok.same l held).1);
        closed = λ g x y q z n lt. subst (λ (v : MemberLease). (waits v.waiting n ≡ true) ⊎ Covered (after k me st) v.stamp n) (some_same (opened me l (length r) e) x q)
            (closed_now g n (let c = ap (λ (v : List Edit). length v) (some_same (r ++ e ∷ []) y z) in omega arith));
        untaken = λ v h t. absurd (t (ok.same l held).1);
        stands = λ g x is. subst (Stands (after k me st)) (some_same (r ++ e ∷ []) x is) (record { stamp = s.promise; within = within; begins = rw (list-same k me s st) longest });
        pictures = λ g x is. Stands_grown k (after k me st) g x (ok.pictures x is);
        learned = seal.learned;
        low = seal.low;
        below = seal.below;
        legit = seal.legit;
        none = seal.none;
        unlearned = λ e p x m y is. absurd (no (rw (promise_is e p x m) (known.prepared e p)));
        sealed = λ p f. seal.sealed p (fit_back k me s st seal.carried s.epoch f);
        rolled = λ e x h q p f y is. absurd (no (rw p (known.unheld (e + 1) x h (rw p at within))));
        left = λ e p x m c n. (cc);
        kept = λ p f c. keep.sealed p (fit_back k me s st seal.carried s.epoch f) c;
        stays = λ e cu h p v ep f c. ((keep.rolled e cu h p v ep (fit_back k me s st seal.carried e f) c).0, λ n. (cc));
      })
      (λ g. All-nil (SentOk (after k me st)))

  -- what a live replica has under the promise, it reached
  live_reached : (r : List Edit) → s.live ≡ Some r → Reached k me s.promise (length r)
  live_reached r is = record { promise = (let p = ok.promise in omega arith); low = (let c = ok.count r is in omega arith) }

  pub acknowledges_ok : (r : List Edit) → s.live ≡ Some r → StepOk k me s (quiet s (one me (Ack s.promise (length r))))
  acknowledges_ok r is = quiet_ok _ (one' k me (Ack s.promise (length r)) (live_reached r is))

  pub takes_lease_ok : (t : ℕ) (members : List ℕ) → MessageOk k me (Grant t members) → t ≡ s.promise → s.taken ≢ t → StepOk k me s (quiet (record s { taken = t; lease = Some (new_lease t members) }) [])
  takes_lease_ok t members h same free =
      let new : MemberLease = new_lease t members in
      kept_ok s.live s.image (Some new) t s.intact (λ r e. e) (λ r e. e)
      (record {
        lease = λ x e. subst (LeaseOk k me) (some_same new x e) (record { within = h.0; holder = h.1; members = h.2; told = λ j m. record { promise = known.members t j h.0 m; low = omega arith }; waiting = All-nil (λ (o : Open). slice_get (k.list t) o.place ≡ Some o.edit) });
        same = λ x e. subst (λ (y : MemberLease). (y.stamp ≡ s.promise) × (t ≡ s.promise)) (some_same new x e) (same, same);
        closed = λ x r e is n lt. subst (λ (y : MemberLease). (waits y.waiting n ≡ true) ⊎ Covered k y.stamp n) (some_same new x e)
            (inr (record {
              members = λ j m. record {
                promise = known.members t j h.0 m;
                low = (let f = known.floor t j h.0 m in let w = ok.whole (rw same at h.0) (rw same at h.1) r is in let u = ok.untaken (rw same at h.0) (rw same at h.1) (λ z. free (z ∙ sym same)) in let q = ap k.base same in omega arith);
              };
            }));
        untaken = λ v y d. absurd (d same);
      }) (λ c. c) (λ c n. n) (λ c n. inl n) [] (All-nil (SentOk k))

  -- the holder of a lease
  pub record Holder (l : MemberLease) : Type 0 where
    pub lease : LeaseOk k me l
    pub stood : k.stood l.stamp ≡ true

  holder_of : (l : MemberLease) → s.lease ≡ Some l → Holder l
  holder_of l is = let lok = ok.lease l is in record { lease = lok; stood = known.peopled l.stamp me lok.within (known.held l.stamp me lok.within lok.holder) }

  pub forwards_ok : (l : MemberLease) (to place : ℕ) (e : Edit) → s.lease ≡ Some l → is_of l.members to ≡ true → Contains l.waiting (record { place = place; edit = e }) → StepOk k me s (quiet s (one to (Forward l.stamp place e)))
  forwards_ok l to place e is m c = let lok = ok.lease l is in quiet_ok _ (one' k to (Forward l.stamp place e)
      (lok.within, lok.members to ∙ m, All-contains (λ (o : Open). slice_get (k.list l.stamp) o.place ≡ Some o.edit) l.waiting (record { place = place; edit = e }) lok.waiting c))

  with_lease : (l new : MemberLease) → s.lease ≡ Some l → new.stamp ≡ l.stamp → LeaseOk k me new → ((n : ℕ) → (waits l.waiting n ≡ true) ⊎ Covered k l.stamp n → (waits new.waiting n ≡ true) ⊎ Covered k new.stamp n) → StepOk k me s (quiet (record s { lease = Some new }) [])
  with_lease l new is st now waiting = kept_ok s.live s.image (Some new) s.taken s.intact (λ r e. e) (λ r e. e)
      (record {
        lease = λ y e. subst (LeaseOk k me) (some_same new y e) now;
        same = λ y e. subst (λ (y : MemberLease). (y.stamp ≡ s.promise) × (s.taken ≡ s.promise)) (some_same new y e) (st ∙ (ok.same l is).0, (ok.same l is).1);
        closed = λ y r e live n lt. subst (λ (y : MemberLease). (waits y.waiting n ≡ true) ⊎ Covered k y.stamp n) (some_same new y e) (waiting n (ok.closed l r is live n lt));
        untaken = ok.untaken;
      })
      (λ c. c) (λ c n. n) (λ c n. inl n) [] (All-nil (SentOk k))

  pub hears_count_ok : (l : MemberLease) (from count : ℕ) → s.lease ≡ Some l → MessageOk k from (Ack l.stamp count) → StepOk k me s (quiet (record s { lease = Some (told_by l from count) }) [])
  hears_count_ok l from count is h = with_lease l (told_by l from count) is refl (hears_ok k me l (ok.lease l is) from count h) (λ n w. w)

  pub closes_ok : (l : MemberLease) (place : ℕ) → s.lease ≡ Some l → IsCovered l place → StepOk k me s (quiet (record s { lease = Some (closed l place) }) [])
  closes_ok l place is c = with_lease l (closed l place) is refl (closed_ok k me l (ok.lease l is) place) (closed_waits k me l (ok.lease l is) place c)

  pub answers_ok : (l : MemberLease) (place : ℕ) (e : Edit) → s.lease ≡ Some l → l.stamp ≡ s.promise
      → (Contains l.waiting (record { place = place; edit = e }) × IsCovered l place) ⊎ ((r : List Edit) × (s.live ≡ Some r) × (slice_get r place ≡ Some e) × (waits l.waiting place ≡ false))
      → StepOk k me s (quiet s (one me (Done l.stamp place e)))
  answers_ok l place e is same h =
      let o = holder_of l is in let lok = o.lease in
      quiet_ok _ (one' k me (Done l.stamp place e) (elim h [
        | inl x ↦ record {
          within = lok.within;
          stood = o.stood;
          stands = All-contains (λ (o : Open). slice_get (k.list l.stamp) o.place ≡ Some o.edit) l.waiting (record { place = place; edit = e }) lok.waiting x.0;
          members = (covered k me l lok place x.1).members;
        }
        | inr x ↦
            let within : s.promise ≤ k.view = (let w = lok.within in omega arith) in
            let member = known.held s.promise me within (rw same at lok.holder) in
            let old = ok.member within member x.0 x.1 in
            let lt = slice_get_within x.0 place e x.2 in
            record {
              within = lok.within;
              stood = o.stood;
              stands = rw same (take_from (k.list s.promise) (length x.0) place e (subst (λ (y : List Edit). slice_get y place ≡ Some e) old.1.stands x.2));
              members = (⊎_elim (λ (w : waits l.waiting place ≡ true). absurd (false_true (waits l.waiting place) x.3 w)) (λ (c : Covered k l.stamp place). c) (ok.closed l x.0 is x.1 place lt)).members;
            }
      ]))

  pub drops_ok : DropOk k me s.epoch s.promise → StepOk k me s (quiet (record s { live = None; lease = None }) [])
  drops_ok h =
      let d : Dropped = record {
        old = λ e p l m. false_true (k.members (k.prepared e) me) (h.prepared e p l (promise_is e p l m)) m;
        done = λ r e. rw e at (h.done (ap k.how e ∙ r));
      } in
      kept_ok None s.image None s.taken s.intact (λ r e. absurd (cc)) (λ r e. e) (no_lease None) (λ c. c) (λ c n. n) (λ c n. inr d) [] (All-nil (SentOk k))

  pub names_ok : (r : List Edit) → s.live ≡ Some r → s.promise ≡ start_of s.epoch → StepOk k me s (quiet s (one me (Learned s.epoch)))
  names_ok r is first = quiet_ok _ (one' k me (Learned s.epoch) (record {
    within = seal.learned;
    promise = (let mine = ok.promise in omega arith);
    floor = λ e n h p f. (
        let at : s.promise ≡ start_of (e + 1) = first ∙ ap start_of n in
        let text = seal.rolled e (let l = seal.learned in omega arith) (ap k.how (sym n) ∙ h) p at f r is in
        let q = known.quiet (k.prepared e) (known.before e p) (known.prepared e p) in
        let c = ok.count r is in let u = ap (k.reached me) first in let v = ap (λ (x : List Edit). length x) text in omega arith);
  }))

  -- a server that a prepare awaits passes no rollback on its way
  passed : (epoch : ℕ) → epoch ≡ s.epoch + 1 → k.how epoch ≡ Rollback → (e : ℕ) → IsPrepared k e → epoch < e → k.members (k.prepared e) me ≡ true → ⊥
  passed epoch next h e p l m = let q = promise_is e p (omega arith) m in known.straight e epoch p (let z = seal.low in rw (← q) (omega arith)) l h

  -- what it was sealed at is the last prepare, where a rollback of that is the master's epoch
  latest_before : (e : ℕ) → k.current ≡ e + 1 → k.how (e + 1) ≡ Rollback → IsPrepared k e → Latest k e
  latest_before e cu h p = record {
    is = p;
    last = λ x l q. ⊎_elim (λ (y : x ≡ e + 1). absurd (two_ends (k.how (e + 1)) (rw y at q) h)) (λ (d : x ≢ e + 1). omega arith) (cases_eq x (e + 1));
  }

  pub rolls_ok : (epoch : ℕ) → epoch ≡ s.epoch + 1 → epoch ≤ k.current → k.how epoch ≡ Rollback → (image : Option (List Edit)) → ((r : List Edit) → image ≡ Some r → s.image ≡ Some r) → (s.intact ≡ true → image ≡ None → s.image ≡ None) → StepOk k me s (quiet (rolled s epoch image) [])
  rolls_ok epoch next within h None is lost =
      let st : Step = quiet (rolled s epoch None) [] in
      step_ok k me s st known ok seal (record { up = omega arith; upe = omega arith; same = λ x v y e. absurd (cc); rises = λ x y e. absurd (cc); lone = inl refl })
      (record {
        idle = λ v l r e. absurd (cc);
        mine = λ v l r e. absurd (cc);
        member = λ v m r e. absurd (cc);
        whole = λ v x r e. absurd (cc);
        lease = λ g l e. absurd (cc);
        same = λ l e. absurd (cc);
        closed = λ g l r e. absurd (cc);
        untaken = λ v h t. rw append-nil (ok.untaken v h t);
        stands = λ g x e. absurd (cc);
        pictures = λ g x e. absurd (cc);
        learned = within;
        low = (let l = seal.low in omega arith);
        below = seal.below;
        legit = seal.legit;
        none = λ n. refl;
        unlearned = λ e p l m r x. absurd (cc);
        sealed = λ p f r x. absurd (cc);
        rolled = λ e l x q p f r y. absurd (cc);
        left = λ e p l m c n. passed epoch next h e p.is l m;
        kept = λ p f c n. two_ends (k.how epoch) p.is.1 h;
        stays = λ e cu r p v ep f c. absurd (
            let same : e ≡ s.epoch = omega arith in
            keep.sealed (rw same at (latest_before e cu r p)) (rw same at (fit_back k me s st seal.carried e f)) c (lost c refl));
      })
      (λ g. All-nil (SentOk (after k me st)))
  rolls_ok epoch next within h (Some r) is lost =
      let st : Step = quiet (rolled s epoch (Some r)) [] in
      let rok = known.rolled epoch within h in
      let up : s.promise < start_of epoch = start_of-below epoch s.promise (let l = seal.low in omega arith) in
      let mine = ok.promise in
      let out : start_of epoch ≤ k.view → k.members (start_of epoch) me ≡ true → ⊥ = λ v m. let l = known.members (start_of epoch) me v m in omega arith in
      step_ok k me s st known ok seal (record { up = omega arith; upe = omega arith; same = λ x v y e. absurd (omega arith); rises = λ x y e. absurd (omega arith); lone = inl refl })
      (record {
        idle = λ v l x e. absurd (⊎_elim (λ (y : start_of epoch ≤ k.view). omega arith) (λ (y : (epoch ≡ k.current) × (k.top < start_of epoch)). let z = y.1 in omega arith) rok.1);
        mine = λ v l x e. absurd (⊎_elim (λ (y : start_of epoch ≤ k.view). omega arith) (λ (y : (epoch ≡ k.current) × (k.top < start_of epoch)). let z = y.1 in omega arith) rok.1);
        member = λ v m x e. absurd (out v m);
        whole = λ v x y e. absurd (out v (known.held (start_of epoch) me v x));
        lease = λ g l e. absurd (cc);
        same = λ l e. absurd (cc);
        closed = λ g l r e. absurd (cc);
        untaken = λ v h. absurd (out v (known.held (start_of epoch) me v h));
        stands = λ g x e. Stands_grown k (after k me st) g x (ok.pictures x (is x e));
        pictures = λ g x e. absurd (cc);
        learned = within;
        low = (let l = epoch_of-start epoch in omega arith);
        below = ⊎_elim (λ (y : start_of epoch ≤ k.view). inl (let t = known.viewtop in omega arith)) (λ (y : (epoch ≡ k.current) × (k.top < start_of epoch)). inr (ap start_of y.0, rw y.0 at h)) rok.1;
        legit = rok.0;
        none = λ n. refl;
        unlearned = λ e p l m x y. absurd (passed epoch next h e p l m);
        left = λ e p l m c n. passed epoch next h e p.is l m;
        kept = λ p f c n. two_ends (k.how epoch) p.is.1 h;
        stays = λ e cu r p v ep f c. (ap start_of ep, λ n. (cc));
        sealed = λ p f x y. absurd (cc);
        rolled = λ e l x q p f y z.
            let same : e ≡ s.epoch = (let a = sym (epoch_of-start epoch) ∙ ap epoch_of p ∙ epoch_of-start (e + 1) in omega arith) in
            rw same (seal.sealed (rw same at q) (rw same at (fit_back k me s st (λ c. absurd (cc)) e f)) y (is y z));
      })
      (λ g. All-nil (SentOk (after k me st)))

  unfailed : (fails : Bool) → (fails ≡ true → s.intact ≡ false) → s.intact ≡ true → cond fails None s.image ≡ None → s.image ≡ None
  unfailed true h c n = absurd (false_true s.intact (h refl) c)
  unfailed false h c n = n

  unless_failed : (fails : Bool) (r : List Edit) → cond fails None s.image ≡ Some r → s.image ≡ Some r
  unless_failed true r e = absurd (cc)
  unless_failed false r e = e

  -- the next epoch is learned
  pub learns_ok : (epoch : ℕ) (end : EpochEnd) (fails : Bool) → epoch ≡ s.epoch + 1 → epoch ≤ k.current → k.how epoch ≡ end → (fails ≡ true → s.intact ≡ false) → StepOk k me s (quiet (learned s epoch end fails) [])
  learns_ok epoch Prepare fails next within h sound =
      let st : Step = quiet (learned s epoch Prepare fails) [] in
      step_ok k me s st known ok seal (record { up = omega arith; upe = omega arith; same = λ x v y is. sym (ok.count y is); rises = λ x y is. (let c = ok.count y is in omega arith); lone = inl refl })
      (record {
        idle = ok.idle;
        mine = ok.mine;
        member = λ v m r is. rw append-nil (ok.member v m r is);
        whole = λ v x r is. rw append-nil (ok.whole v x r is);
        lease = λ g x e. LeaseOk_grown k (after k me st) g me x (ok.lease x e);
        same = ok.same;
        untaken = λ v h t. rw append-nil (ok.untaken v h t);
        closed = λ g l r e is n lt. closed_grown k (after k me st) g l.stamp ((ok.lease l e).within) n (waits l.waiting n) (ok.closed l r e is n lt);
        stands = λ g x is. Stands_grown k (after k me st) g x (ok.stands x is);
        pictures = λ g x is. Stands_grown k (after k me st) g x (ok.stands x is);
        learned = within;
        low = (let l = seal.low in omega arith);
        below = seal.below;
        legit = seal.legit;
        none = λ n. absurd (n h);
        unlearned = λ e p l. seal.unlearned e p (omega arith);
        sealed = λ p f r is. ⊎_elim
            (λ (m : k.members (k.prepared epoch) me ≡ true). seal.unlearned epoch p (omega arith) m r is)
            (λ (c : k.carries epoch me ≡ true). absurd (let l = seal.carries epoch c in omega arith))
            (fit_back k me s st seal.carried epoch f);
        rolled = λ e x r q p f. seal.rolled e x r q p (fit_back k me s st seal.carried e f);
        left = λ e p l. keep.unlearned e p (omega arith);
        kept = λ p f c. ⊎_elim
            (λ (m : k.members (k.prepared epoch) me ≡ true). keep.unlearned epoch p (omega arith) m c)
            (λ (x : k.carries epoch me ≡ true). absurd (let l = seal.carries epoch x in omega arith))
            (fit_back k me s st seal.carried epoch f);
        stays = λ e cu r p v ep f c. absurd (two_ends (k.how epoch) h (ap k.how ep ∙ r));
      })
      (λ g. All-nil (SentOk (after k me st)))
  learns_ok epoch Finalize fails next within h sound =
      let st : Step = quiet (learned s epoch Finalize fails) [] in
      step_ok k me s st known ok seal (record { up = omega arith; upe = omega arith; same = λ x v y is. sym (ok.count y is); rises = λ x y is. (let c = ok.count y is in omega arith); lone = inl refl })
      (record {
        idle = ok.idle;
        mine = ok.mine;
        member = λ v m r is. rw append-nil (ok.member v m r is);
        whole = λ v x r is. rw append-nil (ok.whole v x r is);
        lease = λ g x e. LeaseOk_grown k (after k me st) g me x (ok.lease x e);
        same = ok.same;
        untaken = λ v h t. rw append-nil (ok.untaken v h t);
        closed = λ g l r e is n lt. closed_grown k (after k me st) g l.stamp ((ok.lease l e).within) n (waits l.waiting n) (ok.closed l r e is n lt);
        stands = λ g x is. Stands_grown k (after k me st) g x (ok.stands x is);
        pictures = λ g x is. absurd (cc);
        learned = within;
        low = (let l = seal.low in omega arith);
        below = seal.below;
        legit = seal.legit;
        none = λ n. refl;
        unlearned = λ e p l. seal.unlearned e p (omega arith);
        sealed = λ p f r is. absurd (cc);
        rolled = λ e x r q p f. seal.rolled e x r q p (fit_back k me s st seal.carried e f);
        left = λ e p l. keep.unlearned e p (omega arith);
        kept = λ p f c n. (let q = p.is.1 in let z = h in cc);
        stays = λ e cu r p v ep f c. absurd (let z = sym h ∙ ap k.how ep ∙ r in cc);
      })
      (λ g. All-nil (SentOk (after k me st)))
  learns_ok epoch Rollback fails next within h sound = rolls_ok epoch next within h (cond fails None s.image) (unless_failed fails) (unfailed fails sound)
