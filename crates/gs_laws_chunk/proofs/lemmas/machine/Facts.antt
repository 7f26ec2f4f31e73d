-- What holds of every world, as its clauses say it.
use Rattle.std.proofs.Common.{◌≡◌, ◌≢◌, ℕ, ◌+◌, ◌-◌, ◌<◌, ◌≤◌, inl, inr, ⊎_elim, List, [], ◌∷◌, ◌++◌, length, drop, Option, Some, None, Bool, true, false, eqb, refl, sym, ap, ◌∙◌, subst, arith}
use Rattle.std.proofs.lemmas.List.{take_all, take-append-drop}
use Rattle.std.proofs.lemmas.Option.{slice_get_within}
use Rattle.std.proofs.lemmas.Bool.{cases_eq, eq-eqb, eqb-true, or_cases}
use Rattle.gs_base.specs.declared.epoch.EpochEnd.TheVariants.{Prepare, Rollback}
use Rattle.gs_replica.specs.Stands.{Edit}
use Rattle.gs_laws_chunk.specs.machine.Stamps.{start_of}
use Rattle.gs_laws_chunk.specs.machine.Machine.{Member, CopyIn, Forward, ChunkWorld}
use Rattle.gs_laws_chunk.specs.machine.Events.{CommitsRollback, is_of, Can, learned}
use Rattle.gs_laws_chunk.specs.machine.Laws.{IsNumbered, world_of, IsReached, BeginsList, BeginsOne, IsThere, EachStands, QuietIsStill, prepared_list, IsUpgrading, IsSurvivor, KeepsSealed, WasCurrent, CurrentStillKeep, SurvivorsWereCurrent, SurvivorsKeep, SurvivorsName, GivesBack}
use Rattle.gs_laws_chunk.proofs.lemmas.machine.Lists.{some_none}
use Rattle.gs_laws_chunk.proofs.lemmas.machine.Known.{Rising, Stands, Prefix, Prefix-append, Fit, IsPrepared, Latest, false_true}
use Rattle.gs_laws_chunk.proofs.lemmas.machine.Members.{promise_is}
use Rattle.gs_laws_chunk.proofs.lemmas.machine.Turns.{two_ends}
use Rattle.gs_laws_chunk.proofs.lemmas.machine.Commit as commit
use Rattle.gs_laws_chunk.proofs.lemmas.machine.Entries.{IsCurrent}
use Rattle.gs_laws_chunk.proofs.lemmas.machine.Worlds.{WorldOk, said, bare_now, born_world, leads_world, committing, prepared_then, restores}

pub rising_of : (list : List Edit) → IsNumbered list → Rising list
rising_of list n = record { rises = n.rises }

pub reached_world : (w : ChunkWorld) → IsReached w → WorldOk w
reached_world w r = let b = r.0 in leads_world (world_of b) w r.1 (born_world b.epoch b.how b.origin (rising_of b.origin b.numbered))

pub prefix_more : (list more longer edits : List Edit) → longer ≡ list ++ more → Prefix list edits → Prefix longer edits
prefix_more list more longer edits e p = subst (λ (x : List Edit). Prefix x edits) (sym e) (Prefix-append list more edits p)

-- edits that begin a list are followed by the rest
pub begins_of : (list edits : List Edit) → Prefix list edits → BeginsList list edits
begins_of list edits p = (drop (length edits) list, sym (ap (λ (x : List Edit). x ++ drop (length edits) list) p.stands ∙ take-append-drop (length edits) list))

module _ (w : ChunkWorld) (ok : WorldOk w) where
  begins_one : (edits : List Edit) → Stands w.known edits → BeginsOne w edits
  begins_one edits s = (s.stamp, (let l = s.within in let e = (ok.entry).stamp in omega arith), begins_of (w.known.list s.stamp) edits s.begins)

  pub there : (me : ℕ) (edits : List Edit) → IsThere w me edits → (w.known.base w.known.view ≤ length edits) × Prefix (w.known.list w.known.view) edits
  there me edits t =
      let m = ok.entry in
      let at : (w.members me).promise ≡ w.known.view = t.1 ∙ m.stamp in
      rw at at ((ok.views me).member (omega arith) (rw at (m.members me ∙ t.0)) edits t.2)

  pub bare_holder : w.entry.view.members ≡ [] → w.known.holder w.known.view ≡ None
  bare_holder none = (bare_now w ok none).holder

  pub each_stands : EachStands w
  each_stands = record {
    live = λ me edits is. begins_one edits ((ok.views me).stands edits is);
    image = λ me edits is. begins_one edits ((ok.views me).pictures edits is);
    copies = λ server stamp edits image told. let h = said w ok server (CopyIn stamp edits image) told in (begins_one edits h.4, λ sealed is. begins_one sealed (h.5 sealed is));
    forwards = λ server stamp place edit told. (said w ok server (Forward stamp place edit) told).2;
    members = λ me edits t. let h = there me edits t in let m = ok.entry in (rw m.stamp (begins_of (w.known.list w.known.view) edits h.1), (let b = h.0 in let c = m.count in omega arith));
    numbered = λ stamp. record { rises = ((ok.known).lists stamp).rises };
  }

  pub quiet_is_still : QuietIsStill w
  quiet_is_still free me edits t =
      let m = ok.entry in
      let h = there me edits t in
      let none : w.known.holder w.known.view ≡ None = sym m.holder ∙ free in
      let q = (ok.known).quiet w.known.view (omega arith) none in
      let within = h.1.within in
      let least = h.0 in
      let same : length edits ≡ length (w.known.list w.known.view) = omega arith in
      let at : (w.members me).promise ≡ w.known.view = t.1 ∙ m.stamp in
      record {
        whole = h.1.stands ∙ rw m.stamp (take_all (length edits) (w.known.list w.known.view) (omega arith));
        count = (let c = m.count in omega arith);
        applies = λ e can. let f = rw at at ((said w ok me (Forward (w.members me).promise (length edits) e) can.1).2) in let x = slice_get_within (w.known.list w.known.view) (length edits) e f in omega arith;
        numbers = λ l e can. let lease = (ok.views me).lease l can.0 in some_none (w.known.holder w.known.view) me none (subst (λ t. w.known.holder t ≡ Some me) (((ok.views me).same l can.0).0 ∙ at) lease.holder);
      }

  current : (e : ℕ) → IsUpgrading w e → IsCurrent w.known w.entry.is_rolling e
  current e u = let m = ok.entry in ⊎_elim
      (λ (x : (e ≡ w.entry.epoch) × (w.entry.how e ≡ Prepare)). inl (x.0 ∙ m.epoch, sym (m.how e) ∙ x.1))
      (λ (x : (e + 1 ≡ w.entry.epoch) × (w.entry.is_rolling ≡ true)). inr (x.0 ∙ m.epoch, x.1)) u

  some_of : (o : Option (List Edit)) (x : List Edit) → o ≢ None → ((r : List Edit) → o ≡ Some r → r ≡ x) → o ≡ Some x
  some_of None x n h = absurd (n refl)
  some_of (Some r) x n h = ap Some (h r refl)

  module _ (e me : ℕ) (u : IsUpgrading w e) (s : IsSurvivor w me) where
    c : IsCurrent w.known w.entry.is_rolling e
    c = current e u

    rolled_at : e + 1 ≡ w.known.current → w.entry.is_rolling ≡ true → (w.known.how e ≡ Prepare) × (w.known.how (e + 1) ≡ Rollback) × (w.known.current ≡ e + 1) × (w.known.top < start_of (e + 1))
    rolled_at x r = let y = (ok.entry).rolling r in let n = y.next in let same : e ≡ y.e = omega arith in rw same (y.was, y.how, y.next, y.below)

    is : IsPrepared w.known e
    is = ⊎_elim
        (λ (x : (e ≡ w.known.current) × (w.known.how e ≡ Prepare)). ((let y = x.0 in omega arith), x.1, sym ((ok.entry).was_known e c) ∙ s.known))
        (λ (x : (e + 1 ≡ w.known.current) × (w.entry.is_rolling ≡ true)). ((let y = x.0 in omega arith), (rolled_at x.0 x.1).0, sym ((ok.entry).was_known e c) ∙ s.known)) c

    latest : Latest w.known e
    latest = record {
      is = is;
      last = λ x l p. ⊎_elim
          (λ (y : (e ≡ w.known.current) × (w.known.how e ≡ Prepare)). let z = y.0 in omega arith)
          (λ (y : (e + 1 ≡ w.known.current) × (w.entry.is_rolling ≡ true)). ⊎_elim
          (λ (z : x ≡ e + 1). absurd (two_ends (w.known.how (e + 1)) (rw z at p) (rolled_at y.0 y.1).1))
          (λ (d : x ≢ e + 1). let z = y.0 in omega arith) (cases_eq x (e + 1))) c;
    }

    fits : Fit w.known e me
    fits = let v = (ok.entry).prepared e c is in ⊎_elim
        (λ (x : is_of w.entry.prepared.members me ≡ true). inl (v.members me ∙ x))
        (λ (x : w.entry.holders me ≡ true). inr (v.holding me x)) s.fit

    stamp : w.entry.prepared.stamp ≡ w.known.prepared e
    stamp = ((ok.entry).prepared e c is).stamp

    pub keeps_sealed : KeepsSealed w e me
    keeps_sealed = record {
      unlearned = λ l.
          let m : w.known.members (w.known.prepared e) me ≡ true = ⊎_elim (λ (x : w.known.members (w.known.prepared e) me ≡ true). x) (λ (x : w.known.carries e me ≡ true). absurd (let y = (ok.seals me).carries e x in omega arith)) fits in
          rw stamp (
            promise_is w.known ok.known me (w.members me) (ok.views me) (ok.seals me) (ok.keeps me) e is l m,
            some_of (w.members me).live (w.known.list (w.known.prepared e)) ((ok.keeps me).unlearned e latest l m s.intact) ((ok.seals me).unlearned e is l m),
          );
      learned = λ x. rw stamp (some_of (w.members me).image (w.known.list (w.known.prepared e))
          ((ok.keeps me).sealed (rw x latest) (rw x fits) s.intact)
          (λ r h. (ok.seals me).sealed (rw x is) (rw x fits) r h ∙ ap (λ e. w.known.list (w.known.prepared e)) x));
      rolled = λ x. ⊎_elim
          (λ (y : (e ≡ w.known.current) × (w.known.how e ≡ Prepare)). absurd (let l = (ok.seals me).learned in let z = y.0 in omega arith))
          (λ (y : (e + 1 ≡ w.known.current) × (w.entry.is_rolling ≡ true)).
          let r = rolled_at y.0 y.1 in
          let v = (ok.known).viewtop in let b = r.3 in
          let k = (ok.keeps me).rolled e r.2 r.1 is (omega arith) x fits s.intact in
          (k.0, rw stamp (some_of (w.members me).live (w.known.list (w.known.prepared e)) k.1 ((ok.seals me).rolled e (let z = y.0 in omega arith) r.1 is k.0 fits)))) c;
    }

    pub was_current : WasCurrent w e me × (w.entry.prepared.stamp ≡ w.known.prepared e)
    was_current = let m = ok.entry in (
      record {
        within = (let l = is.0 in let x = m.epoch in omega arith);
        prepare = m.how e ∙ is.1;
        last = λ x l p. latest.last x (let y = m.epoch in omega arith) (sym (m.how x) ∙ p);
        known = is.2;
        fit = fits;
        intact = s.intact;
      },
      stamp,
    )

  pub survivors_were_current : SurvivorsWereCurrent w
  survivors_were_current e me u s = was_current e me u s

  pub current_still_keep : CurrentStillKeep w
  current_still_keep e me h =
      let m = ok.entry in
      let at = m.epoch in
      let is : IsPrepared w.known e = ((let l = h.within in omega arith), sym (m.how e) ∙ h.prepare, h.known) in
      let latest : Latest w.known e = record { is = is; last = λ x l p. h.last x (omega arith) (m.how x ∙ p) } in
      let fits : Fit w.known e me = h.fit in
      record {
        unlearned = λ l.
            let m : w.known.members (w.known.prepared e) me ≡ true = ⊎_elim (λ (x : w.known.members (w.known.prepared e) me ≡ true). x) (λ (x : w.known.carries e me ≡ true). absurd (let y = (ok.seals me).carries e x in omega arith)) fits in (
              promise_is w.known ok.known me (w.members me) (ok.views me) (ok.seals me) (ok.keeps me) e is l m,
              some_of (w.members me).live (w.known.list (w.known.prepared e)) ((ok.keeps me).unlearned e latest l m h.intact) ((ok.seals me).unlearned e is l m),
            );
        learned = λ x. some_of (w.members me).image (w.known.list (w.known.prepared e))
            ((ok.keeps me).sealed (rw x latest) (rw x fits) h.intact)
            (λ r i. (ok.seals me).sealed (rw x is) (rw x fits) r i ∙ ap (λ e. w.known.list (w.known.prepared e)) x);
        rolled = λ edits l how p i. (ok.seals me).rolled e (omega arith) (sym (m.how (e + 1)) ∙ how) is p fits edits i;
      }

  pub survivors_keep : SurvivorsKeep w
  survivors_keep e me u s = keeps_sealed e me u s

  named_learned : (s : Member) (epoch : ℕ) (fails : Bool) (list : List Edit) → (fails ≡ true → s.intact ≡ false) → s.intact ≡ true → s.image ≡ Some list
      → ((learned s epoch Rollback fails).live ≡ Some list) × ((learned s epoch Rollback fails).promise ≡ start_of epoch) × ((learned s epoch Rollback fails).epoch ≡ epoch)
  named_learned s epoch true list sound intact is = absurd (false_true s.intact (sound refl) intact)
  named_learned s epoch false list sound intact is = rw is (refl, refl, refl)

  only : (j me : ℕ) → is_of (me ∷ []) j ≡ true → j ≡ me
  only j me h = ⊎_elim (λ (e : eqb j me ≡ true). eqb-true j me e) (λ (e : is_of [] j ≡ true). absurd (cc)) (or_cases (eqb j me) (is_of [] j) h)

  pub survivors_name : SurvivorsName w
  survivors_name me rolling s =
      let m = ok.entry in
      let x = m.rolling rolling in
      let next : x.e + 1 ≡ w.entry.epoch = (let n = x.next in let p = m.epoch in omega arith) in
      let u : IsUpgrading w x.e = inr (next, rolling) in
      let k = keeps_sealed x.e me u s in
      record {
        accepts = λ told. (rolling, λ keeps. (s.known, λ j h. rw (only j me h) (s.fit, told)));
        again = λ h. let r = k.rolled (h ∙ sym next) in (r.1, r.0 ∙ ap start_of (next ∙ sym h));
        learns = λ h fails can.
            let image = k.learned (let n = next in omega arith) in
            let n = named_learned (w.members me) ((w.members me).epoch + 1) fails (prepared_list w) can.1 s.intact image in
            rw (eq-eqb me me refl) (n.0, n.1 ∙ ap start_of (sym n.2));
      }

  pub gives_back : (members : List ℕ) → Can w (CommitsRollback members true) → GivesBack w members
  gives_back members can =
      let m = ok.entry in
      let r = can.0 in
      let x = can.1 refl in
      let c = committing w ok r in
      let was = prepared_then w ok r x.0 in
      let fit : (j : ℕ) → is_of members j ≡ true → Fit w.known (w.known.current - 1) j × (start_of w.known.current ≤ w.known.promise j) × (w.known.base (w.known.prepared (w.known.current - 1)) ≤ w.known.reached j (start_of w.known.current)) =
      λ j h. let y = x.1 j h in restores w ok r x.0 j y.0 y.1 in
      let stamp = (m.prepared (w.known.current - 1) c.is was).stamp in
      record {
        list = rw (m.epoch, stamp) (commit.list-new w.known ok.known c.how c.below members c.positive was fit);
        promise = λ me h. let p = (fit me h).1 in let v = (ok.views me).promise in let e = ap start_of m.epoch in omega arith;
        live = λ me edits h p is. rw stamp (commit.restored_list w.known ok.known c.how c.below members c.positive was fit me (w.members me) (ok.views me) (ok.seals me) (p ∙ ap start_of m.epoch) h edits is);
      }
