-- What a member of a view that was told may be asked for.
use Rattle.std.proofs.Common.{◌≡◌, ◌≢◌, ℕ, zero, suc, ◌+◌, ◌<◌, ◌≤◌, inl, inr, ⊎_elim, List, [], ◌∷◌, ◌++◌, length, take, drop, Option, Some, None, true, false, cond, eqb, refl, sym, ap, ◌∙◌, subst, arith}
use Rattle.std.specs.Prelude.{is_some}
use Rattle.std.specs.List.{All}
use Rattle.std.proofs.lemmas.List.{take-take, take-append-le, take-append-drop}
use Rattle.std.proofs.lemmas.Option.{slice_get_within}
use Rattle.std.proofs.lemmas.Bool.{cond_both, cases_eq, cases_lt, eq-eqb, ne_eqb}
use Rattle.std.proofs.lemmas.List.Elements.{All-append, All-nil, All-cons, All-contains}
use Rattle.gs_base.specs.declared.epoch.EpochEnd.{EpochEnd}
use Rattle.gs_base.specs.declared.epoch.EpochEnd.TheVariants.{Prepare, Finalize, Rollback}
use Rattle.gs_replica.specs.Stands.{Edit}
use Rattle.gs_laws_chunk.specs.machine.Stamps.{epoch_of, start_of}
use Rattle.gs_laws_chunk.specs.machine.Machine.{Member, Message, Create, Advance, Promised, Grant, Forward, Ack, Done, CopyOut, CopyIn, Report, Drop, Epoch, Learned, Known, ChunkWorld, WasTold}
use Rattle.gs_laws_chunk.specs.machine.Events.{Event, Raises, Rises, Promises, SendsCopy, TakesLease, Numbers, Forwards, Applies, Acknowledges, Hears, Closes, Answers, Spends, Drops, Loses, Damages, Learns, Names, Reports, Proposes, AsksFirst, Asks, AsksForCopy, GivesUp, Holds, Settles, Grants, Retires, SendsDrop, Prepares, Finalizes, BeginsRollback, CommitsRollback, TellsEpoch, Can, Step, quiet, one, after, steps, sends, rolled, reports, happens, born, Leads, Rests, Goes}
use Rattle.gs_laws_chunk.specs.machine.Laws.{world_of, IsReached, BeginsList, settled_count, settled, ReadsAreLegal}
use Rattle.gs_laws_chunk.proofs.lemmas.machine.Lists.{some_same, nil_list, there}
use Rattle.gs_laws_chunk.proofs.lemmas.machine.Stamps.{epoch_of-le, epoch_of-start}
use Rattle.gs_laws_chunk.proofs.lemmas.machine.Known.{Grows, Prefix, Settled, Undone, false_true, KnownOk, Later}
use Rattle.gs_laws_chunk.proofs.lemmas.machine.Members.{Prefix-nil}
use Rattle.gs_laws_chunk.proofs.lemmas.machine.Steps.{promise-same, reached-stamp}
use Rattle.gs_laws_chunk.proofs.lemmas.machine.Worlds.{WorldOk, said, moving, bare_now, whole_prefix, born_world, happens_world, leads_world, leads_later}
use Rattle.gs_laws_chunk.proofs.lemmas.machine.Facts as facts
use Rattle.gs_laws_chunk.proofs.lemmas.machine.Stays.{Along, stays, below_base, settled_here}
use Rattle.gs_laws_chunk.proofs.lemmas.machine.Sources.{Former, Origin, Says, SaysOk, NewAbove, Former_grown, Origin_grown, Says_grown, says_grown}

pub record ReadsOk (w : ChunkWorld) : Type 0 where
  pub sources : (j : ℕ) (r : List Edit) → (w.members j).live ≡ Some r → Origin w.known (w.members j).promise r
  pub says : All (SaysOk w.known) w.sent
  pub before : w.known.view < w.known.top → w.known.stood w.known.view ≡ true

one_says : (k : Known) (j : ℕ) (m : Message) → Says k j m → All (SaysOk k) (one j m)
one_says k j m h = All-cons (SaysOk k) _ [] h (All-nil (SaysOk k))

reports_say : (k : Known) (j : ℕ) (s : Member) (live : Option (List Edit)) → All (SaysOk k) (reports j s live)
reports_say k j s None = All-nil (SaysOk k)
reports_say k j s (Some r) = one_says k j (Report s.epoch s.promise) tt

-- no view stands anew
none_new : (k b : Known) → KnownOk k → ((u : ℕ) → b.stood u ≡ k.stood u) → NewAbove k b
none_new k b known same u l s = absurd (false_true (k.stood u) (known.fresh u l).3 (sym (same u) ∙ s))

module _ (w : ChunkWorld) (ok : WorldOk w) (reads : ReadsOk w) where
  told : (j : ℕ) (m : Message) → WasTold w j m → Says w.known j m
  told j m h = All-contains (SaysOk w.known) w.sent (record { server = j; body = m }) reads.says h

  -- a server's step, with where the replica behind it is from
  step_reads : (j : ℕ) (st : Step) → Grows w.known (after w.known j st) → (NewAbove w.known (after w.known j st) → (r : List Edit) → st.member.live ≡ Some r → Origin (after w.known j st) st.member.promise r)
      → (NewAbove w.known (after w.known j st) → All (SaysOk (after w.known j st)) st.sends) → ReadsOk (steps w j st)
  step_reads j st g own says =
      let new : NewAbove w.known (after w.known j st) = none_new w.known (after w.known j st) ok.known (λ u. refl) in record {
        sources = λ i. cond_both (eqb i j) st.member (w.members i) (λ (m : Member). (r : List Edit) → m.live ≡ Some r → Origin (after w.known j st) m.promise r)
            (λ h. own new)
            (λ h r is. Origin_grown w.known (after w.known j st) g new (w.members i).promise r (reads.sources i r is));
        says = All-append (SaysOk (after w.known j st)) w.sent st.sends (says_grown w.known (after w.known j st) g new w.sent reads.says) (says new);
        before = reads.before;
      }

  -- the live replica stays, or goes
  kept_reads : (j : ℕ) (st : Step) → Grows w.known (after w.known j st) → st.member.promise ≡ (w.members j).promise → ((r : List Edit) → st.member.live ≡ Some r → (w.members j).live ≡ Some r)
      → All (SaysOk (after w.known j st)) st.sends → ReadsOk (steps w j st)
  kept_reads j st g same live says = step_reads j st g
      (λ new r is. subst (λ p. Origin (after w.known j st) p r) (sym same) (Origin_grown w.known (after w.known j st) g new (w.members j).promise r (reads.sources j r (live r is)))) (λ new. says)

  sends_reads : (j : ℕ) (m : Message) → Says w.known j m → ReadsOk (sends w j m)
  sends_reads j m h = record { sources = reads.sources; before = reads.before; says = All-append (SaysOk w.known) w.sent (one j m) reads.says (one_says w.known j m h) }

  -- the master's part moves
  entry_reads : (w' : ChunkWorld) → Grows w.known w'.known → NewAbove w.known w'.known → ((j : ℕ) (r : List Edit) → (w'.members j).live ≡ Some r → ((w.members j).live ≡ Some r) × ((w'.members j).promise ≡ (w.members j).promise)) → w'.sent ≡ w.sent
      → (w'.known.view < w'.known.top → w'.known.stood w'.known.view ≡ true) → ReadsOk w'
  entry_reads w' g new same sent before = record {
    sources = λ j r is. let h = same j r is in subst (λ p. Origin w'.known p r) (sym h.1) (Origin_grown w.known w'.known g new (w.members j).promise r (reads.sources j r h.0));
    says = subst (All (SaysOk w'.known)) (sym sent) (says_grown w.known w'.known g new w.sent reads.says);
    before = before;
  }

  -- the settled view is the one before the stamp that is proposed
  former_now : w.known.view < w.known.top → Former w.known w.known.top w.known.view
  former_now v = record {
    within = omega arith;
    under = v;
    top = omega arith;
    epoch = (ok.known).topepoch;
    stood = reads.before v;
    next = λ u s l m. false_true (w.known.stood u) ((ok.known).fresh u l).3 s;
    rolled = λ E l h s. ⊎_elim (λ (x : start_of E ≤ w.known.view). x) (λ (x : (E ≡ w.known.current) × (w.known.top < start_of E)). let y = x.1 in absurd (omega arith)) ((ok.known).rolled E l h).1;
  }

  -- what is brought to the first servers of a chunk
  first_origin : w.entry.view.stamp < w.entry.top → w.entry.view.members ≡ [] → (r : List Edit) → Prefix (w.known.list w.known.view) r → length r ≡ length (w.known.list w.known.view) → Origin w.known w.known.top r
  first_origin up none r begins whole = inr (inl (record { view = w.known.view; former = former_now (moving w ok up); begins = begins; covers = inl ((bare_now w ok none).holder, whole) }))

  -- a member of the view before goes on to the stamp with what it has
  rises_origin : (me t : ℕ) (r : List Edit) → (w.members me).promise < t → Says w.known me (Advance t) → (w.members me).live ≡ Some r
      → (b : Known) → Grows w.known b → NewAbove w.known b → b.promise me ≡ t → ((u : ℕ) → u ≢ t → b.reached me u ≡ w.known.reached me u) → Origin b t r
  rises_origin me t r up h is b g new now reach =
      let v = h.0 in let f = h.1 in
      let p = (w.members me).promise in
      let views = ok.views me in
      let mine = views.promise in
      let low = (ok.known).members v me f.within h.2 in
      elim (cases_eq v p) [
        | inl e ↦
            let x = views.member (let y = f.within in omega arith) (subst (λ p. w.known.members p me ≡ true) e h.2) r is in
            let c : w.known.reached me v ≡ length r = ap (w.known.reached me) e ∙ views.count r is in
            inr (inl (record {
              view = v;
              former = Former_grown w.known b g new t v f;
              begins = let m = g.list v f.within in facts.prefix_more (w.known.list v) m.0 (b.list v) r m.1 (subst (λ p. Prefix (w.known.list p) r) (sym e) x.1);
              covers = inr (me, g.members v me f.within ∙ h.2, (let y = f.under in omega arith), (let y = reach v (λ z. let y = f.under in omega arith) in omega arith));
            }))
        | inr d ↦
            let less : v < p = omega arith in
            elim (reads.sources me r is) [
              | inl x ↦ absurd (f.next p x.stood less up)
              | inr y ↦ elim y [
                | inl x ↦ let o = x.former in Origin_grown w.known b g new t r (inr (inl (record {
                  view = x.view;
                  begins = x.begins;
                  covers = x.covers;
                  former = record {
                    within = o.within;
                    under = (let z = o.under in omega arith);
                    top = f.top;
                    epoch = f.epoch;
                    stood = o.stood;
                    next = λ u s l m. ⊎_elim
                        (λ (z : u < p). o.next u s l z)
                        (λ (z : p ≤ u). f.next u s (omega arith) m)
                        (cases_lt u p);
                    rolled = λ E l q s. let y = f.rolled E l q s in o.rolled E l q (omega arith);
                  };
                })))
                | inr x ↦ absurd (let z = x.is in let y = f.rolled x.E x.within x.how (omega arith) in omega arith)
              ]
            ]
      ]

  stepped : (j : ℕ) (st : Step) → WorldOk (steps w j st) → (r : List Edit) → st.member.promise ≤ w.known.view → w.known.members st.member.promise j ≡ true → st.member.live ≡ Some r → Origin (after w.known j st) st.member.promise r
  stepped j st okw r within m is =
      let views = rw (eq-eqb j j refl) at (okw.views j) in
      let x = views.member within m r is in
      inl (record { within = within; stood = (ok.known).peopled st.member.promise j within m; begins = x.1; base = x.0 })

rolled_origin : (k : Known) (m : Member) (E : ℕ) (i : Option (List Edit)) → E ≤ k.current → k.how E ≡ Rollback → (r : List Edit) → (rolled m E i).live ≡ Some r → Origin k (rolled m E i).promise r
rolled_origin k m E None within how r is = absurd (cc)
rolled_origin k m E (Some x) within how r is = inr (inr (record { E = E; is = refl; within = within; how = how }))

pub reads_world : (w : ChunkWorld) → (ok : WorldOk w) → ReadsOk w → (e : Event) → Can w e → ReadsOk (happens w e)
reads_world w ok reads (Raises me t edits image) can =
    let g = (happens_world w ok (Raises me t edits image) can).grows in
    step_reads w ok reads me _ g (λ new r is. elim can.2 [
      | inl x ↦ let e : [] ≡ r = sym x.1 ∙ some_same edits r is in subst (Origin _ t) e (Says_grown w.known _ g new me (Create t) (told w ok reads me (Create t) x.0))
      | inr x ↦ subst (Origin _ t) (some_same edits r is) (Says_grown w.known _ g new me (CopyIn t edits image) (told w ok reads me (CopyIn t edits image) x))
    ]) (λ new. one_says _ me (Promised t (length edits) (is_some image)) tt)
reads_world w ok reads (Rises me t edits) can =
    let st : Step = quiet (record (w.members me) { promise = t; carried = false; live = Some edits; lease = None }) (one me (Promised t (length edits) false)) in
    let g = (happens_world w ok (Rises me t edits) can).grows in
    step_reads w ok reads me _ g (λ new r is. subst (Origin _ t) (some_same edits r is)
    (rises_origin w ok reads me t edits can.0 (told w ok reads me (Advance t) can.2) can.3 _ g new (promise-same w.known me (w.members me) st) (λ u d. reached-stamp w.known me (w.members me) st me u d)))
    (λ new. one_says _ me (Promised t (length edits) false) tt)
reads_world w ok reads (Promises me edits) can = kept_reads w ok reads me _ (happens_world w ok (Promises me edits) can).grows refl (λ r is. is) (one_says _ me (Promised (w.members me).promise (length edits) (w.members me).carried) tt)
reads_world w ok reads (SendsCopy me t target edits image) can =
    let b : Known = (happens w (SendsCopy me t target edits image)).known in
    let g = (happens_world w ok (SendsCopy me t target edits image) can).grows in
    step_reads w ok reads me _ g (λ new r is. Origin_grown w.known b g new (w.members me).promise r (reads.sources me r is))
    (λ new. one_says b target (CopyIn t edits image) (subst (λ p. Origin b p edits) (sym can.0) (Origin_grown w.known b g new (w.members me).promise edits (reads.sources me edits can.2))))
reads_world w ok reads (TakesLease me t ms) can = kept_reads w ok reads me _ (happens_world w ok (TakesLease me t ms) can).grows refl (λ r is. is) (All-nil (SaysOk _))
reads_world w ok reads (Numbers me l edits e) can =
    let m = happens_world w ok (Numbers me l edits e) can in
    let lease = (ok.views me).lease l can.0 in
    step_reads w ok reads me _ m.grows (λ new r is. stepped w ok reads me _ m.ok r (let x = lease.within in let y = ((ok.views me).same l can.0).0 in omega arith)
    (subst (λ t. w.known.members t me ≡ true) ((ok.views me).same l can.0).0 ((ok.known).held l.stamp me lease.within lease.holder)) is) (λ new. All-nil (SaysOk _))
reads_world w ok reads (Forwards me l to place e) can = kept_reads w ok reads me _ (happens_world w ok (Forwards me l to place e) can).grows refl (λ r is. is) (one_says _ to (Forward l.stamp place e) tt)
reads_world w ok reads (Applies me edits e) can =
    let m = happens_world w ok (Applies me edits e) can in
    let h = said w ok me (Forward (w.members me).promise (length edits) e) can.1 in
    step_reads w ok reads me _ m.grows (λ new r is. stepped w ok reads me _ m.ok r h.0 h.1 is) (λ new. All-nil (SaysOk _))
reads_world w ok reads (Acknowledges me edits) can = kept_reads w ok reads me _ (happens_world w ok (Acknowledges me edits) can).grows refl (λ r is. is) (one_says _ me (Ack (w.members me).promise (length edits)) tt)
reads_world w ok reads (Hears me l from count) can = kept_reads w ok reads me _ (happens_world w ok (Hears me l from count) can).grows refl (λ r is. is) (All-nil (SaysOk _))
reads_world w ok reads (Closes me l place) can = kept_reads w ok reads me _ (happens_world w ok (Closes me l place) can).grows refl (λ r is. is) (All-nil (SaysOk _))
reads_world w ok reads (Answers me l place e) can = kept_reads w ok reads me _ (happens_world w ok (Answers me l place e) can).grows refl (λ r is. is) (one_says _ me (Done l.stamp place e) tt)
reads_world w ok reads (Spends me) can = kept_reads w ok reads me _ (happens_world w ok (Spends me) can).grows refl (λ r is. is) (All-nil (SaysOk _))
reads_world w ok reads (Drops me) can = kept_reads w ok reads me _ (happens_world w ok (Drops me) can).grows refl (λ r is. absurd (cc)) (All-nil (SaysOk _))
reads_world w ok reads (Loses me) can = kept_reads w ok reads me _ (happens_world w ok (Loses me) can).grows refl (λ r is. absurd (cc)) (All-nil (SaysOk _))
reads_world w ok reads (Damages me) can = kept_reads w ok reads me _ (happens_world w ok (Damages me) can).grows refl (λ r is. is) (All-nil (SaysOk _))
reads_world w ok reads (Learns me Prepare fails) can = kept_reads w ok reads me _ (happens_world w ok (Learns me Prepare fails) can).grows refl (λ r is. is) (All-nil (SaysOk _))
reads_world w ok reads (Learns me Finalize fails) can = kept_reads w ok reads me _ (happens_world w ok (Learns me Finalize fails) can).grows refl (λ r is. is) (All-nil (SaysOk _))
reads_world w ok reads (Learns me Rollback fails) can =
    let h = said w ok me (Epoch ((w.members me).epoch + 1) Rollback) can.0 in
    step_reads w ok reads me _ (happens_world w ok (Learns me Rollback fails) can).grows
    (λ new r is. rolled_origin _ (w.members me) ((w.members me).epoch + 1) (cond fails None (w.members me).image) h.0 h.1 r is) (λ new. All-nil (SaysOk _))
reads_world w ok reads (Names me edits) can = kept_reads w ok reads me _ (happens_world w ok (Names me edits) can).grows refl (λ r is. is) (one_says _ me (Learned (w.members me).epoch) tt)
reads_world w ok reads (Reports me) can = kept_reads w ok reads me _ (happens_world w ok (Reports me) can).grows refl (λ r is. is) (reports_say _ me (w.members me) (w.members me).live)
reads_world w ok reads (Proposes t asked) can =
    let g = (happens_world w ok (Proposes t asked) can).grows in
    entry_reads w ok reads (happens w (Proposes t asked)) g (none_new w.known (happens w (Proposes t asked)).known ok.known (λ u. refl)) (λ j r is. (is, refl)) refl (λ v. (ok.known).now (sym (ok.entry).standing ∙ can.0))
reads_world w ok reads (AsksFirst to false) can = sends_reads w ok reads to (Create w.entry.top) (subst (λ t. Origin w.known t []) (sym (ok.entry).top)
    (first_origin w ok reads can.0 can.1 [] (Prefix-nil (w.known.list w.known.view)) (sym (ap length (ap w.known.list (sym (ok.entry).stamp) ∙ can.2 refl)))))
reads_world w ok reads (AsksFirst to true) can = sends_reads w ok reads to (CopyIn w.entry.top (w.known.list w.entry.view.stamp) None) (rw ((ok.entry).top, (ok.entry).stamp)
    (first_origin w ok reads can.0 can.1 (w.known.list w.known.view) (whole_prefix (w.known.list w.known.view)) refl))
reads_world w ok reads (Asks to) can = sends_reads w ok reads to (Advance w.entry.top) (w.known.view, rw (ok.entry).top (former_now w ok reads (moving w ok can.0)), (ok.entry).members to ∙ can.1)
reads_world w ok reads (AsksForCopy source target with_image) can = sends_reads w ok reads source (CopyOut w.entry.top target with_image) tt
reads_world w ok reads GivesUp can = entry_reads w ok reads (happens w GivesUp) (happens_world w ok GivesUp can).grows (none_new w.known (happens w GivesUp).known ok.known (λ u. refl)) (λ j r is. (is, refl)) refl reads.before
reads_world w ok reads (Holds server) can = entry_reads w ok reads (happens w (Holds server)) (happens_world w ok (Holds server) can).grows (none_new w.known (happens w (Holds server)).known ok.known (λ u. refl)) (λ j r is. (is, refl)) refl reads.before
reads_world w ok reads (Settles ms count holder) can = entry_reads w ok reads _ (happens_world w ok (Settles ms count holder) can).grows
    (λ u l s. ⊎_elim (λ (e : u ≡ w.known.top). omega arith) (λ (d : u ≢ w.known.top). absurd (false_true (w.known.stood u) ((ok.known).fresh u l).3 (rw (ne_eqb u w.known.top d) at s))) (cases_eq u w.known.top))
    (λ j r is. (is, refl)) refl (λ v. absurd (omega arith))
reads_world w ok reads (Grants to) can = sends_reads w ok reads to (Grant w.entry.view.stamp w.entry.view.members) tt
reads_world w ok reads Retires can = entry_reads w ok reads (happens w Retires) (happens_world w ok Retires can).grows (none_new w.known (happens w Retires).known ok.known (λ u. refl)) (λ j r is. (is, refl)) refl reads.before
reads_world w ok reads (SendsDrop to p) can = sends_reads w ok reads to (Drop w.entry.epoch p) tt
reads_world w ok reads (Prepares whole) can = entry_reads w ok reads (happens w (Prepares whole)) (happens_world w ok (Prepares whole) can).grows (none_new w.known (happens w (Prepares whole)).known ok.known (λ u. refl)) (λ j r is. (is, refl)) refl reads.before
reads_world w ok reads Finalizes can = entry_reads w ok reads (happens w Finalizes) (happens_world w ok Finalizes can).grows (none_new w.known (happens w Finalizes).known ok.known (λ u. refl)) (λ j r is. (is, refl)) refl reads.before
reads_world w ok reads BeginsRollback can = entry_reads w ok reads (happens w BeginsRollback) (happens_world w ok BeginsRollback can).grows (none_new w.known (happens w BeginsRollback).known ok.known (λ u. refl)) (λ j r is. (is, refl)) refl reads.before
reads_world w ok reads (CommitsRollback ms true) can = entry_reads w ok reads _ (happens_world w ok (CommitsRollback ms true) can).grows
    (λ u l s. let t = (happens_world w ok (CommitsRollback ms true) can).grows in ⊎_elim (λ (e : u ≡ start_of w.known.current). let y = t.top in omega arith) (λ (d : u ≢ start_of w.known.current). absurd (false_true (w.known.stood u) ((ok.known).fresh u l).3 (rw (ne_eqb u (start_of w.known.current) d) at s))) (cases_eq u (start_of w.known.current)))
    (λ j r is. (is, refl)) refl (λ v. absurd (omega arith))
reads_world w ok reads (CommitsRollback ms false) can = entry_reads w ok reads _ (happens_world w ok (CommitsRollback ms false) can).grows
    (λ u l s. let t = (happens_world w ok (CommitsRollback ms false) can).grows in ⊎_elim (λ (e : u ≡ start_of w.known.current). let y = t.top in omega arith) (λ (d : u ≢ start_of w.known.current). absurd (false_true (w.known.stood u) ((ok.known).fresh u l).3 (rw (ne_eqb u (start_of w.known.current) d) at s))) (cases_eq u (start_of w.known.current)))
    (λ j r is. (is, refl)) refl (λ v. absurd (omega arith))
reads_world w ok reads (TellsEpoch to epoch) can = sends_reads w ok reads to (Epoch epoch (w.entry.how epoch)) tt

pub born_reads : (epoch : ℕ) (how : ℕ → EpochEnd) (origin : List Edit) → ReadsOk (born epoch how origin)
born_reads epoch how origin = record { sources = λ j r is. absurd (cc); says = All-nil (SaysOk _); before = λ v. absurd (omega arith) }

pub leads_reads : (w last : ChunkWorld) → Leads w last → WorldOk w → ReadsOk w → ReadsOk last
leads_reads w last (Rests) ok reads = reads
leads_reads w last (Goes v e before can) ok reads = reads_world v (leads_world w v before ok) (leads_reads w v before ok reads) e can

pub reached_reads : (w : ChunkWorld) → IsReached w → ReadsOk w
reached_reads w r = let b = r.0 in leads_reads (world_of b) w r.1 (born_world b.epoch b.how b.origin (facts.rising_of b.origin b.numbered)) (born_reads b.epoch b.how b.origin)

-- a list that a replica begins, with all that was settled under an earlier stamp
record Found (k : Known) (S : ℕ) (r : List Edit) : Type 0 where
  stamp : ℕ
  later : S ≤ stamp
  within : stamp ≤ k.view
  begins : Prefix (k.list stamp) r
  enough : (place : ℕ) (edit : Edit) → Settled k S place edit → (place < length r) × (take (place + 1) (k.list stamp) ≡ take (place + 1) (k.list S))

module _ (w : ChunkWorld) (ok : WorldOk w) (reads : ReadsOk w) (S me : ℕ) (r : List Edit) (is : (w.members me).live ≡ Some r) (within : S ≤ w.known.view) (stood : w.known.stood S ≡ true) (member : w.known.members S me ≡ true)
    (low : S ≤ (w.members me).promise) (quiet : (E : ℕ) → E ≤ (w.members me).epoch → w.known.how E ≡ Rollback → start_of E ≤ S) where
  -- no rollback under the promise undid the view
  standing : (u : ℕ) → u ≤ (w.members me).promise → Undone w.known S u → ⊥
  standing u l x =
      let a = x.accepted in
      let b = epoch_of-le (start_of (x.e + 1)) (w.members me).promise (omega arith) in
      let c = epoch_of-start (x.e + 1) in
      let d = (ok.seals me).low in
      let e = quiet (x.e + 1) (omega arith) x.how in
      let f = x.before in omega arith

  found_above : S < (w.members me).promise → Origin w.known (w.members me).promise r → Found w.known S r
  found_above up o = elim o [
    | inl x ↦ record {
      stamp = (w.members me).promise;
      later = low;
      within = x.within;
      begins = x.begins;
      enough = λ place edit s. (
        (let b = below_base w.known ok.known (w.members me).promise S place edit x.within x.stood up (standing (w.members me).promise (omega arith)) s in let c = x.base in omega arith),
        (stays w.known ok.known (w.members me).promise S place edit x.within x.stood low (standing (w.members me).promise (omega arith)) s).same,
      );
    }
    | inr y ↦ elim y [
      | inl x ↦
          let f = x.former in
          let back : S ≤ x.view = ⊎_elim (λ (z : x.view < S). absurd (f.next S stood z up)) (λ (z : S ≤ x.view). z) (cases_lt x.view S) in
          let along : (place : ℕ) (edit : Edit) → Settled w.known S place edit → Along w.known S x.view place edit =
          λ place edit s. stays w.known ok.known x.view S place edit f.within f.stood back (standing x.view (let z = f.under in omega arith)) s in
          record {
            stamp = x.view;
            later = back;
            within = f.within;
            begins = x.begins;
            enough = λ place edit s. let a = along place edit s in (
              elim x.covers [
                | inl z ↦ (let q = slice_get_within (w.known.list x.view) place edit a.settled.stands in let l = z.1 in omega arith)
                | inr z ↦ (let q = (a.settled.members z.0 z.1).low in let l = z.3 in omega arith)
              ],
              a.same,
            );
          }
      | inr x ↦ absurd (let z = x.is in let a = epoch_of-start x.E in let b = ap epoch_of z in let c = (ok.seals me).low in let q = quiet x.E (omega arith) x.how in omega arith)
    ]
  ]

  found_same : S ≡ (w.members me).promise → Found w.known S r
  found_same e =
      let views = ok.views me in
      let x = views.member (omega arith) (subst (λ p. w.known.members p me ≡ true) e member) r is in record {
        stamp = S;
        later = omega arith;
        within = within;
        begins = subst (λ p. Prefix (w.known.list p) r) (sym e) x.1;
        enough = λ place edit s. ((let l = (s.members me member).low in let c = views.count r is in let q = ap (w.known.reached me) e in omega arith), refl);
      }

  found : Found w.known S r
  found = elim (cases_eq S (w.members me).promise) [
    | inl e ↦ found_same e
    | inr d ↦ found_above (omega arith) (reads.sources me r is)
  ]

take_length : (c : ℕ) (xs : List Edit) → take (length (take c xs)) xs ≡ take c xs
take_length zero xs = refl
take_length (suc c) [] = refl
take_length (suc c) (x ∷ xs) = ap (λ (ys : List Edit). x ∷ ys) (take_length c xs)

length_least : (c : ℕ) (xs : List Edit) → length (take c xs) ≤ length xs
length_least zero xs = omega arith
length_least (suc c) [] = omega arith
length_least (suc c) (x ∷ xs) = let h = length_least c xs in omega arith

module _ (w : ChunkWorld) (ok : WorldOk w) (last : ChunkWorld) (leads : Leads w last) (standing' : w.entry.is_known ≡ true) (r : List Edit) (f : Found last.known w.entry.view.stamp r) where
  later' : Later w.known last.known
  later' = leads_later w last leads ok

  enough_by : (n : ℕ) → length (settled w) ≡ n → BeginsList r (settled w)
  enough_by zero e = (r, sym (ap (λ (ys : List Edit). ys ++ r) (nil_list (settled w) e)))
  enough_by (suc m) e =
      let S = w.entry.view.stamp in
      let within : S ≤ w.known.view = (let s = (ok.entry).stamp in omega arith) in
      let x = there (settled w) m (omega arith) in
      let s = (later').settled S m x.0 (settled_here w ok standing' m x.0 x.1) in
      let h = f.enough m x.0 s in
      let l = (later').list S within in
      let long : m + 1 ≤ length (w.known.list S) = (let q = length_least (settled_count w) (w.known.list S) in omega arith) in
      let n : length (settled w) ≡ m + 1 = omega arith in
      let same : take (m + 1) r ≡ settled w =
      ap (take (m + 1)) f.begins.stands ∙ take-take (m + 1) (length r) (last.known.list f.stamp) (let y = h.0 in omega arith) ∙ h.1
      ∙ ap (take (m + 1)) l.1 ∙ take-append-le (m + 1) (w.known.list S) l.0 long
      ∙ ap (λ (i : ℕ). take i (w.known.list S)) (sym n) ∙ take_length (settled_count w) (w.known.list S) in
      (drop (m + 1) r, sym (ap (λ (ys : List Edit). ys ++ drop (m + 1) r) (sym same) ∙ take-append-drop (m + 1) r))

pub reads_are_legal : (w : ChunkWorld) → WorldOk w → ReadsOk w → (last : ChunkWorld) → Leads w last → ReadsAreLegal w last
reads_are_legal w ok reads last leads known quiet me edits member epoch low is =
    let okl = leads_world w last leads ok in
    let rl = leads_reads w last leads ok reads in
    let later = leads_later w last leads ok in
    let m = ok.entry in let ml = okl.entry in
    let S = w.entry.view.stamp in
    let within : S ≤ w.known.view = (let s = m.stamp in omega arith) in
    let f = found last okl rl S me edits is (let v = later.view in omega arith)
    (later.stood S within ∙ rw m.stamp ((ok.known).now (sym m.standing ∙ known)))
    (later.members S me within ∙ rw m.stamp (m.members me ∙ member))
    low
    (λ E l h. let c : E ≤ w.known.current = (let a = epoch in let b = m.epoch in omega arith) in let d = m.done quiet E c (sym (later.how E c) ∙ h) in let s = m.stamp in omega arith) in
    record {
      stamp = f.stamp;
      later = f.later;
      within = (let a = f.within in let b = ml.stamp in omega arith);
      begins = facts.begins_of (last.known.list f.stamp) edits f.begins;
      enough = enough_by w ok last leads known edits f (length (settled w)) refl;
    }
