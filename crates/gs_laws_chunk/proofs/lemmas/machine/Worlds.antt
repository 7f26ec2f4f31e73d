-- Every event keeps what holds of every world.
use Rattle.std.proofs.Common.{◌≡◌, ◌≢◌, ℕ, zero, suc, ◌+◌, ◌-◌, ◌<◌, ◌≤◌, ◌⊎◌, inl, inr, ⊎_elim, List, [], ◌∷◌, length, Option, Some, None, Bool, true, false, cond, eqb, refl, sym, ap, ◌∙◌, subst, arith, append-nil}
use Rattle.std.specs.Prelude.{nat_eq, slice_get}
use Rattle.std.specs.List.{All}
use Rattle.std.proofs.lemmas.List.{take_all}
use Rattle.std.proofs.lemmas.Bool.{cond_both, cases_eq, eqb-true, eqb-false, or_cases, or_left, eq-eqb, ne_eqb}
use Rattle.std.proofs.lemmas.List.Elements.{All-append, All-nil, All-contains}
use Rattle.gs_base.specs.declared.epoch.EpochEnd.{EpochEnd}
use Rattle.gs_base.specs.declared.epoch.EpochEnd.TheVariants.{Prepare, Finalize, Rollback}
use Rattle.gs_replica.specs.Stands.{Edit}
use Rattle.gs_laws_chunk.specs.machine.Stamps.{epoch_of, start_of}
use Rattle.gs_laws_chunk.specs.machine.Machine.{Member, Message, Create, Advance, Promised, Grant, Forward, Ack, CopyOut, CopyIn, Report, Drop, Epoch, Learned, View, Known, ChunkWorld, WasTold}
use Rattle.gs_laws_chunk.specs.machine.Events.{Event, Raises, Rises, Promises, SendsCopy, TakesLease, Numbers, Forwards, Applies, Acknowledges, Hears, Closes, Answers, Spends, Drops, Loses, Damages, Learns, Names, Reports, Proposes, AsksFirst, Asks, AsksForCopy, GivesUp, Holds, Settles, Grants, Retires, SendsDrop, Prepares, Finalizes, BeginsRollback, CommitsRollback, TellsEpoch, is_of, waits, IsNew, AsksAgain, IsFit, Can, Step, one, after, steps, sends, proposed, nobody, settled_known, settled_view, next_known, prepared_known, prepares, finalizes, begins_rollback, restored_known, removed_known, bare, restored_view, committed, happens, born_known, born, Leads, Rests, Goes, run, AllCan}
use Rattle.gs_laws_chunk.proofs.lemmas.machine.Lists.{some_same}
use Rattle.gs_laws_chunk.proofs.lemmas.machine.Stamps.{epoch_of-le, epoch_of-start, start_of-less}
use Rattle.gs_laws_chunk.proofs.lemmas.machine.Known.{Above, Grows_same, Bare, bare_of, Begins_grown, Rising, Restored, LeaseOk_grown, closed_grown, false_true, false_from, DropOk, ReportOk, KeepOk, Fit, IsPrepared, Stamped, Stamped_grown, Stands_grown, Grows, MessageOk, SentOk, sent_grown, Prefix, Prefix_grown, KnownOk, ViewsOk, SealOk, StepOk, Later, later_of, later_same, later_then}
use Rattle.gs_laws_chunk.proofs.lemmas.machine.Steps.{list-same, list-other, reached-server, promise-other, epoch-other, carries-other}
use Rattle.gs_laws_chunk.proofs.lemmas.machine.Members as members
use Rattle.gs_laws_chunk.proofs.lemmas.machine.Members.{begin_empty, stands_empty}
use Rattle.gs_laws_chunk.proofs.lemmas.machine.Moved.{seal_same, keep_same}
use Rattle.gs_laws_chunk.proofs.lemmas.machine.Settle as settle
use Rattle.gs_laws_chunk.proofs.lemmas.machine.Settle.{AnswerOk, Answered, Witness}
use Rattle.gs_laws_chunk.proofs.lemmas.machine.Turns as turns
use Rattle.gs_laws_chunk.proofs.lemmas.machine.Commit as commit
use Rattle.gs_laws_chunk.proofs.lemmas.machine.Entries.{IsCurrent, SameView_grown, EntryOk, entry_after}

pub record WorldOk (w : ChunkWorld) : Type 0 where
  pub views : (j : ℕ) → ViewsOk w.known j (w.members j)
  pub seals : (j : ℕ) → SealOk w.known j (w.members j)
  pub keeps : (j : ℕ) → KeepOk w.known j (w.members j)
  pub messages : All (SentOk w.known) w.sent
  pub known : KnownOk w.known
  pub entry : EntryOk w.known w.entry

some_number : (a b : ℕ) → Some a ≡ Some b → a ≡ b
some_number a b e = cc

-- a list that another server holds stays
list_kept : (k : Known) (me : ℕ) (st : Step) (s : Member) → ((st.edits ≡ []) ⊎ ((st.member.promise ≤ k.view) × (k.holder st.member.promise ≡ Some me))) → (i : ℕ) → i ≢ me → (t : ℕ) → k.holder t ≡ Some i → k.list t ≡ (after k me st).list t
list_kept k me st s lone i d t h = ⊎_elim
    (λ (e : t ≡ st.member.promise). ⊎_elim
    (λ (x : st.edits ≡ []). rw (e, list-same k me s st, x) (sym (append-nil (k.list st.member.promise))))
    (λ (x : (st.member.promise ≤ k.view) × (k.holder st.member.promise ≡ Some me)). absurd (d (some_number i me (sym h ∙ ap k.holder e ∙ x.1))))
    lone)
    (λ (n : t ≢ st.member.promise). sym (list-other k me s st t n))
    (cases_eq t st.member.promise)

-- a server that a step leaves alone
other_views : (k : Known) (me : ℕ) (old : Member) (st : Step) → StepOk k me old st → (i : ℕ) → i ≢ me → (s : Member) → ViewsOk k i s → ViewsOk (after k me st) i s
other_views k me old st step i d s ok = let g = step.grows in record {
  promise = promise-other k me old st i d ∙ ok.promise;
  epoch = epoch-other k me old st i d ∙ ok.epoch;
  count = λ r is. reached-server k me old st i s.promise d ∙ ok.count r is;
  idle = λ v t r is. Begins_grown k (after k me st) g r refl (ok.idle v t r is);
  mine = λ v t r is m. rw (reached-server k me old st i k.view d) (ok.mine v t r is m);
  member = λ v m r is. let h = ok.member v m r is in (h.0, Prefix_grown k (after k me st) g s.promise v r h.1);
  whole = λ v h r is. ok.whole v h r is ∙ ap length (list_kept k me st old step.lone i d s.promise h);
  lease = λ l e. LeaseOk_grown k (after k me st) g i l (ok.lease l e);
  same = ok.same;
  closed = λ l r e is n lt. closed_grown k (after k me st) g l.stamp ((ok.lease l e).within) n (waits l.waiting n) (ok.closed l r e is n lt);
  untaken = λ v h t. ap length (sym (list_kept k me st old step.lone i d s.promise h)) ∙ ok.untaken v h t;
  stands = λ r is. Stands_grown k (after k me st) g r (ok.stands r is);
  pictures = λ r is. Stands_grown k (after k me st) g r (ok.pictures r is);
}

other_seal : (k : Known) → KnownOk k → (me : ℕ) (old : Member) (st : Step) → Grows k (after k me st) → (i : ℕ) → i ≢ me → (s : Member) → SealOk k i s → SealOk (after k me st) i s
other_seal k known me old st g i d s = seal_same k (after k me st) known g i (record { current = refl; how = λ e. refl; prepared = λ e. refl; kept = λ e. refl; carries = λ e. carries-other k me old st e i d }) s

other_keep : (k : Known) → KnownOk k → (me : ℕ) (old : Member) (st : Step) → Grows k (after k me st) → (i : ℕ) → i ≢ me → (s : Member) → KeepOk k i s → KeepOk (after k me st) i s
other_keep k known me old st g i d s = keep_same k (after k me st) known g i (record { current = refl; how = λ e. refl; prepared = λ e. refl; kept = λ e. refl; carries = λ e. carries-other k me old st e i d }) s

finalize_rollback : (h : EpochEnd) → h ≡ Finalize → h ≡ Rollback → ⊥
finalize_rollback h a b = (cc)

above_at : (edits : List Edit) (e : Edit) → IsNew edits e → (i : ℕ) (a : Edit) → slice_get edits i ≡ Some a → a.req.client.0 ≡ e.req.client.0 → a.req.number < e.req.number
above_at [] e new i a at same = absurd (cc)
above_at (x ∷ xs) e new zero a at same = let s = some_same x a at in subst (λ (y : Edit). y.req.client.0 ≡ e.req.client.0 → y.req.number < e.req.number) s new.0 same
above_at (x ∷ xs) e new (suc i) a at same = above_at xs e new.1 i a at same

above_of : (edits : List Edit) (e : Edit) → IsNew edits e → Above edits e
above_of edits e new = record { above = above_at edits e new }

pub whole_prefix : (xs : List Edit) → Prefix xs xs
whole_prefix xs = record { within = omega arith; stands = sym (take_all (length xs) xs (omega arith)) }

none_of : (xs : List ℕ) (j : ℕ) → xs ≡ [] → is_of xs j ≡ false
none_of xs j e = rw e refl

-- an event keeps what holds, and more is known
pub record Moved (w w' : ChunkWorld) : Type 0 where
  pub ok : WorldOk w'
  pub grows : Grows w.known w'.known

module _ (w : ChunkWorld) (ok : WorldOk w) where
  pub said : (server : ℕ) (m : Message) → WasTold w server m → MessageOk w.known server m
  said server m h = All-contains (SentOk w.known) w.sent (record { server = server; body = m }) ok.messages h

  step_world : (j : ℕ) (st : Step) → StepOk w.known j (w.members j) st → Moved w (steps w j st)
  step_world j st s = record {
    grows = s.grows;
    ok = record {
      views = λ i. cond_both (eqb i j) st.member (w.members i) (ViewsOk (after w.known j st) i)
          (λ h. rw (eqb-true i j h) s.views)
          (λ h. other_views w.known j (w.members j) st s i (eqb-false i j h) (w.members i) (ok.views i));
      seals = λ i. cond_both (eqb i j) st.member (w.members i) (SealOk (after w.known j st) i)
          (λ h. rw (eqb-true i j h) s.seal)
          (λ h. other_seal w.known ok.known j (w.members j) st s.grows i (eqb-false i j h) (w.members i) (ok.seals i));
      keeps = λ i. cond_both (eqb i j) st.member (w.members i) (KeepOk (after w.known j st) i)
          (λ h. rw (eqb-true i j h) s.keep)
          (λ h. other_keep w.known ok.known j (w.members j) st s.grows i (eqb-false i j h) (w.members i) (ok.keeps i));
      messages = All-append (SentOk (after w.known j st)) w.sent st.sends (sent_grown w.known (after w.known j st) s.grows w.sent ok.messages) s.sends;
      known = s.known;
      entry = entry_after w.known j st w.entry s.grows ok.entry;
    };
  }

  -- a message that the master sends on what it knows
  sends_world : (server : ℕ) (m : Message) → MessageOk w.known server m → Moved w (sends w server m)
  sends_world server m h = record {
    grows = Grows_same w.known ok.known;
    ok = record { views = ok.views; seals = ok.seals; keeps = ok.keeps; known = ok.known; entry = ok.entry; messages = All-append (SentOk w.known) w.sent (one server m) ok.messages (members.one' w.known server m h) };
  }

  pub moving : w.entry.view.stamp < w.entry.top → w.known.view < w.known.top
  moving l = let a = (ok.entry).stamp in let b = (ok.entry).top in omega arith

  pub bare_now : w.entry.view.members ≡ [] → Bare w.known
  bare_now e = bare_of w.known ok.known (λ j. (ok.entry).members j ∙ none_of w.entry.view.members j e)

  pub answer_of : (j n : ℕ) (carried : Bool) → w.known.view < w.known.top → WasTold w j (Promised w.entry.top n carried) → AnswerOk w.known j n
  answer_of j n carried v told =
      let h = said j (Promised w.entry.top n carried) told in
      let same = (ok.entry).top in
      let x = h.2 (omega arith) in record {
        promise = (let p = h.0 in omega arith);
        count = x.0 ∙ ap (w.known.reached j) same;
        within = x.1;
        own = x.2;
        whole = x.3;
      }

  stamped_again : (me : ℕ) (t : ℕ) → AsksAgain w me t → Stamped w.known t
  stamped_again me t h = elim h [
    | inl x ↦ (said me (Advance t) x).0
    | inr x ↦ elim x.2 [
      | inl y ↦ (said me (Create t) y.0).0
      | inr y ↦ (said me (CopyIn t x.0 x.1) y).0
    ]
  ]

  raises_world : (me t : ℕ) (edits : List Edit) (image : Option (List Edit)) → Can w (Raises me t edits image) → Moved w (happens w (Raises me t edits image))
  raises_world me t edits image can = elim can.2 [
    | inl x ↦ let h = said me (Create t) x.0 in rw (x.1, x.2) (step_world me _ (members.brought_ok w.known ok.known me (w.members me) (ok.views me) (ok.seals me) (ok.keeps me) t [] None can.0 can.1 h.0
        (λ v. begin_empty w.known (h.1 v).1) (record { text = λ r e. absurd (cc) }) (λ v. (h.1 v).0.members me) (stands_empty w.known) (λ r e. absurd (cc))))
    | inr x ↦ let h = said me (CopyIn t edits image) x in step_world me _ (members.brought_ok w.known ok.known me (w.members me) (ok.views me) (ok.seals me) (ok.keeps me) t edits image can.0 can.1 h.0 h.1 h.2 h.3 h.4 h.5)
  ]

  proposes_world : (t : ℕ) (asked : ℕ → Bool) → Can w (Proposes t asked) → Moved w (proposed w t asked)
  proposes_world t asked can =
      let m = ok.entry in
      let quiet = can.1 in
      let done = m.done quiet in
      let here : epoch_of t ≡ w.known.current = can.2 ∙ m.epoch in
      let up : w.known.top < t = (let a = can.3 in let b = m.top in omega arith) in
      let later : start_of w.known.current < t = rw (← m.epoch) can.4 in
      let k' : Known = record (w.known) { top = t; asked = asked } in
      let g : Grows w.known k' = commit.begin_grows w.known ok.known t asked up here later done in
      let st : Stamped k' t = commit.begin_stamped w.known ok.known t asked up here later done in
      record {
        grows = g;
        ok = record {
          views = λ j. commit.begin_views_ok w.known ok.known t asked up here later done j (w.members j) (ok.views j) (ok.seals j);
          seals = λ j. commit.begin_seal_ok w.known ok.known t asked up here later done j (w.members j) (ok.seals j);
          keeps = λ j. commit.begin_keep_ok w.known ok.known t asked up here later done j (w.members j) (ok.keeps j);
          messages = sent_grown w.known k' g w.sent ok.messages;
          known = commit.begin_known_ok w.known ok.known t asked up here later done;
          entry = record {
            epoch = m.epoch;
            how = m.how;
            top = refl;
            standing = m.standing;
            stamp = m.stamp;
            members = m.members;
            count = m.count;
            holder = m.holder;
            asked = λ j. refl;
            asking = λ j h. can.0;
            stamped = λ v. st;
            odd = λ h s v. here;
            prepared = λ e c p. SameView_grown w.known k' g w.entry.prepared w.entry.holders e p (m.prepared e c p);
            was_known = m.was_known;
            rolling = λ r. absurd (false_true w.entry.is_rolling quiet r);
            done = m.done;
            straight = m.straight;
          };
        };
      }

  calm_world : (kept standing : Bool) → kept ≡ standing → (standing ≡ true → w.known.is_known ≡ true) → Moved w (record w { entry = record (w.entry) { asked = nobody; is_known = kept }; known = record (w.known) { asked = nobody; is_known = standing } })
  calm_world kept standing same less =
      let m = ok.entry in
      let k' : Known = record (w.known) { asked = nobody; is_known = standing } in
      let g : Grows w.known k' = commit.calm_grows w.known ok.known standing less in
      record {
        grows = g;
        ok = record {
          views = λ j. commit.calm_views_ok w.known ok.known standing less j (w.members j) (ok.views j);
          seals = λ j. commit.calm_seal_ok w.known ok.known standing less j (w.members j) (ok.seals j);
          keeps = λ j. commit.calm_keep_ok w.known ok.known standing less j (w.members j) (ok.keeps j);
          messages = sent_grown w.known k' g w.sent ok.messages;
          known = commit.calm_known_ok w.known ok.known standing less;
          entry = record {
            epoch = m.epoch;
            how = m.how;
            top = m.top;
            standing = same;
            stamp = m.stamp;
            members = m.members;
            count = m.count;
            holder = m.holder;
            asked = λ j. refl;
            asking = λ j h. absurd (cc);
            stamped = λ v. Stamped_grown w.known k' g w.known.top (m.stamped v);
            odd = m.odd;
            prepared = λ e c p. SameView_grown w.known k' g w.entry.prepared w.entry.holders e p (m.prepared e c p);
            was_known = m.was_known;
            rolling = λ r. let x = m.rolling r in record { e = x.e; next = x.next; was = x.was; how = x.how; below = x.below };
            done = m.done;
            straight = m.straight;
          };
        };
      }

  holds_world : (server : ℕ) → Can w (Holds server) → Moved w (happens w (Holds server))
  holds_world server can =
      let m = ok.entry in
      let v = moving can.1 in
      let x = can.2 in
      let h = said server (Promised w.entry.top x.0 true) x.1 in
      let here : w.known.how w.known.current ≡ Prepare = ap w.known.how (sym m.epoch) ∙ sym (m.how w.entry.epoch) ∙ can.0 in
      let carries : (e : ℕ) → IsCurrent w.known w.entry.is_rolling e → IsPrepared w.known e → w.known.carries e server ≡ true = λ e c p.
      elim c [
        | inl y ↦ let q : epoch_of w.entry.top ≡ e = ap epoch_of m.top ∙ m.odd here (ap w.known.kept (sym y.0) ∙ p.2) v ∙ sym y.0 in subst (λ e. w.known.carries e server ≡ true) q (h.3 refl)
        | inr y ↦ absurd (let r = m.rolling y.1 in turns.two_ends (w.known.how w.known.current) here (ap w.known.how r.next ∙ r.how))
      ] in
      record {
        grows = Grows_same w.known ok.known;
        ok = record {
          views = ok.views;
          seals = ok.seals;
          keeps = ok.keeps;
          known = ok.known;
          messages = ok.messages;
          entry = record {
            epoch = m.epoch;
            how = m.how;
            top = m.top;
            standing = m.standing;
            stamp = m.stamp;
            members = m.members;
            count = m.count;
            holder = m.holder;
            asked = m.asked;
            asking = m.asking;
            stamped = m.stamped;
            odd = m.odd;
            prepared = λ e c p. let s = m.prepared e c p in record {
              members = s.members;
              stamp = s.stamp;
              count = s.count;
              holding = λ j t. ⊎_elim
                  (λ (y : eqb j server ≡ true). rw (eqb-true j server y) (carries e c p))
                  (λ (y : w.entry.holders j ≡ true). s.holding j y)
                  (or_cases (eqb j server) (w.entry.holders j) t);
            };
            was_known = m.was_known;
            rolling = m.rolling;
            done = m.done;
            straight = m.straight;
          };
        };
      }

  first_asked : (ms : List ℕ) → ms ≢ [] → ((j : ℕ) → is_of ms j ≡ true → w.entry.asked j ≡ true) → w.entry.is_known ≡ true
  first_asked [] n h = absurd (n refl)
  first_asked (x ∷ xs) n h = (ok.entry).asking x (h x (or_left (eqb x x) _ (eq-eqb x x refl)))

  settles_world : (ms : List ℕ) (count : ℕ) (holder : Option ℕ) → Can w (Settles ms count holder) → Moved w (settled_view w ms count holder)
  settles_world ms count holder can =
      let m = ok.entry in
      let v = moving can.0 in
      let some = can.1 in
      let answers : (j : ℕ) → is_of ms j ≡ true → Answered w.known j count = λ j h. let x = can.2 j h in record { answer = answer_of j count x.1.0 v x.1.1; asked = m.asked j ∙ x.0 } in
      let standing : w.known.is_known ≡ true = sym m.standing ∙ first_asked ms some (λ j h. (can.2 j h).0) in
      let witness : Witness w.known count = elim can.3 [
        | inl e ↦ inl (bare_now e)
        | inr x ↦ inr (x.0, x.1, m.members x.0 ∙ x.3, answer_of x.0 x.1 x.2 v x.4, x.5)
      ] in
      let held = can.4 in
      let k' : Known = settled_known w.known ms count holder in
      let g : Grows w.known k' = settle.grows w.known ok.known ms count holder some answers held v standing witness (((ok.entry).stamped v).legit) in
      record {
        grows = g;
        ok = record {
          views = λ j. settle.views_ok w.known ok.known ms count holder some answers held v standing witness (((ok.entry).stamped v).legit) j (w.members j) (ok.views j);
          seals = λ j. settle.seal_ok w.known ok.known ms count holder some answers held v standing witness (((ok.entry).stamped v).legit) j (w.members j) (ok.views j) (ok.seals j);
          keeps = λ j. settle.keep_ok w.known ok.known ms count holder some answers held v standing witness (((ok.entry).stamped v).legit) j (w.members j) (ok.views j) (ok.keeps j);
          messages = sent_grown w.known k' g w.sent ok.messages;
          known = settle.known_ok w.known ok.known ms count holder some answers held v standing witness (((ok.entry).stamped v).legit);
          entry = record {
            epoch = m.epoch;
            how = m.how;
            top = m.top;
            standing = m.standing;
            stamp = m.top;
            members = settle.members-new w.known ok.known ms count holder some answers held v standing witness (((ok.entry).stamped v).legit);
            count = sym (settle.base-new w.known ok.known ms count holder some answers held v standing witness (((ok.entry).stamped v).legit));
            holder = sym (settle.holder-new w.known ok.known ms count holder some answers held v standing witness (((ok.entry).stamped v).legit));
            asked = λ j. refl;
            asking = λ j h. absurd (cc);
            stamped = λ x. absurd (omega arith);
            odd = λ h s x. absurd (omega arith);
            prepared = λ e c p. SameView_grown w.known k' g w.entry.prepared w.entry.holders e p (m.prepared e c p);
            was_known = m.was_known;
            rolling = λ r. let x = m.rolling r in record { e = x.e; next = x.next; was = x.was; how = x.how; below = x.below };
            done = λ r E l h. let d = m.done r E l h in omega arith;
            straight = λ r E b l. m.straight r E (let x = epoch_of-le w.known.view w.known.top (omega arith) in omega arith) l;
          };
        };
      }

  next_how : (end : EpochEnd) (e : ℕ) → cond (nat_eq e (w.entry.epoch + 1)) end (w.entry.how e) ≡ cond (nat_eq e (w.known.current + 1)) end (w.known.how e)
  next_how end e = rw ((ok.entry).epoch, (ok.entry).how e) refl

  prepares_world : (whole : ℕ → Bool) → Can w (Prepares whole) → Moved w (prepares w whole)
  prepares_world whole can =
      let m = ok.entry in
      let quiet = can.0 in
      let settled : w.known.is_known ≡ true → w.known.top ≡ w.known.view = λ s. sym m.top ∙ (can.1 (m.standing ∙ s)).0 ∙ m.stamp in
      let free : w.known.is_known ≡ true → w.known.holder w.known.view ≡ None = λ s. sym m.holder ∙ (can.1 (m.standing ∙ s)).1 in
      let done = m.done quiet in
      let straight = m.straight quiet in
      let k' : Known = prepared_known w.known in
      let g : Grows w.known k' = turns.prepare_grows w.known ok.known settled free done straight in
      let new : k'.how (w.known.current + 1) ≡ Prepare = turns.how-new w.known ok.known settled free done straight in
      record {
        grows = g;
        ok = record {
          views = λ j. turns.prepare_views_ok w.known ok.known settled free done straight j (w.members j) (whole j) (ok.views j);
          seals = λ j. turns.prepare_seal_ok w.known ok.known settled free done straight j (w.members j) (whole j) (ok.views j) (ok.seals j);
          keeps = λ j. turns.prepare_keep_ok w.known ok.known settled free done straight j (w.members j) (whole j) (can.2 j) (ok.seals j);
          messages = sent_grown w.known k' g w.sent ok.messages;
          known = turns.prepare_known_ok w.known ok.known settled free done straight;
          entry = record {
            epoch = ap (λ e. e + 1) m.epoch;
            how = next_how Prepare;
            top = m.top;
            standing = m.standing;
            stamp = m.stamp;
            members = m.members;
            count = m.count;
            holder = m.holder;
            asked = m.asked;
            asking = m.asking;
            stamped = λ v. Stamped_grown w.known k' g w.known.top (m.stamped v);
            odd = λ h s v. absurd (let x = settled (sym (turns.kept-new w.known ok.known settled free done straight) ∙ s) in omega arith);
            prepared = λ e c p. ⊎_elim
                (λ (x : (e ≡ w.known.current + 1) × (k'.how e ≡ Prepare)). record {
                  members = λ j. rw (x.0, turns.prepared-new w.known ok.known settled free done straight) (m.members j);
                  stamp = rw (x.0, turns.prepared-new w.known ok.known settled free done straight) m.stamp;
                  count = rw (x.0, turns.prepared-new w.known ok.known settled free done straight) m.count;
                  holding = λ j h. absurd (cc);
                })
                (λ (x : (e + 1 ≡ w.known.current + 1) × (w.entry.is_rolling ≡ true)). absurd (false_true w.entry.is_rolling quiet x.1)) c;
            was_known = λ e c. ⊎_elim
                (λ (x : (e ≡ w.known.current + 1) × (k'.how e ≡ Prepare)). rw x.0 (m.standing ∙ sym (turns.kept-new w.known ok.known settled free done straight)))
                (λ (x : (e + 1 ≡ w.known.current + 1) × (w.entry.is_rolling ≡ true)). absurd (false_true w.entry.is_rolling quiet x.1)) c;
            rolling = λ r. absurd (false_true w.entry.is_rolling quiet r);
            done = λ r E l h. elim (cases_eq E (w.known.current + 1)) [
              | inl x ↦ absurd (turns.two_ends (k'.how E) (rw x new) h)
              | inr d ↦ m.done quiet E (omega arith) (sym (turns.how-old w.known ok.known settled free done straight E (omega arith)) ∙ h)
            ];
            straight = λ r E b l h. elim (cases_eq E (w.known.current + 1)) [
              | inl x ↦ turns.two_ends (k'.how E) (rw x new) h
              | inr d ↦ m.straight quiet E b (omega arith) (sym (turns.how-old w.known ok.known settled free done straight E (omega arith)) ∙ h)
            ];
          };
        };
      }

  here_prepare : w.entry.how w.entry.epoch ≡ Prepare → w.known.how w.known.current ≡ Prepare
  here_prepare t = let m = ok.entry in ap w.known.how (sym m.epoch) ∙ sym (m.how w.entry.epoch) ∙ t

  finalizes_world : Can w Finalizes → Moved w (finalizes w)
  finalizes_world can =
      let m = ok.entry in
      let quiet = can.0 in
      let was = here_prepare can.1 in
      let other : Finalize ≢ Prepare = λ x. (cc) in
      let k' : Known = next_known w.known Finalize in
      let g : Grows w.known k' = turns.turn_grows w.known ok.known Finalize other was in
      let turned : k'.how (w.known.current + 1) ≡ Finalize = turns.how-turned w.known ok.known Finalize other was in
      let never : (e : ℕ) → IsCurrent k' w.entry.is_rolling e → ⊥ = λ e c. ⊎_elim
      (λ (x : (e ≡ w.known.current + 1) × (k'.how e ≡ Prepare)). other (sym turned ∙ ap k'.how (sym x.0) ∙ x.1))
      (λ (x : (e + 1 ≡ w.known.current + 1) × (w.entry.is_rolling ≡ true)). false_true w.entry.is_rolling quiet x.1) c in
      record {
        grows = g;
        ok = record {
          views = λ j. turns.turn_views_ok w.known ok.known Finalize other was j (w.members j) (ok.views j);
          seals = λ j. turns.turn_seal_ok w.known ok.known Finalize other was j (w.members j) (ok.seals j);
          keeps = λ j. turns.turn_keep_ok w.known ok.known Finalize other was j (w.members j) (ok.seals j) (ok.keeps j);
          messages = sent_grown w.known k' g w.sent ok.messages;
          known = turns.turn_known_ok w.known ok.known Finalize other was;
          entry = record {
            epoch = ap (λ e. e + 1) m.epoch;
            how = next_how Finalize;
            top = m.top;
            standing = m.standing;
            stamp = m.stamp;
            members = m.members;
            count = m.count;
            holder = m.holder;
            asked = m.asked;
            asking = m.asking;
            stamped = λ v. Stamped_grown w.known k' g w.known.top (m.stamped v);
            odd = λ h s v. absurd (other (sym turned ∙ h));
            prepared = λ e c p. absurd (never e c);
            was_known = λ e c. absurd (never e c);
            rolling = λ r. absurd (false_true w.entry.is_rolling quiet r);
            done = λ r E l h. elim (cases_eq E (w.known.current + 1)) [
              | inl x ↦ absurd (finalize_rollback (k'.how E) (rw x turned) h)
              | inr d ↦ m.done quiet E (omega arith) (sym (turns.how-kept w.known ok.known Finalize other was E (omega arith)) ∙ h)
            ];
            straight = λ r E b l h. elim (cases_eq E (w.known.current + 1)) [
              | inl x ↦ finalize_rollback (k'.how E) (rw x turned) h
              | inr d ↦ m.straight quiet E b (omega arith) (sym (turns.how-kept w.known ok.known Finalize other was E (omega arith)) ∙ h)
            ];
          };
        };
      }

  begins_world : Can w BeginsRollback → Moved w (begins_rollback w)
  begins_world can =
      let m = ok.entry in
      let quiet = can.0 in
      let was = here_prepare can.1 in
      let other : Rollback ≢ Prepare = λ x. (cc) in
      let k' : Known = next_known w.known Rollback in
      let g : Grows w.known k' = turns.turn_grows w.known ok.known Rollback other was in
      let turned : k'.how (w.known.current + 1) ≡ Rollback = turns.how-turned w.known ok.known Rollback other was in
      let before : (e : ℕ) → IsCurrent k' true e → IsCurrent w.known w.entry.is_rolling e = λ e c. ⊎_elim
      (λ (x : (e ≡ w.known.current + 1) × (k'.how e ≡ Prepare)). absurd (other (sym turned ∙ ap k'.how (sym x.0) ∙ x.1)))
      (λ (x : (e + 1 ≡ w.known.current + 1) × ◌≡◌ {A = Bool} true true). inl ((let y = x.0 in omega arith), (let y : e ≡ w.known.current = (let z = x.0 in omega arith) in rw y was))) c in
      record {
        grows = g;
        ok = record {
          views = λ j. turns.turn_views_ok w.known ok.known Rollback other was j (w.members j) (ok.views j);
          seals = λ j. turns.turn_seal_ok w.known ok.known Rollback other was j (w.members j) (ok.seals j);
          keeps = λ j. turns.turn_keep_ok w.known ok.known Rollback other was j (w.members j) (ok.seals j) (ok.keeps j);
          messages = sent_grown w.known k' g w.sent ok.messages;
          known = turns.turn_known_ok w.known ok.known Rollback other was;
          entry = record {
            epoch = ap (λ e. e + 1) m.epoch;
            how = next_how Rollback;
            top = m.top;
            standing = m.standing;
            stamp = m.stamp;
            members = m.members;
            count = m.count;
            holder = m.holder;
            asked = m.asked;
            asking = m.asking;
            stamped = λ v. Stamped_grown w.known k' g w.known.top (m.stamped v);
            odd = λ h s v. absurd (other (sym turned ∙ h));
            prepared = λ e c p. let q = turns.prepared_before w.known ok.known Rollback other was e p in SameView_grown w.known k' g w.entry.prepared w.entry.holders e q (m.prepared e (before e c) q);
            was_known = λ e c. m.was_known e (before e c);
            rolling = λ r. record { e = w.known.current; next = refl; was = turns.how-kept w.known ok.known Rollback other was w.known.current (omega arith) ∙ was; how = turned; below = turns.top_below w.known ok.known Rollback other was };
            done = λ r. absurd (cc);
            straight = λ r. absurd (cc);
          };
        };
      }

  -- where a rollback is committed the rest of the entry is as at first
  after_commit : (k' : Known) (keeps : Bool) (view : View) → k'.current ≡ w.known.current → ((e : ℕ) → k'.how e ≡ w.known.how e) → w.entry.is_rolling ≡ true → k'.top ≡ start_of w.known.current → k'.view ≡ start_of w.known.current → k'.is_known ≡ keeps → ((j : ℕ) → k'.asked j ≡ false)
      → view.stamp ≡ start_of w.entry.epoch → ((j : ℕ) → k'.members k'.view j ≡ is_of view.members j) → view.count ≡ k'.base k'.view → view.holder ≡ k'.holder k'.view
      → EntryOk k' (committed w.entry keeps view)
  after_commit k' keeps view current how r top stamp standing asked at ms count holder =
      let m = ok.entry in
      let x = m.rolling r in
      let now : w.known.how w.known.current ≡ Rollback = ap w.known.how x.next ∙ x.how in
      let never : (e : ℕ) → IsCurrent k' false e → ⊥ = λ e c. ⊎_elim
      (λ (y : (e ≡ k'.current) × (k'.how e ≡ Prepare)). turns.two_ends (w.known.how w.known.current) (ap w.known.how (sym (y.0 ∙ current)) ∙ sym (how e) ∙ y.1) now)
      (λ (y : (e + 1 ≡ k'.current) × ◌≡◌ {A = Bool} false true). let z = y.1 in (cc)) c in
      record {
        epoch = m.epoch ∙ sym current;
        how = λ e. m.how e ∙ sym (how e);
        top = ap start_of m.epoch ∙ sym top;
        standing = sym standing;
        stamp = at ∙ ap start_of m.epoch ∙ sym stamp;
        members = ms;
        count = count;
        holder = holder;
        asked = asked;
        asking = λ j h. absurd (cc);
        stamped = λ v. absurd (omega arith);
        odd = λ h s v. absurd (omega arith);
        prepared = λ e c p. absurd (never e c);
        was_known = λ e c. absurd (never e c);
        rolling = λ h. absurd (cc);
        done = λ h E l q. elim (cases_eq E w.known.current) [
          | inl y ↦ (let z : start_of E ≡ start_of w.known.current = ap start_of y in omega arith)
          | inr d ↦ (let z = start_of-less E w.known.current (omega arith) in omega arith)
        ];
        straight = λ h E b l. absurd (let e = epoch_of-start w.known.current in let z : epoch_of k'.view ≡ epoch_of (start_of w.known.current) = ap epoch_of stamp in omega arith);
      }

  abbrev Restores : ℕ → Type 0
  Restores j = Fit w.known (w.known.current - 1) j × (start_of w.known.current ≤ w.known.promise j) × (w.known.base (w.known.prepared (w.known.current - 1)) ≤ w.known.reached j (start_of w.known.current))

  pub record Committing : Type 0 where
    pub how : w.known.how w.known.current ≡ Rollback
    pub below : w.known.top < start_of w.known.current
    pub positive : 0 < w.known.current
    pub same : w.known.current - 1 + 1 ≡ w.known.current
    pub is : IsCurrent w.known w.entry.is_rolling (w.known.current - 1)
    pub was : w.known.how (w.known.current - 1) ≡ Prepare

  pub committing : w.entry.is_rolling ≡ true → Committing
  committing r = let x = (ok.entry).rolling r in let n = x.next in
      let same : w.known.current - 1 + 1 ≡ w.known.current = omega arith in
      let e : w.known.current - 1 ≡ x.e = omega arith in record {
        how = ap w.known.how x.next ∙ x.how;
        below = (let b = x.below in let z = ap start_of x.next in omega arith);
        positive = omega arith;
        same = same;
        is = inr (same, r);
        was = ap w.known.how e ∙ x.was;
      }

  pub prepared_then : w.entry.is_rolling ≡ true → w.entry.was_known ≡ true → IsPrepared w.known (w.known.current - 1)
  prepared_then r s = let c = committing r in ((let p = c.positive in omega arith), c.was, sym ((ok.entry).was_known (w.known.current - 1) c.is) ∙ s)

  -- who is restored has rolled back, and is fit
  pub restores : (r : w.entry.is_rolling ≡ true) (s : w.entry.was_known ≡ true) (j : ℕ) → IsFit w.entry j → WasTold w j (Learned w.entry.epoch) → Restores j
  restores r s j fit told =
      let m = ok.entry in
      let c = committing r in
      let was = prepared_then r s in
      let v = m.prepared (w.known.current - 1) c.is was in
      let f : Fit w.known (w.known.current - 1) j = ⊎_elim
      (λ (x : is_of w.entry.prepared.members j ≡ true). inl (v.members j ∙ x))
      (λ (x : w.entry.holders j ≡ true). inr (v.holding j x)) fit in
      let t : Restored w.known w.known.current j = subst (λ e. Restored w.known e j) m.epoch (said j (Learned w.entry.epoch) told) in
      (f, t.promise, t.floor (w.known.current - 1) (sym c.same) c.how was f)

  keeps_world : (ms : List ℕ) → Can w (CommitsRollback ms true) → Moved w (happens w (CommitsRollback ms true))
  keeps_world ms can =
      let r = can.0 in
      let x = can.1 refl in
      let c = committing r in
      let was = prepared_then r x.0 in
      let fit : (j : ℕ) → is_of ms j ≡ true → Restores j = λ j h. let y = x.1 j h in restores r x.0 j y.0 y.1 in
      let k' : Known = restored_known w.known ms in
      let g : Grows w.known k' = commit.grows w.known ok.known c.how c.below ms c.positive was fit in
      record {
        grows = g;
        ok = record {
          views = λ j. commit.views_ok w.known ok.known c.how c.below ms c.positive was fit j (w.members j) (ok.views j) (ok.seals j);
          seals = λ j. commit.seal_ok w.known ok.known c.how c.below ms c.positive was fit j (w.members j) (ok.views j) (ok.seals j);
          keeps = λ j. commit.keep_ok w.known ok.known c.how c.below ms c.positive was fit j (w.members j) (ok.views j) (ok.seals j) (ok.keeps j);
          messages = sent_grown w.known k' g w.sent ok.messages;
          known = commit.known_ok w.known ok.known c.how c.below ms c.positive was fit;
          entry = after_commit k' true (restored_view w.entry ms) refl (λ e. refl) r refl refl refl (λ j. refl) refl
              (commit.members-new w.known ok.known c.how c.below ms c.positive was fit)
              (((ok.entry).prepared (w.known.current - 1) c.is was).count ∙ sym (commit.base-new w.known ok.known c.how c.below ms c.positive was fit))
              (sym (commit.holder-new w.known ok.known c.how c.below ms c.positive was fit));
        };
      }

  removes_world : (ms : List ℕ) → Can w (CommitsRollback ms false) → Moved w (happens w (CommitsRollback ms false))
  removes_world ms can =
      let r = can.0 in
      let c = committing r in
      let k' : Known = removed_known w.known in
      let g : Grows w.known k' = commit.gone_grows w.known ok.known c.how c.below in
      record {
        grows = g;
        ok = record {
          views = λ j. commit.gone_views_ok w.known ok.known c.how c.below j (w.members j) (ok.views j) (ok.seals j);
          seals = λ j. commit.gone_seal_ok w.known ok.known c.how c.below j (w.members j) (ok.views j) (ok.seals j);
          keeps = λ j. commit.gone_keep_ok w.known ok.known c.how c.below j (w.members j) (ok.views j) (ok.seals j) (ok.keeps j);
          messages = sent_grown w.known k' g w.sent ok.messages;
          known = commit.gone_known_ok w.known ok.known c.how c.below;
          entry = after_commit k' false (bare (start_of w.entry.epoch)) refl (λ e. refl) r refl refl refl (λ j. refl) refl
              (commit.gone_members_new w.known ok.known c.how c.below)
              (sym (commit.gone_base_new w.known ok.known c.how c.below))
              (sym (commit.gone_holder_new w.known ok.known c.how c.below));
        };
      }

  drop_ok : (to p : ℕ) → Can w (SendsDrop to p) → DropOk w.known to w.entry.epoch p
  drop_ok to p can =
      let m = ok.entry in
      let h : ReportOk w.known p = said to (Report w.entry.epoch p) can.1 in
      let e = m.epoch in
      let top : p ≤ w.known.top = ⊎_elim (λ (l : p ≤ w.known.top). l) (λ (x : (E : ℕ) × (p ≡ start_of E) × (E ≤ w.known.current) × (w.known.how E ≡ Rollback)). let d = m.done can.0 x.0 x.2 x.3 in let y = x.1 in let v = (ok.known).viewtop in omega arith) h in
      record {
        top = top;
        view = λ s is. rw is (m.members to ∙ (can.2 (m.standing ∙ s)).0);
        asked = λ is v. m.asked to ∙ false_from (w.entry.asked to) (λ a. false_true (w.entry.asked to) ((can.2 (m.asking to a)).1) a);
        within = omega arith;
        done = λ r. m.done can.0 w.entry.epoch (omega arith) r;
        prepared = λ x p l. absurd (let y = p.0 in omega arith);
      }

  copy_ok : (source target : ℕ) (with_image : Bool) → Can w (AsksForCopy source target with_image) → MessageOk w.known source (CopyOut w.known.top target with_image)
  copy_ok source target with_image can =
      let m = ok.entry in
      let v = moving can.0 in
      let fit : with_image ≡ true → IsPrepared w.known w.known.current × Fit w.known w.known.current source = λ f.
      let x = can.2 f in
      let here = here_prepare x.0 in
      let c : IsCurrent w.known w.entry.is_rolling w.known.current = inl (refl, here) in
      let p : IsPrepared w.known w.known.current = (omega arith, here, sym (m.was_known w.known.current c) ∙ x.1) in
      let s = m.prepared w.known.current c p in
      (p, ⊎_elim (λ (y : is_of w.entry.prepared.members source ≡ true). inl (s.members source ∙ y)) (λ (y : w.entry.holders source ≡ true). inr (s.holding source y)) x.2) in (
        m.stamped v,
        (λ f. let y = fit f in let e : epoch_of w.known.top ≡ w.known.current = m.odd y.0.1 y.0.2 v in rw e y),
        (λ t. m.members target ∙ can.1),
      )

  asks_first_ok : w.entry.view.stamp < w.entry.top → w.entry.view.members ≡ [] → (to : ℕ) → MessageOk w.known to (CopyIn w.known.top (w.known.list w.known.view) None)
  asks_first_ok up none to = (
    (ok.entry).stamped (moving up),
    (λ v. record { prefix = whole_prefix (w.known.list w.known.view); whole = λ b. refl }),
    record { text = λ r e. absurd (cc) },
    (λ v. (bare_now none).members to),
    record { stamp = w.known.view; within = omega arith; begins = whole_prefix (w.known.list w.known.view) },
    (λ r e. absurd (cc)),
  )

  pub happens_world : (e : Event) → Can w e → Moved w (happens w e)
  happens_world (Raises me t edits image) can = raises_world me t edits image can
  happens_world (Rises me t edits) can = step_world me _ (members.rises_ok w.known ok.known me (w.members me) (ok.views me) (ok.seals me) (ok.keeps me) t edits can.0 can.1 (said me (Advance t) can.2) can.3)
  happens_world (Promises me edits) can = step_world me _ (members.promises_ok w.known ok.known me (w.members me) (ok.views me) (ok.seals me) (ok.keeps me) edits can.0 (stamped_again me (w.members me).promise can.1))
  happens_world (SendsCopy me t target edits image) can = let x = can.3 in step_world me _ (members.sends_copy_ok w.known ok.known me (w.members me) (ok.views me) (ok.seals me) (ok.keeps me) t target edits image x.0 can.0 can.1 can.2 (said me (CopyOut t target x.0) x.1) x.2)
  happens_world (TakesLease me t ms) can = step_world me _ (members.takes_lease_ok w.known ok.known me (w.members me) (ok.views me) (ok.seals me) (ok.keeps me) t ms (said me (Grant t ms) can.0) can.1 can.2)
  happens_world (Numbers me l edits e) can = step_world me _ (members.numbers_ok w.known ok.known me (w.members me) (ok.views me) (ok.seals me) (ok.keeps me) l edits e can.0 can.1 ((ok.views me).same l can.0).0 (above_of edits e can.2))
  happens_world (Forwards me l to place e) can = step_world me _ (members.forwards_ok w.known ok.known me (w.members me) (ok.views me) (ok.seals me) (ok.keeps me) l to place e can.0 can.1 can.2)
  happens_world (Applies me edits e) can = step_world me _ (members.applies_ok w.known ok.known me (w.members me) (ok.views me) (ok.seals me) (ok.keeps me) edits e can.0 (said me (Forward (w.members me).promise (length edits) e) can.1))
  happens_world (Acknowledges me edits) can = step_world me _ (members.acknowledges_ok w.known ok.known me (w.members me) (ok.views me) (ok.seals me) (ok.keeps me) edits can)
  happens_world (Hears me l from count) can = step_world me _ (members.hears_count_ok w.known ok.known me (w.members me) (ok.views me) (ok.seals me) (ok.keeps me) l from count can.0 (said from (Ack l.stamp count) can.1))
  happens_world (Closes me l place) can = step_world me _ (members.closes_ok w.known ok.known me (w.members me) (ok.views me) (ok.seals me) (ok.keeps me) l place can.0 can.1)
  happens_world (Answers me l place e) can = step_world me _ (members.answers_ok w.known ok.known me (w.members me) (ok.views me) (ok.seals me) (ok.keeps me) l place e can.0 ((ok.views me).same l can.0).0 can.1)
  happens_world (Spends me) can = step_world me _ (members.spends_ok w.known ok.known me (w.members me) (ok.views me) (ok.seals me) (ok.keeps me))
  happens_world (Drops me) can = step_world me _ (members.drops_ok w.known ok.known me (w.members me) (ok.views me) (ok.seals me) (ok.keeps me) (said me (Drop (w.members me).epoch (w.members me).promise) can))
  happens_world (Loses me) can = step_world me _ (members.loses_ok w.known ok.known me (w.members me) (ok.views me) (ok.seals me) (ok.keeps me))
  happens_world (Damages me) can = step_world me _ (members.damages_ok w.known ok.known me (w.members me) (ok.views me) (ok.seals me) (ok.keeps me))
  happens_world (Learns me end fails) can = let h = said me (Epoch ((w.members me).epoch + 1) end) can.0 in step_world me _ (members.learns_ok w.known ok.known me (w.members me) (ok.views me) (ok.seals me) (ok.keeps me) ((w.members me).epoch + 1) end fails refl h.0 h.1 can.1)
  happens_world (Names me edits) can = step_world me _ (members.names_ok w.known ok.known me (w.members me) (ok.views me) (ok.seals me) (ok.keeps me) edits can.0 can.1)
  happens_world (Reports me) can = step_world me _ (members.reports_ok w.known ok.known me (w.members me) (ok.views me) (ok.seals me) (ok.keeps me))
  happens_world (Proposes t asked) can = proposes_world t asked can
  happens_world (AsksFirst to false) can = sends_world to (Create w.entry.top) (rw (ok.entry).top ((ok.entry).stamped (moving can.0), λ v. (bare_now can.1, ap w.known.list (sym (ok.entry).stamp) ∙ can.2 refl)))
  happens_world (AsksFirst to true) can = sends_world to (CopyIn w.entry.top (w.known.list w.entry.view.stamp) None) (rw ((ok.entry).top, (ok.entry).stamp) (asks_first_ok can.0 can.1 to))
  happens_world (Asks to) can = sends_world to (Advance w.entry.top) (rw (ok.entry).top ((ok.entry).stamped (moving can.0), λ v. (ok.entry).members to ∙ can.1))
  happens_world (AsksForCopy source target with_image) can = sends_world source (CopyOut w.entry.top target with_image) (rw (ok.entry).top (copy_ok source target with_image can))
  happens_world GivesUp can = calm_world w.entry.is_known w.known.is_known (ok.entry).standing (λ h. h)
  happens_world (Holds server) can = holds_world server can
  happens_world (Settles ms count holder) can = settles_world ms count holder can
  happens_world (Grants to) can = sends_world to (Grant w.entry.view.stamp w.entry.view.members) ((let s = (ok.entry).stamp in omega arith), ap w.known.holder (ok.entry).stamp ∙ sym (ok.entry).holder ∙ can, λ j. rw (ok.entry).stamp ((ok.entry).members j))
  happens_world Retires can = calm_world false false refl (λ h. absurd (cc))
  happens_world (SendsDrop to p) can = sends_world to (Drop w.entry.epoch p) (drop_ok to p can)
  happens_world (Prepares whole) can = prepares_world whole can
  happens_world Finalizes can = finalizes_world can
  happens_world BeginsRollback can = begins_world can
  happens_world (CommitsRollback ms true) can = keeps_world ms can
  happens_world (CommitsRollback ms false) can = removes_world ms can
  happens_world (TellsEpoch to epoch) can = sends_world to (Epoch epoch (w.entry.how epoch)) (let m = ok.entry in let e = m.epoch in (omega arith, sym (m.how epoch)))

pub born_world : (epoch : ℕ) (how : ℕ → EpochEnd) (origin : List Edit) → Rising origin → WorldOk (born epoch how origin)
unfolding epoch_of start_of
born_world epoch how origin rising = record {
  views = λ j. record {
    promise = refl;
    epoch = refl;
    count = λ r is. absurd (cc);
    idle = λ v l r is. absurd (cc);
    mine = λ v l r is. absurd (cc);
    member = λ v m r is. absurd (cc);
    whole = λ v h r is. absurd (cc);
    lease = λ l e. absurd (cc);
    same = λ l e. absurd (cc);
    closed = λ l r e. absurd (cc);
    untaken = λ v h. absurd (cc);
    stands = λ r is. absurd (cc);
    pictures = λ r is. absurd (cc);
  };
  seals = λ j. record {
    learned = omega arith;
    low = omega arith;
    below = inl (omega arith);
    legit = λ e p. absurd (let x = p.2 in cc);
    carried = λ c. absurd (cc);
    carries = λ e c. absurd (cc);
    none = λ n. refl;
    unlearned = λ e p. absurd (let x = p.2 in cc);
    sealed = λ p. absurd (let x = p.2 in cc);
    rolled = λ e l h p. absurd (let x = p.2 in cc);
  };
  keeps = λ j. record { unlearned = λ e l. absurd (let x = l.is.2 in cc); sealed = λ l. absurd (let x = l.is.2 in cc); rolled = λ e cu h p. absurd (let x = p.2 in cc) };
  messages = All-nil (SentOk (born_known epoch how origin));
  known = record {
    viewtop = omega arith;
    topepoch = omega arith;
    members = λ t j l m. absurd (cc);
    quiet = λ t l h. refl;
    held = λ t j l h. absurd (cc);
    before = λ e p. absurd (let x = p.2 in cc);
    prepared = λ e p. absurd (let x = p.2 in cc);
    straight = λ e E p. absurd (let x = p.2 in cc);
    rolled = λ E l h. ((λ e p. absurd (let x = p.2 in cc)), inl (omega arith));
    unheld = λ E l h v. refl;
    first = λ j. refl;
    links = λ t z l m. absurd (omega arith);
    fresh = λ t v. (refl, refl, (λ j. refl), ne_eqb t (start_of epoch) (λ e. omega arith));
    floor = λ t j l m. absurd (cc);
    peopled = λ t j l m. absurd (cc);
    between = λ t x l s sx p lt. absurd (let a = eqb-true t (start_of epoch) s in let b = eqb-true x (start_of epoch) sx in omega arith);
    now = λ h. eq-eqb (start_of epoch) (start_of epoch) refl;
    ready = λ e p. absurd (let x = p.2 in cc);
    blank = (omega arith, eq-eqb (start_of epoch) (start_of epoch) refl, refl);
    early = λ t s. let a = eqb-true t (start_of epoch) s in omega arith;
    lists = λ t. rising;
  };
  entry = record {
    epoch = refl;
    how = λ e. refl;
    top = refl;
    standing = refl;
    stamp = refl;
    members = λ j. refl;
    count = refl;
    holder = refl;
    asked = λ j. refl;
    asking = λ j h. refl;
    stamped = λ v. absurd (omega arith);
    odd = λ h s v. absurd (omega arith);
    prepared = λ e c p. absurd (let x = p.2 in cc);
    was_known = λ e c. refl;
    rolling = λ x. absurd (cc);
    done = λ x E l h. omega arith;
    straight = λ x E b l h. absurd (let y : epoch_of (start_of epoch) ≡ epoch = epoch_of-start epoch in omega arith);
  };
}

pub leads_world : (w last : ChunkWorld) → Leads w last → WorldOk w → WorldOk last
leads_world w last (Rests) ok = ok
leads_world w last (Goes v e before can) ok = (happens_world v (leads_world w v before ok) e can).ok

pub leads_later : (w last : ChunkWorld) → Leads w last → WorldOk w → Later w.known last.known
leads_later w last (Rests) ok = later_same w.known
leads_later w last (Goes v e before can) ok = let m = happens_world v (leads_world w v before ok) e can in later_then w.known v.known (happens v e).known (leads_later w v before ok) (later_of v.known (happens v e).known m.grows)

-- one run behind another
pub leads_then : (from w last : ChunkWorld) → Leads from w → Leads w last → Leads from last
leads_then from w last a (Rests) = a
leads_then from w last a (Goes v e before can) = Goes v e (leads_then from w v a before) can

-- a list of events that can happen, one after the other, leads to a world
pub leads_run : (from w : ChunkWorld) (events : List Event) → Leads from w → AllCan w events → Leads from (run w events)
leads_run from w [] l can = l
leads_run from w (e ∷ events) l can = leads_run from (happens w e) events (Goes w e l can.0) can.1
