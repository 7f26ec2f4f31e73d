-- Each member of a settled view has its replica, unless that was lost.
use Rattle.std.proofs.Common.{◌≡◌, ◌∙◌, ◌+◌, ◌<◌, ◌≤◌, ◌++◌, ◌⊎◌, inl, inr, ℕ, Bool, true, false, cond, List, [], ◌∷◌, None, Option, Some, length, refl, sym, ap, subst, arith}
use Rattle.std.specs.Prelude.{Contains, is_some, nat_eq}
use Rattle.std.specs.List.{All}
use Rattle.std.proofs.lemmas.Bool.{cases_lt, eq-eqb, eqb-true, false≢true, true≢false}
use Rattle.std.proofs.lemmas.List.Elements.{All-contains, All-cons, All-nil, Contains-append_cases}
use Rattle.gs_base.specs.declared.epoch.EpochEnd.{EpochEnd}
use Rattle.gs_base.specs.declared.epoch.EpochEnd.TheVariants.{Finalize, Prepare, Rollback}
use Rattle.gs_laws_chunk.proofs.lemmas.machine.Facts.{rising_of}
use Rattle.gs_laws_chunk.proofs.lemmas.machine.Resting.{members_learned, promises_rest}
use Rattle.gs_laws_chunk.proofs.lemmas.machine.Stamps.{epoch_of-le, epoch_of-start}
use Rattle.gs_laws_chunk.proofs.lemmas.machine.Worlds.{WorldOk, born_world, committing, leads_world, said}
use Rattle.gs_laws_chunk.specs.machine.Events.{Acknowledges, Answers, Applies, Asks, AsksFirst, AsksForCopy, BeginsRollback, Can, Closes, CommitsRollback, Damages, Drops, Event, Finalizes, Forwards, GivesUp, Goes, Grants, Hears, Holds, Leads, Learns, Loses, Names, Numbers, Prepares, Promises, Proposes, Raises, Reports, Rests, Retires, Rises, SendsCopy, SendsDrop, Settles, Spends, Step, TakesLease, TellsEpoch, closed, given_up, happens, is_of, learned, new_lease, one, opened, quiet, raised, reports, retired, rolled, sends, steps}
use Rattle.gs_laws_chunk.specs.machine.Events as events
use Rattle.gs_laws_chunk.specs.machine.Laws.{Birth, world_of}
use Rattle.gs_laws_chunk.specs.machine.Machine.{Ack, Advance, ChunkWorld, CopyIn, CopyOut, Create, Done, Drop, Epoch, Forward, Grant, Learned, Member, Message, Promised, Report, Sent, View, WasTold}
use Rattle.gs_laws_chunk.specs.machine.Stamps.{start_of}
use Rattle.gs_laws_chunk.specs.members.Kept.{MembersAreThere, lost_at, was_lost}
use Rattle.gs_replica.specs.Stands.{Edit}

abbrev IsLive : Member → Type 0
IsLive m = is_some m.live ≡ true

-- ---- what holds of each world

record IsKept (w : ChunkWorld) (lost : ℕ → Bool) : Type 0 where
  member : w.entry.is_known ≡ true → w.entry.is_rolling ≡ false → (j : ℕ) → is_of w.entry.view.members j ≡ true → lost j ≡ false → IsLive (w.members j)
  asked : w.entry.view.stamp < w.entry.top → w.entry.is_rolling ≡ false → (j : ℕ) → w.entry.asked j ≡ true → (c : ℕ) (b : Bool) → WasTold w j (Promised w.entry.top c b) → lost j ≡ false → IsLive (w.members j)
  named : w.entry.is_rolling ≡ true → (j : ℕ) → WasTold w j (Learned w.entry.epoch) → lost j ≡ false → IsLive (w.members j)
  drops : w.entry.is_known ≡ true → (j e p : ℕ) → WasTold w j (Drop e p) → w.entry.view.stamp < p → is_of w.entry.view.members j ≡ false

-- ---- what an event does to servers, and what it tells

-- a server was told to drop what it promises, or that its next epoch is a rollback
abbrev IsGone : ChunkWorld → ℕ → Type 0
IsGone w j = WasTold w j (Drop (w.members j).epoch (w.members j).promise) ⊎ WasTold w j (Epoch ((w.members j).epoch + 1) Rollback)

record Keeps (w v : ChunkWorld) (was now : ℕ → Bool) : Type 0 where
  live : (j : ℕ) → now j ≡ false → ((was j ≡ false) × (IsLive (w.members j) → IsLive (v.members j))) ⊎ IsLive (v.members j) ⊎ IsGone w j
  promised : (j t c : ℕ) (b : Bool) → WasTold v j (Promised t c b) → WasTold w j (Promised t c b) ⊎ IsLive (v.members j)
  learned : (j e : ℕ) → WasTold v j (Learned e) → WasTold w j (Learned e) ⊎ IsLive (v.members j)
  dropped : (j e p : ℕ) → WasTold v j (Drop e p) → WasTold w j (Drop e p) ⊎ (v.entry.is_known ≡ true → is_of v.entry.view.members j ≡ false)

-- what is told at it
abbrev IsSo : ChunkWorld → ℕ → Message → Type 0
IsSo v server (Promised t c b) = IsLive (v.members server)
IsSo v server (Learned e) = IsLive (v.members server)
IsSo v server (Drop e p) = v.entry.is_known ≡ true → is_of v.entry.view.members server ≡ false
IsSo v server body = Unit {0}

abbrev AreSo : ChunkWorld → List Sent → Type 0
AreSo v sent = All (λ (m : Sent). IsSo v m.server m.body) sent

none_so : (v : ChunkWorld) → AreSo v []
none_so v = All-nil (λ (m : Sent). IsSo v m.server m.body)

one_so : (v : ChunkWorld) (server : ℕ) (body : Message) → IsSo v server body → AreSo v (record { server = server; body = body } ∷ [])
one_so v server body so = All-cons (λ (m : Sent). IsSo v m.server m.body) (record { server = server; body = body }) [] so (none_so v)

told_by : (w v : ChunkWorld) (sends : List Sent) → v.sent ≡ w.sent ++ sends → AreSo v sends → (j : ℕ) (body : Message) → WasTold v j body → WasTold w j body ⊎ IsSo v j body
told_by w v sends is so j body told = elim (Contains-append_cases w.sent sends (record { server = j; body = body }) (subst (λ xs. Contains xs (record { server = j; body = body })) is told)) [
  | inl before ↦ inl before
  | inr new ↦ inr (All-contains (λ (m : Sent). IsSo v m.server m.body) sends (record { server = j; body = body }) so new)
]

module _ (w v : ChunkWorld) (was now : ℕ → Bool) (live : (j : ℕ) → now j ≡ false → ((was j ≡ false) × (IsLive (w.members j) → IsLive (v.members j))) ⊎ IsLive (v.members j) ⊎ IsGone w j) where
  with_sends : (sends : List Sent) → v.sent ≡ w.sent ++ sends → AreSo v sends → Keeps w v was now
  with_sends sends is so = record {
    live = live;
    promised = λ j t c b told. told_by w v sends is so j (Promised t c b) told;
    learned = λ j e told. told_by w v sends is so j (Learned e) told;
    dropped = λ j e p told. told_by w v sends is so j (Drop e p) told;
  }

  with_none : v.sent ≡ w.sent → Keeps w v was now
  with_none is = record {
    live = live;
    promised = λ j t c b told. inl (subst (λ xs. Contains xs (record { server = j; body = Promised t c b })) is told);
    learned = λ j e told. inl (subst (λ xs. Contains xs (record { server = j; body = Learned e })) is told);
    dropped = λ j e p told. inl (subst (λ xs. Contains xs (record { server = j; body = Drop e p })) is told);
  }

-- the same servers
same_live : (w v : ChunkWorld) (was : ℕ → Bool) → ((j : ℕ) → (v.members j).live ≡ (w.members j).live) → (j : ℕ) → was j ≡ false → ((was j ≡ false) × (IsLive (w.members j) → IsLive (v.members j))) ⊎ IsLive (v.members j) ⊎ IsGone w j
same_live w v was same j kept = inl (kept, λ live. ap is_some (same j) ∙ live)

-- what a server has where something happens at it
there : (w : ChunkWorld) (me : ℕ) (st : Step) → IsLive st.member → IsLive ((steps w me st).members me)
there w me st live = subst (λ t. IsLive (cond t st.member (w.members me))) (sym (eq-eqb me me refl)) live

-- one server
module _ (w : ChunkWorld) (me : ℕ) (st : Step) (was now : ℕ → Bool) (others : (j : ℕ) → nat_eq j me ≡ false → now j ≡ was j)
    (own : now me ≡ false → ((was me ≡ false) × (IsLive (w.members me) → IsLive st.member)) ⊎ IsLive st.member ⊎ IsGone w me) where
  one_live : (j : ℕ) → now j ≡ false → ((was j ≡ false) × (IsLive (w.members j) → IsLive ((steps w me st).members j))) ⊎ IsLive ((steps w me st).members j) ⊎ IsGone w j
  one_live j kept = by_case (nat_eq j me) refl
    where
      by_case : (t : Bool) → nat_eq j me ≡ t → ((was j ≡ false) × (IsLive (w.members j) → IsLive (cond t st.member (w.members j)))) ⊎ IsLive (cond t st.member (w.members j)) ⊎ IsGone w j
      by_case false is = inl (sym (others j is) ∙ kept, λ live. live)
      by_case true is = (
          let same : j ≡ me = eqb-true j me is in
          subst (λ i. ((was i ≡ false) × (IsLive (w.members i) → IsLive st.member)) ⊎ IsLive st.member ⊎ IsGone w i) (sym same) (own (ap now (sym same) ∙ kept))
          )

  server_with : AreSo (steps w me st) st.sends → Keeps w (steps w me st) was now
  server_with so = with_sends w (steps w me st) was now one_live st.sends refl so

-- ---- who can't be gone

module _ (w : ChunkWorld) (ok : WorldOk w) (was : ℕ → Bool) (inv : IsKept w was) where
  gone_member : w.entry.is_known ≡ true → w.entry.is_rolling ≡ false → (j : ℕ) → is_of w.entry.view.members j ≡ true → IsGone w j → ⊥
  gone_member known calm j member (inl drop) =
      let d = said w ok j (Drop (w.members j).epoch (w.members j).promise) drop in
      let low = (promises_rest w ok).members j member in
      let m = ok.entry in elim (cases_lt w.entry.view.stamp (w.members j).promise) [
        | inl far ↦ false≢true (sym (inv.drops known j (w.members j).epoch (w.members j).promise drop far) ∙ member)
        | inr most ↦
            let same : (w.members j).promise ≡ w.known.view = (let at = m.stamp in omega arith) in
            false≢true (sym (d.view (sym m.standing ∙ known) same) ∙ ap (λ t. w.known.members t j) same ∙ m.members j ∙ member)
      ]
  gone_member known calm j member (inr learn) =
      let t = said w ok j (Epoch ((w.members j).epoch + 1) Rollback) learn in
      let within = t.0 in
      let at = (ok.entry).epoch in
      let l = members_learned w ok calm j ((w.members j).epoch + 1) member (omega arith) t.1 in absurd (omega arith)

  gone_asked : w.entry.view.stamp < w.entry.top → w.entry.is_rolling ≡ false → (j : ℕ) → w.entry.asked j ≡ true → (c : ℕ) (b : Bool) → WasTold w j (Promised w.entry.top c b) → IsGone w j → ⊥
  gone_asked less calm j asked c b told gone =
      let m = ok.entry in
      let h = (said w ok j (Promised w.entry.top c b) told).0 in
      let same = (ok.views j).promise in
      let most = (promises_rest w ok).within calm j in
      let promise : (w.members j).promise ≡ w.entry.top = omega arith in
      elim gone [
        | inl drop ↦
            let d = said w ok j (Drop (w.members j).epoch (w.members j).promise) drop in
            let top = m.top in
            let stamp = m.stamp in
            false≢true (sym (d.asked (omega arith) (omega arith)) ∙ m.asked j ∙ asked)
        | inr learn ↦
            let t = said w ok j (Epoch ((w.members j).epoch + 1) Rollback) learn in
            let done : start_of ((w.members j).epoch + 1) ≤ w.known.view = m.done calm ((w.members j).epoch + 1) t.0 t.1 in
            let stamp = m.stamp in
            let low = (ok.seals j).low in
            let l = epoch_of-le (start_of ((w.members j).epoch + 1)) (w.members j).promise (omega arith) in
            let e = epoch_of-start ((w.members j).epoch + 1) in absurd (omega arith)
      ]

  gone_named : w.entry.is_rolling ≡ true → (j : ℕ) → WasTold w j (Learned w.entry.epoch) → IsGone w j → ⊥
  gone_named rolling j told gone =
      let m = ok.entry in
      let r = (said w ok j (Learned w.entry.epoch) told).promise in
      let same = (ok.views j).promise in
      let l = epoch_of-le (start_of w.entry.epoch) (w.members j).promise (omega arith) in
      let e = epoch_of-start w.entry.epoch in
      let low = (ok.seals j).low in
      let most = (ok.seals j).learned in
      let current = m.epoch in
      let at : (w.members j).epoch ≡ w.known.current = omega arith in
      let c = committing w ok rolling in
      elim gone [
        | inl drop ↦
            let d = said w ok j (Drop (w.members j).epoch (w.members j).promise) drop in
            let done = d.done (ap w.known.how at ∙ c.how) in
            let starts = ap start_of at in
            let below = c.below in
            let view = (ok.known).viewtop in absurd (omega arith)
        | inr learn ↦
            let t = (said w ok j (Epoch ((w.members j).epoch + 1) Rollback) learn).0 in absurd (omega arith)
      ]

  -- ---- where the master's part is the same, but for whom it asks and whether it knows the chunk

  module _ (v : ChunkWorld) (now : ℕ → Bool) (k : Keeps w v was now) (view : v.entry.view ≡ w.entry.view) (top : v.entry.top ≡ w.entry.top) (known_then : v.entry.is_known ≡ true → w.entry.is_known ≡ true) (rolling : v.entry.is_rolling ≡ w.entry.is_rolling)
      (epoch : v.entry.epoch ≡ w.entry.epoch) (asked_then : (j : ℕ) → v.entry.asked j ≡ true → w.entry.asked j ≡ true) where
    on_same : IsKept v now
    on_same = record {
      member = λ known calm j member kept.
          let m : is_of w.entry.view.members j ≡ true = sym (ap (λ (y : View). is_of y.members j) view) ∙ member in
          let calm_then = sym rolling ∙ calm in elim (k.live j kept) [
            | inl before ↦ before.1 (inv.member (known_then known) calm_then j m before.0)
            | inr (inl live) ↦ live
            | inr (inr gone) ↦ absurd (gone_member (known_then known) calm_then j m gone)
          ];
      asked = λ less calm j asked c b told kept.
          let calm_then = sym rolling ∙ calm in
          let stamps = ap (λ (y : View). y.stamp) view in
          let less_then : w.entry.view.stamp < w.entry.top = (let t = top in omega arith) in elim (k.promised j v.entry.top c b told) [
            | inr live ↦ live
            | inl told_then ↦ (
                let told_top : WasTold w j (Promised w.entry.top c b) = subst (λ t. WasTold w j (Promised t c b)) top told_then in elim (k.live j kept) [
                  | inl before ↦ before.1 (inv.asked less_then calm_then j (asked_then j asked) c b told_top before.0)
                  | inr (inl live) ↦ live
                  | inr (inr gone) ↦ absurd (gone_asked less_then calm_then j (asked_then j asked) c b told_top gone)
                ]
                )
          ];
      named = λ rolls j told kept.
          let rolls_then = sym rolling ∙ rolls in elim (k.learned j v.entry.epoch told) [
            | inr live ↦ live
            | inl told_then ↦ (
                let told_epoch : WasTold w j (Learned w.entry.epoch) = subst (λ t. WasTold w j (Learned t)) epoch told_then in elim (k.live j kept) [
                  | inl before ↦ before.1 (inv.named rolls_then j told_epoch before.0)
                  | inr (inl live) ↦ live
                  | inr (inr gone) ↦ absurd (gone_named rolls_then j told_epoch gone)
                ]
                )
          ];
      drops = λ known j e p told far. elim (k.dropped j e p told) [
        | inr so ↦ so known
        | inl told_then ↦ ap (λ (y : View). is_of y.members j) view ∙ inv.drops (known_then known) j e p told_then (let stamps = ap (λ (y : View). y.stamp) view in omega arith)
      ];
    }

  -- at a server
  by_server : (me : ℕ) (st : Step) (now : ℕ → Bool) → ((j : ℕ) → nat_eq j me ≡ false → now j ≡ was j) → (now me ≡ false → ((was me ≡ false) × (IsLive (w.members me) → IsLive st.member)) ⊎ IsLive st.member ⊎ IsGone w me) → AreSo (steps w me st) st.sends → IsKept (steps w me st) now
  by_server me st now others own so = on_same (steps w me st) now (server_with w me st was now others own so) refl refl (λ k. k) refl refl (λ j a. a)

  -- one that keeps what it has
  by_calm : (me : ℕ) (st : Step) → (IsLive (w.members me) → IsLive st.member) → AreSo (steps w me st) st.sends → IsKept (steps w me st) was
  by_calm me st keeps so = by_server me st was (λ j other. refl) (λ kept. inl (kept, keeps)) so

  -- what the master sends
  by_sends : (to : ℕ) (body : Message) → IsSo (sends w to body) to body → IsKept (sends w to body) was
  by_sends to body so = on_same (sends w to body) was (with_sends w (sends w to body) was was (same_live w (sends w to body) was (λ j. refl)) (record { server = to; body = body } ∷ []) refl (one_so (sends w to body) to body so)) refl refl (λ k. k) refl refl (λ j a. a)

  learns : (me : ℕ) (end : EpochEnd) (fails : Bool) → WasTold w me (Epoch ((w.members me).epoch + 1) end) → was me ≡ false
      → ((was me ≡ false) × (IsLive (w.members me) → IsLive (learned (w.members me) ((w.members me).epoch + 1) end fails))) ⊎ IsLive (learned (w.members me) ((w.members me).epoch + 1) end fails) ⊎ IsGone w me
  learns me Prepare fails told kept = inl (kept, λ live. live)
  learns me Finalize fails told kept = inl (kept, λ live. live)
  learns me Rollback fails told kept = by_image (cond fails None (w.members me).image)
    where
      by_image : (o : Option (List Edit)) → ((was me ≡ false) × (IsLive (w.members me) → IsLive (rolled (w.members me) ((w.members me).epoch + 1) o))) ⊎ IsLive (rolled (w.members me) ((w.members me).epoch + 1) o) ⊎ IsGone w me
      by_image None = inr (inr (inr told))
      by_image (Some edits) = inr (inl refl)

  reports_so : (v : ChunkWorld) (me : ℕ) (m : Member) (o : Option (List Edit)) → AreSo v (reports me m o)
  reports_so v me m None = none_so v
  reports_so v me m (Some edits) = one_so v me (Report m.epoch m.promise) tt

  never_less : (n : ℕ) → n < n → ⊥
  never_less n less = omega arith

  abbrev Then : Event → Type 0
  Then e = IsKept (happens w e) (λ j. lost_at e j (was j))

  -- ---- each event

  kept_on : (e : Event) → Can w e → Then e
  kept_on (Raises me stamp edits image) can =
      let st : Step = quiet (raised (w.members me) stamp edits image) (one me (Promised stamp (length edits) (is_some image))) in
      by_server me st (λ j. cond (nat_eq j me) false (was j)) (λ j other. ap (λ b. cond b false (was j)) other) (λ kept. inr (inl refl)) (one_so (steps w me st) me (Promised stamp (length edits) (is_some image)) (there w me st refl))
  kept_on (Rises me stamp edits) can =
      let st : Step = quiet (raised (w.members me) stamp edits None) (one me (Promised stamp (length edits) false)) in
      by_server me st (λ j. cond (nat_eq j me) false (was j)) (λ j other. ap (λ b. cond b false (was j)) other) (λ kept. inr (inl refl)) (one_so (steps w me st) me (Promised stamp (length edits) false) (there w me st refl))
  kept_on (Promises me edits) can =
      let st : Step = quiet (w.members me) (one me (Promised (w.members me).promise (length edits) (w.members me).carried)) in
      by_calm me st (λ live. live) (one_so (steps w me st) me (Promised (w.members me).promise (length edits) (w.members me).carried) (there w me st (ap is_some can.0)))
  kept_on (SendsCopy me stamp target edits image) can = (let st : Step = quiet (w.members me) (one target (CopyIn stamp edits image)) in by_calm me st (λ live. live) (one_so (steps w me st) target (CopyIn stamp edits image) tt))
  kept_on (TakesLease me stamp members) can = (let st : Step = quiet (record (w.members me) { taken = stamp; lease = Some (new_lease stamp members) }) [] in by_calm me st (λ live. live) (none_so (steps w me st)))
  kept_on (Numbers me lease edits edit) can = (
      let st : Step = record { member = record (w.members me) { live = Some (edits ++ edit ∷ []); lease = Some (opened me lease (length edits) edit) }; sends = []; edits = edit ∷ [] } in
      by_calm me st (λ live. refl) (none_so (steps w me st))
      )
  kept_on (Forwards me lease to place edit) can = (let st : Step = quiet (w.members me) (one to (Forward lease.stamp place edit)) in by_calm me st (λ live. live) (one_so (steps w me st) to (Forward lease.stamp place edit) tt))
  kept_on (Applies me edits edit) can = (let st : Step = quiet (record (w.members me) { live = Some (edits ++ edit ∷ []) }) [] in by_calm me st (λ live. refl) (none_so (steps w me st)))
  kept_on (Acknowledges me edits) can = (let st : Step = quiet (w.members me) (one me (Ack (w.members me).promise (length edits))) in by_calm me st (λ live. live) (one_so (steps w me st) me (Ack (w.members me).promise (length edits)) tt))
  kept_on (Hears me lease from count) can = (let st : Step = quiet (record (w.members me) { lease = Some (events.told_by lease from count) }) [] in by_calm me st (λ live. live) (none_so (steps w me st)))
  kept_on (Closes me lease place) can = (let st : Step = quiet (record (w.members me) { lease = Some (closed lease place) }) [] in by_calm me st (λ live. live) (none_so (steps w me st)))
  kept_on (Answers me lease place edit) can = (let st : Step = quiet (w.members me) (one me (Done lease.stamp place edit)) in by_calm me st (λ live. live) (one_so (steps w me st) me (Done lease.stamp place edit) tt))
  kept_on (Spends me) can = (let st : Step = quiet (record (w.members me) { lease = None }) [] in by_calm me st (λ live. live) (none_so (steps w me st)))
  kept_on (Drops me) can = (let st : Step = quiet (record (w.members me) { live = None; lease = None }) [] in by_server me st was (λ j other. refl) (λ kept. inr (inr (inl can))) (none_so (steps w me st)))
  kept_on (Loses me) can = (
      let st : Step = quiet (record (w.members me) { live = None; image = None; intact = false }) [] in
      by_server me st (λ j. cond (nat_eq j me) true (was j)) (λ j other. ap (λ b. cond b true (was j)) other) (λ kept. absurd (true≢false (sym (ap (λ b. cond b true (was me)) (eq-eqb me me refl)) ∙ kept))) (none_so (steps w me st))
      )
  kept_on (Damages me) can = (let st : Step = quiet (record (w.members me) { intact = false }) [] in by_calm me st (λ live. live) (none_so (steps w me st)))
  kept_on (Learns me end fails) can = (let st : Step = quiet (learned (w.members me) ((w.members me).epoch + 1) end fails) [] in by_server me st was (λ j other. refl) (learns me end fails can.0) (none_so (steps w me st)))
  kept_on (Names me edits) can = (let st : Step = quiet (w.members me) (one me (Learned (w.members me).epoch)) in by_calm me st (λ live. live) (one_so (steps w me st) me (Learned (w.members me).epoch) (there w me st (ap is_some can.0))))
  kept_on (Reports me) can = (let st : Step = quiet (w.members me) (reports me (w.members me) (w.members me).live) in by_calm me st (λ live. live) (reports_so (steps w me st) me (w.members me) (w.members me).live))
  kept_on (Proposes stamp asked) can = record {
    member = λ known calm j member kept. inv.member known calm j member kept;
    asked = λ less calm j is c b told kept. absurd (let h = (said w ok j (Promised stamp c b) told).1 in let top = (ok.entry).top in let more = can.3 in omega arith);
    named = λ rolls j told kept. inv.named rolls j told kept;
    drops = λ known j e p told far. inv.drops known j e p told far;
  }
  kept_on (AsksFirst to false) can = by_sends to (Create w.entry.top) tt
  kept_on (AsksFirst to true) can = by_sends to (CopyIn w.entry.top (w.known.list w.entry.view.stamp) None) tt
  kept_on (Asks to) can = by_sends to (Advance w.entry.top) tt
  kept_on (AsksForCopy source target with_image) can = by_sends source (CopyOut w.entry.top target with_image) tt
  kept_on GivesUp can = on_same (given_up w) was (with_none w (given_up w) was was (same_live w (given_up w) was (λ j. refl)) refl) refl refl (λ k. k) refl refl (λ j a. absurd (false≢true a))
  kept_on (Holds server) can = on_same (happens w (Holds server)) was (with_none w (happens w (Holds server)) was was (same_live w (happens w (Holds server)) was (λ j. refl)) refl) refl refl (λ k. k) refl refl (λ j a. a)
  kept_on (Settles members count holder) can = record {
    member = λ known calm j member kept. (let p = can.2 j member in inv.asked can.0 calm j p.0 count p.1.0 p.1.1 kept);
    asked = λ less calm j is c b told kept. absurd (never_less w.entry.top less);
    named = λ rolls j told kept. inv.named rolls j told kept;
    drops = λ known j e p told far. absurd (let d = (said w ok j (Drop e p) told).top in let top = (ok.entry).top in let over : w.entry.top < p = far in omega arith);
  }
  kept_on (Grants to) can = by_sends to (Grant w.entry.view.stamp w.entry.view.members) tt
  kept_on Retires can = on_same (retired w) was (with_none w (retired w) was was (same_live w (retired w) was (λ j. refl)) refl) refl refl (λ k. absurd (false≢true k)) refl refl (λ j a. absurd (false≢true a))
  kept_on (SendsDrop to promise) can = by_sends to (Drop w.entry.epoch promise) (λ known. (can.2 known).0)
  kept_on (Prepares whole) can = record {
    member = λ known calm j member kept. inv.member known calm j member kept;
    asked = λ less calm j is c b told kept. inv.asked less calm j is c b told kept;
    named = λ rolls j told kept. absurd (false≢true (sym can.0 ∙ rolls));
    drops = λ known j e p told far. inv.drops known j e p told far;
  }
  kept_on Finalizes can = record {
    member = λ known calm j member kept. inv.member known calm j member kept;
    asked = λ less calm j is c b told kept. inv.asked less calm j is c b told kept;
    named = λ rolls j told kept. absurd (false≢true (sym can.0 ∙ rolls));
    drops = λ known j e p told far. inv.drops known j e p told far;
  }
  kept_on BeginsRollback can = record {
    member = λ known calm j member kept. absurd (true≢false calm);
    asked = λ less calm j is c b told kept. absurd (true≢false calm);
    named = λ rolls j told kept. absurd (let l = (said w ok j (Learned (w.entry.epoch + 1)) told).within in let at = (ok.entry).epoch in omega arith);
    drops = λ known j e p told far. inv.drops known j e p told far;
  }
  kept_on (CommitsRollback members true) can = record {
    member = λ known calm j member kept. inv.named can.0 j ((can.1 refl).1 j member).1 kept;
    asked = λ less calm j is c b told kept. absurd (never_less (start_of w.entry.epoch) less);
    named = λ rolls j told kept. absurd (false≢true rolls);
    drops = λ known j e p told far. absurd (
        let d = (said w ok j (Drop e p) told).top in
        let below = (committing w ok can.0).below in
        let starts = ap start_of (ok.entry).epoch in
        let over : start_of w.entry.epoch < p = far in omega arith
        );
  }
  kept_on (CommitsRollback members false) can = record {
    member = λ known calm j member kept. absurd (false≢true known);
    asked = λ less calm j is c b told kept. absurd (never_less (start_of w.entry.epoch) less);
    named = λ rolls j told kept. absurd (false≢true rolls);
    drops = λ known j e p told far. absurd (false≢true known);
  }
  kept_on (TellsEpoch to epoch) can = by_sends to (Epoch epoch (w.entry.how epoch)) tt

-- ---- over runs

nothing_told : (b : Birth) (j : ℕ) (body : Message) → WasTold (world_of b) j body → ⊥
nothing_told b j body told = All-contains (λ (m : Sent). ⊥) [] (record { server = j; body = body }) (All-nil (λ (m : Sent). ⊥)) told

first_kept : (b : Birth) → IsKept (world_of b) (λ j. false)
first_kept b = record {
  member = λ known calm j member kept. absurd (false≢true member);
  asked = λ less calm j is c d told kept. absurd (nothing_told b j (Promised (start_of b.epoch) c d) told);
  named = λ rolls j told kept. absurd (false≢true rolls);
  drops = λ known j e p told far. absurd (nothing_told b j (Drop e p) told);
}

always_kept : (b : Birth) (w : ChunkWorld) (leads : Leads (world_of b) w) → IsKept w (was_lost (world_of b) w leads)
always_kept b w Rests = first_kept b
always_kept b w (Goes u e before can) = kept_on u (leads_world (world_of b) u before (born_world b.epoch b.how b.origin (rising_of b.origin b.numbered))) (was_lost (world_of b) u before) (always_kept b u before) e can

pub members_are_there : MembersAreThere
members_are_there b w leads known calm j member kept = (always_kept b w leads).member known calm j member kept
