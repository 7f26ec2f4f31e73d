-- Where a rollback is committed, and what an epoch that begins by a prepare finds.
use Rattle.std.proofs.Common.{◌≡◌, ◌≢◌, ◌∙◌, ◌+◌, ◌<◌, ◌≤◌, ◌⊎◌, ℕ, inl, inr, ⊎_elim, Bool, true, false, None, cond, refl, sym, ap, arith}
use Rattle.std.specs.Prelude.{is_some, nat_eq}
use Rattle.std.proofs.lemmas.Bool.{cases_eq, cases_lt, eq-eqb, false≢true, true≢false}
use Rattle.gs_base.specs.declared.epoch.EpochEnd.{EpochEnd}
use Rattle.gs_base.specs.declared.epoch.EpochEnd.TheVariants.{Prepare, Finalize, Rollback}
use Rattle.gs_laws_chunk.specs.machine.Machine.{ChunkWorld}
use Rattle.gs_laws_chunk.specs.machine.Events.{Event, AsksFirst, Asks, AsksForCopy, GivesUp, Holds, Grants, SendsDrop, Prepares, Finalizes, BeginsRollback, TellsEpoch, Proposes, Settles, Retires, CommitsRollback, Can, Goes, Leads, Rests, happens}
use Rattle.gs_laws_chunk.specs.machine.Acting.{actor}
use Rattle.gs_laws_chunk.specs.machine.Mastering.{AreOfMaster, MastersCommit, MastersPrepare, MastersStayCalm, MembersStood}
use Rattle.gs_laws_chunk.proofs.lemmas.machine.Facts.{reached_world}
use Rattle.gs_laws_chunk.proofs.lemmas.machine.Known.{false_true}
use Rattle.gs_laws_chunk.proofs.lemmas.machine.Worlds.{WorldOk, committing, happens_world, leads_later, leads_world}

-- ---- what an event of the master makes of the epoch

-- the epoch stays as it is, and so does what was prepared
record Stays (u v : ChunkWorld) : Type 0 where
  epoch : v.entry.epoch ≡ u.entry.epoch
  how : v.entry.how ≡ u.entry.how
  rolling : v.entry.is_rolling ≡ u.entry.is_rolling
  known : v.entry.is_known ≡ true → u.entry.is_known ≡ true
  was_known : v.entry.was_known ≡ u.entry.was_known
  prepared : v.entry.prepared ≡ u.entry.prepared

-- a rollback is committed
record Commits (u v : ChunkWorld) : Type 0 where
  epoch : v.entry.epoch ≡ u.entry.epoch
  how : v.entry.how ≡ u.entry.how
  rolling : u.entry.is_rolling ≡ true
  over : v.entry.is_rolling ≡ false
  beyond : u.known.top < v.known.view

-- an epoch begins by a prepare
record Begins (u v : ChunkWorld) : Type 0 where
  epoch : v.entry.epoch ≡ u.entry.epoch + 1
  calm : u.entry.is_rolling ≡ false
  still : v.entry.is_rolling ≡ false
  was_known : v.entry.was_known ≡ u.entry.is_known
  prepared : v.entry.prepared ≡ u.entry.view
  view : v.entry.view ≡ u.entry.view

-- an epoch begins otherwise
record Ends (u v : ChunkWorld) : Type 0 where
  epoch : v.entry.epoch ≡ u.entry.epoch + 1
  calm : u.entry.is_rolling ≡ false
  how : v.entry.how v.entry.epoch ≢ Prepare

abbrev Turns : ChunkWorld → ChunkWorld → Type 0
Turns u v = Stays u v ⊎ (Commits u v ⊎ (Begins u v ⊎ Ends u v))

other_end : (e : ℕ) (end was : EpochEnd) → end ≢ Prepare → cond (nat_eq e e) end was ≢ Prepare
other_end e end was other is = other (sym (ap (λ b. cond b end was) (eq-eqb e e refl)) ∙ is)

event_turns : (u : ChunkWorld) → WorldOk u → (e : Event) → Can u e → actor e ≡ None → Turns u (happens u e)
event_turns u ok (CommitsRollback members true) can none = inr (inl (record { epoch = refl; how = refl; rolling = can.0; over = refl; beyond = (committing u ok can.0).below }))
event_turns u ok (CommitsRollback members false) can none = inr (inl (record { epoch = refl; how = refl; rolling = can.0; over = refl; beyond = (committing u ok can.0).below }))
event_turns u ok (Prepares whole) can none = inr (inr (inl (record { epoch = refl; calm = can.0; still = can.0; was_known = refl; prepared = refl; view = refl })))
event_turns u ok Finalizes can none = inr (inr (inr (record { epoch = refl; calm = can.0; how = other_end (u.entry.epoch + 1) Finalize (u.entry.how (u.entry.epoch + 1)) (λ x. (cc)) })))
event_turns u ok BeginsRollback can none = inr (inr (inr (record { epoch = refl; calm = can.0; how = other_end (u.entry.epoch + 1) Rollback (u.entry.how (u.entry.epoch + 1)) (λ x. (cc)) })))
event_turns u ok Retires can none = inl (record { epoch = refl; how = refl; rolling = refl; known = λ is. absurd (false≢true is); was_known = refl; prepared = refl })
event_turns u ok (Proposes stamp asked) can none = inl (record { epoch = refl; how = refl; rolling = refl; known = λ is. is; was_known = refl; prepared = refl })
event_turns u ok (AsksFirst to false) can none = inl (record { epoch = refl; how = refl; rolling = refl; known = λ is. is; was_known = refl; prepared = refl })
event_turns u ok (AsksFirst to true) can none = inl (record { epoch = refl; how = refl; rolling = refl; known = λ is. is; was_known = refl; prepared = refl })
event_turns u ok (Asks to) can none = inl (record { epoch = refl; how = refl; rolling = refl; known = λ is. is; was_known = refl; prepared = refl })
event_turns u ok (AsksForCopy source target with_image) can none = inl (record { epoch = refl; how = refl; rolling = refl; known = λ is. is; was_known = refl; prepared = refl })
event_turns u ok GivesUp can none = inl (record { epoch = refl; how = refl; rolling = refl; known = λ is. is; was_known = refl; prepared = refl })
event_turns u ok (Holds server) can none = inl (record { epoch = refl; how = refl; rolling = refl; known = λ is. is; was_known = refl; prepared = refl })
event_turns u ok (Settles members count holder) can none = inl (record { epoch = refl; how = refl; rolling = refl; known = λ is. is; was_known = refl; prepared = refl })
event_turns u ok (Grants to) can none = inl (record { epoch = refl; how = refl; rolling = refl; known = λ is. is; was_known = refl; prepared = refl })
event_turns u ok (SendsDrop to promise) can none = inl (record { epoch = refl; how = refl; rolling = refl; known = λ is. is; was_known = refl; prepared = refl })
event_turns u ok (TellsEpoch to epoch) can none = inl (record { epoch = refl; how = refl; rolling = refl; known = λ is. is; was_known = refl; prepared = refl })
event_turns u ok e can none = absurd (false≢true (sym (ap is_some none)))

-- epochs only rise
rises : (w v : ChunkWorld) → Leads w v → WorldOk w → w.entry.epoch ≤ v.entry.epoch
rises w v leads ok = (let a = (ok.entry).epoch in let b = ((leads_world w v leads ok).entry).epoch in let c = (leads_later w v leads ok).current in omega arith)

-- ---- rolling back

pub stays_calm : (w v : ChunkWorld) (leads : Leads w v) → WorldOk w → AreOfMaster w v leads → w.entry.is_rolling ≡ false → v.entry.epoch ≡ w.entry.epoch → v.entry.is_rolling ≡ false
stays_calm w v Rests ok masters calm same = calm
stays_calm w v (Goes u e before can) ok masters calm same =
    let low = rises w u before ok in
    elim (event_turns u (leads_world w u before ok) e can masters.1) [
      | inl still ↦ still.rolling ∙ stays_calm w u before ok masters.0 calm (sym still.epoch ∙ same)
      | inr (inl over) ↦ over.over
      | inr (inr (inl next)) ↦ next.still
      | inr (inr (inr next)) ↦ absurd (let a = next.epoch in omega arith)
    ]

pub masters_stay_calm : MastersStayCalm
masters_stay_calm w v leads reached masters calm same = stays_calm w v leads (reached_world w reached) masters calm same

-- at the next event
commits_next : (w u : ChunkWorld) (before : Leads w u) → WorldOk w → (u.entry.is_rolling ≡ false → w.known.top < u.known.view) → (e : Event) → Can u e → actor e ≡ None → (happens u e).entry.is_rolling ≡ false → w.known.top < (happens u e).known.view
commits_next w u before ok old e can none over = by_rolling u.entry.is_rolling refl
  where
    oku : WorldOk u
    oku = leads_world w u before ok

    by_rolling : (b : Bool) → u.entry.is_rolling ≡ b → w.known.top < (happens u e).known.view
    by_rolling false calm = (let a = old calm in let view = (happens_world u oku e can).grows.view in omega arith)
    by_rolling true still = elim (event_turns u oku e can none) [
      | inl same ↦ absurd (true≢false (sym still ∙ sym same.rolling ∙ over))
      | inr (inl done) ↦ (let a = done.beyond in let b = (leads_later w u before ok).top in omega arith)
      | inr (inr (inl next)) ↦ absurd (true≢false (sym still ∙ next.calm))
      | inr (inr (inr next)) ↦ absurd (true≢false (sym still ∙ next.calm))
    ]

commits : (w v : ChunkWorld) (leads : Leads w v) → WorldOk w → AreOfMaster w v leads → w.entry.is_rolling ≡ true → v.entry.is_rolling ≡ false → w.known.top < v.known.view
commits w v Rests ok masters rolls over = absurd (true≢false (sym rolls ∙ over))
commits w v (Goes u e before can) ok masters rolls over = commits_next w u before ok (commits w u before ok masters.0 rolls) e can masters.1 over

pub masters_commit : MastersCommit
masters_commit w v leads reached masters rolls over = commits w v leads (reached_world w reached) masters rolls over

-- ---- a prepare

-- while the epoch stands nothing is rolled back, and what is known was known
record Standing (w v : ChunkWorld) : Type 0 where
  calm : v.entry.is_rolling ≡ false
  known : v.entry.is_known ≡ true → w.entry.is_known ≡ true

-- behind a prepare: what was known then was known before, and its view isn't earlier than the one before
record Finds (w v : ChunkWorld) : Type 0 where
  calm : v.entry.is_rolling ≡ false
  known : v.entry.was_known ≡ true → w.entry.is_known ≡ true
  above : w.entry.view.stamp ≤ v.entry.prepared.stamp
  below : v.entry.prepared.stamp ≤ v.entry.view.stamp

record Found (w v : ChunkWorld) : Type 0 where
  stands : v.entry.epoch ≡ w.entry.epoch → Standing w v
  finds : v.entry.epoch ≡ w.entry.epoch + 1 → v.entry.how v.entry.epoch ≡ Prepare → Finds w v

-- views only rise
climbs : (w v : ChunkWorld) → Leads w v → WorldOk w → w.entry.view.stamp ≤ v.entry.view.stamp
climbs w v leads ok = (let a = (ok.entry).stamp in let b = ((leads_world w v leads ok).entry).stamp in let c = (leads_later w v leads ok).view in omega arith)

-- at the next event
found_next : (w u : ChunkWorld) (before : Leads w u) → WorldOk w → Found w u → (e : Event) → Can u e → actor e ≡ None → Found w (happens u e)
found_next w u before ok old e can none = elim (event_turns u oku e can none) [
  | inl same ↦ record {
    stands = λ at. (let s = old.stands (sym same.epoch ∙ at) in record { calm = same.rolling ∙ s.calm; known = λ is. s.known (same.known is) });
    finds = λ at how. (let f = old.finds (sym same.epoch ∙ at) (began same.epoch same.how how) in record {
      calm = same.rolling ∙ f.calm;
      known = λ is. f.known (sym same.was_known ∙ is);
      above = (let a = f.above in let b = ap (λ x. x.stamp) same.prepared in omega arith);
      below = (let a = f.below in let b = ap (λ x. x.stamp) same.prepared in let c = climbs u (happens u e) (Goes u e Rests can) oku in omega arith);
    });
  }
  | inr (inl over) ↦ record {
    stands = λ at. absurd (true≢false (sym over.rolling ∙ (old.stands (sym over.epoch ∙ at)).calm));
    finds = λ at how. absurd (true≢false (sym over.rolling ∙ (old.finds (sym over.epoch ∙ at) (began over.epoch over.how how)).calm));
  }
  | inr (inr (inl next)) ↦ record {
    stands = λ at. absurd (let a = next.epoch in let l = low in omega arith);
    finds = λ at how. (let s = old.stands (let a = next.epoch in omega arith) in record {
      calm = next.still;
      known = λ is. s.known (sym next.was_known ∙ is);
      above = (let a = ap (λ x. x.stamp) next.prepared in let b = climbs w u before ok in omega arith);
      below = (let a = ap (λ x. x.stamp) next.prepared in let b = ap (λ x. x.stamp) next.view in omega arith);
    });
  }
  | inr (inr (inr next)) ↦ record {
    stands = λ at. absurd (let a = next.epoch in let l = low in omega arith);
    finds = λ at how. absurd (next.how how);
  }
]
  where
    oku : WorldOk u
    oku = leads_world w u before ok

    low : w.entry.epoch ≤ u.entry.epoch
    low = rises w u before ok

    began : (happens u e).entry.epoch ≡ u.entry.epoch → (happens u e).entry.how ≡ u.entry.how → (happens u e).entry.how (happens u e).entry.epoch ≡ Prepare → u.entry.how u.entry.epoch ≡ Prepare
    began at same how = ap u.entry.how (sym at) ∙ sym (ap (λ h. h (happens u e).entry.epoch) same) ∙ how

found : (w v : ChunkWorld) (leads : Leads w v) → WorldOk w → AreOfMaster w v leads → w.entry.is_rolling ≡ false → Found w v
found w v Rests ok masters calm = record { stands = λ same. record { calm = calm; known = λ is. is }; finds = λ next. absurd (omega arith) }
found w v (Goes u e before can) ok masters calm = found_next w u before ok (found w u before ok masters.0 calm) e can masters.1

pub masters_prepare : MastersPrepare
masters_prepare w v leads reached masters calm next how was = (let f = (found w v leads (reached_world w reached) masters calm).finds next how in (f.known was, f.above, f.below))

-- ---- members

pub members_stood : MembersStood
members_stood w t j reached member = (stood, late)
  where
    ok : WorldOk w
    ok = reached_world w reached

    within : t ≤ w.known.view
    within = ⊎_elim
        (λ (above : w.known.view < t). absurd (false_true (w.known.members t j) (((ok.known).fresh t above).2 j) member))
        (λ (low : t ≤ w.known.view). low)
        (cases_lt w.known.view t)

    stood : w.known.stood t ≡ true
    stood = (ok.known).peopled t j within member

    late : w.known.born < t
    late = ⊎_elim
        (λ (same : t ≡ w.known.born). absurd (false_true (w.known.members t j) (ap (λ s. w.known.members s j) same ∙ (ok.known).first j) member))
        (λ (other : t ≢ w.known.born). let low = (ok.known).early t stood in omega arith)
        (cases_eq t w.known.born)
