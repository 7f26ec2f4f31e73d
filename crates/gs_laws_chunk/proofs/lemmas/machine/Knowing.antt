-- What the master forgets it settles no more, and what it settles has a member.
use Rattle.std.proofs.Common.{◌≡◌, ◌≢◌, ◌∙◌, ◌+◌, ◌<◌, ◌⊎◌, ℕ, inl, inr, true, false, List, [], ◌∷◌, None, refl, sym, ap, arith}
use Rattle.std.specs.Prelude.{is_some}
use Rattle.std.proofs.lemmas.Bool.{eq-eqb, false≢true, true≢false}
use Rattle.gs_laws_chunk.specs.machine.Stamps.{start_of}
use Rattle.gs_laws_chunk.specs.machine.Machine.{ChunkWorld}
use Rattle.gs_laws_chunk.specs.machine.Events.{Event, AsksFirst, Asks, AsksForCopy, GivesUp, Holds, Grants, SendsDrop, Prepares, Finalizes, BeginsRollback, TellsEpoch, Proposes, Settles, Retires, CommitsRollback, Can, Goes, Leads, Rests, happens, is_of}
use Rattle.gs_laws_chunk.specs.machine.Acting.{actor}
use Rattle.gs_laws_chunk.specs.machine.Mastering.{AreOfMaster, KeepsLists, MastersForget, MastersKeepPrepared, MastersPeople, NonePrepared}
use Rattle.gs_base.specs.declared.epoch.EpochEnd.TheVariants.{Prepare}
use Rattle.gs_laws_chunk.proofs.lemmas.machine.Facts.{reached_world}
use Rattle.gs_laws_chunk.proofs.lemmas.machine.Lasting.{stays_known}
use Rattle.gs_laws_chunk.proofs.lemmas.machine.Worlds.{WorldOk, happens_world, leads_later, leads_world}

module _ (u : ChunkWorld) (ok : WorldOk u) where
  -- a commit goes beyond all that was proposed
  beyond : u.entry.is_rolling ≡ true → u.known.top < start_of u.known.current
  beyond rolls = let r = (ok.entry).rolling rolls in let at = ap start_of r.next in let below = r.below in omega arith

  pub asked_known : (members : List ℕ) → members ≢ [] → ((j : ℕ) → is_of members j ≡ true → u.entry.asked j ≡ true) → u.entry.is_known ≡ true
  asked_known [] some asked = absurd (some refl)
  asked_known (x ∷ members) some asked = (ok.entry).asking x (asked x (by_first x members))
    where
      by_first : (x : ℕ) (xs : List ℕ) → is_of (x ∷ xs) x ≡ true
      by_first x xs = rw (eq-eqb x x refl) refl

  abbrev Forgets : ChunkWorld → Type 0
  Forgets v = ((v.entry.is_known ≡ false) × KeepsLists u v) ⊎ (u.known.top < v.known.view)

  event_forgets : (e : Event) → Can u e → actor e ≡ None → u.entry.is_known ≡ false → Forgets (happens u e)
  event_forgets (Proposes stamp asked) can none unknown = absurd (true≢false (sym can.0 ∙ unknown))
  event_forgets (Settles members count holder) can none unknown = absurd (true≢false (sym (asked_known members can.1 (λ j is. (can.2 j is).0)) ∙ unknown))
  event_forgets (CommitsRollback members true) can none unknown = inr (beyond can.0)
  event_forgets (CommitsRollback members false) can none unknown = inr (beyond can.0)
  event_forgets Retires can none unknown = inl (refl, record { view = refl; list = refl; stood = refl })
  event_forgets (AsksFirst to false) can none unknown = inl (unknown, record { view = refl; list = refl; stood = refl })
  event_forgets (AsksFirst to true) can none unknown = inl (unknown, record { view = refl; list = refl; stood = refl })
  event_forgets (Asks to) can none unknown = inl (unknown, record { view = refl; list = refl; stood = refl })
  event_forgets (AsksForCopy source target with_image) can none unknown = inl (unknown, record { view = refl; list = refl; stood = refl })
  event_forgets GivesUp can none unknown = inl (unknown, record { view = refl; list = refl; stood = refl })
  event_forgets (Holds server) can none unknown = inl (unknown, record { view = refl; list = refl; stood = refl })
  event_forgets (Grants to) can none unknown = inl (unknown, record { view = refl; list = refl; stood = refl })
  event_forgets (SendsDrop to promise) can none unknown = inl (unknown, record { view = refl; list = refl; stood = refl })
  event_forgets (Prepares whole) can none unknown = inl (unknown, record { view = refl; list = refl; stood = refl })
  event_forgets Finalizes can none unknown = inl (unknown, record { view = refl; list = refl; stood = refl })
  event_forgets BeginsRollback can none unknown = inl (unknown, record { view = refl; list = refl; stood = refl })
  event_forgets (TellsEpoch to epoch) can none unknown = inl (unknown, record { view = refl; list = refl; stood = refl })
  event_forgets e can none unknown = absurd (false≢true (sym (ap is_some none)))

  abbrev Peoples : ChunkWorld → Type 0
  Peoples v = (v.entry.view ≡ u.entry.view) ⊎ ((v.entry.view.members ≢ []) ⊎ (u.known.top < v.known.view))

  event_peoples : (e : Event) → Can u e → actor e ≡ None → Peoples (happens u e)
  event_peoples (Settles members count holder) can none = inr (inl can.1)
  event_peoples (CommitsRollback members true) can none = inr (inr (beyond can.0))
  event_peoples (CommitsRollback members false) can none = inr (inr (beyond can.0))
  event_peoples (Proposes stamp asked) can none = inl refl
  event_peoples Retires can none = inl refl
  event_peoples (AsksFirst to false) can none = inl refl
  event_peoples (AsksFirst to true) can none = inl refl
  event_peoples (Asks to) can none = inl refl
  event_peoples (AsksForCopy source target with_image) can none = inl refl
  event_peoples GivesUp can none = inl refl
  event_peoples (Holds server) can none = inl refl
  event_peoples (Grants to) can none = inl refl
  event_peoples (SendsDrop to promise) can none = inl refl
  event_peoples (Prepares whole) can none = inl refl
  event_peoples Finalizes can none = inl refl
  event_peoples BeginsRollback can none = inl refl
  event_peoples (TellsEpoch to epoch) can none = inl refl
  event_peoples e can none = absurd (false≢true (sym (ap is_some none)))

both : (w u v : ChunkWorld) → KeepsLists w u → KeepsLists u v → KeepsLists w v
both w u v x y = record { view = y.view ∙ x.view; list = y.list ∙ x.list; stood = y.stood ∙ x.stood }

forgets : (w v : ChunkWorld) (leads : Leads w v) → WorldOk w → AreOfMaster w v leads → w.entry.is_known ≡ false → ((v.entry.is_known ≡ false) × KeepsLists w v) ⊎ (w.known.top < v.known.view)
forgets w v Rests ok masters unknown = inl (unknown, record { view = refl; list = refl; stood = refl })
forgets w v (Goes u e before can) ok masters unknown =
    let oku = leads_world w u before ok in
    let top = (leads_later w u before ok).top in
    let view = (happens_world u oku e can).grows.view in
    elim (forgets w u before ok masters.0 unknown) [
      | inl still ↦ elim (event_forgets u oku e can masters.1 still.0) [
        | inl gone ↦ inl (gone.0, both w u (happens u e) still.1 gone.1)
        | inr over ↦ inr (omega arith)
      ]
      | inr over ↦ inr (omega arith)
    ]

pub masters_forget : MastersForget
masters_forget w v leads reached masters unknown = forgets w v leads (reached_world w reached) masters unknown

peoples : (w v : ChunkWorld) (leads : Leads w v) → WorldOk w → AreOfMaster w v leads → (v.entry.view ≡ w.entry.view) ⊎ ((v.entry.view.members ≢ []) ⊎ (w.known.top < v.known.view))
peoples w v Rests ok masters = inl refl
peoples w v (Goes u e before can) ok masters =
    let oku = leads_world w u before ok in
    let top = (leads_later w u before ok).top in
    let view = (happens_world u oku e can).grows.view in
    elim (event_peoples u oku e can masters.1) [
      | inl same ↦ elim (peoples w u before ok masters.0) [
        | inl still ↦ inl (same ∙ still)
        | inr (inl some) ↦ inr (inl (λ none. some (ap (λ x. x.members) (sym same) ∙ none)))
        | inr (inr over) ↦ inr (inr (omega arith))
      ]
      | inr (inl some) ↦ inr (inl some)
      | inr (inr over) ↦ inr (inr (omega arith))
    ]

pub masters_people : MastersPeople
masters_people w v leads reached masters = peoples w v leads (reached_world w reached) masters

-- ---- what was prepared

abbrev Kept : ChunkWorld → ChunkWorld → Type 0
Kept w v = (w.entry.was_known ≡ true) × (v.entry.prepared.stamp ≡ w.entry.prepared.stamp)

event_prepared : (u : ChunkWorld) (e : Event) → Can u e → actor e ≡ None → (happens u e).entry.was_known ≡ true → Kept u (happens u e) ⊎ (((happens u e).entry.epoch ≡ u.entry.epoch + 1) × ((happens u e).entry.how (u.entry.epoch + 1) ≡ Prepare))
event_prepared u (Prepares whole) can none was = inr (refl, rw (eq-eqb (u.entry.epoch + 1) (u.entry.epoch + 1) refl) refl)
event_prepared u Finalizes can none was = absurd (false≢true was)
event_prepared u (CommitsRollback members true) can none was = absurd (false≢true was)
event_prepared u (CommitsRollback members false) can none was = absurd (false≢true was)
event_prepared u (Proposes stamp asked) can none was = inl (was, refl)
event_prepared u (AsksFirst to false) can none was = inl (was, refl)
event_prepared u (AsksFirst to true) can none was = inl (was, refl)
event_prepared u (Asks to) can none was = inl (was, refl)
event_prepared u (AsksForCopy source target with_image) can none was = inl (was, refl)
event_prepared u GivesUp can none was = inl (was, refl)
event_prepared u (Holds server) can none was = inl (was, refl)
event_prepared u (Settles members count holder) can none was = inl (was, refl)
event_prepared u (Grants to) can none was = inl (was, refl)
event_prepared u Retires can none was = inl (was, refl)
event_prepared u (SendsDrop to promise) can none was = inl (was, refl)
event_prepared u BeginsRollback can none was = inl (was, refl)
event_prepared u (TellsEpoch to epoch) can none was = inl (was, refl)
event_prepared u e can none was = absurd (false≢true (sym (ap is_some none)))

keeps_prepared : (w v : ChunkWorld) (leads : Leads w v) → WorldOk w → AreOfMaster w v leads → NonePrepared w v → v.entry.was_known ≡ true → Kept w v
keeps_prepared w v Rests ok masters none was = (was, refl)
keeps_prepared w v (Goes u e before can) ok masters none was =
    let oku = leads_world w u before ok in
    let first = stays_known w ok u before in
    let last = stays_known u oku (happens u e) (Goes u e Rests can) in
    let epoch = first.epoch in
    elim (event_prepared u e can masters.1 was) [
      | inl kept ↦ (let old = keeps_prepared w u before ok masters.0 (λ x above within is. none x above (let more = last.epoch in omega arith) (last.how x within ∙ is)) kept.0 in (old.0, kept.1 ∙ old.1))
      | inr (next, is) ↦ absurd (none (u.entry.epoch + 1) (omega arith) (omega arith) is)
    ]

pub masters_keep_prepared : MastersKeepPrepared
masters_keep_prepared w v leads reached masters none was = keeps_prepared w v leads (reached_world w reached) masters none was
