-- What is carried more in a run of a chunk's machine.
use Rattle.std.proofs.Common.{◌≡◌, ◌∙◌, ◌+◌, ◌<◌, ◌⊎◌, inl, inr, ℕ, Bool, true, false, cond, List, Option, Some, None, refl, sym, ap, arith}
use Rattle.std.specs.Prelude.{◌&&◌, ◌||◌, is_some, nat_eq}
use Rattle.std.proofs.lemmas.Bool.{eq-eqb, false≢true}
use Rattle.gs_base.specs.declared.epoch.EpochEnd.{EpochEnd}
use Rattle.gs_base.specs.declared.epoch.EpochEnd.TheVariants.{Finalize, Prepare, Rollback}
use Rattle.gs_laws_chunk.specs.machine.Acting.{actor}
use Rattle.gs_laws_chunk.specs.machine.Stamps.{epoch_of}
use Rattle.gs_laws_chunk.specs.machine.Machine.{Member, ChunkWorld}
use Rattle.gs_laws_chunk.specs.machine.Events.{Acknowledges, Answers, Applies, Asks, AsksFirst, AsksForCopy, BeginsRollback, Can, Closes, CommitsRollback, Damages, Drops, Event, Finalizes, Forwards, GivesUp, Goes, Grants, Hears, Holds, Leads, Learns, Loses, Names, Numbers, Prepares, Promises, Proposes, Raises, Reports, Rests, Retires, Rises, SendsCopy, SendsDrop, Settles, Spends, TakesLease, TellsEpoch, happens, learned, raised, rolled}
use Rattle.gs_laws_chunk.specs.machine.Mastering.{AreOfMaster}
use Rattle.gs_laws_chunk.proofs.lemmas.machine.Worlds.{WorldOk, happens_world, leads_later, leads_world}
use Rattle.gs_laws_parts.proofs.lemmas.server.Engine.{carries_at, own}
use Rattle.gs_replica.specs.Stands.{Edit}

-- ---- the master

event_leaves : (w : ChunkWorld) (e : Event) → actor e ≡ None → (happens w e).known.carries ≡ w.known.carries
event_leaves w (Proposes stamp asked) none = refl
event_leaves w (AsksFirst to false) none = refl
event_leaves w (AsksFirst to true) none = refl
event_leaves w (Asks to) none = refl
event_leaves w (AsksForCopy source target with_image) none = refl
event_leaves w GivesUp none = refl
event_leaves w (Holds server) none = refl
event_leaves w (Settles members count holder) none = refl
event_leaves w (Grants to) none = refl
event_leaves w Retires none = refl
event_leaves w (SendsDrop to promise) none = refl
event_leaves w (Prepares whole) none = refl
event_leaves w Finalizes none = refl
event_leaves w BeginsRollback none = refl
event_leaves w (CommitsRollback members true) none = refl
event_leaves w (CommitsRollback members false) none = refl
event_leaves w (TellsEpoch to epoch) none = refl
event_leaves w e none = absurd (false≢true (sym (ap is_some none)))

-- Events of the master leave what is carried.
pub masters_carry : (w v : ChunkWorld) (leads : Leads w v) → AreOfMaster w v leads → v.known.carries ≡ w.known.carries
masters_carry w v Rests masters = refl
masters_carry w v (Goes u e before can) masters = event_leaves u e masters.1 ∙ masters_carry w u before masters.0

-- ---- servers

-- a member goes on under its promise, as it told then whether it carries; or it carries no more, or has promised more
abbrev GoesOn : Member → Member → Type 0
GoesOn m n = ((n.promise ≡ m.promise) × (n.carried ≡ m.carried)) ⊎ ((n.carried ≡ false) ⊎ (m.promise < n.promise))

learns_on : (m : Member) (epoch : ℕ) (end : EpochEnd) (fails : Bool) → GoesOn m (learned m epoch end fails)
learns_on m epoch Prepare fails = inl (refl, refl)
learns_on m epoch Finalize fails = inl (refl, refl)
learns_on m epoch Rollback fails = by_image (cond fails None m.image)
  where
    by_image : (image : Option (List Edit)) → GoesOn m (rolled m epoch image)
    by_image None = inl (refl, refl)
    by_image (Some edits) = inr (inl refl)

module _ (u : ChunkWorld) (ok : WorldOk u) where
  -- it was carried before, or its server has promised more
  abbrev IsRisen : ChunkWorld → ℕ → ℕ → Type 0
  IsRisen v e j = (u.known.carries e j ≡ true) ⊎ (u.known.promise j < v.known.promise j)

  member_rises : (me : ℕ) (n : Member) → GoesOn (u.members me) n → (e j : ℕ) → (u.known.carries e j || (nat_eq j me && (nat_eq e (epoch_of n.promise) && n.carried))) ≡ true
      → (u.known.carries e j ≡ true) ⊎ (u.known.promise j < cond (nat_eq j me) n.promise (u.known.promise j))
  member_rises me n goes e j is = elim (carries_at e j me (epoch_of n.promise) (u.known.carries e j) n.carried is) [
    | inl old ↦ inl old
    | inr (at, within, carried) ↦ elim goes [
      | inl (same, still) ↦ inl (ap (u.known.carries e) at ∙ ap (λ x. u.known.carries x me) (within ∙ ap epoch_of same) ∙ (ok.seals me).carried (sym still ∙ carried))
      | inr (inl none) ↦ absurd (false≢true (sym none ∙ carried))
      | inr (inr up) ↦ inr (
          let was : u.known.promise j ≡ (u.members me).promise = ap u.known.promise at ∙ (ok.views me).promise in
          let now : cond (nat_eq j me) n.promise (u.known.promise j) ≡ n.promise = own (nat_eq j me) n.promise (u.known.promise j) (eq-eqb j me at) in
          omega arith)
    ]
  ]

  event_rises : (event : Event) → Can u event → (e j : ℕ) → (happens u event).known.carries e j ≡ true → IsRisen (happens u event) e j
  event_rises (Raises me stamp edits image) can e j is = member_rises me (raised (u.members me) stamp edits image) (inr (inr can.0)) e j is
  event_rises (Rises me stamp edits) can e j is = member_rises me (raised (u.members me) stamp edits None) (inr (inr can.0)) e j is
  event_rises (Promises me edits) can e j is = member_rises me (u.members me) (inl (refl, refl)) e j is
  event_rises (SendsCopy me stamp target edits image) can e j is = member_rises me (u.members me) (inl (refl, refl)) e j is
  event_rises (TakesLease me stamp members) can e j is = member_rises me (u.members me) (inl (refl, refl)) e j is
  event_rises (Numbers me lease edits edit) can e j is = member_rises me (u.members me) (inl (refl, refl)) e j is
  event_rises (Forwards me lease to place edit) can e j is = member_rises me (u.members me) (inl (refl, refl)) e j is
  event_rises (Applies me edits edit) can e j is = member_rises me (u.members me) (inl (refl, refl)) e j is
  event_rises (Acknowledges me edits) can e j is = member_rises me (u.members me) (inl (refl, refl)) e j is
  event_rises (Hears me lease from count) can e j is = member_rises me (u.members me) (inl (refl, refl)) e j is
  event_rises (Closes me lease place) can e j is = member_rises me (u.members me) (inl (refl, refl)) e j is
  event_rises (Answers me lease place edit) can e j is = member_rises me (u.members me) (inl (refl, refl)) e j is
  event_rises (Spends me) can e j is = member_rises me (u.members me) (inl (refl, refl)) e j is
  event_rises (Drops me) can e j is = member_rises me (u.members me) (inl (refl, refl)) e j is
  event_rises (Loses me) can e j is = member_rises me (u.members me) (inl (refl, refl)) e j is
  event_rises (Damages me) can e j is = member_rises me (u.members me) (inl (refl, refl)) e j is
  event_rises (Learns me end fails) can e j is = member_rises me (learned (u.members me) ((u.members me).epoch + 1) end fails) (learns_on (u.members me) ((u.members me).epoch + 1) end fails) e j is
  event_rises (Names me edits) can e j is = member_rises me (u.members me) (inl (refl, refl)) e j is
  event_rises (Reports me) can e j is = member_rises me (u.members me) (inl (refl, refl)) e j is
  event_rises (AsksFirst to false) can e j is = inl is
  event_rises (AsksFirst to true) can e j is = inl is
  event_rises (CommitsRollback members true) can e j is = inl is
  event_rises (CommitsRollback members false) can e j is = inl is
  event_rises (Proposes stamp asked) can e j is = inl is
  event_rises (Asks to) can e j is = inl is
  event_rises (AsksForCopy source target with_image) can e j is = inl is
  event_rises GivesUp can e j is = inl is
  event_rises (Holds server) can e j is = inl is
  event_rises (Settles members count holder) can e j is = inl is
  event_rises (Grants to) can e j is = inl is
  event_rises Retires can e j is = inl is
  event_rises (SendsDrop to promise) can e j is = inl is
  event_rises (Prepares whole) can e j is = inl is
  event_rises Finalizes can e j is = inl is
  event_rises BeginsRollback can e j is = inl is
  event_rises (TellsEpoch to epoch) can e j is = inl is

-- A server that carries more has promised more.
pub carried_rises : (w v : ChunkWorld) (leads : Leads w v) → WorldOk w → (e j : ℕ) → v.known.carries e j ≡ true → (w.known.carries e j ≡ true) ⊎ (w.known.promise j < v.known.promise j)
carried_rises w v Rests ok e j is = inl is
carried_rises w v (Goes u event before can) ok e j is =
    let oku = leads_world w u before ok in
    let first = (leads_later w u before ok).promise j in
    let last = (happens_world u oku event can).grows.promise j in
    elim (event_rises u oku event can e j is) [
      | inl old ↦ elim (carried_rises w u before ok e j old) [
        | inl older ↦ inl older
        | inr up ↦ inr (omega arith)
      ]
      | inr up ↦ inr (omega arith)
    ]
