-- What stays of a server that has rolled back.
use Rattle.std.proofs.Common.{◌≡◌, ℕ, ◌+◌, ◌<◌, ◌≤◌, ◌⊎◌, inl, inr, ⊎_elim, List, [], length, Option, Some, None, Bool, true, false, cond, refl, sym, ap, ◌∙◌, subst, arith}
use Rattle.std.specs.Prelude.{nat_eq}
use Rattle.std.proofs.lemmas.Bool.{eqb-true, eq-eqb}
use Rattle.gs_base.specs.declared.epoch.EpochEnd.{EpochEnd}
use Rattle.gs_base.specs.declared.epoch.EpochEnd.TheVariants.{Prepare, Finalize, Rollback}
use Rattle.gs_replica.specs.Stands.{Edit}
use Rattle.gs_laws_chunk.specs.machine.Stamps.{epoch_of, start_of}
use Rattle.gs_laws_chunk.specs.machine.Machine.{MemberLease, Member, Create, Advance, Forward, CopyIn, Drop, Epoch, ChunkWorld, WasTold}
use Rattle.gs_laws_chunk.specs.machine.Events.{Event, Raises, Rises, Promises, SendsCopy, TakesLease, Numbers, Forwards, Applies, Acknowledges, Hears, Closes, Answers, Spends, Drops, Loses, Damages, Learns, Names, Reports, Proposes, AsksFirst, Asks, AsksForCopy, GivesUp, Holds, Settles, Grants, Retires, SendsDrop, Prepares, Finalizes, BeginsRollback, CommitsRollback, TellsEpoch, IsFit, Can, Brings, rolled, learned, happens, Leads, Rests, Goes}
use Rattle.gs_laws_chunk.specs.machine.Laws.{world_of, IsReached, prepared_list, IsUpgrading, IsSurvivor}
use Rattle.gs_laws_chunk.specs.machine.Rolling.{LearnersAreIntact, IsHeld, RolledAreHeld, RolledAreFirst, IsBack, SurvivorsAreBack}
use Rattle.gs_laws_chunk.proofs.lemmas.machine.Stamps.{start_of-most}
use Rattle.gs_laws_chunk.proofs.lemmas.machine.Known.{IsPrepared, false_true}
use Rattle.gs_laws_chunk.proofs.lemmas.machine.Turns.{two_ends}
use Rattle.gs_laws_chunk.proofs.lemmas.machine.Entries.{IsCurrent, Rolling}
use Rattle.gs_laws_chunk.proofs.lemmas.machine.Worlds.{WorldOk, said, happens_world, leads_world, leads_later, born_world}
use Rattle.gs_laws_chunk.proofs.lemmas.machine.Facts.{rising_of, reached_world, keeps_sealed, gives_back}

held_same : (m : Member) → IsHeld m m
held_same m = record { epoch = refl; promise = refl; live = λ edits is. is; intact = λ whole. (whole, refl) }

held_then : (a b c : Member) → IsHeld a b → IsHeld b c → IsHeld a c
held_then a b c x y = record {
  epoch = y.epoch ∙ x.epoch;
  promise = y.promise ∙ x.promise;
  live = λ edits is. x.live edits (y.live edits is);
  intact = λ whole. let v = y.intact whole in let u = x.intact v.0 in (u.0, v.1 ∙ u.1);
}

held_lease : (m : Member) (o : Option MemberLease) (t : ℕ) → IsHeld m (record m { lease = o; taken = t })
held_lease m o t = record { epoch = refl; promise = refl; live = λ edits is. is; intact = λ whole. (whole, refl) }

-- what is live is under the first stamp of the epoch
abbrev IsFirst : ℕ → Member → Type 0
IsFirst current m = (edits : List Edit) → m.live ≡ Some edits → m.promise ≡ start_of current

-- an event at a server: it stays what it is, or it learns the next epoch
abbrev IsGoing : ℕ → Member → Member → Type 0
IsGoing current m n = ((n.epoch ≡ m.epoch) × (m.epoch ≡ current → IsFirst current m → IsHeld m n)) ⊎ ((n.epoch ≡ m.epoch + 1) × (m.epoch < current) × (n.epoch ≡ current → IsFirst current n))

module _ (w : ChunkWorld) (ok : WorldOk w) (rolling : w.entry.is_rolling ≡ true) where
  r : Rolling w.known
  r = (ok.entry).rolling rolling

  -- nothing was proposed under a stamp of the epoch
  unproposed : (stamp : ℕ) → stamp ≤ w.known.top → epoch_of stamp ≡ w.known.current → ⊥
  unproposed stamp low is = let x = start_of-most w.known.current stamp (omega arith) in let n = ap start_of r.next in let b = r.below in omega arith

  -- the first stamp of the epoch is that of no view
  ahead : w.known.view < start_of w.known.current
  ahead = let n = ap start_of r.next in let b = r.below in let v = (ok.known).viewtop in omega arith

  brought : (j stamp : ℕ) (edits : List Edit) (image : Option (List Edit)) → Brings w j stamp edits image → stamp ≤ w.known.top
  brought j stamp edits image b = ⊎_elim
      (λ (x : WasTold w j (Create stamp) × (edits ≡ []) × (image ≡ None)). ((said w ok j (Create stamp) x.0).0).top)
      (λ (x : WasTold w j (CopyIn stamp edits image)). ((said w ok j (CopyIn stamp edits image) x).0).top)
      b

  -- stays with what it has
  rests : (m : Member) → IsGoing w.known.current m m
  rests m = inl (refl, λ at first. held_same m)

  leased : (m : Member) (o : Option MemberLease) (t : ℕ) → IsGoing w.known.current m (record m { lease = o; taken = t })
  leased m o t = inl (refl, λ at first. held_lease m o t)

  -- at one server
  at : (me j : ℕ) (m : Member) → IsGoing w.known.current (w.members j) m → IsGoing w.known.current (w.members me) (cond (nat_eq me j) m (w.members me))
  at me j m g = by_case (nat_eq me j) refl
    where
      by_case : (b : Bool) → nat_eq me j ≡ b → IsGoing w.known.current (w.members me) (cond b m (w.members me))
      by_case true is = subst (λ x. IsGoing w.known.current (w.members x) m) (sym (eqb-true me j is)) g
      by_case false is = rests (w.members me)

  learns : (m : Member) (end : EpochEnd) (fails : Bool) → m.epoch + 1 ≤ w.known.current → w.known.how (m.epoch + 1) ≡ end → IsGoing w.known.current m (learned m (m.epoch + 1) end fails)
  learns m Prepare fails low how = inr (refl, (omega arith), λ now. absurd (two_ends (w.known.how (m.epoch + 1)) how (ap w.known.how (now ∙ r.next) ∙ r.how)))
  learns m Finalize fails low how = inr (refl, (omega arith), λ now. absurd (let x = ap w.known.how (now ∙ r.next) ∙ r.how in cc))
  learns m Rollback fails low how = by_image (cond fails None m.image)
    where
      by_image : (o : Option (List Edit)) → IsGoing w.known.current m (rolled m (m.epoch + 1) o)
      by_image None = inr (refl, (omega arith), λ now edits is. absurd (cc))
      by_image (Some restored) = inr (refl, (omega arith), λ now edits is. ap start_of now)

  -- each event while the rollback goes on
  goes : (me : ℕ) (e : Event) → Can w e → IsGoing w.known.current (w.members me) ((happens w e).members me)
  goes me (Raises j stamp edits image) can = at me j _ (inl (refl, λ now first. absurd (unproposed stamp (brought j stamp edits image can.2) (can.1 ∙ now))))
  goes me (Rises j stamp edits) can = at me j _ (inl (refl, λ now first. absurd (unproposed stamp ((said w ok j (Advance stamp) can.2).0).top (can.1 ∙ now))))
  goes me (Promises j edits) can = at me j _ (rests (w.members j))
  goes me (SendsCopy j stamp target edits image) can = at me j _ (rests (w.members j))
  goes me (TakesLease j stamp members) can = at me j _ (leased (w.members j) (Some _) stamp)
  goes me (Numbers j lease edits edit) can = at me j _ (inl (refl, λ now first. absurd (let f = first edits can.1 in let x = ((ok.views j).lease lease can.0).within in let s = ((ok.views j).same lease can.0).0 in let a = ahead in omega arith)))
  goes me (Forwards j lease to place edit) can = at me j _ (rests (w.members j))
  goes me (Applies j edits edit) can = at me j _ (inl (refl, λ now first. absurd (let f = first edits can.0 in let x = (said w ok j (Forward (w.members j).promise (length edits) edit) can.1).0 in let a = ahead in omega arith)))
  goes me (Acknowledges j edits) can = at me j _ (rests (w.members j))
  goes me (Hears j lease from count) can = at me j _ (leased (w.members j) (Some _) (w.members j).taken)
  goes me (Closes j lease place) can = at me j _ (leased (w.members j) (Some _) (w.members j).taken)
  goes me (Answers j lease place edit) can = at me j _ (rests (w.members j))
  goes me (Spends j) can = at me j _ (leased (w.members j) None (w.members j).taken)
  goes me (Drops j) can = at me j _ (inl (
    refl,
    λ now first. absurd (
        let d = (said w ok j (Drop (w.members j).epoch (w.members j).promise) can).done (ap w.known.how (now ∙ r.next) ∙ r.how) in let n = ap start_of now in let a = ahead in omega arith),
  ))
  goes me (Loses j) can = at me j _ (inl (refl, λ now first. record { epoch = refl; promise = refl; live = λ edits is. absurd (cc); intact = λ whole. absurd (cc) }))
  goes me (Damages j) can = at me j _ (inl (refl, λ now first. record { epoch = refl; promise = refl; live = λ edits is. is; intact = λ whole. absurd (cc) }))
  goes me (Learns j end fails) can = let h = said w ok j (Epoch ((w.members j).epoch + 1) end) can.0 in at me j _ (learns (w.members j) end fails h.0 h.1)
  goes me (Names j edits) can = at me j _ (rests (w.members j))
  goes me (Reports j) can = at me j _ (rests (w.members j))
  goes me (Proposes stamp asked) can = rests (w.members me)
  goes me (AsksFirst to false) can = rests (w.members me)
  goes me (AsksFirst to true) can = rests (w.members me)
  goes me (Asks to) can = rests (w.members me)
  goes me (AsksForCopy source target with_image) can = rests (w.members me)
  goes me GivesUp can = rests (w.members me)
  goes me (Holds server) can = rests (w.members me)
  goes me (Settles members count holder) can = rests (w.members me)
  goes me (Grants to) can = rests (w.members me)
  goes me Retires can = rests (w.members me)
  goes me (SendsDrop to promise) can = rests (w.members me)
  goes me (Prepares whole) can = absurd (false_true w.entry.is_rolling can.0 rolling)
  goes me Finalizes can = rests (w.members me)
  goes me BeginsRollback can = rests (w.members me)
  goes me (CommitsRollback members true) can = rests (w.members me)
  goes me (CommitsRollback members false) can = rests (w.members me)
  goes me (TellsEpoch to epoch) can = rests (w.members me)

-- a rollback that goes on behind an event went on before, or it was begun by it
was_rolling : (w : ChunkWorld) (e : Event) → Can w e → (happens w e).entry.is_rolling ≡ true → (w.entry.is_rolling ≡ true) ⊎ (((happens w e).known.current ≡ w.known.current + 1) × ((j : ℕ) → (happens w e).members j ≡ w.members j))
was_rolling w (Raises j stamp edits image) can is = inl is
was_rolling w (Rises j stamp edits) can is = inl is
was_rolling w (Promises j edits) can is = inl is
was_rolling w (SendsCopy j stamp target edits image) can is = inl is
was_rolling w (TakesLease j stamp members) can is = inl is
was_rolling w (Numbers j lease edits edit) can is = inl is
was_rolling w (Forwards j lease to place edit) can is = inl is
was_rolling w (Applies j edits edit) can is = inl is
was_rolling w (Acknowledges j edits) can is = inl is
was_rolling w (Hears j lease from count) can is = inl is
was_rolling w (Closes j lease place) can is = inl is
was_rolling w (Answers j lease place edit) can is = inl is
was_rolling w (Spends j) can is = inl is
was_rolling w (Drops j) can is = inl is
was_rolling w (Loses j) can is = inl is
was_rolling w (Damages j) can is = inl is
was_rolling w (Learns j end fails) can is = inl is
was_rolling w (Names j edits) can is = inl is
was_rolling w (Reports j) can is = inl is
was_rolling w (Proposes stamp asked) can is = inl is
was_rolling w (AsksFirst to false) can is = inl is
was_rolling w (AsksFirst to true) can is = inl is
was_rolling w (Asks to) can is = inl is
was_rolling w (AsksForCopy source target with_image) can is = inl is
was_rolling w GivesUp can is = inl is
was_rolling w (Holds server) can is = inl is
was_rolling w (Settles members count holder) can is = inl is
was_rolling w (Grants to) can is = inl is
was_rolling w Retires can is = inl is
was_rolling w (SendsDrop to promise) can is = inl is
was_rolling w (Prepares whole) can is = absurd (false_true w.entry.is_rolling can.0 is)
was_rolling w Finalizes can is = absurd (false_true w.entry.is_rolling can.0 is)
was_rolling w BeginsRollback can is = inr (refl, λ j. refl)
was_rolling w (CommitsRollback members true) can is = absurd (cc)
was_rolling w (CommitsRollback members false) can is = absurd (cc)
was_rolling w (TellsEpoch to epoch) can is = inl is

-- and its epoch is the same
same_epoch : (w : ChunkWorld) (e : Event) → Can w e → w.entry.is_rolling ≡ true → (happens w e).entry.is_rolling ≡ true → (happens w e).known.current ≡ w.known.current
same_epoch w (Raises j stamp edits image) can was is = refl
same_epoch w (Rises j stamp edits) can was is = refl
same_epoch w (Promises j edits) can was is = refl
same_epoch w (SendsCopy j stamp target edits image) can was is = refl
same_epoch w (TakesLease j stamp members) can was is = refl
same_epoch w (Numbers j lease edits edit) can was is = refl
same_epoch w (Forwards j lease to place edit) can was is = refl
same_epoch w (Applies j edits edit) can was is = refl
same_epoch w (Acknowledges j edits) can was is = refl
same_epoch w (Hears j lease from count) can was is = refl
same_epoch w (Closes j lease place) can was is = refl
same_epoch w (Answers j lease place edit) can was is = refl
same_epoch w (Spends j) can was is = refl
same_epoch w (Drops j) can was is = refl
same_epoch w (Loses j) can was is = refl
same_epoch w (Damages j) can was is = refl
same_epoch w (Learns j end fails) can was is = refl
same_epoch w (Names j edits) can was is = refl
same_epoch w (Reports j) can was is = refl
same_epoch w (Proposes stamp asked) can was is = refl
same_epoch w (AsksFirst to false) can was is = refl
same_epoch w (AsksFirst to true) can was is = refl
same_epoch w (Asks to) can was is = refl
same_epoch w (AsksForCopy source target with_image) can was is = refl
same_epoch w GivesUp can was is = refl
same_epoch w (Holds server) can was is = refl
same_epoch w (Settles members count holder) can was is = refl
same_epoch w (Grants to) can was is = refl
same_epoch w Retires can was is = refl
same_epoch w (SendsDrop to promise) can was is = refl
same_epoch w (Prepares whole) can was is = absurd (false_true w.entry.is_rolling can.0 is)
same_epoch w Finalizes can was is = absurd (false_true w.entry.is_rolling can.0 is)
same_epoch w BeginsRollback can was is = absurd (false_true w.entry.is_rolling can.0 was)
same_epoch w (CommitsRollback members true) can was is = refl
same_epoch w (CommitsRollback members false) can was is = refl
same_epoch w (TellsEpoch to epoch) can was is = refl

-- what is live of a server that has learned of the rollback is under its first stamp
abbrev AreFirst : ChunkWorld → Type 0
AreFirst w = w.entry.is_rolling ≡ true → (me : ℕ) → (w.members me).epoch ≡ w.known.current → IsFirst w.known.current (w.members me)

first_then : (w : ChunkWorld) → WorldOk w → AreFirst w → (e : Event) → Can w e → AreFirst (happens w e)
first_then w ok first e can is me now = ⊎_elim
    (λ (was : w.entry.is_rolling ≡ true).
    let same = same_epoch w e can was is in
    ⊎_elim
    (λ (x : (((happens w e).members me).epoch ≡ (w.members me).epoch) × ((w.members me).epoch ≡ w.known.current → IsFirst w.known.current (w.members me) → IsHeld (w.members me) ((happens w e).members me))).
    let at : (w.members me).epoch ≡ w.known.current = sym x.0 ∙ now ∙ same in
    let f = first was me at in
    let h = x.1 at f in
    λ (edits : List Edit) (live : ((happens w e).members me).live ≡ Some edits). h.promise ∙ f edits (h.live edits live) ∙ ap start_of (sym same))
    (λ (x : (((happens w e).members me).epoch ≡ (w.members me).epoch + 1) × ((w.members me).epoch < w.known.current) × (((happens w e).members me).epoch ≡ w.known.current → IsFirst w.known.current ((happens w e).members me))).
    λ (edits : List Edit) (live : ((happens w e).members me).live ≡ Some edits). x.2 (now ∙ same) edits live ∙ ap start_of (sym same))
    (goes w ok was me e can))
    (λ (x : ((happens w e).known.current ≡ w.known.current + 1) × ((j : ℕ) → (happens w e).members j ≡ w.members j)).
    absurd (let l = (ok.seals me).learned in let s = ap (λ (m : Member). m.epoch) (x.1 me) in let c = x.0 in omega arith))
    (was_rolling w e can is)

first_throughout : (w last : ChunkWorld) → WorldOk w → AreFirst w → Leads w last → AreFirst last
first_throughout w last ok first (Rests) = first
first_throughout w last ok first (Goes v e before can) = first_then v (leads_world w v before ok) (first_throughout w v ok first before) e can

are_first : (w : ChunkWorld) → IsReached w → AreFirst w
are_first w reached = let b = reached.0 in first_throughout (world_of b) w (born_world b.epoch b.how b.origin (rising_of b.origin b.numbered)) (λ is. absurd (cc)) reached.1

pub rolled_are_first : (w : ChunkWorld) → IsReached w → RolledAreFirst w
rolled_are_first w reached rolling me edits now live = let m = ((reached_world w reached).entry).epoch in are_first w reached rolling me (now ∙ m) edits live ∙ ap start_of (sym m)

held_throughout : (w last : ChunkWorld) → WorldOk w → AreFirst w → w.entry.is_rolling ≡ true → (me : ℕ) → (w.members me).epoch ≡ w.known.current
    → Leads w last → last.entry.is_rolling ≡ true → last.known.current ≡ w.known.current → IsHeld (w.members me) (last.members me)
held_throughout w last ok first rolling me now (Rests) is same = held_same (w.members me)
held_throughout w last ok first rolling me now (Goes v e before can) is same =
    let okv = leads_world w v before ok in
    let up = (leads_later w v before ok).current in
    let more = ((happens_world v okv e can).grows).current in
    ⊎_elim
    (λ (was : v.entry.is_rolling ≡ true).
    let at : v.known.current ≡ w.known.current = omega arith in
    let h = held_throughout w v ok first rolling me now before was at in
    let nowv : (v.members me).epoch ≡ v.known.current = h.epoch ∙ now ∙ sym at in
    ⊎_elim
    (λ (x : (((happens v e).members me).epoch ≡ (v.members me).epoch) × ((v.members me).epoch ≡ v.known.current → IsFirst v.known.current (v.members me) → IsHeld (v.members me) ((happens v e).members me))).
    held_then (w.members me) (v.members me) ((happens v e).members me) h (x.1 nowv (first_throughout w v ok first before was me nowv)))
    (λ (x : (((happens v e).members me).epoch ≡ (v.members me).epoch + 1) × ((v.members me).epoch < v.known.current) × (((happens v e).members me).epoch ≡ v.known.current → IsFirst v.known.current ((happens v e).members me))).
    absurd (let l = x.1 in omega arith))
    (goes v okv was me e can))
    (λ (x : ((happens v e).known.current ≡ v.known.current + 1) × ((j : ℕ) → (happens v e).members j ≡ v.members j)). absurd (let c = x.0 in omega arith))
    (was_rolling v e can is)

pub rolled_are_held : (w last : ChunkWorld) → IsReached w → Leads w last → RolledAreHeld w last
rolled_are_held w last reached leads still me now =
    let ok = reached_world w reached in
    let later = leads_world w last leads ok in
    let m = (ok.entry).epoch in
    let n = (later.entry).epoch in
    held_throughout w last ok (are_first w reached) still.first me (now ∙ m) leads still.still (sym n ∙ still.same ∙ m)

module _ (w last : ChunkWorld) (reached : IsReached w) (leads : Leads w last) (rolling : w.entry.is_rolling ≡ true) (same : last.entry.epoch ≡ w.entry.epoch) (known : w.entry.was_known ≡ true)
    (me : ℕ) (now : (w.members me).epoch ≡ w.entry.epoch) (fit : IsFit w.entry me) (intact : (last.members me).intact ≡ true) (still : last.entry.is_rolling ≡ true) where
  ok : WorldOk w
  ok = reached_world w reached

  behind : WorldOk last
  behind = leads_world w last leads ok

  was : Rolling w.known
  was = (ok.entry).rolling rolling

  next : was.e + 1 ≡ w.entry.epoch
  next = let n = was.next in let m = (ok.entry).epoch in omega arith

  held : IsHeld (w.members me) (last.members me)
  held = rolled_are_held w last reached leads (record { first = rolling; still = still; same = same }) me now

  upgrading : IsUpgrading w was.e
  upgrading = inr (next, rolling)

  survives : IsSurvivor w me
  survives = record { known = known; fit = fit; intact = (held.intact intact).0 }

  restored : ((w.members me).promise ≡ start_of (was.e + 1)) × ((w.members me).live ≡ Some (prepared_list w))
  restored = (keeps_sealed w ok was.e me upgrading survives).rolled (now ∙ sym next)

  -- the prepared list stays
  list_stays : prepared_list last ≡ prepared_list w
  list_stays =
      let later = leads_later w last leads ok in
      let c : IsCurrent w.known w.entry.is_rolling was.e = inr ((let n = was.next in omega arith), rolling) in
      let is : IsPrepared w.known was.e = ((let n = was.next in omega arith), was.was, sym ((ok.entry).was_known was.e c) ∙ known) in
      let at : last.known.current ≡ w.known.current = sym (behind.entry).epoch ∙ same ∙ (ok.entry).epoch in
      let isl : IsPrepared last.known was.e = ((let l = is.0 in omega arith), later.how was.e is.0 ∙ is.1, later.kept was.e is.0 ∙ is.2) in
      let cl : IsCurrent last.known last.entry.is_rolling was.e = inr ((let n = was.next in omega arith), still) in
      let here = ((ok.entry).prepared was.e c is).stamp in
      let there = ((behind.entry).prepared was.e cl isl).stamp ∙ later.prepared was.e is.0 in
      let fixed = later.fixed (w.known.prepared was.e) ((ok.known).before was.e is) ((ok.known).prepared was.e is) in
      ap last.known.list there ∙ fixed.1 ∙ ap w.known.list (sym here)

  back : (members : List ℕ) (keeps : Bool) → Can last (CommitsRollback members keeps) → IsBack w last members keeps me
  back members true can = record {
    held = held;
    promise = held.promise ∙ restored.0 ∙ ap start_of next;
    before = (held.intact intact).1 ∙ restored.1;
    behind = (held.intact intact).1 ∙ restored.1;
    list = λ keeps. ap (happens last (CommitsRollback members true)).known.list (ap start_of (sym same)) ∙ (gives_back last behind members can).list ∙ list_stays;
  }
  back members false can = record {
    held = held;
    promise = held.promise ∙ restored.0 ∙ ap start_of next;
    before = (held.intact intact).1 ∙ restored.1;
    behind = (held.intact intact).1 ∙ restored.1;
    list = λ keeps. absurd (cc);
  }

pub survivors_are_back : (w last : ChunkWorld) → IsReached w → Leads w last → SurvivorsAreBack w last
survivors_are_back w last reached leads rolling same known me now fit intact members keeps can = back w last reached leads rolling same known me now fit intact can.0 members keeps can

learner_is_intact : (m : Member) (o : Option (List Edit)) (edits : List Edit) → (rolled m (m.epoch + 1) o).live ≡ Some edits → (rolled m (m.epoch + 1) o).intact ≡ true
learner_is_intact m None edits is = absurd (cc)
learner_is_intact m (Some image) edits is = refl

pub learners_are_intact : (w : ChunkWorld) → LearnersAreIntact w
learners_are_intact w me fails edits = rw (eq-eqb me me refl) (learner_is_intact (w.members me) (cond fails None (w.members me).image) edits)
