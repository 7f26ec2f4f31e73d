-- What a server has sealed of a chunk, in any world of its machine: who was live at a prepare and has promised nothing since has the image.
use Rattle.std.proofs.Common.{◌≡◌, ◌≢◌, ◌∙◌, ◌+◌, ◌<◌, ◌≤◌, inl, inr, ℕ, Bool, true, false, cond, List, Option, Some, None, refl, sym, ap, arith}
use Rattle.std.specs.Prelude.{nat_eq}
use Rattle.std.proofs.lemmas.Bool.{cases_eq, cases_lt, eq-eqb, ne_eqb}
use Rattle.gs_base.specs.declared.epoch.EpochEnd.{EpochEnd}
use Rattle.gs_base.specs.declared.epoch.EpochEnd.TheVariants.{Finalize, Prepare, Rollback}
use Rattle.gs_laws_chunk.specs.machine.Events.{Acknowledges, Answers, Applies, AsksFirst, BeginsRollback, Can, Closes, CommitsRollback, Damages, Drops, Event, Finalizes, Forwards, Goes, Hears, Leads, Learns, Loses, Names, Numbers, Prepares, Promises, Raises, Reports, Rests, Rises, SendsCopy, Spends, TakesLease, happens, learned, raised, rolled, told_by, closed, new_lease, with_end}
use Rattle.gs_laws_chunk.specs.machine.Laws.{IsReached, world_of}
use Rattle.gs_laws_chunk.specs.machine.Machine.{Epoch, Member, ChunkWorld}
use Rattle.gs_laws_chunk.specs.machine.Stamps.{epoch_of}
use Rattle.gs_laws_chunk.proofs.lemmas.machine.Facts.{reached_world}
use Rattle.gs_laws_chunk.proofs.lemmas.machine.Worlds.{WorldOk, happens_world, leads_world, said}
use Rattle.gs_replica.specs.Stands.{Edit}

-- what is live under a stamp of an epoch before the member's, which began by a prepare, was sealed then
abbrev pub IsSealed : (ℕ → EpochEnd) → Member → Type 0
IsSealed how m = (r : List Edit) → m.live ≡ Some r → epoch_of m.promise < m.epoch → how m.epoch ≡ Prepare → m.image ≢ None

abbrev AllSealed : ChunkWorld → Type 0
AllSealed w = (j : ℕ) → IsSealed w.known.how (w.members j)

module _ (u : ChunkWorld) (ok : WorldOk u) (all : AllSealed u) where
  own_sealed : (me : ℕ) (n : Member) → IsSealed u.known.how n → (j : ℕ) → IsSealed u.known.how (cond (nat_eq j me) n (u.members j))
  own_sealed me n sealed j = by_case (nat_eq j me)
    where
      by_case : (b : Bool) → IsSealed u.known.how (cond b n (u.members j))
      by_case true = sealed
      by_case false = all j

  learned_sealed : (me : ℕ) (end : EpochEnd) (fails : Bool) → u.known.how ((u.members me).epoch + 1) ≡ end → IsSealed u.known.how (learned (u.members me) ((u.members me).epoch + 1) end fails)
  learned_sealed me Prepare fails is r live less how none = cc
  learned_sealed me Finalize fails is r live less how none = (let other : Finalize ≡ Prepare = sym is ∙ how in cc)
  learned_sealed me Rollback fails is r live less how none = by_image (cond fails None (u.members me).image) r live less how none
    where
      by_image : (image : Option (List Edit)) → IsSealed u.known.how (rolled (u.members me) ((u.members me).epoch + 1) image)
      by_image None r live less how none = cc
      by_image (Some edits) r live less how none = (let other : Rollback ≡ Prepare = sym is ∙ how in cc)

  -- the master leaves what servers have
  left : (v : ChunkWorld) → ((e : ℕ) → e ≤ u.known.current → v.known.how e ≡ u.known.how e) → (j : ℕ) → IsSealed v.known.how (u.members j)
  left v same j r live less how = all j r live less (sym (same (u.members j).epoch (ok.seals j).learned) ∙ how)

  event_sealed : (event : Event) → Can u event → AllSealed (happens u event)
  event_sealed (Raises me stamp edits image) can = own_sealed me (raised (u.members me) stamp edits image) (λ r live less. absurd (let same = can.1 in omega arith))
  event_sealed (Rises me stamp edits) can = own_sealed me (raised (u.members me) stamp edits None) (λ r live less. absurd (let same = can.1 in omega arith))
  event_sealed (Promises me edits) can = own_sealed me (u.members me) (all me)
  event_sealed (SendsCopy me stamp target edits image) can = own_sealed me (u.members me) (all me)
  event_sealed (TakesLease me stamp members) can = own_sealed me (record (u.members me) { taken = stamp; lease = Some (new_lease stamp members) }) (all me)
  event_sealed (Numbers me lease edits edit) can = own_sealed me _ (λ r live less how. all me edits can.1 less how)
  event_sealed (Forwards me lease to place edit) can = own_sealed me (u.members me) (all me)
  event_sealed (Applies me edits edit) can = own_sealed me _ (λ r live less how. all me edits can.0 less how)
  event_sealed (Acknowledges me edits) can = own_sealed me (u.members me) (all me)
  event_sealed (Hears me lease from count) can = own_sealed me (record (u.members me) { lease = Some (told_by lease from count) }) (all me)
  event_sealed (Closes me lease place) can = own_sealed me (record (u.members me) { lease = Some (closed lease place) }) (all me)
  event_sealed (Answers me lease place edit) can = own_sealed me (u.members me) (all me)
  event_sealed (Spends me) can = own_sealed me (record (u.members me) { lease = None }) (all me)
  event_sealed (Drops me) can = own_sealed me (record (u.members me) { live = None; lease = None }) (λ r live. absurd (cc))
  event_sealed (Loses me) can = own_sealed me (record (u.members me) { live = None; image = None; intact = false }) (λ r live. absurd (cc))
  event_sealed (Damages me) can = own_sealed me (record (u.members me) { intact = false }) (all me)
  event_sealed (Learns me end fails) can = own_sealed me (learned (u.members me) ((u.members me).epoch + 1) end fails) (learned_sealed me end fails (said u ok me (Epoch ((u.members me).epoch + 1) end) can.0).1)
  event_sealed (Names me edits) can = own_sealed me (u.members me) (all me)
  event_sealed (Reports me) can = own_sealed me (u.members me) (all me)
  event_sealed (AsksFirst to false) can = left u (λ e within. refl)
  event_sealed (AsksFirst to true) can = left u (λ e within. refl)
  event_sealed (CommitsRollback members true) can = left (happens u (CommitsRollback members true)) (happens_world u ok (CommitsRollback members true) can).grows.how
  event_sealed (CommitsRollback members false) can = left (happens u (CommitsRollback members false)) (happens_world u ok (CommitsRollback members false) can).grows.how
  event_sealed e can = left (happens u e) (happens_world u ok e can).grows.how

all_sealed : (w v : ChunkWorld) → Leads w v → WorldOk w → AllSealed w → AllSealed v
all_sealed w v Rests ok all = all
all_sealed w v (Goes u event before can) ok all = event_sealed u (leads_world w u before ok) (all_sealed w u before ok all) event can

pub sealed_there : (w : ChunkWorld) → IsReached w → (j : ℕ) → IsSealed w.known.how (w.members j)
sealed_there w reached = all_sealed (world_of reached.0) w reached.1 (reached_world (world_of reached.0) (reached.0, Rests)) (λ j r live. absurd (cc))

-- ---- epochs

-- a rollback is that of an upgrade that a prepare began
abbrev Alternates : ℕ → ChunkWorld → Type 0
Alternates born w = (n : ℕ) → born ≤ n → n + 1 ≤ w.entry.epoch → w.entry.how (n + 1) ≡ Rollback → w.entry.how n ≡ Prepare

other_end : (how : ℕ → EpochEnd) (epoch : ℕ) (end : EpochEnd) (e : ℕ) → e ≢ epoch → with_end how epoch end e ≡ how e
other_end how epoch end e apart = ap (λ b. cond b end (how e)) (ne_eqb e epoch apart)

this_end : (how : ℕ → EpochEnd) (epoch : ℕ) (end : EpochEnd) (e : ℕ) → e ≡ epoch → with_end how epoch end e ≡ end
this_end how epoch end e same = ap (λ b. cond b end (how e)) (eq-eqb e epoch same)

module _ (born : ℕ) (u : ChunkWorld) (old : Alternates born u) where
  next_alternates : (end : EpochEnd) → (end ≡ Rollback → u.entry.how u.entry.epoch ≡ Prepare) → (n : ℕ) → born ≤ n → n + 1 ≤ u.entry.epoch + 1 → with_end u.entry.how (u.entry.epoch + 1) end (n + 1) ≡ Rollback → with_end u.entry.how (u.entry.epoch + 1) end n ≡ Prepare
  next_alternates end begun n late within is = other_end u.entry.how (u.entry.epoch + 1) end n (λ same. absurd (omega arith)) ∙ elim (cases_eq n u.entry.epoch) [
    | inl here ↦ ap u.entry.how here ∙ begun (sym (this_end u.entry.how (u.entry.epoch + 1) end (n + 1) (omega arith)) ∙ is)
    | inr apart ↦ old n late (below n u.entry.epoch within apart) (sym (other_end u.entry.how (u.entry.epoch + 1) end (n + 1) (λ same. apart (omega arith))) ∙ is)
  ]
    where
      below : (n epoch : ℕ) → n + 1 ≤ epoch + 1 → n ≢ epoch → n + 1 ≤ epoch
      below n epoch within apart = elim (cases_lt n epoch) [
        | inl less ↦ omega arith
        | inr over ↦ absurd (apart (omega arith))
      ]

  event_alternates : (event : Event) → Can u event → Alternates born (happens u event)
  event_alternates (Prepares whole) can = next_alternates Prepare (λ is. absurd (cc))
  event_alternates Finalizes can = next_alternates Finalize (λ is. absurd (cc))
  event_alternates BeginsRollback can = next_alternates Rollback (λ is. can.1)
  event_alternates (AsksFirst to false) can = old
  event_alternates (AsksFirst to true) can = old
  event_alternates (CommitsRollback members true) can = old
  event_alternates (CommitsRollback members false) can = old
  event_alternates e can = old

leads_alternate : (born : ℕ) (w v : ChunkWorld) → Leads w v → Alternates born w → Alternates born v
leads_alternate born w v Rests old = old
leads_alternate born w v (Goes u event before can) old = event_alternates born u (leads_alternate born w u before old) event can

pub alternates : (w : ChunkWorld) (reached : IsReached w) (n : ℕ) → reached.0.epoch ≤ n → n + 1 ≤ w.entry.epoch → w.entry.how (n + 1) ≡ Rollback → w.entry.how n ≡ Prepare
alternates w reached = leads_alternate reached.0.epoch (world_of reached.0) w reached.1 (λ n late within is. absurd (omega arith))
