-- What is kept of a chunk is shown still where the machine goes on, and where a replica is marked.
use Rattle.std.proofs.Common.{◌≡◌, ℕ, ◌+◌, ◌≤◌, ◌++◌, List, ◌∷◌, Option, Some, None, refl, sym, ap, subst, ◌∙◌, append_assoc, ◌<◌, inl, inr, ⊎_elim}
use Rattle.gs_base.specs.declared.epoch.EpochEnd.{EpochEnd}
use Rattle.gs_base.specs.declared.epoch.EpochEnd.TheVariants.{Prepare}
use Rattle.gs_replica.specs.Stands.{Edit, StoodFor}
use Rattle.gs_store.specs.Slots.{Live, Slot, sealed_of, mark_bad, marked_live}
use Rattle.gs_store.specs.Standing.{LiveStandsFor, LiveUndamaged}
use Rattle.gs_store.proofs.Laws.{marked_stays}
use Rattle.gs_store.proofs.Standing.{mark_stands}
use Rattle.gs_server_lease.specs.declared.lease.Open.{Open as Waiting}
use Rattle.gs_server_lease.specs.Leases as primary
use Rattle.gs_server.specs.Places.{Place}
use Rattle.gs_laws_chunk.specs.machine.Machine.{Open, MemberLease, Member, Sent, Known, ChunkWorld}
use Rattle.gs_laws_parts.specs.server.Showing.{Setting, ShowsLive, ShowsImage, Waits, ShowsLease, ShowsLeaseAt, SealUndamaged, SealCounts, ShowsPlace, LiveCounts}
use Rattle.gs_laws_parts.specs.server.Moving.{Moved}
use Rattle.gs_laws_parts.proofs.lemmas.server.Engine.{and_then}

-- lists that grow at their ends, in the same epoch of the master
pub record Grows (a b : Known) : Type 0 where
  pub current : b.current ≡ a.current
  pub how : b.how ≡ a.how
  pub list : (t : ℕ) → (more : List Edit) × (b.list t ≡ a.list t ++ more)

pub grows_by : (w : ChunkWorld) (me : ℕ) (m : Member) (sends : List Sent) → (moved : Moved w me m sends) → Grows w.known moved.world.known
grows_by w me m sends moved = record { current = moved.current; how = moved.how; list = moved.grows }

pub grows_then : (w : ChunkWorld) (me : ℕ) (m n : Member) (xs ys : List Sent) → (first : Moved w me m xs) → (then : Moved first.world me n ys) → (same : (m.promise ≡ n.promise) × (m.live ≡ n.live) × (m.carried ≡ n.carried)) → Grows first.world.known (and_then w me m n xs ys first then same).world.known
unfolding and_then
grows_then w me m n xs ys first then same = grows_by first.world me n ys then

pub counts_back : (a b : Known) (epoch : ℕ) → Grows a b → SealCounts b epoch → SealCounts a epoch
counts_back a b epoch g counts = λ known. ap (λ (how : ℕ → EpochEnd). how (epoch + 1)) (sym g.how) ∙ counts (subst (λ n. epoch + 1 ≤ n) (sym g.current) known)

-- an edit waits still where its list is longer
waits_longer : (c : Setting) (xs ys more : List Edit) → ys ≡ xs ++ more → (number : ℕ) (w : Waiting) (o : Open) → Waits c xs number w o → Waits c ys number w o
waits_longer c xs ys more longer number w o is = record {
  numbered = is.numbered;
  says = is.says;
  bytes = is.bytes;
  before = is.before;
  behind = is.behind ++ more;
  stands = longer ∙ ap (λ l. l ++ more) is.stands ∙ append_assoc is.before (o.edit ∷ is.behind) more;
  placed = is.placed;
  outcome = is.outcome;
}

lease_longer : (c : Setting) (a b : ℕ → List Edit) (l : primary.PrimaryLease) (m : MemberLease) → (more : List Edit) → b m.stamp ≡ a m.stamp ++ more → ShowsLease c a l m → ShowsLease c b l m
lease_longer c a b l m more longer is = record {
  stamp = is.stamp;
  members = is.members;
  told = is.told;
  waits = λ number w there. let x = is.waits number w there in (x.0, x.1, waits_longer c (a m.stamp) (b m.stamp) more longer number w x.0 x.2);
  opens = λ o there. let x = is.opens o there in (x.0, x.1, x.2, waits_longer c (a m.stamp) (b m.stamp) more longer x.0 x.1 o x.3);
}

pub lease_at_longer : (c : Setting) (a b : ℕ → List Edit) (l : Option primary.PrimaryLease) (m : Option MemberLease) → ((k : MemberLease) → m ≡ Some k → (more : List Edit) × (b k.stamp ≡ a k.stamp ++ more)) → ShowsLeaseAt c a l m → ShowsLeaseAt c b l m
lease_at_longer c a b None None longer is = is
lease_at_longer c a b None (Some m) longer is = is
lease_at_longer c a b (Some l) None longer is = is
lease_at_longer c a b (Some l) (Some m) longer is = let more = longer m refl in lease_longer c a b l m more.0 more.1 is

pub live_back : (a b : Known) (epoch : ℕ) → Grows a b → LiveCounts b epoch → LiveCounts a epoch
live_back a b epoch g counts = ⊎_elim
    (λ (x : (x : ℕ) × (epoch < x) × (x ≤ b.current) × (b.how x ≡ Prepare)). inl (x.0, x.1, subst (λ n. x.0 ≤ n) g.current x.2, ap (λ (how : ℕ → EpochEnd). how x.0) (sym g.how) ∙ x.3))
    (λ rolled. inr (ap (λ (how : ℕ → EpochEnd). how epoch) (sym g.how) ∙ rolled))
    counts

module _ (c : Setting) (a b : Known) (g : Grows a b) where
  pub lease_grown : (l : primary.PrimaryLease) (m : MemberLease) → ShowsLease c a.list l m → ShowsLease c b.list l m
  lease_grown l m is = let more = g.list m.stamp in lease_longer c a.list b.list l m more.0 more.1 is

  pub lease_at_grown : (l : Option primary.PrimaryLease) (m : Option MemberLease) → ShowsLeaseAt c a.list l m → ShowsLeaseAt c b.list l m
  lease_at_grown l m is = lease_at_longer c a.list b.list l m (λ k held. g.list k.stamp) is

  pub place_grown : (epoch : ℕ) (p : Place) (m : Member) → ShowsPlace c a epoch p m → ShowsPlace c b epoch p m
  place_grown epoch p m is = record {
    epoch_is = is.epoch_is;
    early = is.early;
    promise = is.promise;
    carried = is.carried;
    live = is.live;
    image = is.image;
    taken = is.taken;
    lease = lease_at_grown p.lease m.lease is.lease;
    promised = is.promised;
    intact = λ whole. let x = is.intact whole in (λ counts. x.0 (live_back a b m.epoch g counts), λ counts. x.1 (counts_back a b m.epoch g counts));
  }

-- a mark on a replica
marked_none : (block : ℕ) (live : Option Live) → live ≡ None → marked_live block live ≡ None
marked_none block None is = refl
marked_none block (Some l) is = absurd (cc)

marked_live_shows : (c : Setting) (block : ℕ) (s : Slot) (o : Option (List Edit)) → ShowsLive c s o → ShowsLive c (mark_bad block s) o
marked_live_shows c block s None is = marked_none block s.live is
marked_live_shows c block s (Some edits) is = mark_stands c.block c.size block s.live edits is

pub image_same : (c : Setting) (s t : Slot) (o : Option (List Edit)) → sealed_of t ≡ sealed_of s → ShowsImage c s o → ShowsImage c t o
image_same c s t None same is = same ∙ is
image_same c s t (Some edits) same is = subst (λ x. StoodFor c.block c.size x edits) (sym same) is

pub live_same : (c : Setting) (s t : Slot) (o : Option (List Edit)) → t.live ≡ s.live → ShowsLive c s o → ShowsLive c t o
live_same c s t None same is = same ∙ is
live_same c s t (Some edits) same is = subst (λ x. LiveStandsFor c.block c.size x edits) (sym same) is

marked_undamaged : (block : ℕ) (live : Option Live) → LiveUndamaged live → LiveUndamaged (marked_live block live)
marked_undamaged block None is = is
marked_undamaged block (Some l) is = is

pub marked_shows : (c : Setting) (k : Known) (epoch block : ℕ) (p : Place) (m : Member) → ShowsPlace c k epoch p m → ShowsPlace c k epoch (record { slot = mark_bad block p.slot; lease = p.lease }) m
marked_shows c k epoch block p m is = record {
  epoch_is = is.epoch_is;
  early = λ early. let x = is.early early in (x.0, ap (mark_bad block) x.1);
  promise = is.promise;
  carried = is.carried;
  live = marked_live_shows c block p.slot m.live is.live;
  image = image_same c p.slot (mark_bad block p.slot) m.image (marked_stays block p.slot) is.image;
  taken = is.taken;
  lease = is.lease;
  promised = is.promised;
  intact = λ whole. let x = is.intact whole in (λ counts. marked_undamaged block p.slot.live (x.0 counts), λ counts. subst SealUndamaged (sym (marked_stays block p.slot)) (x.1 counts));
}
