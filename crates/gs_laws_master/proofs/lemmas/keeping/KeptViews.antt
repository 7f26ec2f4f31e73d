-- What holds of views and prepared views goes on, where counters and epochs do.
use Rattle.std.proofs.Common.{◌≡◌, ◌⊎◌, inl, inr, ◌∙◌, ◌≤◌, ℕ, Bool, true, false, cond, [], nat_lt, refl, sym, ap, subst, arith}
use Rattle.std.specs.Prelude.{Option, Some, None, is_some, if◌then◌else◌}
use Rattle.std.specs.Cmp.{Equal-is, nat_cmp_total, tied_itself}
use Rattle.std.specs.FinMap as fin
use Rattle.std.specs.Ordering.{eq_by_cmp, is_eq, nat_cmp}
use Rattle.std.proofs.lemmas.Bool.{false≢true}
use Rattle.gs_lease.specs.declared.view.View.{View}
use Rattle.gs_master_spec.specs.Durable.{Durable, Settled, is_given, kept_before, prepared_of, prepared_view, upgrade_epoch, with_prepared}
use Rattle.gs_laws_master.specs.Promises.{IsGivenView, IsKept}
use Rattle.gs_master_spec.specs.Whole.{is_prepared_before}
use Rattle.gs_master_spec.specs.declared.asking.Prepared.{Prepared}

pub same_key : (q k : ℕ) → eq_by_cmp nat_cmp q k ≡ true → q ≡ k
same_key q k tied = fin.nat_cmp-IsAntisymmetric q k ((Equal-is (nat_cmp q k)).0 tied)

-- ---- what goes on

-- what was given stays so, and the upgrade too
pub record Onward (d next : Durable) : Type 0 where
  pub handles : (n : ℕ) → is_given d.next_handle n ≡ true → is_given next.next_handle n ≡ true
  pub versions : (n : ℕ) → is_given d.next_version n ≡ true → is_given next.next_version n ≡ true
  pub epoch : d.epoch ≤ next.epoch
  pub upgrade : upgrade_epoch next.phase next.epoch ≡ upgrade_epoch d.phase d.epoch

pub view_stays : (d next : Durable) (view : View) → ((n : ℕ) → is_given d.next_version n ≡ true → is_given next.next_version n ≡ true) → d.epoch ≤ next.epoch → IsGivenView d view → IsGivenView next view
view_stays d next view versions epoch v = record { epoch = (let e = v.epoch in omega arith); version = each v.version; primary = v.primary; told = v.told }
  where
    each : (view.stamp.version ≡ 0) ⊎ (is_given d.next_version view.stamp.version ≡ true) → (view.stamp.version ≡ 0) ⊎ (is_given next.next_version view.stamp.version ≡ true)
    each (inl zero) = inl zero
    each (inr given) = inr (versions view.stamp.version given)

-- a view as it stood at prepare
pub record IsPreparedOf (d : Durable) (chunk : ℕ) (p : Prepared) : Type 0 where
  pub handle : is_given d.next_handle chunk ≡ true
  pub view : IsGivenView d p.view
  pub before : is_prepared_before (upgrade_epoch d.phase d.epoch) p.view ≡ true

prepared_stays : (d next : Durable) (chunk : ℕ) (p : Prepared) → Onward d next → IsPreparedOf d chunk p → IsPreparedOf next chunk p
prepared_stays d next chunk p on is = record {
  handle = on.handles chunk is.handle;
  view = view_stays d next p.view on.versions on.epoch is.view;
  before = ap (λ u. is_prepared_before u p.view) on.upgrade ∙ is.before;
}

-- what is so of settled chunks and of prepared views
pub record Chunked (d : Durable) : Type 0 where
  pub handles : (chunk : ℕ) → is_some (fin.get d.chunks chunk) ≡ true → is_given d.next_handle chunk ≡ true
  pub views : (chunk : ℕ) (s : Settled) → fin.get d.chunks chunk ≡ Some s → IsGivenView d s.view
  pub prepared : (chunk : ℕ) (p : Prepared) → fin.get d.prepared chunk ≡ Some p → IsPreparedOf d chunk p
  pub none : upgrade_epoch d.phase d.epoch ≡ None → (chunk : ℕ) → fin.get d.prepared chunk ≡ None

pub chunked_of : (d : Durable) → IsKept d → Chunked d
chunked_of d k = record {
  handles = k.handles;
  views = k.views;
  prepared = λ chunk p is. (let h = k.prepared chunk p is in record { handle = h.0; view = h.1; before = h.2 });
  none = λ u. (k.ordinary u).1;
}

-- the prepared view of a chunk is one
pub prepared_given : (d : Durable) → Chunked d → (chunk : ℕ) (p : Prepared) → prepared_view d chunk ≡ Some p → IsPreparedOf d chunk p
prepared_given d c chunk p e = each (upgrade_epoch d.phase d.epoch) refl (fin.get d.prepared chunk) refl (fin.get d.chunks chunk) refl e
  where
    some_is : {a b : Prepared} → ◌≡◌ {A = Option Prepared} (Some a) (Some b) → a ≡ b
    some_is h = cc

    settled_before : (up : ℕ) (s : Settled) → upgrade_epoch d.phase d.epoch ≡ Some up → fin.get d.chunks chunk ≡ Some s → (b : Bool) → nat_lt s.view.stamp.epoch up ≡ b → (if b then Some (record { view = s.view; holders = [] }) else None) ≡ Some p → IsPreparedOf d chunk p
    settled_before up s u has true low h =
        subst (IsPreparedOf d chunk) (some_is h) (record { handle = c.handles chunk (ap is_some has); view = c.views chunk s has; before = ap (λ v. is_prepared_before v s.view) u ∙ low })
    settled_before up s u has false low h = absurd (false≢true (ap is_some h))

    each : (u : Option ℕ) → upgrade_epoch d.phase d.epoch ≡ u → (kept : Option Prepared) → fin.get d.prepared chunk ≡ kept → (settled : Option Settled) → fin.get d.chunks chunk ≡ settled → prepared_of u kept settled ≡ Some p → IsPreparedOf d chunk p
    each None is kept at settled has h = absurd (false≢true (ap is_some h))
    each (Some up) is (Some v) at settled has h = subst (IsPreparedOf d chunk) (some_is h) (c.prepared chunk v at)
    each (Some up) is None at None has h = absurd (false≢true (ap is_some h))
    each (Some up) is None at (Some s) has h = settled_before up s is has (nat_lt s.view.stamp.epoch up) refl h

-- ---- prepared views that are kept

with_kept : (d : Durable) (k : ℕ) (o : Option Prepared) (Q : ℕ → Prepared → Type 0) → ((v : Prepared) → o ≡ Some v → Q k v) → ((q : ℕ) (p : Prepared) → fin.get d.prepared q ≡ Some p → Q q p) → (q : ℕ) (p : Prepared) → fin.get (with_prepared d k o) q ≡ Some p → Q q p
with_kept d k None Q own rest q p e = rest q p e
with_kept d k (Some v) Q own rest q p e = by_key (eq_by_cmp nat_cmp q k) refl (sym (fin.get-insert nat_cmp_total d.prepared k v q) ∙ e)
  where
    some_is : {a b : Prepared} → ◌≡◌ {A = Option Prepared} (Some a) (Some b) → a ≡ b
    some_is h = cc

    by_key : (b : Bool) → eq_by_cmp nat_cmp q k ≡ b → cond b (Some v) (fin.get d.prepared q) ≡ Some p → Q q p
    by_key true is h = subst (λ x. Q x p) (sym (same_key q k is)) (subst (Q k) (some_is h) (own v refl))
    by_key false is h = rest q p h

-- one that is kept is one of what goes on
pub kept_stays : (d next : Durable) (k : ℕ) (o : Option Prepared) → Chunked d → Onward d next → ((v : Prepared) → o ≡ Some v → IsPreparedOf d k v) → (q : ℕ) (p : Prepared) → fin.get (with_prepared d k o) q ≡ Some p → IsPreparedOf next q p
kept_stays d next k o c on own q p e =
    with_kept d k o (λ x v. IsPreparedOf next x v) (λ v is. prepared_stays d next k v on (own v is)) (λ x v is. prepared_stays d next x v on (c.prepared x v is)) q p e

-- without an upgrade none is kept
pub none_kept : (d : Durable) (k : ℕ) → Chunked d → upgrade_epoch d.phase d.epoch ≡ None → (q : ℕ) → fin.get (kept_before d k) q ≡ None
none_kept d k c u q = ap (λ x. fin.get (with_prepared d k (prepared_of x (fin.get d.prepared k) (fin.get d.chunks k))) q) u ∙ c.none u q

-- ---- chunks

pub same_on : (d next : Durable) → next.next_handle ≡ d.next_handle → next.next_version ≡ d.next_version → next.epoch ≡ d.epoch → next.phase ≡ d.phase → Onward d next
same_on d next h v e p = record {
  handles = λ n g. ap (λ x. is_given x n) h ∙ g;
  versions = λ n g. ap (λ x. is_given x n) v ∙ g;
  epoch = omega arith;
  upgrade = λ i. upgrade_epoch (p i) (e i);
}

-- a chunk is forgotten, and its prepared view kept
pub chunked_forgets : (d : Durable) (k : ℕ) → Chunked d → Chunked (record d { chunks = fin.remove d.chunks k; prepared = kept_before d k })
chunked_forgets d k c =
    let next = record d { chunks = fin.remove d.chunks k; prepared = kept_before d k } in
    let on = same_on d next refl refl refl refl in record {
      handles = λ chunk some. c.handles chunk (was_some chunk (eq_by_cmp nat_cmp chunk k) (sym (ap is_some (fin.get-remove nat_cmp_total d.chunks k chunk)) ∙ some));
      views = λ chunk s is. view_stays d next s.view on.versions on.epoch (c.views chunk s (was chunk s (eq_by_cmp nat_cmp chunk k) (sym (fin.get-remove nat_cmp_total d.chunks k chunk) ∙ is)));
      prepared = kept_stays d next k (prepared_view d k) c on (λ v is. prepared_given d c k v is);
      none = λ u. none_kept d k c u;
    }
  where
    was_some : (chunk : ℕ) (b : Bool) → is_some (cond b None (fin.get d.chunks chunk)) ≡ true → is_some (fin.get d.chunks chunk) ≡ true
    was_some chunk true h = absurd (false≢true h)
    was_some chunk false h = h

    was : (chunk : ℕ) (s : Settled) (b : Bool) → cond b None (fin.get d.chunks chunk) ≡ Some s → fin.get d.chunks chunk ≡ Some s
    was chunk s true h = absurd (false≢true (ap is_some h))
    was chunk s false h = h

-- chunks that stay as they were, but for whether they move
pub chunked_moves : (d next : Durable) → Chunked d → Onward d next → next.prepared ≡ d.prepared → ((chunk : ℕ) → is_some (fin.get next.chunks chunk) ≡ is_some (fin.get d.chunks chunk))
    → ((chunk : ℕ) (s : Settled) → fin.get next.chunks chunk ≡ Some s → (t : Settled) × ((fin.get d.chunks chunk ≡ Some t) × (s.view ≡ t.view))) → Chunked next
chunked_moves d next c on prepared same views = record {
  handles = λ chunk some. on.handles chunk (c.handles chunk (sym (same chunk) ∙ some));
  views = λ chunk s is. (let t = views chunk s is in subst (λ v. IsGivenView next v) (sym t.1.1) (view_stays d next t.0.view on.versions on.epoch (c.views chunk t.0 t.1.0)));
  prepared = λ chunk p is. prepared_stays d next chunk p on (c.prepared chunk p (ap (λ m. fin.get m chunk) (sym prepared) ∙ is));
  none = λ u chunk. ap (λ m. fin.get m chunk) prepared ∙ c.none (sym on.upgrade ∙ u) chunk;
}

-- what is kept stays kept
pub kept_grows : (d : Durable) (k q : ℕ) (o : Option Prepared) → is_some (fin.get d.prepared q) ≡ true → is_some (fin.get (with_prepared d k o) q) ≡ true
kept_grows d k q None some = some
kept_grows d k q (Some v) some = ap is_some (fin.get-insert nat_cmp_total d.prepared k v q) ∙ by_key (eq_by_cmp nat_cmp q k)
  where
    by_key : (b : Bool) → is_some (cond b (Some v) (fin.get d.prepared q)) ≡ true
    by_key true = refl
    by_key false = some

-- and so is what stood at prepare
pub kept_here : (d : Durable) (k q : ℕ) → q ≡ k → is_some (prepared_view d q) ≡ true → is_some (fin.get (kept_before d k) q) ≡ true
kept_here d k q same some = each (prepared_view d k) (sym (ap (λ x. is_some (prepared_view d x)) same) ∙ some)
  where
    each : (o : Option Prepared) → is_some o ≡ true → is_some (fin.get (with_prepared d k o) q) ≡ true
    each None h = absurd (false≢true h)
    each (Some v) h = ap is_some (fin.get-insert nat_cmp_total d.prepared k v q) ∙ ap (λ b. is_some (cond b (Some v) (fin.get d.prepared q))) (ap (eq_by_cmp nat_cmp q) (sym same) ∙ own)
      where
        own : eq_by_cmp nat_cmp q q ≡ true
        own = ap is_eq (tied_itself nat_cmp_total q)
