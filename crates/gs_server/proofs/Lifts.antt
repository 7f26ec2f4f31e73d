-- What touches every chunk of a server is one function on each chunk's place.
use Rattle.std.proofs.Common.{◌≡◌, ℕ, ◌+◌, Bool, true, false, cond, [], ◌∷◌, Some, refl, sym, ap, subst, ◌∙◌, arith}
use Rattle.std.specs.Prelude.{◌==◌}
use Rattle.std.proofs.lemmas.Bool.{eqb-true, eq-eqb}
use Rattle.std.specs.FinMap as fin
use Rattle.std.specs.Ordering.{nat_cmp}
use Rattle.gs_base.specs.declared.numbers.Moment.{Moment}
use Rattle.gs_base.specs.declared.epoch.EpochEnd.{EpochEnd}
use Rattle.gs_base.specs.declared.epoch.EpochEnd.TheVariants.{Prepare, Finalize, Rollback}
use Rattle.gs_base.specs.declared.refusal.Refusal.TheVariants as refusals
use Rattle.gs_msg.specs.declared.node.NodeId.TheVariants as nodes
use Rattle.gs_msg.specs.declared.body.Body.TheVariants as bodies
use Rattle.gs_store.proofs.StoreLaws.{slot_goes}
use Rattle.gs_store.specs.Stores as stores
use Rattle.gs_server_lease.specs.Leases.{PrimaryLease, tell}
use Rattle.gs_server.specs.Lifts.{ticked, restarted, lease_at, gone_on, with_lease}
use Rattle.gs_server.specs.Servers.{Server, Step, place_of, store_of, tick, restart, learn, learned, leases_after}
use Rattle.gs_server.specs.inner.Learning.{next_of}
use Rattle.gs_server.proofs.Spent.{get-standing}

pub ticked_is : (handle : ℕ) (s : Server) (moment : Moment) → place_of handle (tick s moment).after ≡ ticked moment (place_of handle s)
ticked_is handle s moment = ap (λ l. with_lease l (place_of handle s)) (get-standing moment s.dropped.leases handle)

pub restarted_is : (handle : ℕ) (s : Server) → place_of handle (restart s) ≡ restarted (place_of handle s)
restarted_is handle s = ap (λ l. with_lease l (place_of handle s)) (fin.get-empty nat_cmp handle)

lease_goes : (end : EpochEnd) (leases : fin.FinMap nat_cmp PrimaryLease) (handle : ℕ) → fin.get (leases_after end leases) handle ≡ lease_at end (fin.get leases handle)
lease_goes Rollback leases handle = fin.get-empty nat_cmp handle
lease_goes Prepare leases handle = refl
lease_goes Finalize leases handle = refl

pub place_goes : (handle epoch : ℕ) (end : EpochEnd) (s : Server) → place_of handle (next_of epoch end s) ≡ gone_on end epoch (place_of handle s)
place_goes handle epoch end s =
    ap (λ l. record { slot = stores.slot_of handle (stores.learned epoch end (store_of s)); lease = l }) (lease_goes end s.dropped.leases handle)
    ∙ ap (λ t. record { slot = t; lease = lease_at end (fin.get s.dropped.leases handle) }) (slot_goes epoch end (store_of s) handle)

pub apart : (a b : ℕ) (t : Bool) → (a == b) ≡ t → a ≡ b + 1 → t ≡ false
apart a b true is next = absurd (let same : a ≡ b = eqb-true a b is in omega arith)
apart a b false is next = refl

abbrev step_if : ℕ → EpochEnd → Server → Bool → Bool → Step
step_if epoch end s here next =
    cond here (learned s epoch end s) (cond next (learned s epoch end (next_of epoch end s))
    (record { after = s; sent = tell s.me nodes.Master (bodies.Behind s.kept.epoch) ∷ []; said = Some (refusals.Epoch s.kept.epoch) }))

pub next_is : (handle epoch : ℕ) (end : EpochEnd) (s : Server) → epoch ≡ s.kept.epoch + 1 → place_of handle (learn s epoch end).after ≡ gone_on end epoch (place_of handle s)
next_is handle epoch end s next =
    subst (λ here. place_of handle (step_if epoch end s here (epoch == s.kept.epoch + 1)).after ≡ gone_on end epoch (place_of handle s)) (sym (apart epoch s.kept.epoch (epoch == s.kept.epoch) refl next))
    (subst (λ n. place_of handle (step_if epoch end s false n).after ≡ gone_on end epoch (place_of handle s)) (sym (eq-eqb epoch (s.kept.epoch + 1) next)) (place_goes handle epoch end s))
