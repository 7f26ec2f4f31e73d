-- What is counted of all settled views, where a restart took no chunk out.
use Rattle.std.proofs.Common.{◌≡◌, ◌∙◌, ◌||◌, ℕ, Bool, true, false, not, List, [], map, filter, refl, ap, subst, sym}
use Rattle.std.specs.FinMap as fin
use Rattle.std.specs.Ordering.{nat_cmp}
use Rattle.gs_base.specs.Members.{is_member}
use Rattle.gs_base_table.specs.Slots.{live}
use Rattle.gs_lease_table.specs.Tallies.{AreReplicas}
use Rattle.gs_master_spec.specs.Beginning.{counted_views}
use Rattle.gs_master_spec.specs.Durable.{Settled, is_listed}
use Rattle.gs_master_state.specs.inner.Recorded.{durable_of}
use Rattle.gs_master_spec.specs.State.{State}
use Rattle.gs_master_state.specs.inner.Surveying.{AreCounts}
use Rattle.gs_master_state.specs.declared.recorded.Recorded.{Recorded}
use Rattle.gs_master_state.proofs.Surveys.{all_pass, counted_all}

or_true : (b : Bool) → (b || true) ≡ true
or_true true = refl
or_true false = refl

views_of_all : (s : State) → s.volatile.taken_out ≡ [] → counted_views s ≡ map (λ (e : ℕ × Settled). e.1.view) (fin.entries s.durable.chunks)
views_of_all s none =
    (λ i. map (λ (e : ℕ × Settled). e.1.view) (filter (λ (e : ℕ × Settled). is_listed s.durable e.0 || not (is_member (none i) e.0)) (fin.entries s.durable.chunks)))
    ∙ (λ i. map (λ (e : ℕ × Settled). e.1.view) (filter (λ (e : ℕ × Settled). or_true (is_listed s.durable e.0) i) (fin.entries s.durable.chunks)))
    ∙ ap (map (λ (e : ℕ × Settled). e.1.view)) (all_pass (fin.entries s.durable.chunks))

pub counts_all : (s : State) (r : Recorded) → s.durable ≡ durable_of r → s.volatile.taken_out ≡ [] → (counts : List ℕ) → AreReplicas (fin.entries (live nat_cmp r.leases)) counts → AreCounts (counted_views s) counts
counts_all s r same none counts are =
    subst (λ views. AreCounts views counts) (sym (views_of_all s none ∙ (λ i. map (λ (e : ℕ × Settled). e.1.view) (fin.entries (same i).chunks)))) (counted_all r counts are)
