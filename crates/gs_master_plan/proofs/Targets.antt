-- Targets follow from the counts of the servers that there are.
use Rattle.std.proofs.Common.{◌≡◌, ◌∙◌, ◌+◌, ◌≤◌, ◌<◌, ◌&&◌, ℕ, zero, suc, Bool, true, false, not, cond, List, [], ◌∷◌, map, filter, get_or, refl, ap, sym, arith}
use Rattle.std.specs.Prelude.{Option, Some, None, find, option_and_then, nat_le, nat_lt, slice_index, Result, Ok, Err, MatchResult}
use Rattle.std.specs.Result.{result_ok}
use Rattle.std.specs.List.{list_all}
use Rattle.std.proofs.lemmas.Bool.{and_parts, leb-true, ltb-true}
use Rattle.gs_base.specs.Configs.{is_config, is_within}
use Rattle.gs_base.specs.declared.config.Config.{Config}
use Rattle.gs_base.specs.declared.refusal.Refusal.{Refusal}
use Rattle.gs_base.specs.declared.refusal.Refusal.TheVariants as refusals
use Rattle.gs_base.specs.Members.{count_from, is_member, with_member}
use Rattle.gs_lease.specs.declared.view.View.{View}
use Rattle.gs_place.specs.Targets.{comes_before, first_candidate, is_candidate, picked_from, rack_rank, targets_of}
use Rattle.gs_place.specs.Order.{precedes}
use Rattle.gs_master_spec.specs.Beginning.{replica_counts, replicas_on, targets_for}
use Rattle.gs_master_state.specs.inner.Surveying.{AreCounts}

-- two tests that agree on what passes a third
find_same : (p q pass : ℕ → Bool) → ((x : ℕ) → pass x ≡ true → p x ≡ q x) → (xs : List ℕ) → find p (filter pass xs) ≡ find q (filter pass xs)
find_same p q pass same [] = refl
find_same p q pass same (x ∷ xs) =
    elim (pass x) as (λ b. pass x ≡ b → find p (cond b (x ∷ filter pass xs) (filter pass xs)) ≡ find q (cond b (x ∷ filter pass xs) (filter pass xs))) [
      | true ↦ λ h i. cond (same x h i) (Some x) (find_same p q pass same xs i)
      | false ↦ λ h. find_same p q pass same xs
    ] refl

all_same : (p q pass : ℕ → Bool) → ((x : ℕ) → pass x ≡ true → p x ≡ q x) → (xs : List ℕ) → list_all p (filter pass xs) ≡ list_all q (filter pass xs)
all_same p q pass same [] = refl
all_same p q pass same (x ∷ xs) =
    elim (pass x) as (λ b. pass x ≡ b → list_all p (cond b (x ∷ filter pass xs) (filter pass xs)) ≡ list_all q (cond b (x ∷ filter pass xs) (filter pass xs))) [
      | true ↦ λ h i. same x h i && all_same p q pass same xs i
      | false ↦ λ h. all_same p q pass same xs
    ] refl

-- counts that agree on so many servers
Agree : ℕ → List ℕ → List ℕ → Type 0
Agree servers counts others = (server : ℕ) → server < servers → slice_index counts server ≡ slice_index others server

below : (servers : ℕ) (taken : List ℕ) (server : ℕ) → is_candidate servers taken server ≡ true → server < servers
below servers taken server h = ltb-true server servers (and_parts (nat_lt server servers) (not (is_member taken server)) h).0

before_same : (servers racks : ℕ) (counts others taken : List ℕ) → Agree servers counts others → (server other : ℕ) → server < servers → other < servers → comes_before racks counts taken server other ≡ comes_before racks others taken server other
unfolding Agree
before_same servers racks counts others taken agree server other low small = λ i. precedes (rack_rank racks taken server) (rack_rank racks taken other) (agree server low i) (agree other small i) server other

first_same : (servers racks : ℕ) (counts others taken : List ℕ) → Agree servers counts others → first_candidate servers racks counts taken ≡ first_candidate servers racks others taken
first_same servers racks counts others taken agree =
    find_same _ _ (is_candidate servers taken)
    (λ server h. all_same _ _ (is_candidate servers taken) (λ other k. ap not (before_same servers racks counts others taken agree other server (below servers taken other k) (below servers taken server h))) (count_from 0 servers))
    (count_from 0 servers)

picked_same : (servers racks : ℕ) (counts others : List ℕ) → Agree servers counts others → (taken targets : List ℕ) (wanted : ℕ) → picked_from servers racks counts taken targets wanted ≡ picked_from servers racks others taken targets wanted
picked_same servers racks counts others agree taken targets zero = refl
picked_same servers racks counts others agree taken targets (suc wanted) =
    λ i. option_and_then (λ target. picked_same servers racks counts others agree (with_member taken target) (with_member targets target) wanted i) (first_same servers racks counts others taken agree i)

at_count : (f : ℕ → ℕ) (n first k : ℕ) → k < n → get_or (map f (count_from first n)) k 0 ≡ f (first + k)
at_count f zero first k h = absurd (omega arith)
at_count f (suc n) first zero h = ap f (omega arith)
at_count f (suc n) first (suc k) h = at_count f n (first + 1) k (omega arith) ∙ ap f (omega arith)

agree : (servers : ℕ) (counts : List ℕ) (views : List View) → servers ≤ 16 → AreCounts views counts → Agree servers counts (replica_counts servers views)
unfolding Agree
agree servers counts views most are server low = are.each server (omega arith) ∙ sym (at_count (replicas_on views) servers 0 server low ∙ ap (replicas_on views) (omega arith))

pub targets_by : (servers racks : ℕ) (counts : List ℕ) (views : List View) (present : List ℕ) (wanted : ℕ) → servers ≤ 16 → AreCounts views counts →
    targets_of servers racks counts present wanted ≡ targets_of servers racks (replica_counts servers views) present wanted
targets_by servers racks counts views present wanted most are = picked_same servers racks counts (replica_counts servers views) (agree servers counts views most are) present [] wanted

most_servers : (servers racks replicas block chunk : ℕ) → is_config servers racks replicas block chunk ≡ true → servers ≤ 16
most_servers servers racks replicas block chunk h = leb-true servers 16 (and_parts (nat_le 1 servers) (nat_le servers 16) (and_parts (is_within servers 1 16) _ h).0).1

-- what is found, as an option
pub targets_found : (config : Config) (views : List View) (counts present : List ℕ) (wanted : ℕ) (r : Result (List ℕ) Refusal) (found : Option (List ℕ)) → AreCounts views counts → found ≡ result_ok r →
    MatchResult r (λ t. targets_of config.servers config.racks counts present wanted ≡ Some t) (λ e. (targets_of config.servers config.racks counts present wanted ≡ None) × (e ≡ refusals.NoServer)) →
    found ≡ targets_for config views present wanted
targets_found config views counts present wanted (Ok t) found are is gives =
    is ∙ sym gives ∙ targets_by config.servers config.racks counts views present wanted (most_servers config.servers config.racks config.replicas config.block config.chunk config.valid) are
targets_found config views counts present wanted (Err e) found are is gives =
    is ∙ sym gives.0 ∙ targets_by config.servers config.racks counts views present wanted (most_servers config.servers config.racks config.replicas config.block config.chunk config.valid) are
