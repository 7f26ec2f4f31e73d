-- Leases that are over are spent.
use Rattle.std.proofs.Common.{◌≡◌, ℕ, Bool, true, false, cond, List, [], ◌∷◌, Option, Some, None, refl, sym, ap, ◌∙◌}
use Rattle.std.specs.Prelude.{◌||◌, not}
use Rattle.std.specs.List.{list_any}
use Rattle.std.specs.FinMap as fin
use Rattle.std.specs.Ordering.{nat_cmp, eq_by_cmp}
use Rattle.std.specs.Cmp.{nat_cmp_total}
use Rattle.gs_base.specs.declared.numbers.Moment.{Moment}
use Rattle.gs_store.proofs.Keys.{passes, any_key}
use Rattle.gs_server_lease.specs.Leases.{PrimaryLease, is_over}
use Rattle.gs_server.specs.Servers.{standing_leases, stands_at}
use Rattle.gs_server.specs.inner.Spending.{over_of, without}

abbrev Leases : Type 0
Leases = fin.FinMap nat_cmp PrimaryLease

one_or_other : {A : Type 0} (a b : Bool) (o : Option A) → cond b None (cond a None o) ≡ cond (a || b) None o
one_or_other true true o = refl
one_or_other true false o = refl
one_or_other false b o = refl

get-without : (handles : List ℕ) (m : Leases) (q : ℕ) → fin.get (without handles m) q ≡ cond (list_any (eq_by_cmp nat_cmp q) handles) None (fin.get m q)
get-without [] m q = refl
get-without (h ∷ hs) m q =
    get-without hs (fin.remove m h) q ∙ ap (cond (list_any (eq_by_cmp nat_cmp q) hs) None) (fin.get-remove nat_cmp_total m h q)
    ∙ one_or_other (eq_by_cmp nat_cmp q h) (list_any (eq_by_cmp nat_cmp q) hs) (fin.get m q)

turned : {A : Type 0} (b : Bool) (o : Option A) → cond b None o ≡ cond (not b) o None
turned true o = refl
turned false o = refl

over_or_standing : (moment : Moment) (o : Option PrimaryLease) → cond (passes (is_over moment) o) None o ≡ cond (stands_at moment o) o None
over_or_standing moment None = refl
over_or_standing moment (Some l) = turned (is_over moment l) (Some l)

pub get-standing : (moment : Moment) (m : Leases) (q : ℕ) → fin.get (standing_leases moment m) q ≡ cond (stands_at moment (fin.get m q)) (fin.get m q) None
get-standing moment m q = fin.get-retain_keys m (λ handle. stands_at moment (fin.get m handle)) q (λ x tied. ap (stands_at moment) (fin.get_tied nat_cmp_total m q x tied))

pub spent_each : (moment : Moment) (m : Leases) → without (over_of moment (fin.entries m)) m ≡ standing_leases moment m
spent_each moment m = fin.same_map nat_cmp_total fin.nat_cmp-IsAntisymmetric _ _ (λ q.
    get-without (over_of moment (fin.entries m)) m q
    ∙ ap (λ b. cond b None (fin.get m q)) (any_key fin.nat_cmp-IsAntisymmetric (is_over moment) q (fin.entries m) (fin.entries_sorted m) ∙ ap (passes (is_over moment)) (sym (fin.get-entries m q)))
    ∙ over_or_standing moment (fin.get m q) ∙ sym (get-standing moment m q))
