-- The map of a list of entries, as a tree map changes it.
use Rattle.std.proofs.Common.{Less, ◌≡◌, ◌≢◌, ℕ, Decides, length, [], ◌∷◌, List, cond, Option, Some, None, refl, sym, ap, subst, ◌∙◌}
use Rattle.std.specs.Prelude.{T, Bool, true, false, ◌&&◌, map}
use Rattle.std.specs.BTreeMap.{is_at}
use Rattle.std.specs.FinMap.Entries.{below_all, is_sorted, same_entries}
use Rattle.std.specs.List.{AllByRecursion}
use Rattle.std.specs.List.Sorted.{IsStrictlySortedBy}
use Rattle.std.specs.Cmp.{nat_cmp_total, eq_by_cmp_equiv}
use Rattle.std.specs.FinMap as fin
use Rattle.std.specs.Map.{lookup}
use Rattle.std.specs.Ordering.{nat_cmp, eq_by_cmp, is_lt}

find_lookup : {X : Type 0} (es : List (ℕ × X)) (q : ℕ) → fin.find nat_cmp q es ≡ lookup (is_at (nat_cmp q)) es
find_lookup [] q = refl
find_lookup (e ∷ es) q = ap (cond (eq_by_cmp nat_cmp q e.0) (Some e.1)) (find_lookup es q)

pub get_table : {X : Type 0} (es : List (ℕ × X)) (q : ℕ) → fin.get (fin.from_entries {R = nat_cmp} es) q ≡ lookup (is_at (nat_cmp q)) es
get_table es q = fin.get-from_entries nat_cmp_total es q ∙ find_lookup es q

turned : {X : Type 0} (k q : ℕ) (w r : Option X) → cond (is_at (nat_cmp k) q) w r ≡ cond (eq_by_cmp nat_cmp q k) w r
turned k q w r = ap (λ b. cond b w r) ((eq_by_cmp_equiv nat_cmp_total).symm k q)

pub insert_table : {X : Type 0} (es fs : List (ℕ × X)) (k : ℕ) (v : X) → ((q : ℕ) → lookup (is_at (nat_cmp q)) fs ≡ cond (is_at (nat_cmp k) q) (Some v) (lookup (is_at (nat_cmp q)) es)) → fin.from_entries {R = nat_cmp} fs ≡ fin.insert (fin.from_entries es) k v
insert_table es fs k v says = fin.same_map nat_cmp_total fin.nat_cmp-IsAntisymmetric _ _ (λ q.
    get_table fs q ∙ says q ∙ turned k q (Some v) _ ∙ ap (cond (eq_by_cmp nat_cmp q k) (Some v)) (sym (get_table es q)) ∙ sym (fin.get-insert nat_cmp_total (fin.from_entries es) k v q))

pub remove_table : {X : Type 0} (es fs : List (ℕ × X)) (k : ℕ) → ((q : ℕ) → lookup (is_at (nat_cmp q)) fs ≡ cond (is_at (nat_cmp k) q) None (lookup (is_at (nat_cmp q)) es)) → fin.from_entries {R = nat_cmp} fs ≡ fin.remove (fin.from_entries es) k
remove_table es fs k says = fin.same_map nat_cmp_total fin.nat_cmp-IsAntisymmetric _ _ (λ q.
    get_table fs q ∙ says q ∙ turned k q None _ ∙ ap (cond (eq_by_cmp nat_cmp q k) None) (sym (get_table es q)) ∙ sym (fin.get-remove nat_cmp_total (fin.from_entries es) k q))

both_hold : (a b : Bool) → T a → T b → T (a && b)
both_hold true b ha hb = hb
both_hold false b ha hb = ha

below_tests : {X : Type 0} (k : ℕ) (es : List (ℕ × X)) → AllByRecursion (λ q. nat_cmp k q ≡ Less) (map (λ e. e.0) es) → T (below_all nat_cmp k es)
below_tests k [] all = tt
below_tests k (e ∷ es) all = both_hold (is_lt (nat_cmp k e.0)) (below_all nat_cmp k es) (subst (λ r. T (is_lt r)) (sym all.0) tt) (below_tests k es all.1)

sorted_tests : {X : Type 0} (es : List (ℕ × X)) → IsStrictlySortedBy nat_cmp (map (λ e. e.0) es) → T (is_sorted nat_cmp es)
unfolding IsStrictlySortedBy
sorted_tests [] all = tt
sorted_tests (e ∷ es) all = both_hold (below_all nat_cmp e.0 es) (is_sorted nat_cmp es) (below_tests e.0 es all.0) (sorted_tests es all.1)

-- entries in order are those of their map
pub same_tables : {X : Type 0} (es fs : List (ℕ × X)) → IsStrictlySortedBy nat_cmp (map (λ e. e.0) es) → IsStrictlySortedBy nat_cmp (map (λ e. e.0) fs) → fin.from_entries {R = nat_cmp} es ≡ fin.from_entries fs → es ≡ fs
same_tables es fs low high is = same_entries nat_cmp nat_cmp_total fin.nat_cmp-IsAntisymmetric es fs (sorted_tests es low) (sorted_tests fs high)
    (λ q. sym (fin.get-from_entries nat_cmp_total es q) ∙ ap (λ m. fin.get m q) is ∙ fin.get-from_entries nat_cmp_total fs q)

-- so a test of the entries is one of the maps
pub decides_tables : {X : Type 0} (r : Bool) (es fs : List (ℕ × X)) → IsStrictlySortedBy nat_cmp (map (λ e. e.0) es) → IsStrictlySortedBy nat_cmp (map (λ e. e.0) fs) → Decides r (es ≡ fs) → Decides r (fin.from_entries {R = nat_cmp} es ≡ fin.from_entries fs)
decides_tables r es fs low high d = (λ h. ap (fin.from_entries {R = nat_cmp}) (d.0 h), λ h. d.1 (same_tables es fs low high h))

-- entries that are not as many are others
pub fewer_differ : {X : Type 0} (es fs : List (ℕ × X)) → length es ≢ length fs → Decides false (es ≡ fs)
fewer_differ es fs few = (λ h. absurd (cc), λ h. absurd (few (ap length h)))

-- they are what the map lists
pub listed_table : {X : Type 0} (es : List (ℕ × X)) → IsStrictlySortedBy nat_cmp (map (λ e. e.0) es) → es ≡ fin.entries (fin.from_entries {R = nat_cmp} es)
listed_table es low = same_entries nat_cmp nat_cmp_total fin.nat_cmp-IsAntisymmetric es (fin.entries (fin.from_entries {R = nat_cmp} es)) (sorted_tests es low) (fin.entries_sorted (fin.from_entries {R = nat_cmp} es))
    (λ q. sym (fin.get-from_entries nat_cmp_total es q) ∙ fin.get-entries (fin.from_entries {R = nat_cmp} es) q)
