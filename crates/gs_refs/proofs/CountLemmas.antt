-- The map of a list of entries, as a tree map changes it.
use Rattle.std.proofs.Common.{◌≡◌, ℕ, ◌++◌, ◌∷◌, [], cond, List, map, Option, Some, None, refl, sym, ap, ◌∙◌}
use Rattle.std.proofs.lemmas.List.{nil_from_length}
use Rattle.std.specs.BTreeMap.{is_at}
use Rattle.std.specs.Cmp.{nat_cmp_total, eq_by_cmp_equiv}
use Rattle.std.specs.FinMap as fin
use Rattle.std.specs.List.Sorted.{IsStrictlySortedBy}
use Rattle.std.specs.Map.{lookup}
use Rattle.std.specs.Ordering.{nat_cmp, eq_by_cmp}
use Rattle.gs_refs.specs.Counts.{Counts}

find_lookup : (es : List (ℕ × ℕ)) (q : ℕ) → fin.find nat_cmp q es ≡ lookup (is_at (nat_cmp q)) es
find_lookup [] q = refl
find_lookup (e ∷ es) q = ap (cond (eq_by_cmp nat_cmp q e.0) (Some e.1)) (find_lookup es q)

pub get_listed : (es : List (ℕ × ℕ)) (q : ℕ) → fin.get (fin.from_entries {R = nat_cmp} es) q ≡ lookup (is_at (nat_cmp q)) es
get_listed es q = fin.get-from_entries nat_cmp_total es q ∙ find_lookup es q

turned : (k q : ℕ) (w r : Option ℕ) → cond (is_at (nat_cmp k) q) w r ≡ cond (eq_by_cmp nat_cmp q k) w r
turned k q w r = ap (λ b. cond b w r) ((eq_by_cmp_equiv nat_cmp_total).symm k q)

pub insert_listed : (es fs : List (ℕ × ℕ)) (k v : ℕ) → ((q : ℕ) → lookup (is_at (nat_cmp q)) fs ≡ cond (is_at (nat_cmp k) q) (Some v) (lookup (is_at (nat_cmp q)) es)) → fin.from_entries {R = nat_cmp} fs ≡ fin.insert (fin.from_entries es) k v
insert_listed es fs k v says = fin.same_map nat_cmp_total fin.nat_cmp-IsAntisymmetric _ _ (λ q.
    get_listed fs q ∙ says q ∙ turned k q (Some v) _ ∙ ap (cond (eq_by_cmp nat_cmp q k) (Some v)) (sym (get_listed es q)) ∙ sym (fin.get-insert nat_cmp_total (fin.from_entries es) k v q))

pub remove_listed : (es fs : List (ℕ × ℕ)) (k : ℕ) → ((q : ℕ) → lookup (is_at (nat_cmp q)) fs ≡ cond (is_at (nat_cmp k) q) None (lookup (is_at (nat_cmp q)) es)) → fin.from_entries {R = nat_cmp} fs ≡ fin.remove (fin.from_entries es) k
remove_listed es fs k says = fin.same_map nat_cmp_total fin.nat_cmp-IsAntisymmetric _ _ (λ q.
    get_listed fs q ∙ says q ∙ turned k q None _ ∙ ap (cond (eq_by_cmp nat_cmp q k) None) (sym (get_listed es q)) ∙ sym (fin.get-remove nat_cmp_total (fin.from_entries es) k q))

-- a map is that of its entries
pub from_entries-entries : (m : Counts) → fin.from_entries (fin.entries m) ≡ m
from_entries-entries m = fin.same_map nat_cmp_total fin.nat_cmp-IsAntisymmetric _ _ (λ q. fin.get-from_entries nat_cmp_total (fin.entries m) q ∙ sym (fin.get-entries m q))

-- a list in order is the entries of its map
pub entries-from_entries : (es : List (ℕ × ℕ)) → IsStrictlySortedBy nat_cmp (map (λ e. e.0) es) → fin.entries (fin.from_entries {R = nat_cmp} es) ≡ es
unfolding IsStrictlySortedBy
entries-from_entries [] h = nil_from_length _ (sym (fin.len-entries (fin.from_entries {R = nat_cmp} [])) ∙ fin.len-empty nat_cmp ℕ)
entries-from_entries (e ∷ []) h = fin.entries-insert nat_cmp_total (fin.from_entries []) e.0 e.1 ∙ ap (λ fs. fin.put nat_cmp e.0 e.1 fs) (entries-from_entries [] tt)
entries-from_entries (e ∷ f ∷ es) h =
    fin.entries-insert nat_cmp_total (fin.from_entries (f ∷ es)) e.0 e.1 ∙ ap (λ fs. fin.put nat_cmp e.0 e.1 fs) (entries-from_entries (f ∷ es) h.1) ∙ rw h.0.0

-- a map with the entries of a list, the last of them first
abbrev pub onto : List (ℕ × ℕ) → Counts → Counts
onto [] m = m
onto (e ∷ es) m = fin.insert (onto es m) e.0 e.1

pub onto_last : (es : List (ℕ × ℕ)) (e : ℕ × ℕ) (m : Counts) → onto (es ++ e ∷ []) m ≡ onto es (fin.insert m e.0 e.1)
onto_last [] e m = refl
onto_last (f ∷ es) e m = ap (λ n. fin.insert n f.0 f.1) (onto_last es e m)

pub onto_empty : (es : List (ℕ × ℕ)) → onto es fin.empty ≡ fin.from_entries es
onto_empty [] = refl
onto_empty (e ∷ es) = ap (λ n. fin.insert n e.0 e.1) (onto_empty es)
