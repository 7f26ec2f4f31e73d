-- Keys that pass a test are the same in two maps, if each key that passes is in both or in neither.
use Rattle.std.proofs.Common.{◌≡◌, ◌∙◌, ℕ, Bool, true, false, cond, T, List, [], ◌∷◌, map, filter, refl, ap, sym, subst}
use Rattle.std.specs.Prelude.{Option, Some, None, option_map, is_some}
use Rattle.std.specs.Cmp.{nat_cmp_total}
use Rattle.std.specs.FinMap as fin
use Rattle.std.specs.FinMap.Entries.{below_all, find-where_key, is_sorted, is_sorted-where_key, same_entries}
use Rattle.std.specs.Ordering.{eq_by_cmp, nat_cmp}

-- the keys alone
abbrev units : {V : Type 0} → List (ℕ × V) → List (ℕ × Bool)
units es = map (λ e. (e.0, true)) es

keys_units : {V : Type 0} (es : List (ℕ × V)) → map (λ e. e.0) (units es) ≡ map (λ e. e.0) es
keys_units [] = refl
keys_units (e ∷ es) = ap (λ ks. e.0 ∷ ks) (keys_units es)

keys_where : {V : Type 0} (test : ℕ → Bool) (es : List (ℕ × V)) → filter test (map (λ e. e.0) es) ≡ map (λ e. e.0) (filter (λ (e : ℕ × V). test e.0) es)
keys_where test [] = refl
keys_where {V = V} test (e ∷ es) = elim (test e.0) as (λ b. cond b (e.0 ∷ filter test (map (λ e. e.0) es)) (filter test (map (λ e. e.0) es)) ≡ map (λ e. e.0) (cond b (e ∷ filter (λ (e : ℕ × V). test e.0) es) (filter (λ (e : ℕ × V). test e.0) es))) [
  | true ↦ ap (λ ks. e.0 ∷ ks) (keys_where test es)
  | false ↦ keys_where test es
]

below_units : {V : Type 0} (k : ℕ) (es : List (ℕ × V)) → below_all nat_cmp k (units es) ≡ below_all nat_cmp k es
below_units k [] = refl
below_units k (e ∷ es) = rw (below_units k es) refl

sorted_units : {V : Type 0} (es : List (ℕ × V)) → is_sorted nat_cmp (units es) ≡ is_sorted nat_cmp es
sorted_units [] = refl
sorted_units (e ∷ es) = rw (below_units e.0 es) (rw (sorted_units es) refl)

find_units : {V : Type 0} (q : ℕ) (es : List (ℕ × V)) → fin.find nat_cmp q (units es) ≡ option_map (λ _. true) (fin.find nat_cmp q es)
find_units q [] = refl
find_units {V = V} q (e ∷ es) = elim (eq_by_cmp nat_cmp q e.0) as (λ b. cond b (Some true) (fin.find nat_cmp q (units es)) ≡ option_map (λ (v : V). true) (cond b (Some e.1) (fin.find nat_cmp q es))) [
  | true ↦ refl
  | false ↦ find_units q es
]

both_or_neither : {V W : Type 0} (x : Option V) (y : Option W) → is_some x ≡ is_some y → option_map (λ (v : V). true) x ≡ option_map (λ (w : W). true) y
both_or_neither None None is = refl
both_or_neither None (Some w) is = absurd (cc)
both_or_neither (Some v) None is = absurd (cc)
both_or_neither (Some v) (Some w) is = refl

-- the keys that pass
abbrev passing : {V : Type 0} → (ℕ → Bool) → List (ℕ × V) → List (ℕ × Bool)
passing test es = filter (λ (e : ℕ × Bool). test e.0) (units es)

passing_found : {V : Type 0} (test : ℕ → Bool) (q : ℕ) (es : List (ℕ × V)) → fin.find nat_cmp q (passing test es) ≡ cond (test q) (option_map (λ _. true) (fin.find nat_cmp q es)) None
passing_found test q es = find-where_key nat_cmp test q (λ x e. ap test (sym (fin.nat_cmp-IsAntisymmetric q x e))) (units es) ∙ ap (λ o. cond (test q) o None) (find_units q es)

passing_sorted : {V : Type 0} (test : ℕ → Bool) (m : fin.FinMap nat_cmp V) → T (is_sorted nat_cmp (passing test (fin.entries m)))
passing_sorted test m = is_sorted-where_key nat_cmp test (units (fin.entries m)) (subst T (sym (sorted_units (fin.entries m))) (fin.entries_sorted m))

passing_keys : {V : Type 0} (test : ℕ → Bool) (es : List (ℕ × V)) → filter test (map (λ e. e.0) es) ≡ map (λ e. e.0) (passing test es)
passing_keys test es = ap (filter test) (sym (keys_units es)) ∙ keys_where test (units es)

where_same : {V W : Type 0} (m : fin.FinMap nat_cmp V) (n : fin.FinMap nat_cmp W) (q : ℕ) (b : Bool) → (b ≡ true → is_some (fin.get m q) ≡ is_some (fin.get n q)) →
    cond b (option_map (λ (v : V). true) (fin.find nat_cmp q (fin.entries m))) None ≡ cond b (option_map (λ (w : W). true) (fin.find nat_cmp q (fin.entries n))) None
where_same m n q true same = both_or_neither _ _ (ap is_some (sym (fin.get-entries m q)) ∙ same refl ∙ ap is_some (fin.get-entries n q))
where_same m n q false same = refl

pub filter_same : {V W : Type 0} (m : fin.FinMap nat_cmp V) (n : fin.FinMap nat_cmp W) (test : ℕ → Bool) → ((q : ℕ) → test q ≡ true → is_some (fin.get m q) ≡ is_some (fin.get n q)) → filter test (fin.keys m) ≡ filter test (fin.keys n)
filter_same m n test same =
    passing_keys test (fin.entries m)
    ∙ ap (map (λ (e : ℕ × Bool). e.0))
    (same_entries nat_cmp nat_cmp_total fin.nat_cmp-IsAntisymmetric (passing test (fin.entries m)) (passing test (fin.entries n)) (passing_sorted test m) (passing_sorted test n)
    (λ q. passing_found test q (fin.entries m) ∙ where_same m n q (test q) (same q) ∙ sym (passing_found test q (fin.entries n))))
    ∙ sym (passing_keys test (fin.entries n))
