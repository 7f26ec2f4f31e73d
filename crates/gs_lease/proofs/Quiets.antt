-- The first entry of a map, in the order of its keys, that isn't quiet.
use Rattle.std.proofs.Common.{◌≡◌, ℕ, ◌<◌, List, [], ◌∷◌, Option, Some, None, Bool, true, false, cond, refl, ap, sym, ◌∙◌, subst, arith, map, Ordering}
use Rattle.std.proofs.lemmas.Bool.Decides.{nat_tests}
use Rattle.std.proofs.lemmas.Bool.{false≢true}
use Rattle.std.specs.Prelude.{nat_lt, ◌==◌}
use Rattle.std.specs.Ordering.{nat_cmp, is_eq, is_lt, eq_by_cmp}
use Rattle.std.specs.declared.cmp.Ordering.TheVariants.{Less, Equal, Greater}
use Rattle.std.specs.FinMap as fin
use Rattle.std.specs.List.{AllByRecursion}
use Rattle.std.specs.List.Sorted.{IsStrictlySortedBy}
use Rattle.gs_lease.specs.declared.lease.Lease.{Lease}
use Rattle.gs_lease.specs.Chunks.{is_quiet, IsAllQuiet, IsLowestNotQuiet}

abbrev pub first_unquiet : List (ℕ × Lease) → Option ℕ
first_unquiet [] = None
first_unquiet (e ∷ es) = cond (is_quiet e.1) (first_unquiet es) (Some e.0)

some_lease : (x y : Lease) → Some x ≡ Some y → x ≡ y
some_lease x y e = cc

abbrev Below : ℕ → List (ℕ × Lease) → Type 0
Below x es = AllByRecursion (λ y. nat_cmp x y ≡ Less) (map (λ e. e.0) es)

-- keys that tie are equal, and those that don't differ
tied : (q k : ℕ) → eq_by_cmp nat_cmp q k ≡ true → q ≡ k
tied q k h = fin.nat_cmp-IsAntisymmetric q k (by_order (nat_cmp q k) h)
  where
    by_order : (r : Ordering) → is_eq r ≡ true → r ≡ Equal
    by_order Less h = absurd (false≢true h)
    by_order Equal h = refl
    by_order Greater h = absurd (false≢true h)

itself : (k : ℕ) → eq_by_cmp nat_cmp k k ≡ true
itself k = same (nat_lt k k) (k == k) (grind (arith, nat_tests)) (grind (arith, nat_tests))
  where
    same : (a b : Bool) → a ≡ false → b ≡ true → is_eq (cond a Less (cond b Equal Greater)) ≡ true
    same a b e f = ap (λ x. is_eq (cond x Less (cond b Equal Greater))) e ∙ ap (λ y. is_eq (cond y Equal Greater)) f

less_is : (x y : ℕ) → nat_cmp x y ≡ Less → x < y
less_is x y h = from_test (nat_lt x y) (x == y) refl (ap is_lt h)
  where
    from_test : (a b : Bool) → nat_lt x y ≡ a → is_lt (cond a Less (cond b Equal Greater)) ≡ true → x < y
    from_test true b is h = grind (arith, nat_tests)
    from_test false true is h = absurd (false≢true h)
    from_test false false is h = absurd (false≢true h)

-- a key that is found is above all that the entries are above
above : (x : ℕ) (es : List (ℕ × Lease)) (q : ℕ) (l : Lease) → Below x es → fin.find nat_cmp q es ≡ Some l → x < q
above x [] q l h found = absurd (let clash : None ≡ Some l = found in cc)
above x (e ∷ es) q l h found = here (eq_by_cmp nat_cmp q e.0) refl found (above x es q l h.1)
  where
    here : (b : Bool) → eq_by_cmp nat_cmp q e.0 ≡ b → cond b (Some e.1) (fin.find nat_cmp q es) ≡ Some l → (fin.find nat_cmp q es ≡ Some l → x < q) → x < q
    here true same is rest = subst (λ n. x < n) (sym (tied q e.0 same)) (less_is x e.0 h.0)
    here false apart is rest = rest is

pub none_unquiet : (es : List (ℕ × Lease)) → first_unquiet es ≡ None → (q : ℕ) (l : Lease) → fin.find nat_cmp q es ≡ Some l → is_quiet l ≡ true
none_unquiet [] none q l found = absurd (let clash : None ≡ Some l = found in cc)
none_unquiet (e ∷ es) none q l found = at (is_quiet e.1) refl none (eq_by_cmp nat_cmp q e.0) found (λ h k. none_unquiet es h q l k)
  where
    at : (b : Bool) → is_quiet e.1 ≡ b → cond b (first_unquiet es) (Some e.0) ≡ None → (y : Bool) → cond y (Some e.1) (fin.find nat_cmp q es) ≡ Some l
        → (first_unquiet es ≡ None → fin.find nat_cmp q es ≡ Some l → is_quiet l ≡ true) → is_quiet l ≡ true
    at true quiet none true found rest = ap is_quiet (sym (some_lease e.1 l found)) ∙ quiet
    at true quiet none false found rest = rest none found
    at false quiet none y found rest = absurd (let clash : Some e.0 ≡ None = none in cc)

pub record LowestIn (es : List (ℕ × Lease)) (k : ℕ) : Type 0 where
  pub lease : Lease
  pub stands : fin.find nat_cmp k es ≡ Some lease
  pub not_quiet : is_quiet lease ≡ false
  pub lower : (q : ℕ) (l : Lease) → q < k → fin.find nat_cmp q es ≡ Some l → is_quiet l ≡ true

head_lowest : (e : ℕ × Lease) (es : List (ℕ × Lease)) → Below e.0 es → is_quiet e.1 ≡ false → LowestIn (e ∷ es) e.0
head_lowest e es below unquiet = record {
  lease = e.1;
  stands = ap (λ b. cond b (Some e.1) (fin.find nat_cmp e.0 es)) (itself e.0);
  not_quiet = unquiet;
  lower = λ q l less found. at q l less (eq_by_cmp nat_cmp q e.0) refl found;
}
  where
    at : (q : ℕ) (l : Lease) → q < e.0 → (y : Bool) → eq_by_cmp nat_cmp q e.0 ≡ y → cond y (Some e.1) (fin.find nat_cmp q es) ≡ Some l → is_quiet l ≡ true
    at q l less true same found = absurd (let e' = tied q e.0 same in omega arith)
    at q l less false apart found = absurd (let over : e.0 < q = above e.0 es q l below found in omega arith)

tail_lowest : (e : ℕ × Lease) (es : List (ℕ × Lease)) (k : ℕ) → Below e.0 es → is_quiet e.1 ≡ true → LowestIn es k → LowestIn (e ∷ es) k
tail_lowest e es k below quiet h = record {
  lease = h.lease;
  stands = skipped (eq_by_cmp nat_cmp k e.0) refl;
  not_quiet = h.not_quiet;
  lower = λ q l less found. at q l less (eq_by_cmp nat_cmp q e.0) found;
}
  where
    over : e.0 < k
    over = above e.0 es k h.lease below h.stands

    skipped : (y : Bool) → eq_by_cmp nat_cmp k e.0 ≡ y → cond y (Some e.1) (fin.find nat_cmp k es) ≡ Some h.lease
    skipped true same = absurd (let e' = tied k e.0 same in let o = over in omega arith)
    skipped false apart = h.stands

    at : (q : ℕ) (l : Lease) → q < k → (y : Bool) → cond y (Some e.1) (fin.find nat_cmp q es) ≡ Some l → is_quiet l ≡ true
    at q l less true found = ap is_quiet (sym (some_lease e.1 l found)) ∙ quiet
    at q l less false found = h.lower q l less found

key_is : (a b : ℕ) → Some a ≡ Some b → a ≡ b
key_is a b e = cc

lowest_in : (es : List (ℕ × Lease)) (k : ℕ) → IsStrictlySortedBy nat_cmp (map (λ e. e.0) es) → first_unquiet es ≡ Some k → LowestIn es k
unfolding IsStrictlySortedBy
lowest_in [] k sorted found = absurd (let clash : None ≡ Some k = found in cc)
lowest_in (e ∷ es) k sorted found = at (is_quiet e.1) refl found (λ h. lowest_in es k sorted.1 h)
  where
    at : (b : Bool) → is_quiet e.1 ≡ b → cond b (first_unquiet es) (Some e.0) ≡ Some k → (first_unquiet es ≡ Some k → LowestIn es k) → LowestIn (e ∷ es) k
    at true quiet is rest = tail_lowest e es k sorted.0 quiet (rest is)
    at false quiet is rest = subst (LowestIn (e ∷ es)) (key_is e.0 k is) (head_lowest e es sorted.0 quiet)

pub all_quiet_of : (m : fin.FinMap nat_cmp Lease) (es : List (ℕ × Lease)) → es ≡ fin.entries m → first_unquiet es ≡ None → IsAllQuiet m
all_quiet_of m es is none = record { each = λ q l stands. none_unquiet es none q l (ap (fin.find nat_cmp q) is ∙ sym (fin.get-entries m q) ∙ stands) }

pub lowest_of : (m : fin.FinMap nat_cmp Lease) (es : List (ℕ × Lease)) (k : ℕ) → es ≡ fin.entries m → IsStrictlySortedBy nat_cmp (map (λ e. e.0) es) → first_unquiet es ≡ Some k → IsLowestNotQuiet m k
lowest_of m es k is sorted found =
    let h = lowest_in es k sorted found in
    record {
      lease = h.lease;
      stands = fin.get-entries m k ∙ ap (fin.find nat_cmp k) (sym is) ∙ h.stands;
      not_quiet = h.not_quiet;
      lower = λ q l less stands. h.lower q l less (ap (fin.find nat_cmp q) is ∙ sym (fin.get-entries m q) ∙ stands);
    }
