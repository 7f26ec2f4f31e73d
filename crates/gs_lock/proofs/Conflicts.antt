-- A conflict, as the index finds it.
use Rattle.std.proofs.Common.{◌≡◌, ℕ, ◌+◌, Bool, true, false, cond, List, [], ◌∷◌, refl, sym, ap, ◌∙◌, arith, eqb, ltb}
use Rattle.std.proofs.lemmas.Bool.{false≢true}
use Rattle.std.proofs.lemmas.Bool.Decides.{nat_tests}
use Rattle.std.proofs.lemmas.List.Sums.{sum_by-cons}
use Rattle.std.specs.Prelude.{count_by, ◌&&◌, ◌||◌, not, nat_lt}
use Rattle.std.specs.List.{list_any}
use Rattle.std.specs.Ordering.{nat_cmp, is_eq, ordering_then}
use Rattle.std.specs.declared.cmp.Ordering.{Ordering}
use Rattle.std.specs.declared.cmp.Ordering.TheVariants.{Less, Equal, Greater}
use Rattle.std.specs.BTreeMap.{is_at}
use Rattle.std.specs.Cmp.{eq_by_cmp_equiv}
use Rattle.gs_base.specs.declared.numbers.ReqId.{ReqId}
use Rattle.gs_path.specs.Path.{Path, path_total}
use Rattle.gs_lock.specs.declared.lock.Lock.{Lock}
use Rattle.gs_lock.specs.declared.index.Index.{Index}
use Rattle.gs_lock.specs.Locks.{same_path, is_among, conflicts_with, is_conflict, holds}
use Rattle.gs_lock.specs.Operations.{op_cmp, same_op}
use Rattle.gs_lock.specs.Indexes.{IsIndexed, in_the_way, reads_at, writes_at, held_at, reads_path, writes_path, is_of}

-- ---- tests of some element
pub any_same : {X : Type 0} (p q : X → Bool) → ((x : X) → p x ≡ q x) → (xs : List X) → list_any p xs ≡ list_any q xs
any_same p q same [] = refl
any_same p q same (x ∷ xs) = ap (λ b. b || list_any p xs) (same x) ∙ ap (λ b. q x || b) (any_same p q same xs)

or_both : (a b c d : Bool) → ((a || b) || (c || d)) ≡ ((a || c) || (b || d))
or_both true b c d = refl
or_both false true true d = refl
or_both false true false d = refl
or_both false false c d = refl

any_or : {X : Type 0} (p q : X → Bool) (xs : List X) → (list_any p xs || list_any q xs) ≡ list_any (λ x. p x || q x) xs
any_or p q [] = refl
any_or p q (x ∷ xs) = or_both (p x) (list_any p xs) (q x) (list_any q xs) ∙ ap (λ b. (p x || q x) || b) (any_or p q xs)

any_none : {X : Type 0} (xs : List X) → list_any (λ x. false) xs ≡ false
any_none [] = refl
any_none (x ∷ xs) = any_none xs

any_swap : {X Y : Type 0} (r : X → Y → Bool) (xs : List X) (ys : List Y) → list_any (λ x. list_any (r x) ys) xs ≡ list_any (λ y. list_any (λ x. r x y) xs) ys
any_swap r [] ys = sym (any_none ys)
any_swap r (x ∷ xs) ys = ap (λ b. list_any (r x) ys || b) (any_swap r xs ys) ∙ any_or (r x) (λ y. list_any (λ x'. r x' y) xs) ys

pub and_any : {X : Type 0} (b : Bool) (p : X → Bool) (xs : List X) → list_any (λ x. b && p x) xs ≡ (b && list_any p xs)
and_any true p xs = refl
and_any false p xs = any_none xs

count_first : (b : Bool) (n m : ℕ) → n ≡ cond b 1 0 + m → nat_lt 0 n ≡ (b || nat_lt 0 m)
count_first true n m e = grind (arith, nat_tests)
count_first false n m e = grind (arith, nat_tests)

count_any : {X : Type 0} (t : X → Bool) (xs : List X) → nat_lt 0 (count_by t xs) ≡ list_any t xs
count_any t [] = refl
count_any t (x ∷ xs) = count_first (t x) (count_by t (x ∷ xs)) (count_by t xs) (sum_by-cons (λ y. cond (t y) 1 0) x xs) ∙ ap (λ b. t x || b) (count_any t xs)

-- where nothing passes t, it is enough that p and q agree elsewhere
any_same_where : {X : Type 0} (t p q : X → Bool) → ((x : X) → t x ≡ false → p x ≡ q x) → (xs : List X) → list_any t xs ≡ false → list_any p xs ≡ list_any q xs
any_same_where t p q same [] none = refl
any_same_where t p q same (x ∷ xs) none =
    let first = neither (t x) (list_any t xs) none in
    ap (λ b. b || list_any p xs) (same x first.0) ∙ ap (λ b. q x || b) (any_same_where t p q same xs first.1)
  where
    neither : (a b : Bool) → (a || b) ≡ false → (a ≡ false) × (b ≡ false)
    neither true b h = absurd (false≢true (sym h))
    neither false b h = (refl, h)

-- ---- the locks of an operation
pub eq_then : (a b : Ordering) → is_eq (ordering_then a b) ≡ (is_eq a && is_eq b)
eq_then Less b = refl
eq_then Equal b = refl
eq_then Greater b = refl

eq_cmp : (m n : ℕ) → is_eq (nat_cmp m n) ≡ eqb n m
eq_cmp m n = at (ltb m n) (eqb m n) refl refl
  where
    at : (a b : Bool) → ltb m n ≡ a → eqb m n ≡ b → is_eq (cond a Less (cond b Equal Greater)) ≡ eqb n m
    at true b less same = grind (arith, nat_tests)
    at false true less same = grind (arith, nat_tests)
    at false false less same = grind (arith, nat_tests)

op_same : (op other : ReqId) → is_at (op_cmp other) op ≡ same_op op other
op_same op other =
    eq_then (nat_cmp other.client.0 op.client.0) (nat_cmp other.number op.number)
    ∙ ap (λ b. b && is_eq (nat_cmp other.number op.number)) (eq_cmp other.client.0 op.client.0)
    ∙ ap (λ b. eqb op.client.0 other.client.0 && b) (eq_cmp other.number op.number)

pub holds_is : (locks : List Lock) (index : Index) (op : ReqId) → IsIndexed locks index → nat_lt 0 (held_at index op) ≡ holds locks op
holds_is locks index op is = ap (nat_lt 0) (is.held op) ∙ count_any (is_of op) locks ∙ any_same (is_of op) (λ l. same_op op l.op) (λ l. op_same op l.op) locks

-- ---- the locks on paths
same_path_sym : (p q : Path) → same_path p q ≡ same_path q p
same_path_sym p q = (eq_by_cmp_equiv path_total).symm p q

written_by : (l : Lock) (reads : List Path) → list_any (λ p. writes_path p l) reads ≡ (l.writes && is_among reads l.path)
written_by l reads = and_any l.writes (λ p. same_path l.path p) reads ∙ ap (λ b. l.writes && b) (any_same (λ p. same_path l.path p) (λ p. same_path p l.path) (λ p. same_path_sym l.path p) reads)

either_is : (w b : Bool) → ((not w && b) || (w && b)) ≡ b
either_is true b = refl
either_is false true = refl
either_is false false = refl

locked_by : (l : Lock) (writes : List Path) → list_any (λ p. reads_path p l || writes_path p l) writes ≡ is_among writes l.path
locked_by l writes = any_same (λ p. reads_path p l || writes_path p l) (λ p. same_path p l.path) (λ p. either_is l.writes (same_path l.path p) ∙ same_path_sym l.path p) writes

written : (locks : List Lock) (index : Index) (reads : List Path) → IsIndexed locks index → list_any (λ p. nat_lt 0 (writes_at index p)) reads ≡ list_any (λ l. l.writes && is_among reads l.path) locks
written locks index reads is =
    any_same (λ p. nat_lt 0 (writes_at index p)) (λ p. list_any (writes_path p) locks) (λ p. ap (nat_lt 0) (is.writes p) ∙ count_any (writes_path p) locks) reads
    ∙ any_swap writes_path reads locks
    ∙ any_same (λ l. list_any (λ p. writes_path p l) reads) (λ l. l.writes && is_among reads l.path) (λ l. written_by l reads) locks

locked : (locks : List Lock) (index : Index) (writes : List Path) → IsIndexed locks index
    → list_any (λ p. nat_lt 0 (reads_at index p) || nat_lt 0 (writes_at index p)) writes ≡ list_any (λ l. is_among writes l.path) locks
locked locks index writes is =
    any_same (λ p. nat_lt 0 (reads_at index p) || nat_lt 0 (writes_at index p)) (λ p. list_any (λ l. reads_path p l || writes_path p l) locks)
    (λ p. ap (λ b. b || nat_lt 0 (writes_at index p)) (ap (nat_lt 0) (is.reads p) ∙ count_any (reads_path p) locks)
    ∙ ap (λ b. list_any (reads_path p) locks || b) (ap (nat_lt 0) (is.writes p) ∙ count_any (writes_path p) locks)
    ∙ any_or (reads_path p) (writes_path p) locks) writes
    ∙ any_swap (λ p l. reads_path p l || writes_path p l) writes locks
    ∙ any_same (λ l. list_any (λ p. reads_path p l || writes_path p l) writes) (λ l. is_among writes l.path) (λ l. locked_by l writes) locks

clash_is : (s w r x : Bool) → s ≡ false → ((w && r) || x) ≡ (not s && cond w (r || x) x)
clash_is true w r x e = absurd (false≢true (sym e))
clash_is false true r x e = refl
clash_is false false r x e = refl

-- what is in the way, whoever holds it
abbrev clashes : List Path → List Path → Lock → Bool
clashes reads writes l = (l.writes && is_among reads l.path) || is_among writes l.path

way_is : (locks : List Lock) (index : Index) (reads writes : List Path) → IsIndexed locks index → in_the_way index reads writes ≡ list_any (clashes reads writes) locks
way_is locks index reads writes is =
    ap (λ b. b || list_any (λ p. nat_lt 0 (reads_at index p) || nat_lt 0 (writes_at index p)) writes) (written locks index reads is)
    ∙ ap (λ b. list_any (λ l. l.writes && is_among reads l.path) locks || b) (locked locks index writes is)
    ∙ any_or (λ l. l.writes && is_among reads l.path) (λ l. is_among writes l.path) locks

pub conflict_is : (locks : List Lock) (index : Index) (op : ReqId) (reads writes : List Path) → IsIndexed locks index → holds locks op ≡ false → in_the_way index reads writes ≡ is_conflict locks op reads writes
conflict_is locks index op reads writes is none =
    way_is locks index reads writes is
    ∙ any_same_where (λ l. same_op op l.op) (clashes reads writes) (conflicts_with op reads writes)
    (λ l other. clash_is (same_op op l.op) l.writes (is_among reads l.path) (is_among writes l.path) other) locks none

free_is : (s w r x : Bool) → ((w && r) || x) ≡ false → (not s && cond w (r || x) x) ≡ ((w && r) || x)
free_is true w r x e = sym e
free_is false true r x e = refl
free_is false false r x e = refl

-- where nothing is in the way there is no conflict
pub free : (locks : List Lock) (index : Index) (op : ReqId) (reads writes : List Path) → IsIndexed locks index → in_the_way index reads writes ≡ false → is_conflict locks op reads writes ≡ false
free locks index op reads writes is none =
    let clear = sym (way_is locks index reads writes is) ∙ none in
    any_same_where (clashes reads writes) (conflicts_with op reads writes) (clashes reads writes)
    (λ l none'. free_is (same_op op l.op) l.writes (is_among reads l.path) (is_among writes l.path) none') locks clear
    ∙ clear
