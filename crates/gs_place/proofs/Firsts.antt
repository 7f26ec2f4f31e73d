-- The first in an order, as a loop finds it.
use Rattle.std.proofs.Common.{◌≡◌, ◌≢◌, ℕ, zero, suc, ◌+◌, ◌<◌, ◌≤◌, Bool, true, false, cond, List, ◌∷◌, Some, None, refl, sym, ap, ◌∙◌, ⊎_elim, arith}
use Rattle.std.proofs.lemmas.Bool.{cases_eq, false≢true}
use Rattle.std.proofs.lemmas.Bool.Decides.{nat_tests}
use Rattle.std.specs.Prelude.{◌&&◌, filter, find}
use Rattle.std.specs.List.{list_all}
use Rattle.gs_base.specs.Members.{count_from}
use Rattle.gs_place.specs.Order.{precedes}

-- ---- the order of several numbers
pub precedes_itself : (x y z : ℕ) → precedes x x y y z z ≡ false
precedes_itself x y z = grind (arith, nat_tests)

pub precedes_other : (x x' y y' z z' : ℕ) → z ≢ z' → precedes x x' y y' z z' ≡ false → precedes x' x y' y z' z ≡ true
precedes_other x x' y y' z z' d h = grind (arith, nat_tests)

-- what doesn't come before the best doesn't come before one that does
pub precedes_better : (x x' x'' y y' y'' z z' z'' : ℕ) → precedes x x' y y' z z' ≡ false → precedes x'' x' y'' y' z'' z' ≡ true → precedes x x'' y y'' z z'' ≡ false
precedes_better x x' x'' y y' y'' z z' z'' h k = grind (arith, nat_tests)

-- the same where the first numbers are ordered downwards
pub precedes_better_down : (x x' x'' y y' y'' z z' z'' : ℕ) → precedes x' x y y' z z' ≡ false → precedes x' x'' y'' y' z'' z' ≡ true → precedes x'' x y y'' z z'' ≡ false
precedes_better_down x x' x'' y y' y'' z z' z'' h k = grind (arith, nat_tests)

pub precedes_neither : (x x' y y' z z' : ℕ) → precedes x x' y y' z z' ≡ false → precedes x' x y' y z' z ≡ false → z ≡ z'
precedes_neither x x' y y' z z' h k = grind (arith, nat_tests)

-- ---- a search among the numbers that pass a test
pub all_filtered : (p q : ℕ → Bool) (first many : ℕ) → ((u : ℕ) → first ≤ u → u < first + many → q u ≡ true → p u ≡ true) → list_all p (filter q (count_from first many)) ≡ true
all_filtered p q first zero each = refl
all_filtered p q first (suc many) each = at (q first) refl (all_filtered p q (first + 1) many (λ u low high h. each u (omega arith) (omega arith) h))
  where
    at : (b : Bool) → q first ≡ b → list_all p (filter q (count_from (first + 1) many)) ≡ true → list_all p (cond b (first ∷ filter q (count_from (first + 1) many)) (filter q (count_from (first + 1) many))) ≡ true
    at true here rest = rw (each first (omega arith) (omega arith) here) rest
    at false here rest = rest

pub find_unique : (p q : ℕ → Bool) (first many b : ℕ) → first ≤ b → b < first + many → q b ≡ true → p b ≡ true
    → ((u : ℕ) → first ≤ u → u < first + many → q u ≡ true → p u ≡ true → u ≡ b) → find p (filter q (count_from first many)) ≡ Some b
find_unique p q first zero b low high qb pb only = absurd (omega arith)
find_unique p q first (suc many) b low high qb pb only = ⊎_elim
    (λ (here : first ≡ b). rw (ap q here ∙ qb, ap p here ∙ pb) (ap Some here))
    (λ (later : first ≢ b). at (q first) (p first) refl refl later (find_unique p q (first + 1) many b (omega arith) (omega arith) qb pb (λ u l h. only u (omega arith) (omega arith))))
    (cases_eq first b)
  where
    at : (x y : Bool) → q first ≡ x → p first ≡ y → first ≢ b → find p (filter q (count_from (first + 1) many)) ≡ Some b → find p (cond (q first) (first ∷ filter q (count_from (first + 1) many)) (filter q (count_from (first + 1) many))) ≡ Some b
    at true true qf pf later rest = absurd (later (only first (omega arith) (omega arith) qf pf))
    at true false qf pf later rest = rw (qf, pf) rest
    at false y qf pf later rest = rw qf rest

pub find_nothing : (p q : ℕ → Bool) (first many : ℕ) → ((u : ℕ) → first ≤ u → u < first + many → q u ≡ false) → find p (filter q (count_from first many)) ≡ None
find_nothing p q first zero none = refl
find_nothing p q first (suc many) none = rw (none first (omega arith) (omega arith)) (find_nothing p q (first + 1) many (λ u low high. none u (omega arith) (omega arith)))

both : (a b : Bool) → (a && b) ≡ true → (a ≡ true) × (b ≡ true)
both true b h = (refl, h)
both false b h = absurd (false≢true h)

-- all of a filtered list: the head, if it passes, and the others
filtered_head : (p q : ℕ → Bool) (x : ℕ) (xs : List ℕ) → list_all p (filter q (x ∷ xs)) ≡ true → q x ≡ true → p x ≡ true
filtered_head p q x xs all qx = (both (p x) (list_all p (filter q xs)) (sym (ap (λ b. list_all p (cond b (x ∷ filter q xs) (filter q xs))) qx) ∙ all)).0

filtered_tail : (p q : ℕ → Bool) (x : ℕ) (xs : List ℕ) → list_all p (filter q (x ∷ xs)) ≡ true → list_all p (filter q xs) ≡ true
filtered_tail p q x xs all = at (q x) all
  where
    at : (b : Bool) → list_all p (cond b (x ∷ filter q xs) (filter q xs)) ≡ true → list_all p (filter q xs) ≡ true
    at true all = (both (p x) (list_all p (filter q xs)) all).1
    at false all = all

pub each_filtered : (p q : ℕ → Bool) (first many : ℕ) → list_all p (filter q (count_from first many)) ≡ true → (u : ℕ) → first ≤ u → u < first + many → q u ≡ true → p u ≡ true
each_filtered p q first zero all u low high qu = absurd (omega arith)
each_filtered p q first (suc many) all u low high qu = ⊎_elim
    (λ (here : first ≡ u). ap p (sym here) ∙ filtered_head p q first (count_from (first + 1) many) all (ap q here ∙ qu))
    (λ (later : first ≢ u). each_filtered p q (first + 1) many (filtered_tail p q first (count_from (first + 1) many) all) u (omega arith) (omega arith) qu)
    (cases_eq first u)
