-- Lists by what stands at their places.
use Rattle.std.proofs.Common.{◌≡◌, ◌∙◌, ◌+◌, ◌<◌, ◌≤◌, ◌++◌, ◌⊎◌, ℕ, zero, suc, List, [], ◌∷◌, Some, None, map, option_map, length, refl, sym, ap, inl, inr, ⊎_elim, arith, slice_get}
use Rattle.std.proofs.lemmas.Option.{none-some, same_Some}

-- the same stands at each place
pub same_lists : {X : Type 0} (xs ys : List X) → ((i : ℕ) → slice_get xs i ≡ slice_get ys i) → xs ≡ ys
same_lists [] [] same = refl
same_lists [] (y ∷ ys) same = absurd (none-some y (same 0))
same_lists (x ∷ xs) [] same = absurd (none-some x (sym (same 0)))
same_lists (x ∷ xs) (y ∷ ys) same = ap (λ z. z ∷ xs) (same_Some x y (same 0)) ∙ ap (λ zs. y ∷ zs) (same_lists xs ys (λ i. same (suc i)))

pub at_map : {X Y : Type 0} (f : X → Y) (xs : List X) (i : ℕ) → slice_get (map f xs) i ≡ option_map f (slice_get xs i)
at_map f [] i = refl
at_map f (x ∷ xs) zero = refl
at_map f (x ∷ xs) (suc i) = at_map f xs i

none_before : (i : ℕ) → 0 + i ≡ i
none_before i = omega arith

one_before : (n i : ℕ) → suc n + i ≡ suc (n + i)
one_before n i = omega arith

pub at_behind : {X : Type 0} (xs ys : List X) (i : ℕ) → slice_get (xs ++ ys) (length xs + i) ≡ slice_get ys i
at_behind [] ys i = ap (slice_get ys) (none_before i)
at_behind (x ∷ xs) ys i = ap (slice_get (x ∷ (xs ++ ys))) (one_before (length xs) i) ∙ at_behind xs ys i

pub at_before : {X : Type 0} (xs ys : List X) (i : ℕ) → i < length xs → slice_get (xs ++ ys) i ≡ slice_get xs i
at_before [] ys i inside = absurd (omega arith)
at_before (x ∷ xs) ys zero inside = refl
at_before (x ∷ xs) ys (suc i) inside = at_before xs ys i (omega arith)

pub at_last : {X : Type 0} (xs : List X) (y : X) → slice_get (xs ++ y ∷ []) (length xs) ≡ Some y
at_last [] y = refl
at_last (x ∷ xs) y = at_last xs y

-- something stands at each place within a list
pub found : {X : Type 0} (xs : List X) (i : ℕ) → i < length xs → (x : X) × (slice_get xs i ≡ Some x)
found [] i inside = absurd (omega arith)
found (x ∷ xs) zero inside = (x, refl)
found (x ∷ xs) (suc i) inside = found xs i (omega arith)

-- no list is longer than a place at which nothing stands
pub ends_there : {X : Type 0} (xs : List X) (n : ℕ) → slice_get xs n ≡ None → length xs ≤ n
ends_there [] n none = omega arith
ends_there (x ∷ xs) zero none = absurd (none-some x (sym none))
ends_there (x ∷ xs) (suc n) none = let h = ends_there xs n none in omega arith

pub below_or : (a b : ℕ) → (a < b) ⊎ (b ≤ a)
below_or a zero = inr (omega arith)
below_or zero (suc b) = inl (omega arith)
below_or (suc a) (suc b) = ⊎_elim (λ h. inl (omega (arith, h))) (λ h. inr (omega (arith, h))) (below_or a b)

pub length_map : {X Y : Type 0} (f : X → Y) (xs : List X) → length (map f xs) ≡ length xs
length_map f [] = refl
length_map f (x ∷ xs) = ap suc (length_map f xs)
