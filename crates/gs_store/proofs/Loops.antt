-- Lists whose items are changed one after the other, in place.
use Rattle.std.proofs.Common.{◌≡◌, ℕ, zero, suc, ◌+◌, ◌<◌, ◌≤◌, List, [], ◌∷◌, ◌++◌, map, take, drop, length, get_or, slice_set, refl, ap, subst, ◌∙◌, arith, add-one, append-nil}
use Rattle.std.proofs.lemmas.List.{length-map, take_all}

module _ {A B : Type 0} (f : A → B) where
  pub map_none : (xs : List A) → length xs ≤ 0 → map f xs ≡ []
  map_none [] h = refl
  map_none (x ∷ xs) h = absurd (omega arith)

module _ {A : Type 0} (f : A → A) where
  -- the first ones are changed
  abbrev pub done : ℕ → List A → List A
  done n xs = map f (take n xs) ++ drop n xs

  pub get_done : (n : ℕ) (xs : List A) (d : A) → get_or (done n xs) n d ≡ get_or xs n d
  get_done zero [] d = refl
  get_done zero (x ∷ xs) d = refl
  get_done (suc n) [] d = refl
  get_done (suc n) (x ∷ xs) d = get_done n xs d

  pub length_done : (n : ℕ) (xs : List A) → length (done n xs) ≡ length xs
  length_done zero xs = refl
  length_done (suc n) [] = refl
  length_done (suc n) (x ∷ xs) = ap suc (length_done n xs)

  pub set_done : (n : ℕ) (xs : List A) (d : A) → n < length xs → slice_set (done n xs) n (f (get_or xs n d)) ≡ done (suc n) xs
  set_done n [] d h = absurd (omega arith)
  set_done zero (x ∷ xs) d h = refl
  set_done (suc n) (x ∷ xs) d h = ap (λ l. f x ∷ l) (set_done n xs d (omega arith))

  pub all_done : (n : ℕ) (xs : List A) → length xs ≤ n → done n xs ≡ map f xs
  all_done zero [] h = refl
  all_done (suc n) [] h = refl
  all_done zero (x ∷ xs) h = absurd (omega arith)
  all_done (suc n) (x ∷ xs) h = ap (λ l. f x ∷ l) (all_done n xs (omega arith))

  -- the last ones are changed
  abbrev pub left : ℕ → List A → List A
  left n xs = take n xs ++ map f (drop n xs)

  pub get_left : (n : ℕ) (xs : List A) (d : A) → n < length xs → get_or (left (suc n) xs) n d ≡ get_or xs n d
  get_left n [] d h = absurd (omega arith)
  get_left zero (x ∷ xs) d h = refl
  get_left (suc n) (x ∷ xs) d h = get_left n xs d (omega arith)

  pub length_left : (n : ℕ) (xs : List A) → length (left n xs) ≡ length xs
  length_left zero [] = refl
  length_left zero (x ∷ xs) = ap suc (length_left zero xs)
  length_left (suc n) [] = refl
  length_left (suc n) (x ∷ xs) = ap suc (length_left n xs)

  pub set_left : (n : ℕ) (xs : List A) (d : A) → n < length xs → slice_set (left (suc n) xs) n (f (get_or xs n d)) ≡ left n xs
  set_left n [] d h = absurd (omega arith)
  set_left zero (x ∷ xs) d h = refl
  set_left (suc n) (x ∷ xs) d h = ap (λ l. x ∷ l) (set_left n xs d (omega arith))

  pub none_done : (n : ℕ) (xs : List A) → length xs ≤ n → xs ≡ left n xs
  none_done zero [] h = refl
  none_done (suc n) [] h = refl
  none_done zero (x ∷ xs) h = absurd (omega arith)
  none_done (suc n) (x ∷ xs) h = ap (λ l. x ∷ l) (none_done n xs (omega arith))

  -- one more is changed
  pub next_done : (n : ℕ) (xs ys : List A) (d new : A) → ys ≡ done n xs → n < length ys → new ≡ f (get_or ys n d) → slice_set ys n new ≡ done (n + 1) xs
  next_done n xs ys d new is below changed =
      let first : n < length xs = subst (λ m. n < m) (ap length is ∙ length_done n xs) below in
      rw add-one (ap (λ l. slice_set l n new) is ∙ ap (slice_set (done n xs) n) (changed ∙ ap f (ap (λ l. get_or l n d) is ∙ get_done n xs d)) ∙ set_done n xs d first)

  pub next_left : (n : ℕ) (xs ys : List A) (d new : A) → ys ≡ left (suc n) xs → n < length xs → new ≡ f (get_or ys n d) → slice_set ys n new ≡ left n xs
  next_left n xs ys d new is below changed =
      ap (λ l. slice_set l n new) is ∙ ap (slice_set (left (suc n) xs) n) (changed ∙ ap f (ap (λ l. get_or l n d) is ∙ get_left n xs d below)) ∙ set_left n xs d below

-- the last item is taken off a list that was mapped
module _ {A B : Type 0} (f : A → B) where
  pub last_off : (n : ℕ) (xs : List A) (ys zs : List B) → ys ≡ map f (take (suc n) xs) → n < length xs → zs ≡ take n ys → zs ≡ map f (take n xs)
  last_off n xs ys zs is below front = front ∙ ap (take n) is ∙ fewer n xs
    where
      fewer : (n : ℕ) (xs : List A) → take n (map f (take (suc n) xs)) ≡ map f (take n xs)
      fewer zero [] = refl
      fewer (suc n) [] = refl
      fewer zero (x ∷ xs) = refl
      fewer (suc n) (x ∷ xs) = ap (λ l. f x ∷ l) (fewer n xs)

-- as many items in place of those that stood there
pub refilled : {A : Type 0} (f : A → A) (xs ys : List A) (n : ℕ) → n ≡ length xs → ys ≡ map f xs → take n (ys ++ drop (length ys) xs) ≡ map f xs
refilled f xs ys n fits is =
    let same : length ys ≡ length xs = ap length is ∙ length-map xs f in
    ap (take n) (ap (λ l. ys ++ l) (ap (λ m. drop m xs) same ∙ drop_whole xs) ∙ append-nil ys) ∙ take_all n ys (omega arith) ∙ is
  where
    drop_whole : {A : Type 0} (xs : List A) → drop (length xs) xs ≡ []
    drop_whole [] = refl
    drop_whole (x ∷ xs) = drop_whole xs
