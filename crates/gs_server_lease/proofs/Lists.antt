-- What is put at the end of a list, one item after the other.
use Rattle.std.proofs.Common.{◌≡◌, Bool, true, false, cond, List, [], ◌∷◌, ◌++◌, map, refl, subst, append_assoc}
use Rattle.std.specs.Prelude.{filter}

module _ {A B : Type 0} (p : A → Bool) (f : A → B) where
  abbrev pub put : List B → List A → List B
  put sent rest = sent ++ map f (filter p rest)

  one : (test : Bool) (sent : List B) (x : A) (rest : List A) → test ≡ true → (sent ++ f x ∷ []) ++ map f (filter p rest) ≡ sent ++ map f (cond test (x ∷ filter p rest) (filter p rest))
  one true sent x rest is = append_assoc sent (f x ∷ []) (map f (filter p rest))
  one false sent x rest is = elim (subst (λ (b : Bool). cond b ⊥ (Unit {0})) is tt) [ ]

  -- an item that passes the test is put
  pub put_one : (sent : List B) (x : A) (rest : List A) → p x ≡ true → put (sent ++ f x ∷ []) rest ≡ put sent (x ∷ rest)
  put_one sent x rest is = one (p x) sent x rest is

  none : (test : Bool) (sent : List B) (x : A) (rest : List A) → test ≡ false → sent ++ map f (filter p rest) ≡ sent ++ map f (cond test (x ∷ filter p rest) (filter p rest))
  none false sent x rest is = refl
  none true sent x rest is = elim (subst (λ (b : Bool). cond b (Unit {0}) ⊥) is tt) [ ]

  -- and one that doesn't is passed
  pub put_none : (sent : List B) (x : A) (rest : List A) → p x ≡ false → put sent rest ≡ put sent (x ∷ rest)
  put_none sent x rest is = none (p x) sent x rest is
