-- Lists that are made by one more at their ends.
use Rattle.std.proofs.Common.{◌≡◌, ◌∙◌, ◌<◌, ◌⊎◌, ◌++◌, ℕ, zero, suc, List, [], ◌∷◌, Some, length, length-append, refl, sym, ap, subst, inl, inr, ⊎_elim, arith, slice_get}
use Rattle.gs_cluster.proofs.Lists.{at_before, at_last}

module _ {X : Type 0} (f : ℕ → X) where
  abbrev pub counted : ℕ → List X
  counted zero = []
  counted (suc many) = counted many ++ f many ∷ []

  pub counted_long : (many : ℕ) → length (counted many) ≡ many
  counted_long zero = refl
  counted_long (suc many) = let before = counted_long many in omega (arith, length-append (counted many) (f many ∷ []))

  before_or_last : (i many : ℕ) → i < suc many → (i < many) ⊎ (i ≡ many)
  before_or_last zero zero h = inr refl
  before_or_last zero (suc many) h = inl (omega arith)
  before_or_last (suc i) zero h = absurd (omega arith)
  before_or_last (suc i) (suc many) h = ⊎_elim (λ b. inl (omega (arith, b))) (λ e. inr (ap suc e)) (before_or_last i many (omega arith))

  pub counted_at : (many i : ℕ) → i < many → slice_get (counted many) i ≡ Some (f i)
  counted_at zero i inside = absurd (omega arith)
  counted_at (suc many) i inside =
      let long = counted_long many in
      elim (before_or_last i many inside) [
        | inl before ↦ at_before (counted many) (f many ∷ []) i (omega (arith, long)) ∙ counted_at many i before
        | inr last ↦ subst (λ k. slice_get (counted many ++ f many ∷ []) k ≡ Some (f k)) (sym last)
            (ap (slice_get (counted many ++ f many ∷ [])) (sym long) ∙ at_last (counted many) (f many))
      ]
