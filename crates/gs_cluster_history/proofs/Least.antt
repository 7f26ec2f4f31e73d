-- The next entry of several histories is one of the least clock.
use Rattle.std.proofs.Common.{◌≡◌, ℕ, zero, suc, ◌+◌, ◌≤◌, List, [], ◌∷◌, length, Option, Some, None, refl, sym, ap, subst, arith}
use Rattle.std.specs.Prelude.{slice_get, nat_le}
use Rattle.std.proofs.lemmas.Option.{none-some, same_Some}
use Rattle.std.proofs.lemmas.Bool.{cond_both, leb-true, leb-false}
use Rattle.gs_cluster_history.specs.Histories.{Entry}
use Rattle.gs_cluster_history.specs.Merging.{Place, behind_first, count, least, lesser, without_first}

-- of some histories, of which the first is at place i, this is the next: it is the first of its own, and none has a lesser clock
pub record IsLeast (i : ℕ) (rests : List (List Entry)) (p : Place) : Type 0 where
  pub at : ℕ
  pub place : p.at ≡ i + at
  pub behind : List Entry
  pub there : slice_get rests at ≡ Some (p.entry ∷ behind)
  pub below : (j : ℕ) (e : Entry) (es : List Entry) → slice_get rests j ≡ Some (e ∷ es) → p.entry.clock ≤ e.clock

-- nothing is left of any
abbrev pub AreOver : List (List Entry) → Type 0
AreOver rests = (j : ℕ) (rest : List Entry) → slice_get rests j ≡ Some rest → rest ≡ []

abbrev pub LeastOf : ℕ → List (List Entry) → Option Place → Type 0
LeastOf i rests None = AreOver rests
LeastOf i rests (Some p) = IsLeast i rests p

cons_head : (a b : Entry) (xs ys : List Entry) → ◌≡◌ {A = List Entry} (a ∷ xs) (b ∷ ys) → a ≡ b
cons_head a b xs ys e = cc

no_nil : (e : Entry) (es : List Entry) → ◌≡◌ {A = List Entry} [] (e ∷ es) → ⊥
no_nil e es h = cc

module _ (i : ℕ) (rests : List (List Entry)) where
  -- one more in front of which nothing is left
  below_empty : (p : Place) → IsLeast (suc i) rests p → (j : ℕ) (e : Entry) (es : List Entry) → slice_get ([] ∷ rests) j ≡ Some (e ∷ es) → p.entry.clock ≤ e.clock
  below_empty p b zero e es h = absurd (no_nil e es (same_Some [] (e ∷ es) h))
  below_empty p b (suc j) e es h = b.below j e es h

  over_empty : AreOver rests → AreOver ([] ∷ rests)
  over_empty over zero rest h = sym (same_Some [] rest h)
  over_empty over (suc j) rest h = over j rest h

  behind_empty : (o : Option Place) → LeastOf (suc i) rests o → LeastOf i ([] ∷ rests) o
  behind_empty None over = over_empty over
  behind_empty (Some p) b = record { at = suc b.at; place = (let h = b.place in omega arith); behind = b.behind; there = b.there; below = below_empty p b }

  -- one more in front, of which this is the first
  module _ (e : Entry) (es : List Entry) where
    abbrev here : Place
    here = record { at = i; entry = e }

    below_here : ((j : ℕ) (d : Entry) (ds : List Entry) → slice_get rests j ≡ Some (d ∷ ds) → e.clock ≤ d.clock)
        → (j : ℕ) (d : Entry) (ds : List Entry) → slice_get ((e ∷ es) ∷ rests) j ≡ Some (d ∷ ds) → e.clock ≤ d.clock
    below_here b zero d ds h = let s = ap (λ (z : Entry). z.clock) (cons_head e d es ds (same_Some (e ∷ es) (d ∷ ds) h)) in omega arith
    below_here b (suc j) d ds h = b j d ds h

    is_here : ((j : ℕ) (d : Entry) (ds : List Entry) → slice_get rests j ≡ Some (d ∷ ds) → e.clock ≤ d.clock) → IsLeast i ((e ∷ es) ∷ rests) here
    is_here b = record { at = 0; place = omega arith; behind = es; there = refl; below = below_here b }

    below_later : (p : Place) → p.entry.clock ≤ e.clock → IsLeast (suc i) rests p
        → (j : ℕ) (d : Entry) (ds : List Entry) → slice_get ((e ∷ es) ∷ rests) j ≡ Some (d ∷ ds) → p.entry.clock ≤ d.clock
    below_later p le b zero d ds h = let s = ap (λ (z : Entry). z.clock) (cons_head e d es ds (same_Some (e ∷ es) (d ∷ ds) h)) in omega arith
    below_later p le b (suc j) d ds h = b.below j d ds h

    is_later : (p : Place) → p.entry.clock ≤ e.clock → IsLeast (suc i) rests p → IsLeast i ((e ∷ es) ∷ rests) p
    is_later p le b = record { at = suc b.at; place = (let h = b.place in omega arith); behind = b.behind; there = b.there; below = below_later p le b }

    chosen : (o : Option Place) → LeastOf (suc i) rests o → LeastOf i ((e ∷ es) ∷ rests) (lesser i e o)
    chosen None over = is_here (λ j d ds h. absurd (no_nil d ds (sym (over j (d ∷ ds) h))))
    chosen (Some p) b = cond_both (nat_le e.clock p.entry.clock) (Some here) (Some p) (LeastOf i ((e ∷ es) ∷ rests))
        (λ t. is_here (λ j d ds h. let a = leb-true e.clock p.entry.clock t in let c = b.below j d ds h in omega arith))
        (λ f. is_later p (let a = leb-false e.clock p.entry.clock f in omega arith) b)

pub is_least : (i : ℕ) (rests : List (List Entry)) → LeastOf i rests (least i rests)
is_least i [] = λ j rest h. absurd (none-some rest h)
is_least i ([] ∷ rests) = behind_empty i rests (least (suc i) rests) (is_least (suc i) rests)
is_least i ((e ∷ es) ∷ rests) = chosen i rests e es (least (suc i) rests) (is_least (suc i) rests)

-- nothing is left where none is counted
pub none_left : (rests : List (List Entry)) → count rests ≡ 0 → AreOver rests
none_left [] z = λ j rest h. absurd (none-some rest h)
none_left ([] ∷ rests) z = over_empty 0 rests (none_left rests (omega arith))
none_left ((e ∷ es) ∷ rests) z = absurd (omega arith)

pub one_less : (rests : List (List Entry)) (i : ℕ) (e : Entry) (es : List Entry) → slice_get rests i ≡ Some (e ∷ es) → count (without_first rests i) + 1 ≡ count rests
one_less [] i e es h = absurd (none-some (e ∷ es) h)
one_less (rest ∷ rests) zero e es h = subst (λ r. length (behind_first r) + count rests + 1 ≡ length r + count rests) (sym (same_Some rest (e ∷ es) h)) (omega arith)
one_less (rest ∷ rests) (suc i) e es h = let r = one_less rests i e es h in omega arith

-- the history that it is taken from has it no more, and the others stay
pub without_here : (rests : List (List Entry)) (i : ℕ) (e : Entry) (es : List Entry) → slice_get rests i ≡ Some (e ∷ es) → slice_get (without_first rests i) i ≡ Some es
without_here [] i e es h = absurd (none-some (e ∷ es) h)
without_here (rest ∷ rests) zero e es h = ap (λ r. Some (behind_first r)) (same_Some rest (e ∷ es) h)
without_here (rest ∷ rests) (suc i) e es h = without_here rests i e es h

pub without_else : (rests : List (List Entry)) (i j : ℕ) → (i ≡ j → ⊥) → slice_get (without_first rests i) j ≡ slice_get rests j
without_else [] i j d = refl
without_else (rest ∷ rests) zero zero d = absurd (d refl)
without_else (rest ∷ rests) zero (suc j) d = refl
without_else (rest ∷ rests) (suc i) zero d = refl
without_else (rest ∷ rests) (suc i) (suc j) d = without_else rests i j (λ e. d (ap suc e))
