-- Nodes come into the places of their numbers.
use Rattle.std.proofs.Common.{◌≡◌, ℕ, zero, suc, ◌+◌, ⊎_elim, ◌⊎◌, inl, inr, List, [], ◌∷◌, ◌++◌, map, length, Option, Some, None, refl, sym, ap, ◌∙◌, subst, arith, append_assoc}
use Rattle.std.specs.Prelude.{replicate, slice_get, slice_set}
use Rattle.std.proofs.lemmas.List.{map_push}
use Rattle.std.proofs.lemmas.Option.{none-some, same_Some}
use Rattle.gs_msg.specs.declared.node.NodeId.{NodeId}
use Rattle.gs_cluster_history.specs.Histories.{Among, Kept}
use Rattle.gs_cluster_threads.specs.inner.Placed.{Holds, InOrder, Takes, holes}

abbrev empty : (X : Type 0) → ℕ → List (Option X)
empty X many = replicate many None

all_holes : (X : Type 0) (many : ℕ) → holes (empty X many) ≡ many
all_holes X zero = refl
all_holes X (suc many) = ap suc (all_holes X many)

empty_long : (X : Type 0) (many : ℕ) → length (empty X many) ≡ many
empty_long X zero = refl
empty_long X (suc many) = ap suc (empty_long X many)

none_there : (X : Type 0) (many i : ℕ) (x : X) → slice_get (empty X many) i ≡ Some (Some x) → ⊥
none_there X zero i x h = none-some (Some x) h
none_there X (suc many) zero x h = none-some x (same_Some None (Some x) h)
none_there X (suc many) (suc i) x h = none_there X many i x h

-- ---- one place is filled

one_hole_less : {X : Type 0} (xs : List (Option X)) (i : ℕ) (x : X) → slice_get xs i ≡ Some None → holes (slice_set xs i (Some x)) + 1 ≡ holes xs
one_hole_less [] i x h = absurd (none-some None h)
one_hole_less (None ∷ xs) zero x h = omega arith
one_hole_less (Some y ∷ xs) zero x h = absurd (none-some y (sym (same_Some (Some y) None h)))
one_hole_less (None ∷ xs) (suc i) x h = let r = one_hole_less xs i x h in omega arith
one_hole_less (Some y ∷ xs) (suc i) x h = one_hole_less xs i x h

as_long : {X : Type 0} (xs : List X) (i : ℕ) (x : X) → length (slice_set xs i x) ≡ length xs
as_long [] i x = refl
as_long (y ∷ xs) zero x = refl
as_long (y ∷ xs) (suc i) x = ap suc (as_long xs i x)

it_is_here : {X : Type 0} (xs : List X) (i : ℕ) (x y : X) → slice_get xs i ≡ Some y → slice_get (slice_set xs i x) i ≡ Some x
it_is_here [] i x y h = absurd (none-some y h)
it_is_here (z ∷ xs) zero x y h = refl
it_is_here (z ∷ xs) (suc i) x y h = it_is_here xs i x y h

it_stays : {X : Type 0} (xs : List (Option X)) (i j : ℕ) (x y : X) → slice_get xs i ≡ Some None → slice_get xs j ≡ Some (Some y) → slice_get (slice_set xs i (Some x)) j ≡ Some (Some y)
it_stays [] i j x y h s = absurd (none-some None h)
it_stays (z ∷ xs) zero zero x y h s = absurd (none-some y (same_Some None (Some y) (sym h ∙ s)))
it_stays (z ∷ xs) zero (suc j) x y h s = s
it_stays (z ∷ xs) (suc i) zero x y h s = s
it_stays (z ∷ xs) (suc i) (suc j) x y h s = it_stays xs i j x y h s

-- what stands at a place where another has been put
stands : {X : Type 0} (xs : List X) (i j : ℕ) (x y : X) → slice_get (slice_set xs i x) j ≡ Some y → ((i ≡ j) × (x ≡ y)) ⊎ (slice_get xs j ≡ Some y)
stands [] i j x y h = inr h
stands (z ∷ xs) zero zero x y h = inl (refl, same_Some x y h)
stands (z ∷ xs) zero (suc j) x y h = inr h
stands (z ∷ xs) (suc i) zero x y h = inr h
stands (z ∷ xs) (suc i) (suc j) x y h = ⊎_elim (λ (e : (i ≡ j) × (x ≡ y)). inl (ap suc e.0, e.1)) (λ (s : slice_get xs j ≡ Some y). inr s) (stands xs i j x y h)

module _ {C : Type 0} (all : List NodeId) where
  still_own : (places : List (Option (Kept C))) (i : ℕ) (k : Kept C) → Holds all places → slice_get all i ≡ Some k.me → (j : ℕ) (z : Kept C) → slice_get (slice_set places i (Some k)) j ≡ Some (Some z) → slice_get all j ≡ Some z.me
  still_own places i k held at j z h = ⊎_elim
      (λ (e : (i ≡ j) × (◌≡◌ {A = Option (Kept C)} (Some k) (Some z))).
      subst (λ (n : ℕ). slice_get all n ≡ Some z.me) e.0 (at ∙ ap (λ (x : Kept C). Some x.me) (same_Some k z e.1)))
      (λ (s : slice_get places j ≡ Some (Some z)). held.own j z s)
      (stands places i j (Some k) (Some z) h)

  pub takes : (k : Kept C) (old new : List (Option (Kept C))) (i : ℕ) → Holds all old → slice_get all i ≡ Some k.me → slice_get old i ≡ Some None → new ≡ slice_set old i (Some k) → Takes all k old new
  takes k old new i held at hole e = subst (Takes all k old) (sym e) (record {
    holds = record { long = as_long old i (Some k) ∙ held.long; own = still_own old i k held at };
    fewer = one_hole_less old i k hole;
    here = (i, it_is_here old i (Some k) None hole);
    stay = λ z a. (a.0, it_stays old i a.0 k z hole a.1);
  })

  -- ---- all of them

  -- Of those given the rest have no places yet.
  pub record Placing (given rest : List (Kept C)) (places : List (Option (Kept C))) : Type 0 where
    pub holds : Holds all places
    pub many : holes places ≡ length rest
    pub each : (k : Kept C) → Among given k → Among rest k ⊎ Among places (Some k)

  pub none_placed : (given : List (Kept C)) (many : ℕ) → length given ≡ many → length given ≡ length all → Placing given given (replicate many None)
  none_placed given many long e = record {
    holds = record { long = empty_long (Kept C) many ∙ sym long ∙ e; own = λ i k h. absurd (none_there (Kept C) many i k h) };
    many = all_holes (Kept C) many ∙ sym long;
    each = λ k a. inl a;
  }

  pub one_placed : (given rest : List (Kept C)) (k : Kept C) (old new : List (Option (Kept C))) → Placing given (k ∷ rest) old → Takes all k old new → Placing given rest new
  one_placed given rest k old new p t = record {
    holds = t.holds;
    many = (let a = t.fewer in let b = p.many in omega arith);
    each = λ z a. ⊎_elim (λ (m : Among (k ∷ rest) z). taken z m) (λ (m : Among old (Some z)). inr (t.stay z m)) (p.each z a);
  }
    where
      taken : (z : Kept C) → Among (k ∷ rest) z → Among rest z ⊎ Among new (Some z)
      taken z (zero, h) = inr (subst (λ (x : Kept C). Among new (Some x)) (same_Some k z h) t.here)
      taken z (suc i, h) = inl (i, h)

  in_their_order : (ns : List NodeId) (ks : List (Kept C)) → length ks ≡ length ns → ((i : ℕ) (k : Kept C) → slice_get ks i ≡ Some k → slice_get ns i ≡ Some k.me) → map (λ (k : Kept C). k.me) ks ≡ ns
  in_their_order [] [] long own = refl
  in_their_order [] (k ∷ ks) long own = absurd (omega (arith, long))
  in_their_order (n ∷ ns) [] long own = absurd (omega (arith, long))
  in_their_order (n ∷ ns) (k ∷ ks) long own =
      let rest = in_their_order ns ks (omega (arith, long)) (λ i z h. own (suc i) z h) in
      ap (λ (m : NodeId). m ∷ map (λ (z : Kept C). z.me) ks) (sym (same_Some n k.me (own 0 k refl))) ∙ ap (λ (l : List NodeId). n ∷ l) rest

abbrev full : {X : Type 0} → List X → List (Option X)
full xs = map (λ x. Some x) xs

full_long : {X : Type 0} (xs : List X) → length (full xs) ≡ length xs
full_long [] = refl
full_long (x ∷ xs) = ap suc (full_long xs)

in_full : {X : Type 0} (xs : List X) (i : ℕ) (x : X) → slice_get xs i ≡ Some x → slice_get (full xs) i ≡ Some (Some x)
in_full [] i x h = absurd (none-some x h)
in_full (y ∷ xs) zero x h = ap Some h
in_full (y ∷ xs) (suc i) x h = in_full xs i x h

of_full : {X : Type 0} (xs : List X) (i : ℕ) (x : X) → slice_get (full xs) i ≡ Some (Some x) → slice_get xs i ≡ Some x
of_full [] i x h = absurd (none-some (Some x) h)
of_full (y ∷ xs) zero x h = same_Some (Some y) (Some x) h
of_full (y ∷ xs) (suc i) x h = of_full xs i x h

pub all_placed : {C : Type 0} (all : List NodeId) (given nodes : List (Kept C)) (places : List (Option (Kept C))) → Placing all given [] places → map (λ (k : Kept C). Some k) nodes ≡ places → InOrder all given nodes
all_placed {C} all given nodes places p e = record {
  numbers = in_their_order all all nodes (sym (full_long nodes) ∙ ap length e ∙ p.holds.long) (λ i k h. p.holds.own i k (ap (λ l. slice_get l i) (sym e) ∙ in_full nodes i k h));
  among = λ k a. ⊎_elim (λ (m : Among [] k). absurd (none-some k m.1)) (λ (m : Among places (Some k)). (m.0, of_full nodes m.0 k (ap (λ l. slice_get l m.0) e ∙ m.1))) (p.each k a);
}

-- ---- no place is empty

-- These are the first of them, with the rest behind.
pub record Filling {X : Type 0} (places : List (Option X)) (xs : List X) (rest : List (Option X)) : Type 0 where
  pub first : map (λ (x : X). Some x) xs ++ rest ≡ places
  pub none : holes rest ≡ 0

pub one_filled : {X : Type 0} (places : List (Option X)) (xs : List X) (x : X) (rest : List (Option X)) → Filling places xs (Some x ∷ rest) → Filling places (xs ++ x ∷ []) rest
one_filled {X} places xs x rest f = record {
  first = ap (λ (l : List (Option X)). l ++ rest) (map_push (λ (y : X). Some y) xs x) ∙ append_assoc (full xs) (Some x ∷ []) rest ∙ f.first;
  none = f.none;
}

pub never_empty : {X : Type 0} (places : List (Option X)) (xs : List X) (rest : List (Option X)) → Filling places xs (None ∷ rest) → ⊥
never_empty places xs rest f = let h = f.none in omega arith
