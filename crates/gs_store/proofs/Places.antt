-- Slots that stand in a list, each handle's at a place of its own.
use Rattle.std.proofs.Common.{◌≡◌, ℕ, ◌+◌, ◌<◌, Bool, true, false, cond, List, [], ◌∷◌, ◌++◌, map, length, slice_set, Option, Some, None, refl, sym, ap, subst, ◌∙◌, arith}
use Rattle.std.specs.Prelude.{option_map, ◌≢◌, is_some, Vec, vec_len}
use Rattle.std.specs.declared.alloc.Global.{Global}
use Rattle.std.proofs.lemmas.Bool.{false≢true}
use Rattle.std.proofs.lemmas.List.{get_or-set_same, get_or-set_other, get_or-map, get_or_append_left, length-append, length-set, length-map}
use Rattle.std.proofs.Math.Seq.{get_or-append_seam}
use Rattle.std.specs.FinMap as fin
use Rattle.std.specs.Option.{unwrap_or}
use Rattle.std.specs.Ordering.{eq_by_cmp, nat_cmp, is_eq}
use Rattle.std.specs.declared.cmp.Ordering.{Ordering}
use Rattle.std.specs.declared.cmp.Ordering.TheVariants.{Less, Equal, Greater}
use Rattle.std.specs.Cmp.{nat_cmp_total, eq_by_cmp_equiv}
use Rattle.gs_store.specs.Slots.{Slot, nothing}
use Rattle.gs_store.specs.Stores.{each}
use Rattle.gs_store.specs.inner.Placed.{slot_at, slots_at, IsPlaced}
use Rattle.gs_store.proofs.Maps.{get-each}

abbrev Places : Type 0
Places = fin.FinMap nat_cmp ℕ

abbrev Shelf : Type 0
Shelf = fin.FinMap nat_cmp Slot

same : (m n : Shelf) → ((q : ℕ) → fin.get m q ≡ fin.get n q) → m ≡ n
same = fin.same_map nat_cmp_total fin.nat_cmp-IsAntisymmetric

is_equal : (r : Ordering) → is_eq r ≡ true → r ≡ Equal
is_equal Less h = absurd (false≢true h)
is_equal Equal h = refl
is_equal Greater h = absurd (false≢true h)

pub same_key : (q k : ℕ) → eq_by_cmp nat_cmp q k ≡ true → q ≡ k
same_key q k tied = fin.nat_cmp-IsAntisymmetric q k (is_equal (nat_cmp q k) tied)

pub other_key : (q k : ℕ) → eq_by_cmp nat_cmp q k ≡ false → q ≢ k
other_key q k apart is = false≢true (sym (subst (λ x. eq_by_cmp nat_cmp q x ≡ false) (sym is) apart) ∙ (eq_by_cmp_equiv nat_cmp_total).refl q)

some_same : (a b : ℕ) → Some a ≡ Some b → a ≡ b
some_same a b is = ap (λ o. unwrap_or o a) is

none_some : (a : ℕ) → ◌≡◌ {A = Option ℕ} None (Some a) → ⊥
none_some a is = false≢true (ap is_some is)

-- what stands at a handle's place
pub stands : (places : Places) (slots : List Slot) (handle place : ℕ) → fin.get places handle ≡ Some place → fin.get (slots_at places slots) handle ≡ Some (slot_at slots place)
stands places slots handle place is = get-each nat_cmp (slot_at slots) places handle ∙ ap (option_map (slot_at slots)) is

pub stands_not : (places : Places) (slots : List Slot) (handle : ℕ) → fin.get places handle ≡ None → fin.get (slots_at places slots) handle ≡ None
stands_not places slots handle is = get-each nat_cmp (slot_at slots) places handle ∙ ap (option_map (slot_at slots)) is

-- lists that agree at the places of a map give the same slots
agree : (one other : List Slot) (o : Option ℕ) → ((p : ℕ) → o ≡ Some p → slot_at one p ≡ slot_at other p) → option_map (slot_at one) o ≡ option_map (slot_at other) o
agree one other None h = refl
agree one other (Some p) h = ap (λ x. Some x) (h p refl)

-- a write at a handle's place is a write of its slot
pub written : (places : Places) (slots : List Slot) (handle place : ℕ) (t : Slot) → IsPlaced places slots → fin.get places handle ≡ Some place → slots_at places (slice_set slots place t) ≡ fin.insert (slots_at places slots) handle t
written places slots handle place t placed is = same _ _ (λ q.
    get-each nat_cmp (slot_at (slice_set slots place t)) places q ∙ by_case q (eq_by_cmp nat_cmp q handle) refl
    ∙ sym (fin.get-insert nat_cmp_total (slots_at places slots) handle t q ∙ ap (cond (eq_by_cmp nat_cmp q handle) (Some t)) (get-each nat_cmp (slot_at slots) places q)))
  where
    by_case : (q : ℕ) (b : Bool) → eq_by_cmp nat_cmp q handle ≡ b → option_map (slot_at (slice_set slots place t)) (fin.get places q) ≡ cond b (Some t) (option_map (slot_at slots) (fin.get places q))
    by_case q true tied =
        ap (λ k. option_map (slot_at (slice_set slots place t)) (fin.get places k)) (same_key q handle tied) ∙ ap (option_map (slot_at (slice_set slots place t))) is
        ∙ ap (λ x. Some x) (get_or-set_same slots place t nothing (placed.within handle place is))
    by_case q false apart =
        agree (slice_set slots place t) slots (fin.get places q)
        (λ p at. get_or-set_other slots place p t nothing (λ same_place. other_key q handle apart (placed.apart q handle place (at ∙ ap (λ x. Some x) same_place) is)))

pub stays_placed : (places : Places) (slots : List Slot) (place : ℕ) (t : Slot) → IsPlaced places slots → IsPlaced places (slice_set slots place t)
stays_placed places slots place t placed = record {
  within = λ handle p is. subst (λ n. p < n) (sym (length-set slots place t)) (placed.within handle p is);
  apart = placed.apart;
}

pub none_placed : (slots : List Slot) → IsPlaced fin.empty slots
none_placed slots = record {
  within = λ handle p is. absurd (none_some p (sym (fin.get-empty nat_cmp handle) ∙ is));
  apart = λ a b p is _. absurd (none_some p (sym (fin.get-empty nat_cmp a) ∙ is));
}

module _ (places : Places) (slots : List Slot) (handle : ℕ) (t : Slot) (placed : IsPlaced places slots) where
  abbrev grown : Places
  grown = fin.insert places handle (length slots)

  get-grown : (q : ℕ) → fin.get grown q ≡ cond (eq_by_cmp nat_cmp q handle) (Some (length slots)) (fin.get places q)
  get-grown q = fin.get-insert nat_cmp_total places handle (length slots) q

  added_at : (q : ℕ) (b : Bool) → eq_by_cmp nat_cmp q handle ≡ b
      → option_map (slot_at (slots ++ t ∷ [])) (cond b (Some (length slots)) (fin.get places q)) ≡ cond b (Some t) (option_map (slot_at slots) (fin.get places q))
  added_at q true tied = ap (λ x. Some x) (get_or-append_seam slots t [] nothing)
  added_at q false apart = agree (slots ++ t ∷ []) slots (fin.get places q) (λ p at. get_or_append_left slots (t ∷ []) nothing p (placed.within q p at))

  -- a new place at the end
  pub added : slots_at grown (slots ++ t ∷ []) ≡ fin.insert (slots_at places slots) handle t
  added = same _ _ (λ q.
      get-each nat_cmp (slot_at (slots ++ t ∷ [])) grown q ∙ ap (option_map (slot_at (slots ++ t ∷ []))) (get-grown q) ∙ added_at q (eq_by_cmp nat_cmp q handle) refl
      ∙ sym (fin.get-insert nat_cmp_total (slots_at places slots) handle t q ∙ ap (cond (eq_by_cmp nat_cmp q handle) (Some t)) (get-each nat_cmp (slot_at slots) places q)))

  below : (q p : ℕ) (b : Bool) → cond b (Some (length slots)) (fin.get places q) ≡ Some p → p < length slots + 1
  below q p true is = let h = some_same (length slots) p is in omega arith
  below q p false is = let h = placed.within q p is in omega arith

  only_one : (a b p : ℕ) (x y : Bool) → eq_by_cmp nat_cmp a handle ≡ x → eq_by_cmp nat_cmp b handle ≡ y
      → cond x (Some (length slots)) (fin.get places a) ≡ Some p → cond y (Some (length slots)) (fin.get places b) ≡ Some p → a ≡ b
  only_one a b p true true ties tied is at = same_key a handle ties ∙ sym (same_key b handle tied)
  only_one a b p true false ties apart is at = let h = some_same (length slots) p is in let k = placed.within b p at in absurd (omega arith)
  only_one a b p false true apart tied is at = let h = some_same (length slots) p at in let k = placed.within a p is in absurd (omega arith)
  only_one a b p false false one other is at = placed.apart a b p is at

  pub added_placed : IsPlaced grown (slots ++ t ∷ [])
  added_placed = record {
    within = λ q p is. subst (λ n. p < n) (sym (length-append slots (t ∷ []))) (below q p (eq_by_cmp nat_cmp q handle) (sym (get-grown q) ∙ is));
    apart = λ a b p is at. only_one a b p (eq_by_cmp nat_cmp a handle) (eq_by_cmp nat_cmp b handle) refl refl (sym (get-grown a) ∙ is) (sym (get-grown b) ∙ at);
  }

-- what is done with each slot of the list is done with each handle's
pub all_written : (places : Places) (slots : List Slot) (f : Slot → Slot) → IsPlaced places slots → slots_at places (map f slots) ≡ each f (slots_at places slots)
all_written places slots f placed = same _ _ (λ q.
    get-each nat_cmp (slot_at (map f slots)) places q ∙ at_each (fin.get places q) (λ p is. placed.within q p is)
    ∙ sym (get-each nat_cmp f (slots_at places slots) q ∙ ap (option_map f) (get-each nat_cmp (slot_at slots) places q)))
  where
    at_each : (o : Option ℕ) → ((p : ℕ) → o ≡ Some p → p < length slots) → option_map (slot_at (map f slots)) o ≡ option_map f (option_map (slot_at slots) o)
    at_each None h = refl
    at_each (Some p) h = ap (λ x. Some x) (get_or-map f slots p nothing nothing (h p refl))

pub all_placed : (places : Places) (slots : List Slot) (f : Slot → Slot) → IsPlaced places slots → IsPlaced places (map f slots)
all_placed places slots f placed = record {
  within = λ handle p is. subst (λ n. p < n) (sym (length-map slots f)) (placed.within handle p is);
  apart = placed.apart;
}

pub within_reach : (slots : Vec Slot Global) (places : Places) (handle place : ℕ) → IsPlaced places slots.items → fin.get places handle ≡ Some place → place < vec_len slots
within_reach slots places handle place placed is = subst (λ n. place < n) (sym slots.ok.0) (placed.within handle place is)

pub none_stand : (slots : List Slot) → slots_at fin.empty slots ≡ fin.empty
none_stand slots = same _ _ (λ q. get-each nat_cmp (slot_at slots) fin.empty q ∙ ap (option_map (slot_at slots)) (fin.get-empty nat_cmp q) ∙ sym (fin.get-empty nat_cmp q))
