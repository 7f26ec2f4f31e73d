-- The places of a map's entries are all of the list.
use Rattle.std.proofs.Common.{◌≡◌, ℕ, ◌<◌, [], ◌∷◌, List, cond, Bool, true, false, Some, None, length, refl, sym, ap, ◌∙◌, arith}
use Rattle.std.specs.Prelude.{T, ◌&&◌}
use Rattle.std.proofs.lemmas.Grind.{common_steps}
use Rattle.std.specs.declared.cmp.Ordering.{Ordering}
use Rattle.std.specs.declared.cmp.Ordering.TheVariants.{Less, Equal, Greater}
use Rattle.std.specs.FinMap as fin
use Rattle.std.specs.FinMap.Entries.{below_all, is_sorted}
use Rattle.std.specs.Ordering.{nat_cmp, eq_by_cmp, is_lt, is_eq}
use Rattle.gs_store.specs.Slots.{Slot}
use Rattle.gs_store.specs.inner.Placed.{IsPlaced, AreWithin}

abbrev Entries : Type 0
Entries = List (ℕ × ℕ)

first_of : (a b : Bool) → T (a && b) → T a
first_of true b h = tt
first_of false b h = absurd h

second_of : (a b : Bool) → T (a && b) → T b
second_of true b h = h
second_of false b h = absurd h

not_tied : (r : Ordering) → T (is_lt r) → is_eq r ≡ false
not_tied Less h = refl
not_tied Equal h = absurd h
not_tied Greater h = absurd h

tied_itself : (k : ℕ) → eq_by_cmp nat_cmp k k ≡ true
tied_itself k = grind (arith, common_steps, fin.gets)

tied_same : (q k : ℕ) → eq_by_cmp nat_cmp q k ≡ true → q ≡ k
tied_same q k h = grind (arith, common_steps, fin.gets)

-- a key below all others isn't among them
below_none : (x : ℕ) (es : Entries) → T (below_all nat_cmp x es) → fin.find nat_cmp x es ≡ None
below_none x [] h = refl
below_none x (e ∷ es) h =
    ap (λ b. cond b (Some e.1) (fin.find nat_cmp x es)) (not_tied (nat_cmp x e.0) (first_of (is_lt (nat_cmp x e.0)) (below_all nat_cmp x es) h))
    ∙ below_none x es (second_of (is_lt (nat_cmp x e.0)) (below_all nat_cmp x es) h)

abbrev Finds : Entries → List Slot → Type 0
Finds es slots = (q place : ℕ) → fin.find nat_cmp q es ≡ Some place → place < length slots

tail_within : (e : ℕ × ℕ) (es : Entries) (slots : List Slot) → T (below_all nat_cmp e.0 es) → Finds (e ∷ es) slots → Finds es slots
tail_within e es slots below h q place found = at (eq_by_cmp nat_cmp q e.0) refl
  where
    at : (b : Bool) → eq_by_cmp nat_cmp q e.0 ≡ b → place < length slots
    at true tied =
        let none : fin.find nat_cmp q es ≡ None = ap (λ k. fin.find nat_cmp k es) (tied_same q e.0 tied) ∙ below_none e.0 es below in
        let clash : Some place ≡ None = sym found ∙ none in
        absurd (cc)
    at false tied = h q place (ap (λ b. cond b (Some e.1) (fin.find nat_cmp q es)) tied ∙ found)

entries_within : (es : Entries) (slots : List Slot) → T (is_sorted nat_cmp es) → Finds es slots → AreWithin es slots
entries_within [] slots sorted h = tt
entries_within (e ∷ es) slots sorted h =
    let below = first_of (below_all nat_cmp e.0 es) (is_sorted nat_cmp es) sorted in
    let rest = second_of (below_all nat_cmp e.0 es) (is_sorted nat_cmp es) sorted in
    (h e.0 e.1 (ap (λ b. cond b (Some e.1) (fin.find nat_cmp e.0 es)) (tied_itself e.0)), entries_within es slots rest (tail_within e es slots below h))

pub all_within : (places : fin.FinMap nat_cmp ℕ) (slots : List Slot) → IsPlaced places slots → AreWithin (fin.entries places) slots
all_within places slots placed = entries_within (fin.entries places) slots (fin.entries_sorted places) (λ q place found. placed.within q place (fin.get-entries places q ∙ found))
