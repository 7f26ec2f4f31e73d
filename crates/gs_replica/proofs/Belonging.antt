-- Whether each client with a first entry has a request, where it had one: by a test of the entries.
use Rattle.std.proofs.Common.{◌≡◌, ℕ, [], ◌∷◌, List, cond, Bool, true, false, Decides, Option, Some, None, refl, sym, ap, ◌∙◌, arith}
use Rattle.std.specs.Prelude.{T, ◌&&◌, is_some}
use Rattle.std.proofs.lemmas.Grind.{common_steps}
use Rattle.std.specs.declared.cmp.Ordering.{Ordering}
use Rattle.std.specs.declared.cmp.Ordering.TheVariants.{Less, Equal, Greater}
use Rattle.std.specs.FinMap as fin
use Rattle.std.specs.FinMap.Entries.{below_all, is_sorted}
use Rattle.std.specs.List.{list_all}
use Rattle.std.specs.Ordering.{nat_cmp, eq_by_cmp, is_lt, is_eq}
use Rattle.gs_replica.specs.declared.op.Done.{Done}
use Rattle.gs_replica.specs.First.{First}
use Rattle.gs_replica.specs.Inside.{HasSealed, has_if, has_one, has_each}

abbrev Table : Type 0
Table = fin.FinMap nat_cmp Done

abbrev Entries : Type 0
Entries = List (ℕ × Option Done)

first_of : (a b : Bool) → T (a && b) → T a
first_of true b h = tt
first_of false b h = absurd h

second_of : (a b : Bool) → T (a && b) → T b
second_of true b h = h
second_of false b h = absurd h

first_so : (a b : Bool) → (a && b) ≡ true → a ≡ true
first_so true b h = refl
first_so false b h = absurd (cc)

second_so : (a b : Bool) → (a && b) ≡ true → b ≡ true
second_so true b h = h
second_so false b h = absurd (cc)

both_so : (a b : Bool) → a ≡ true → b ≡ true → (a && b) ≡ true
both_so a b ha hb = ap (λ c. c && b) ha ∙ hb

not_tied : (r : Ordering) → T (is_lt r) → is_eq r ≡ false
not_tied Less h = refl
not_tied Equal h = absurd h
not_tied Greater h = absurd h

tied_itself : (k : ℕ) → eq_by_cmp nat_cmp k k ≡ true
tied_itself k = grind (arith, common_steps, fin.gets)

tied_same : (q k : ℕ) → eq_by_cmp nat_cmp q k ≡ true → q ≡ k
tied_same q k h = grind (arith, common_steps, fin.gets)

-- a key below all others isn't among them
below_none : (x : ℕ) (es : Entries) → T (below_all nat_cmp x es) → fin.find nat_cmp x es ≡ None
below_none x [] h = refl
below_none x (e ∷ es) h =
    ap (λ b. cond b (Some e.1) (fin.find nat_cmp x es)) (not_tied (nat_cmp x e.0) (first_of (is_lt (nat_cmp x e.0)) (below_all nat_cmp x es) h))
    ∙ below_none x es (second_of (is_lt (nat_cmp x e.0)) (below_all nat_cmp x es) h)

if_has : (o : Option Done) (sealed : Done) (has : Bool) → o ≡ Some sealed → has_if o has ≡ true → has ≡ true
if_has None sealed has is h = absurd (cc)
if_has (Some d) sealed has is h = h

some_is : (x y : Option Done) → Some x ≡ Some y → x ≡ y
some_is x y e = cc

entry_at : (m : Table) (e : ℕ × Option Done) (es : Entries) → has_one m e ≡ true → (q : ℕ) (sealed : Done) → (fin.find nat_cmp q es ≡ Some (Some sealed) → is_some (fin.get m q) ≡ true)
    → (b : Bool) → eq_by_cmp nat_cmp q e.0 ≡ b → cond b (Some e.1) (fin.find nat_cmp q es) ≡ Some (Some sealed) → is_some (fin.get m q) ≡ true
entry_at m e es one q sealed rest true tied is =
    ap (λ k. is_some (fin.get m k)) (tied_same q e.0 tied) ∙ if_has e.1 sealed (is_some (fin.get m e.0)) (some_is e.1 (Some sealed) is) one
entry_at m e es one q sealed rest false tied is = rest is

entry_has : (m : Table) (es : Entries) → list_all (has_one m) es ≡ true → (q : ℕ) (sealed : Done) → fin.find nat_cmp q es ≡ Some (Some sealed) → is_some (fin.get m q) ≡ true
entry_has m [] all q sealed found = absurd (cc)
entry_has m (e ∷ es) all q sealed found =
    entry_at m e es (first_so (has_one m e) (list_all (has_one m) es) all) q sealed (λ is. entry_has m es (second_so (has_one m e) (list_all (has_one m) es) all) q sealed is)
    (eq_by_cmp nat_cmp q e.0) refl found

abbrev Finds : Table → Entries → Type 0
Finds m es = (q : ℕ) (sealed : Done) → fin.find nat_cmp q es ≡ Some (Some sealed) → is_some (fin.get m q) ≡ true

has_head : (m : Table) (e : ℕ × Option Done) (es : Entries) (o : Option Done) → e.1 ≡ o → Finds m (e ∷ es) → has_if o (is_some (fin.get m e.0)) ≡ true
has_head m e es None is h = refl
has_head m e es (Some d) is h = h e.0 d (ap (λ b. cond b (Some e.1) (fin.find nat_cmp e.0 es)) (tied_itself e.0) ∙ ap Some is)

has_tail : (m : Table) (e : ℕ × Option Done) (es : Entries) → T (below_all nat_cmp e.0 es) → Finds m (e ∷ es) → Finds m es
has_tail m e es below h q sealed found = at (eq_by_cmp nat_cmp q e.0) refl
  where
    at : (b : Bool) → eq_by_cmp nat_cmp q e.0 ≡ b → is_some (fin.get m q) ≡ true
    at true tied =
        let none : fin.find nat_cmp q es ≡ None = ap (λ k. fin.find nat_cmp k es) (tied_same q e.0 tied) ∙ below_none e.0 es below in
        let clash : Some (Some sealed) ≡ None = sym found ∙ none in
        absurd (cc)
    at false tied = h q sealed (ap (λ b. cond b (Some e.1) (fin.find nat_cmp q es)) tied ∙ found)

each_has : (m : Table) (es : Entries) → T (is_sorted nat_cmp es) → Finds m es → list_all (has_one m) es ≡ true
each_has m [] sorted h = refl
each_has m (e ∷ es) sorted h =
    let below = first_of (below_all nat_cmp e.0 es) (is_sorted nat_cmp es) sorted in
    let rest = second_of (below_all nat_cmp e.0 es) (is_sorted nat_cmp es) sorted in
    both_so (has_one m e) (list_all (has_one m) es) (has_head m e es e.1 refl h) (each_has m es rest (has_tail m e es below h))

pub decides_sealed : (first : First) (done : Table) (r : Bool) → r ≡ has_each first done → Decides r (HasSealed first done)
decides_sealed first done r e = (
  λ h. λ client sealed is. entry_has done (fin.entries first) (sym e ∙ h) client sealed (sym (fin.get-entries first client) ∙ is),
  λ has. e ∙ each_has done (fin.entries first) (fin.entries_sorted first) (λ q sealed found. has q sealed (fin.get-entries first q ∙ found)),
)
