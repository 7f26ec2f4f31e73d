-- A table is read as it is written: clients that rise are the entries of their map.
use Rattle.std.proofs.Common.{◌≡◌, ℕ, ◌<◌, ◌≤◌, ◌++◌, Bool, true, false, cond, ltb, eqb, List, [], ◌∷◌, Some, refl, sym, ap, subst, ◌∙◌, arith}
use Rattle.std.specs.Prelude.{T, ◌&&◌}
use Rattle.std.proofs.lemmas.Bool.{ltb-true, lt-ltb}
use Rattle.std.specs.declared.cmp.Ordering.TheVariants.{Less, Equal, Greater}
use Rattle.std.specs.Cmp.{nat_cmp_total}
use Rattle.std.specs.FinMap as fin
use Rattle.std.specs.FinMap.Entries.{below_all, is_sorted, same_entries}
use Rattle.std.specs.Ordering.{nat_cmp, is_lt}
use Rattle.gs_fields.specs.Encoding.{long_list}
use Rattle.gs_fields.specs.Laws.{Reads, reads_both, reads_made, reads_long_list, reads_option, n32, if_some}
use Rattle.gs_fields.specs.Reading.{Reader, made, long_list_at}
use Rattle.gs_fields.specs.Writable.{AreLongItems}
use Rattle.gs_store_image.specs.Encoding.{table, first_entries}
use Rattle.gs_store_image.specs.Laws.{reads_done}
use Rattle.gs_store_image.specs.Reading.{rises_from, rises, table_of, table_at, first_at}
use Rattle.gs_store_image.specs.Writable.{IsTable, AreFirstEntries}

abbrev Entries : Type 0 → Type 0
Entries V = List (ℕ × V)

abbrev Map : Type 0 → Type 0
Map V = fin.FinMap nat_cmp V

first_so : (a b : Bool) → (a && b) ≡ true → a ≡ true
first_so true b h = refl
first_so false b h = absurd (cc)

second_so : (a b : Bool) → (a && b) ≡ true → b ≡ true
second_so true b h = h
second_so false b h = absurd (cc)

both_so : (a b : Bool) → a ≡ true → b ≡ true → (a && b) ≡ true
both_so a b ha hb = ap (λ c. c && b) ha ∙ hb

both_hold : (a b : Bool) → T a → T b → T (a && b)
both_hold true b ha hb = hb
both_hold false b ha hb = ha

first_of : (a b : Bool) → T (a && b) → T a
first_of true b h = tt
first_of false b h = absurd h

second_of : (a b : Bool) → T (a && b) → T b
second_of true b h = h
second_of false b h = absurd h

less_by : (b c : Bool) → b ≡ true → T (is_lt (cond b Less (cond c Equal Greater)))
less_by true c e = tt
less_by false c e = absurd (cc)

by_less : (b c : Bool) → T (is_lt (cond b Less (cond c Equal Greater))) → b ≡ true
by_less true c h = refl
by_less false true h = absurd h
by_less false false h = absurd h

below : (x y : ℕ) → x < y → T (is_lt (nat_cmp x y))
below x y lt = less_by (ltb x y) (eqb x y) (lt-ltb x y lt)

is_below : (x y : ℕ) → T (is_lt (nat_cmp x y)) → ltb x y ≡ true
is_below x y h = by_less (ltb x y) (eqb x y) h

all_above : {V : Type 0} (x last : ℕ) (es : Entries V) → x ≤ last → rises_from last es ≡ true → T (below_all nat_cmp x es)
all_above x last [] le h = tt
all_above x last (e ∷ es) le h =
    let step : last < e.0 = ltb-true last e.0 (first_so (ltb last e.0) (rises_from e.0 es) h) in
    both_hold (is_lt (nat_cmp x e.0)) (below_all nat_cmp x es) (below x e.0 (omega arith)) (all_above x e.0 es (omega arith) (second_so (ltb last e.0) (rises_from e.0 es) h))

sorted_from : {V : Type 0} (e : ℕ × V) (es : Entries V) → rises_from e.0 es ≡ true → T (is_sorted nat_cmp (e ∷ es))
sorted_from e [] h = tt
sorted_from e (f ∷ es) h =
    both_hold (below_all nat_cmp e.0 (f ∷ es)) (is_sorted nat_cmp (f ∷ es)) (all_above e.0 e.0 (f ∷ es) (omega arith) h) (sorted_from f es (second_so (ltb e.0 f.0) (rises_from f.0 es) h))

pub sorted_rising : {V : Type 0} (es : Entries V) → rises es ≡ true → T (is_sorted nat_cmp es)
sorted_rising [] h = tt
sorted_rising (e ∷ es) h = sorted_from e es h

rising_from : {V : Type 0} (e : ℕ × V) (es : Entries V) → T (is_sorted nat_cmp (e ∷ es)) → rises_from e.0 es ≡ true
rising_from e [] h = refl
rising_from e (f ∷ es) h =
    let least = first_of (below_all nat_cmp e.0 (f ∷ es)) (is_sorted nat_cmp (f ∷ es)) h in
    let rest = second_of (below_all nat_cmp e.0 (f ∷ es)) (is_sorted nat_cmp (f ∷ es)) h in
    both_so (ltb e.0 f.0) (rises_from f.0 es) (is_below e.0 f.0 (first_of (is_lt (nat_cmp e.0 f.0)) (below_all nat_cmp e.0 es) least)) (rising_from f es rest)

pub rising_sorted : {V : Type 0} (es : Entries V) → T (is_sorted nat_cmp es) → rises es ≡ true
rising_sorted [] h = refl
rising_sorted (e ∷ es) h = rising_from e es h

pub from_entries-entries : {V : Type 0} (m : Map V) → fin.from_entries (fin.entries m) ≡ m
from_entries-entries m = fin.same_map nat_cmp_total fin.nat_cmp-IsAntisymmetric _ _ (λ q. fin.get-from_entries nat_cmp_total (fin.entries m) q ∙ sym (fin.get-entries m q))

pub listed : {V : Type 0} (es : Entries V) → rises es ≡ true → fin.entries (fin.from_entries {R = nat_cmp} es) ≡ es
listed es h = same_entries nat_cmp nat_cmp_total fin.nat_cmp-IsAntisymmetric (fin.entries (fin.from_entries {R = nat_cmp} es)) es (fin.entries_sorted (fin.from_entries {R = nat_cmp} es)) (sorted_rising es h)
    (λ q. sym (fin.get-entries (fin.from_entries {R = nat_cmp} es) q) ∙ fin.get-from_entries nat_cmp_total es q)

-- a map by its entries, which rise
pub reads_map : {V : Type 0} {Is : ℕ × V → Type 0} {write : ℕ × V → List ℕ} {item : Reader (ℕ × V)} → Reads Is write item
    → Reads (λ (m : Map V). AreLongItems Is (fin.entries m)) (λ (m : Map V). long_list write (fin.entries m)) (made table_of (long_list_at item))
reads_map {V = V} {Is = Is} {write = write} {item = item} p = reads_made {fields = λ (m : Map V). fin.entries m} (reads_long_list p) (record { back = back; forth = forth }) where
  back : (m : Map V) → AreLongItems Is (fin.entries m) → AreLongItems Is (fin.entries m) × (table_of (fin.entries m) ≡ Some m)
  back m is = (is, rw (rising_sorted (fin.entries m) (fin.entries_sorted m)) (ap Some (from_entries-entries m)))

  forth : (es : Entries V) (m : Map V) → AreLongItems Is es → table_of es ≡ Some m → (fin.entries m ≡ es) × AreLongItems Is (fin.entries m)
  forth es m is e =
      let k = if_some (rises es) (fin.from_entries {R = nat_cmp} es) m e in
      let same : fin.entries m ≡ es = ap (λ (n : Map V). fin.entries n) (sym k.1) ∙ listed es k.0 in
      (same, subst (λ (z : Entries V). AreLongItems Is z) (sym same) is)

pub reads_table : Reads IsTable table table_at
unfolding table_at
reads_table = reads_map (reads_both n32 reads_done)

pub reads_first : Reads AreFirstEntries first_entries first_at
unfolding first_at
reads_first = reads_map (reads_both n32 (reads_option reads_done))

-- ---- a table as loops make it

-- a map with the entries of a list, the last of them first
abbrev pub onto : {V : Type 0} → Entries V → Map V → Map V
onto [] m = m
onto (e ∷ es) m = fin.insert (onto es m) e.0 e.1

pub onto_last : {V : Type 0} (es : Entries V) (e : ℕ × V) (m : Map V) → onto (es ++ e ∷ []) m ≡ onto es (fin.insert m e.0 e.1)
onto_last [] e m = refl
onto_last (f ∷ es) e m = ap (λ n. fin.insert n f.0 f.1) (onto_last es e m)

pub onto_empty : {V : Type 0} (es : Entries V) → onto es fin.empty ≡ fin.from_entries es
onto_empty [] = refl
onto_empty (e ∷ es) = ap (λ n. fin.insert n e.0 e.1) (onto_empty es)
