-- The two lists of a scan.
use Rattle.std.proofs.Common.{◌≡◌, ◌∙◌, ◌==◌, ◌&&◌, ◌||◌, ℕ, Bool, true, false, cond, T, List, [], ◌∷◌, map, filter, refl, ap, sym, arith}
use Rattle.std.specs.Prelude.{Option, Some, None, is_some, nat_lt}
use Rattle.std.proofs.lemmas.Bool.{and_parts, false≢true}
use Rattle.std.proofs.lemmas.Bool.Decides.{nat_tests}
use Rattle.std.specs.List.{AllByRecursion, list_any}
use Rattle.std.specs.List.Sorted.{IsStrictlySortedBy}
use Rattle.std.specs.Cmp.{Equal-is, nat_cmp_total, tied_itself}
use Rattle.std.specs.FinMap as fin
use Rattle.std.specs.FinMap.Entries.{below_all, find-put, find-where_key, is_some-find, is_sorted, is_sorted-put, same_entries}
use Rattle.std.specs.Ordering.{eq_by_cmp, is_eq, is_lt, nat_cmp, ordering_then}
use Rattle.std.specs.declared.cmp.Ordering.{Ordering}
use Rattle.std.specs.declared.cmp.Ordering.TheVariants.{Less, Equal, Greater}
use Rattle.gs_path.specs.Path.{Path, path_cmp, path_total}
use Rattle.gs_refs.specs.Counts.{Counts, ascends, ascends_from, occurrences}
use Rattle.gs_tree.specs.Chunks.{all_chunks}
use Rattle.gs_tree.specs.Edits.{same_path}
use Rattle.gs_tree.specs.Find.{Rows, at}
use Rattle.gs_base.specs.declared.numbers.Moment.{Moment}
use Rattle.gs_edit.specs.View.{NamesView}
use Rattle.gs_edit.specs.declared.scan.Scan.{Scan}
use Rattle.gs_edit.specs.Scan.{AreFreed, AreRemoved, IsScan, gone, goes, has_just, is_removed, length_then_text_cmp, removal_cmp, removal_total}
use Rattle.gs_edit.proofs.References.{same-is}
use Rattle.gs_edit.proofs.Tables.{paths_antisymmetric, same_path-is}
use Rattle.gs_master_state.specs.inner.Surveying.{IsScanOf}
use Rattle.gs_master_spec.specs.Working.{forgotten_chunks, put_paths, removed_paths}

-- ---- keys of a map to one value

tagged : {K : Type 0} → List K → List (K × Bool)
tagged [] = []
tagged (k ∷ ks) = (k, true) ∷ tagged ks

untagged : {K : Type 0} (ks : List K) → map (λ (e : K × Bool). e.0) (tagged ks) ≡ ks
unfolding tagged
untagged [] = refl
untagged (k ∷ ks) = ap (λ l. k ∷ l) (untagged ks)

find_tagged : {K : Type 0} (R : K → K → Ordering) (q : K) (ks : List K) → fin.find R q (tagged ks) ≡ cond (list_any (eq_by_cmp R q) ks) (Some true) None
unfolding tagged
find_tagged R q [] = refl
find_tagged R q (k ∷ ks) = elim (eq_by_cmp R q k) as (λ b. cond b (Some true) (fin.find R q (tagged ks)) ≡ cond (b || list_any (eq_by_cmp R q) ks) (Some true) None) [
  | true ↦ refl
  | false ↦ find_tagged R q ks
]

both : (a b : Bool) → T a → T b → T (a && b)
both true b p q = q
both false b p q = p

fst : (a b : Bool) → T (a && b) → T a
fst true b h = tt
fst false b h = h

snd : (a b : Bool) → T (a && b) → T b
snd true b h = h
snd false b h = absurd h

to_T : (b : Bool) → b ≡ true → T b
to_T true e = tt
to_T false e = absurd (cc)

from_T : (b : Bool) → T b → b ≡ true
from_T true h = refl
from_T false h = absurd h

below_tagged : {K : Type 0} (R : K → K → Ordering) (x : K) (ks : List K) → AllByRecursion (λ y. R x y ≡ Less) ks → T (below_all R x (tagged ks))
unfolding tagged
below_tagged R x [] h = tt
below_tagged R x (k ∷ ks) h = both (is_lt (R x k)) (below_all R x (tagged ks)) (to_T _ (ap is_lt h.0)) (below_tagged R x ks h.1)

sorted_tagged : {K : Type 0} (R : K → K → Ordering) (ks : List K) → IsStrictlySortedBy R ks → T (is_sorted R (tagged ks))
unfolding tagged IsStrictlySortedBy
sorted_tagged R [] h = tt
sorted_tagged R (k ∷ ks) h = both (below_all R k (tagged ks)) (is_sorted R (tagged ks)) (below_tagged R k ks h.0) (sorted_tagged R ks h.1)

-- ---- what is removed

last_decides : (o p : Ordering) → ordering_then o p ≡ Equal → p ≡ Equal
last_decides Less p h = absurd (cc)
last_decides Equal p h = h
last_decides Greater p h = absurd (cc)

removals_differ : (p q : Path) → removal_cmp p q ≡ Equal → p ≡ q
removals_differ p q h = paths_antisymmetric p q (last_decides (length_then_text_cmp p q) (path_cmp p q) h)

removal_itself : (p q : Path) → p ≡ q → eq_by_cmp removal_cmp p q ≡ true
removal_itself p q is = ap (λ x. eq_by_cmp removal_cmp p x) (sym is) ∙ ap is_eq (tied_itself removal_total p)

path_itself : (p q : Path) → p ≡ q → same_path p q ≡ true
path_itself p q is = ap (λ x. same_path p x) (sym is) ∙ ap is_eq (tied_itself path_total p)

same_removal : (q p : Path) → eq_by_cmp removal_cmp q p ≡ same_path q p
same_removal q p = each (eq_by_cmp removal_cmp q p) refl (same_path q p) refl
  where
    each : (a : Bool) → eq_by_cmp removal_cmp q p ≡ a → (b : Bool) → same_path q p ≡ b → a ≡ b
    each true is true e = refl
    each true is false e = absurd (false≢true (sym e ∙ path_itself q p (removals_differ q p ((Equal-is (removal_cmp q p)).0 is))))
    each false is true e = absurd (false≢true (sym is ∙ removal_itself q p (same_path-is q p e)))
    each false is false e = refl

any_removal : (q : Path) (ps : List Path) → list_any (eq_by_cmp removal_cmp q) ps ≡ list_any (same_path q) ps
any_removal q ps = ap (λ f. list_any f ps) (λ i p. same_removal q p i)

find_put : (q : Path) (ps : List Path) → fin.find removal_cmp q (put_paths ps) ≡ cond (list_any (eq_by_cmp removal_cmp q) ps) (Some true) None
find_put q [] = refl
find_put q (p ∷ ps) = find-put removal_cmp removal_total q p true (put_paths ps) ∙ elim (eq_by_cmp removal_cmp q p) as (λ b. cond b (Some true) (fin.find removal_cmp q (put_paths ps)) ≡ cond (b || list_any (eq_by_cmp removal_cmp q) ps) (Some true) None) [
  | true ↦ refl
  | false ↦ find_put q ps
]

put_sorted : (ps : List Path) → T (is_sorted removal_cmp (put_paths ps))
put_sorted [] = tt
put_sorted (p ∷ ps) = is_sorted-put removal_cmp removal_total p true (put_paths ps) (put_sorted ps)

found_if : {V : Type 0} (v : Option V) (b : Bool) → is_some (cond (is_some v && b) v None) ≡ is_some v && b
found_if None b = refl
found_if (Some x) true = refl
found_if (Some x) false = refl

removed_members : (moment : ℕ) (rows : Rows ℕ) (q : Path) → list_any (same_path q) (map (λ r. r.0) (filter (λ r. is_removed moment (at rows) r.0) rows)) ≡ is_removed moment (at rows) q
removed_members moment rows q =
    sym (is_some-find path_cmp q (filter (λ r. is_removed moment (at rows) r.0) rows))
    ∙ ap is_some (find-where_key path_cmp (is_removed moment (at rows)) q (λ x e. ap (is_removed moment (at rows)) (sym (paths_antisymmetric q x e))) rows)
    ∙ found_if (at rows q) (goes moment q)

pub removed_are : (moment : ℕ) (rows : Rows ℕ) (paths : List Path) → AreRemoved moment (at rows) paths → paths ≡ removed_paths moment rows
removed_are moment rows paths are =
    let ps = map (λ r. r.0) (filter (λ r. is_removed moment (at rows) r.0) rows) in
    sym (untagged paths)
    ∙ ap (map (λ (e : Path × Bool). e.0))
    (same_entries removal_cmp removal_total removals_differ (tagged paths) (put_paths ps) (sorted_tagged removal_cmp paths are.rise) (put_sorted ps)
    (λ q. find_tagged removal_cmp q paths ∙ ap (λ b. cond b (Some true) None) (any_removal q paths ∙ are.each q ∙ sym (removed_members moment rows q) ∙ sym (any_removal q ps)) ∙ sym (find_put q ps)))

-- ---- what is forgotten

abbrev Listed : Type 0
Listed = List (ℕ × ℕ)

abbrev same : ℕ → ℕ → Bool
same a b = eq_by_cmp nat_cmp a b

-- the listed chunks with just so many references
abbrev with_just : (ℕ → ℕ) → Listed → List ℕ
with_just many es = map (λ e. e.0) (filter (λ (e : ℕ × ℕ). e.1 == many e.0) es)

absent : (x : ℕ) (es : Listed) → T (below_all nat_cmp x es) → fin.find nat_cmp x es ≡ None
absent x [] h = refl
absent x (e ∷ es) h = ap (λ b. cond b (Some e.1) (fin.find nat_cmp x es)) (lower (nat_cmp x e.0) (fst (is_lt (nat_cmp x e.0)) (below_all nat_cmp x es) h)) ∙ absent x es (snd (is_lt (nat_cmp x e.0)) (below_all nat_cmp x es) h)
  where
    lower : (o : Ordering) → T (is_lt o) → is_eq o ≡ false
    lower Less k = refl
    lower Equal k = absurd k
    lower Greater k = absurd k

just_found : (many : ℕ → ℕ) (es : Listed) (q : ℕ) → T (is_sorted nat_cmp es) → list_any (same q) (with_just many es) ≡ has_just (many q) (fin.find nat_cmp q es)
just_found many [] q h = refl
just_found many (e ∷ es) q h = each (e.1 == many e.0) refl (same q e.0) refl (just_found many es q (snd (below_all nat_cmp e.0 es) (is_sorted nat_cmp es) h))
  where
    each : (z : Bool) → (e.1 == many e.0) ≡ z → (s : Bool) → same q e.0 ≡ s → list_any (same q) (with_just many es) ≡ has_just (many q) (fin.find nat_cmp q es) →
        list_any (same q) (map (λ e. e.0) (cond z (e ∷ filter (λ (e : ℕ × ℕ). e.1 == many e.0) es) (filter (λ (e : ℕ × ℕ). e.1 == many e.0) es))) ≡ has_just (many q) (cond s (Some e.1) (fin.find nat_cmp q es))
    each true is true e' rest = ap (λ b. b || list_any (same q) (with_just many es)) e' ∙ sym is ∙ ap (λ x. e.1 == many x) (sym (same-is q e.0 e'))
    each true is false e' rest = ap (λ b. b || list_any (same q) (with_just many es)) e' ∙ rest
    each false is true e' rest =
        rest ∙ ap (has_just (many q)) (ap (λ x. fin.find nat_cmp x es) (same-is q e.0 e') ∙ absent e.0 es (fst (below_all nat_cmp e.0 es) (is_sorted nat_cmp es) h))
        ∙ sym is ∙ ap (λ x. e.1 == many x) (sym (same-is q e.0 e'))
    each false is false e' rest = rest

below_just : (many : ℕ → ℕ) (x : ℕ) (es : Listed) → T (below_all nat_cmp x es) → T (below_all nat_cmp x (tagged (with_just many es)))
unfolding tagged
below_just many x [] h = tt
below_just many x (e ∷ es) h =
    let rest = below_just many x es (snd (is_lt (nat_cmp x e.0)) (below_all nat_cmp x es) h) in
    elim (e.1 == many e.0) as (λ b. T (below_all nat_cmp x (tagged (map (λ e. e.0) (cond b (e ∷ filter (λ (e : ℕ × ℕ). e.1 == many e.0) es) (filter (λ (e : ℕ × ℕ). e.1 == many e.0) es)))))) [
      | true ↦ both (is_lt (nat_cmp x e.0)) (below_all nat_cmp x (tagged (with_just many es))) (fst (is_lt (nat_cmp x e.0)) (below_all nat_cmp x es) h) rest
      | false ↦ rest
    ]

sorted_just : (many : ℕ → ℕ) (es : Listed) → T (is_sorted nat_cmp es) → T (is_sorted nat_cmp (tagged (with_just many es)))
unfolding tagged
sorted_just many [] h = tt
sorted_just many (e ∷ es) h =
    let rest = sorted_just many es (snd (below_all nat_cmp e.0 es) (is_sorted nat_cmp es) h) in
    elim (e.1 == many e.0) as (λ b. T (is_sorted nat_cmp (tagged (map (λ e. e.0) (cond b (e ∷ filter (λ (e : ℕ × ℕ). e.1 == many e.0) es) (filter (λ (e : ℕ × ℕ). e.1 == many e.0) es)))))) [
      | true ↦ both (below_all nat_cmp e.0 (tagged (with_just many es))) (is_sorted nat_cmp (tagged (with_just many es))) (below_just many e.0 es (fst (below_all nat_cmp e.0 es) (is_sorted nat_cmp es) h)) rest
      | false ↦ rest
    ]

less_is : (x y : ℕ) → nat_lt x y ≡ true → T (is_lt (nat_cmp x y))
less_is x y h = to_T _ (ap (λ b. is_lt (cond b Less (cond (x == y) Equal Greater))) h)

below_later : (x : ℕ) (ks : List ℕ) → ascends_from x ks ≡ true → (y : ℕ) → nat_lt y x ≡ true → T (below_all nat_cmp y (tagged ks))
unfolding tagged
below_later x [] h y low = tt
below_later x (k ∷ ks) h y low =
    let parts = and_parts (nat_lt x k) (ascends_from k ks) h in
    let next : nat_lt y k ≡ true = (let first = parts.0 in grind (arith, nat_tests)) in
    both (is_lt (nat_cmp y k)) (below_all nat_cmp y (tagged ks)) (less_is y k next) (below_later k ks parts.1 y next)

sorted_from : (x : ℕ) (ks : List ℕ) → ascends_from x ks ≡ true → T (below_all nat_cmp x (tagged ks)) × T (is_sorted nat_cmp (tagged ks))
unfolding tagged
sorted_from x [] h = (tt, tt)
sorted_from x (k ∷ ks) h =
    let parts = and_parts (nat_lt x k) (ascends_from k ks) h in
    let rest = sorted_from k ks parts.1 in (
      both (is_lt (nat_cmp x k)) (below_all nat_cmp x (tagged ks)) (less_is x k parts.0) (below_later k ks parts.1 x parts.0),
      both (below_all nat_cmp k (tagged ks)) (is_sorted nat_cmp (tagged ks)) rest.0 rest.1,
    )

sorted_ascending : (ks : List ℕ) → ascends ks ≡ true → T (is_sorted nat_cmp (tagged ks))
unfolding tagged
sorted_ascending [] h = tt
sorted_ascending (k ∷ ks) h = let parts = sorted_from k ks h in both (below_all nat_cmp k (tagged ks)) (is_sorted nat_cmp (tagged ks)) parts.0 parts.1

pub forgotten_are : (moment : ℕ) (rows : Rows ℕ) (refs : Counts) (chunks : List ℕ) → AreFreed moment rows refs chunks → chunks ≡ forgotten_chunks moment rows (fin.entries refs)
forgotten_are moment rows refs chunks are =
    let many = λ (chunk : ℕ). occurrences chunk (all_chunks (gone moment rows)) in
    let all = with_just many (fin.entries refs) in
    sym (untagged chunks)
    ∙ ap (map (λ (e : ℕ × Bool). e.0))
    (same_entries nat_cmp nat_cmp_total fin.nat_cmp-IsAntisymmetric (tagged chunks) (tagged all) (sorted_ascending chunks are.rise) (sorted_just many (fin.entries refs) (fin.entries_sorted refs))
    (λ q. find_tagged nat_cmp q chunks
    ∙ ap (λ b. cond b (Some true) None) (are.each q ∙ ap (has_just (many q)) (fin.get-entries refs q) ∙ sym (just_found many (fin.entries refs) q (fin.entries_sorted refs)))
    ∙ sym (find_tagged nat_cmp q all)))
    ∙ untagged all

pub scan_is : (moment : Moment) (names : NamesView) (scan : Scan) → IsScan moment.0 (fin.entries names.tree) names.refs scan → IsScanOf moment names scan
scan_is moment names scan is = record {
  removed = removed_are moment.0 (fin.entries names.tree) scan.removed.items is.removed;
  forgotten = forgotten_are moment.0 (fin.entries names.tree) names.refs scan.forgotten.items is.forgotten;
}
