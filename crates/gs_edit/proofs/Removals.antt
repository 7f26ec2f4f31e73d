-- The paths that a scan removes: each once, apart from each other, and all that goes is at or under one of them.
use Rattle.std.proofs.Common.{◌≡◌, ◌&&◌, ◌||◌, ◌+◌, ℕ, Bool, true, false, cond, T, List, [], ◌∷◌, length, get_or, map, filter, refl, sym, ap, ◌∙◌, subst, arith}
use Rattle.std.specs.Prelude.{is_some}
use Rattle.std.specs.List.{list_any, AllByRecursion, IsDistinct}
use Rattle.std.specs.List.Sorted.{IsStrictlySortedBy, IsPermutation, IsSorted}
use Rattle.std.specs.declared.cmp.Ordering.{Ordering}
use Rattle.std.specs.declared.cmp.Ordering.TheVariants.{Less, Equal, Greater}
use Rattle.std.specs.Ordering.{is_lt, ordering_then, ordering_reverse, nat_cmp}
use Rattle.std.specs.Cmp.{Equal-is, eq_by_cmp_equiv, tied_itself}
use Rattle.std.specs.Cmp.Lexicographic.{slice_cmp, nat_list_cmp_total}
use Rattle.std.specs.FinMap.{slice_cmp-IsAntisymmetric, nat_cmp-IsAntisymmetric}
use Rattle.std.specs.FinMap.Entries.{is_sorted, below_all, is_some-find}
use Rattle.std.proofs.lemmas.Bool.{and_parts}
use Rattle.std.proofs.lemmas.List.Sorted.{list_any-IsPermutation}
use Rattle.std.proofs.lemmas.List.Kept.{IsStrictlySortedBy-filter}
use Rattle.std.proofs.lemmas.Map.Keys.{IsDistinct-from_sorted, IsDistinct-IsPermutation, apart_from_distinct, sorted_from_all_adjacent, sorted_head, sorted_tail}
use Rattle.std.proofs.lemmas.Map.Views.{any-filter_same}
use Rattle.gs_path.specs.Path.{Name, Path, path_cmp, path_total, path_text, name_cmp, same_name, begins}
use Rattle.gs_tree.specs.Plain.{Plain, after}
use Rattle.gs_tree.specs.Find.{Rows, at}
use Rattle.gs_tree.specs.Edits.{same_path}
use Rattle.gs_tree.proofs.Laws.{begins_either}
use Rattle.gs_edit.specs.Table.{paths_of, fronts}
use Rattle.gs_edit.specs.Scan.{goes, is_over, is_removed, is_gone, removal_cmp, removal_total, AreRemoved}
use Rattle.gs_edit.proofs.Tables.{same_itself, same_path-is, among, paths_antisymmetric}
use Rattle.gs_tree.proofs.Splice.{begins_parts}
use Rattle.gs_edit.proofs.Covers.{among-fronts}

one_name : (x y : Name) → same_name x y ≡ true → x ≡ y
one_name x y t = slice_cmp-IsAntisymmetric nat_cmp-IsAntisymmetric x y ((Equal-is (name_cmp x y)).0 t)

-- of two paths that go, neither lies under the other
pub goes_once : (moment : ℕ) (p q : Path) → goes moment p ≡ true → goes moment q ≡ true → begins p q ≡ true → p ≡ q
goes_once moment [] q f g b = absurd (cc)
goes_once moment (x ∷ p) [] f g b = absurd (cc)
goes_once moment (x ∷ []) (y ∷ []) f g b = let t = and_parts (same_name x y) true b in ap (λ z. z ∷ []) (one_name x y t.0)
goes_once moment (x ∷ z ∷ p) (y ∷ []) f g b = absurd (let t = and_parts (same_name x y) false b in let k = t.1 in cc)
goes_once moment (x ∷ []) (y ∷ w ∷ q) f g b =
    let t = and_parts (same_name x y) true b in
    let over : is_over moment y ≡ true = ap (is_over moment) (sym (one_name x y t.0)) ∙ f in
    absurd (let k : false ≡ true = sym (ap (λ o. cond o false (goes moment (w ∷ q))) over) ∙ g in cc)
goes_once moment (x ∷ z ∷ p) (y ∷ w ∷ q) f g b =
    let t = and_parts (same_name x y) (begins (z ∷ p) (w ∷ q)) b in
    let rest = goes_once moment (z ∷ p) (w ∷ q) (below (is_over moment x) (goes moment (z ∷ p)) f) (below (is_over moment y) (goes moment (w ∷ q)) g) t.1 in
    ap (λ n. n ∷ z ∷ p) (one_name x y t.0) ∙ ap (λ r. y ∷ r) rest
  where
    below : (o r : Bool) → cond o false r ≡ true → r ≡ true
    below true r h = absurd (cc)
    below false r h = h

both_turn : (a b : Bool) → (a && b) ≡ (b && a)
both_turn true true = refl
both_turn true false = refl
both_turn false true = refl
both_turn false false = refl

-- rows that rise have paths that do
paths_rise : (rows : Rows ℕ) → T (is_sorted path_cmp rows) → IsStrictlySortedBy path_cmp (paths_of rows)
unfolding IsStrictlySortedBy
paths_rise [] h = tt
paths_rise (r ∷ rows) h =
    let parts = and_parts (below_all path_cmp r.0 rows) (is_sorted path_cmp rows) (t_true _ h) in
    (all_behind r.0 rows parts.0, paths_rise rows (true_t _ parts.1))
  where
    t_true : (b : Bool) → T b → b ≡ true
    t_true true t = refl
    t_true false t = absurd t

    true_t : (b : Bool) → b ≡ true → T b
    true_t true e = tt
    true_t false e = absurd (cc)

    less : (o : Ordering) → is_lt o ≡ true → o ≡ Less
    less Less e = refl
    less Equal e = absurd (cc)
    less Greater e = absurd (cc)

    all_behind : (p : Path) (rs : Rows ℕ) → below_all path_cmp p rs ≡ true → AllByRecursion (λ q. path_cmp p q ≡ Less) (paths_of rs)
    all_behind p [] e = tt
    all_behind p (s ∷ rs) e = let parts = and_parts (is_lt (path_cmp p s.0)) (below_all path_cmp p rs) e in (less (path_cmp p s.0) parts.0, all_behind p rs parts.1)

-- what isn't behind another, and isn't the same, is before it
before : (p q : Path) → is_lt (removal_cmp q p) ≡ false → same_path p q ≡ false → removal_cmp p q ≡ Less
before p q later differ = each (removal_cmp q p) refl
  where
    last_tie : (o r : Ordering) → ordering_then o r ≡ Equal → r ≡ Equal
    last_tie Less r e = absurd (cc)
    last_tie Equal r e = e
    last_tie Greater r e = absurd (cc)

    each : (o : Ordering) → removal_cmp q p ≡ o → removal_cmp p q ≡ Less
    each Less e = absurd (let k : true ≡ false = sym (ap is_lt e) ∙ later in cc)
    each Equal e =
        let tie : path_cmp q p ≡ Equal = last_tie (ordering_then (nat_cmp (length q) (length p)) (slice_cmp nat_cmp (path_text q) (path_text p))) (path_cmp q p) e in
        let k : true ≡ false = sym (same_itself p) ∙ ap (same_path p) (sym (paths_antisymmetric q p tie)) ∙ differ in absurd (cc)
    each Greater e = removal_total.antisymm p q ∙ ap ordering_reverse e

-- the paths of what goes, sorted
pub removed_in_order : (moment : ℕ) (rows : Rows ℕ) (found paths : List Path) → T (is_sorted path_cmp rows) → found ≡ filter (goes moment) (paths_of rows) → IsPermutation found paths → IsSorted removal_cmp paths → AreRemoved moment (at rows) paths
removed_in_order moment rows found paths sorted is moves rise =
    let once : IsDistinct same_path paths = IsDistinct-IsPermutation same_path (eq_by_cmp_equiv path_total).symm found paths moves
    (subst (λ (ps : List Path). IsDistinct same_path ps) (sym is) (IsDistinct-from_sorted path_cmp (filter (goes moment) (paths_of rows)) (IsStrictlySortedBy-filter path_cmp (goes moment) (paths_of rows) (paths_rise rows sorted)))) in
    record {
      each = λ p. sym (list_any-IsPermutation (same_path p) found paths moves) ∙ ap (λ (ps : List Path). list_any (same_path p) ps) is
          ∙ any-filter_same (same_path p) (goes moment) (goes moment p) (λ q e. ap (goes moment) (sym (same_path-is p q e))) (paths_of rows)
          ∙ ap (λ b. goes moment p && b) (sym (is_some-find path_cmp p rows)) ∙ both_turn (goes moment p) (is_some (at rows p));
      rise = sorted_from_all_adjacent removal_total paths [] (λ k more. before (get_or paths k []) (get_or paths (k + 1) [])
          (rise k [] (omega arith) more)
          (apart_from_distinct same_path paths k (k + 1) [] once (omega arith) more));
    }

-- one of a list that passes a test
pub record Passes (f : Path → Bool) (ps : List Path) : Type 0 where
  pub path : Path
  pub inside : among ps path ≡ true
  pub passes : f path ≡ true

later : (b : Bool) {c : Bool} → c ≡ true → (b || c) ≡ true
later true g = refl
later false g = g

pub passing : (f : Path → Bool) (ps : List Path) → list_any f ps ≡ true → Passes f ps
passing f [] h = absurd (cc)
passing f (p ∷ ps) h =
    elim (f p) as (λ b. f p ≡ b → (b || list_any f ps) ≡ true → Passes f (p ∷ ps)) [
      | true ↦ λ e k. record { path = p; inside = ap (λ b. b || among ps p) (same_itself p); passes = e }
      | false ↦ λ e k. (let r = passing f ps k in record { path = r.path; inside = later (same_path r.path p) r.inside; passes = r.passes })
    ] refl h

pub some_passes : (f : Path → Bool) (ps : List Path) (p : Path) → among ps p ≡ true → f p ≡ true → list_any f ps ≡ true
some_passes f [] p h e = absurd (cc)
some_passes f (q ∷ ps) p h e =
    elim (same_path p q) as (λ b. same_path p q ≡ b → (b || among ps p) ≡ true → list_any f (q ∷ ps) ≡ true) [
      | true ↦ λ t k. ap (λ b. b || list_any f ps) (ap f (sym (same_path-is p q t)) ∙ e)
      | false ↦ λ t k. later (f q) (some_passes f ps p k e)
    ] refl h

record Made (x : Name) (ps : List Path) (q : Path) : Type 0 where
  rest : Path
  inside : among ps rest ≡ true
  is : q ≡ x ∷ rest

among_made : (x : Name) (ps : List Path) (q : Path) → among (map (λ r. x ∷ r) ps) q ≡ true → Made x ps q
among_made x [] q h = absurd (cc)
among_made x (p ∷ ps) q h =
    elim (same_path q (x ∷ p)) as (λ b. same_path q (x ∷ p) ≡ b → (b || among (map (λ r. x ∷ r) ps) q) ≡ true → Made x (p ∷ ps) q) [
      | true ↦ λ t k. record { rest = p; inside = ap (λ b. b || among ps p) (same_itself p); is = same_path-is q (x ∷ p) t }
      | false ↦ λ t k. (let s = among_made x ps q k in record { rest = s.rest; inside = later (same_path s.rest p) s.inside; is = s.is })
    ] refl h

only : (b : Bool) → (b || false) ≡ true → b ≡ true
only true e = refl
only false e = e

-- the fronts of a path begin it
pub fronts_begin : (p q : Path) → among (fronts p) q ≡ true → begins q p ≡ true
fronts_begin [] q h = ap (λ r. begins r []) (same_path-is q [] (only (same_path q []) h))
fronts_begin (x ∷ p) q h =
    elim (same_path q []) as (λ b. same_path q [] ≡ b → (b || among (map (λ r. x ∷ r) (fronts p)) q) ≡ true → begins q (x ∷ p) ≡ true) [
      | true ↦ λ t k. ap (λ r. begins r (x ∷ p)) (same_path-is q [] t)
      | false ↦ λ t k. (let s = among_made x (fronts p) q k in
          ap (λ r. begins r (x ∷ p)) s.is ∙ ap (λ b. b && begins s.rest p) ((eq_by_cmp_equiv nat_list_cmp_total).refl x) ∙ fronts_begin p s.rest s.inside)
    ] refl h

same_tests : (a b : Bool) → (a ≡ true → b ≡ true) → (b ≡ true → a ≡ true) → a ≡ b
same_tests true b f g = sym (f refl)
same_tests false true f g = g refl
same_tests false false f g = refl

pub begins-itself : (p : Path) → begins p p ≡ true
begins-itself [] = refl
begins-itself (x ∷ p) = ap (λ b. b && begins p p) ((eq_by_cmp_equiv nat_list_cmp_total).refl x) ∙ begins-itself p

-- what goes is at or under a path that is removed
pub gone_is : (moment : ℕ) (m : Plain ℕ) (paths : List Path) → ((p : Path) → among paths p ≡ is_removed moment m p) → (q : Path) → list_any (λ p. begins p q) paths ≡ is_gone moment m q
gone_is moment m paths each q = same_tests (list_any (λ p. begins p q) paths) (is_gone moment m q)
    (λ h. (let s = passing (λ p. begins p q) paths h in some_passes (is_removed moment m) (fronts q) s.path (among-fronts q s.path s.passes) (sym (each s.path) ∙ s.inside)))
    (λ h. (let s = passing (is_removed moment m) (fronts q) h in some_passes (λ p. begins p q) paths s.path (each s.path ∙ s.passes) (fronts_begin q s.path s.inside)))

-- no path of these begins one that begins with another
abbrev pub AreApart : List Path → Type 0
AreApart [] = Unit {0}
AreApart (p ∷ ps) = ((q : Path) → begins p q ≡ true → list_any (λ s. begins s q) ps ≡ true → ⊥) × AreApart ps

all_at : (p q : Path) (ps : List Path) → AllByRecursion (λ s. removal_cmp p s ≡ Less) ps → among ps q ≡ true → removal_cmp p q ≡ Less
all_at p q [] all h = absurd (cc)
all_at p q (s ∷ ps) all h =
    elim (same_path q s) as (λ b. same_path q s ≡ b → (b || among ps q) ≡ true → removal_cmp p q ≡ Less) [
      | true ↦ λ t k. ap (removal_cmp p) (same_path-is q s t) ∙ all.0
      | false ↦ λ t k. all_at p q ps all.1 k
    ] refl h

-- two paths that begin one
begins_one : (p s q : Path) → begins p q ≡ true → begins s q ≡ true → (begins p s ≡ false) → begins s p ≡ true
begins_one p s q f g apart = begins_either s p (after p q) (ap (begins s) (sym (begins_parts p q f)) ∙ g) apart

pub apart : (moment : ℕ) (paths : List Path) → ((p : Path) → among paths p ≡ true → goes moment p ≡ true) → IsStrictlySortedBy removal_cmp paths → AreApart paths
apart moment [] all rise = tt
apart moment (p ∷ ps) all rise = (
  λ q f h. (let s = passing (λ r. begins r q) ps h in
      let here = all p (ap (λ b. b || among ps p) (same_itself p)) in
      let there = all s.path (later (same_path s.path p) s.inside) in
      let one : p ≡ s.path = elim (begins p s.path) as (λ b. begins p s.path ≡ b → p ≡ s.path) [
        | true ↦ λ b. goes_once moment p s.path here there b
        | false ↦ λ b. sym (goes_once moment s.path p there here (begins_one p s.path q f s.passes b))
      ] refl in
      let less : removal_cmp p p ≡ Less = ap (removal_cmp p) one ∙ all_at p s.path ps (sorted_head removal_cmp p ps rise) s.inside in
      let k : Equal ≡ Less = sym (tied_itself removal_total p) ∙ less in cc),
  apart moment ps (λ q h. all q (later (same_path q p) h)) (sorted_tail removal_cmp p ps rise),
)
