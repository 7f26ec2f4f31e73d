-- The places of a tree differ, and each has its chunk.
use Rattle.std.proofs.Common.{◌≡◌, ◌∙◌, ◌+◌, ◌++◌, ◌≤◌, ◌&&◌, ◌||◌, ℕ, zero, suc, Bool, true, false, cond, T, List, [], ◌∷◌, refl, sym, ap, subst, arith}
use Rattle.std.specs.Prelude.{Some, ◌==◌, slice_get}
use Rattle.std.specs.FinMap.Entries.{below_all, is_sorted}
use Rattle.std.specs.Cmp.{tied_itself}
use Rattle.std.specs.List.{AllByRecursion, list_any}
use Rattle.std.specs.Ordering.{is_lt}
use Rattle.std.proofs.lemmas.Bool.{false≢true}
use Rattle.std.proofs.lemmas.Bool.Decides.{nat_tests}
use Rattle.std.proofs.lemmas.List.Folds.{list_any-append}
use Rattle.gs_path.specs.Path.{Path, path_cmp, path_total}
use Rattle.gs_tree.specs.Edits.{chunks_in, same_path}
use Rattle.gs_tree.specs.Entry.{Entry}
use Rattle.gs_tree.specs.Find.{Rows, at}
use Rattle.gs_edit.proofs.Tables.{same_itself, same_path-is}
use Rattle.gs_laws_plain.specs.commands.Places.{Place, places_from, places_in}

-- ---- lists

pub all_both : {A : Type 0} (P : A → Type 0) (xs ys : List A) → AllByRecursion P xs → AllByRecursion P ys → AllByRecursion P (xs ++ ys)
all_both P [] ys a b = b
all_both P (x ∷ xs) ys a b = (a.0, all_both P xs ys a.1 b)

pub all_weaker : {A : Type 0} (P Q : A → Type 0) (xs : List A) → ((x : A) → P x → Q x) → AllByRecursion P xs → AllByRecursion Q xs
all_weaker P Q [] f a = tt
all_weaker P Q (x ∷ xs) f a = (f x a.0, all_weaker P Q xs f a.1)

-- ---- places that differ

abbrev pub Differ : Place → Place → Type 0
Differ a b = a.path ≡ b.path → a.index ≡ b.index → ⊥

abbrev pub AreApart : List Place → Type 0
AreApart [] = Unit {0}
AreApart (place ∷ places) = AllByRecursion (Differ place) places × AreApart places

apart_both : (xs ys : List Place) → AreApart xs → AreApart ys → AllByRecursion (λ x. AllByRecursion (Differ x) ys) xs → AreApart (xs ++ ys)
apart_both [] ys a b c = b
apart_both (x ∷ xs) ys a b c = (all_both (Differ x) xs ys a.0 c.0, apart_both xs ys a.1 b c.1)

-- those of a file: at its path, from an index on
abbrev IsFrom : Path → ℕ → Place → Type 0
IsFrom p from place = (place.path ≡ p) × (from ≤ place.index)

from_there : (p : Path) (from : ℕ) (chunks : List ℕ) → AllByRecursion (IsFrom p from) (places_from p from chunks)
from_there p from [] = tt
from_there p from (chunk ∷ chunks) =
    ((refl, omega arith), all_weaker (IsFrom p (from + 1)) (IsFrom p from) (places_from p (from + 1) chunks) (λ place is. (is.0, (let h = is.1 in omega arith))) (from_there p (from + 1) chunks))

apart_from : (p : Path) (from : ℕ) (chunks : List ℕ) → AreApart (places_from p from chunks)
apart_from p from [] = tt
apart_from p from (chunk ∷ chunks) = (
  all_weaker (IsFrom p (from + 1)) (Differ (record { path = p; index = from; chunk = chunk })) (places_from p (from + 1) chunks) (λ place is same there. (let h = is.1 in absurd (omega arith))) (from_there p (from + 1) chunks),
  apart_from p (from + 1) chunks,
)

-- ---- those of rows that rise

parts : (a b : Bool) → T (a && b) → T a × T b
parts true b h = (tt, h)
parts false b h = absurd h

-- a path is before another, so they differ
before : (p q : Path) → T (is_lt (path_cmp p q)) → p ≡ q → ⊥
before p q less same = irreflexive p (subst (λ r. T (is_lt (path_cmp p r))) (sym same) less)
  where
    irreflexive : (r : Path) → T (is_lt (path_cmp r r)) → ⊥
    irreflexive r h = subst (λ o. T (is_lt o)) (tied_itself path_total r) h

abbrev NotAt : Path → Place → Type 0
NotAt p place = p ≡ place.path → ⊥

not_below : (p : Path) (rows : Rows ℕ) → T (below_all path_cmp p rows) → AllByRecursion (NotAt p) (places_in rows)
not_below p [] below = tt
not_below p (row ∷ rows) below =
    let both = parts (is_lt (path_cmp p row.0)) (below_all path_cmp p rows) below in
    all_both (NotAt p) (places_from row.0 0 (chunks_in (Some row.1))) (places_in rows)
    (all_weaker (IsFrom row.0 0) (NotAt p) (places_from row.0 0 (chunks_in (Some row.1))) (λ place is same. before p row.0 both.0 (same ∙ is.0)) (from_there row.0 0 (chunks_in (Some row.1))))
    (not_below p rows both.1)

pub apart_in : (rows : Rows ℕ) → T (is_sorted path_cmp rows) → AreApart (places_in rows)
apart_in [] sorted = tt
apart_in (row ∷ rows) sorted =
    let both = parts (below_all path_cmp row.0 rows) (is_sorted path_cmp rows) sorted in
    apart_both (places_from row.0 0 (chunks_in (Some row.1))) (places_in rows) (apart_from row.0 0 (chunks_in (Some row.1))) (apart_in rows both.1)
    (all_weaker (IsFrom row.0 0) (λ x. AllByRecursion (Differ x) (places_in rows)) (places_from row.0 0 (chunks_in (Some row.1)))
    (λ x is. all_weaker (NotAt row.0) (Differ x) (places_in rows) (λ y other same there. other (sym is.0 ∙ same)) (not_below row.0 rows both.0)) (from_there row.0 0 (chunks_in (Some row.1))))

-- ---- each has its chunk

abbrev pub HasIn : Rows ℕ → Place → Type 0
HasIn rows place = slice_get (chunks_in (at rows place.path)) place.index ≡ Some place.chunk

has_from : (all : List ℕ) (p : Path) (from : ℕ) (chunks : List ℕ) → ((place : ℕ) → slice_get chunks place ≡ slice_get all (from + place)) → AllByRecursion (λ place. slice_get all place.index ≡ Some place.chunk) (places_from p from chunks)
has_from all p from [] same = tt
has_from all p from (chunk ∷ chunks) same = (
  ap (slice_get all) (let e : from ≡ from + 0 = omega arith in e) ∙ sym (same 0),
  has_from all p (from + 1) chunks (λ place. same (suc place) ∙ ap (slice_get all) (let e : from + suc place ≡ from + 1 + place = omega arith in e)),
)

has_of : (p : Path) (all : List ℕ) → AllByRecursion (λ place. (place.path ≡ p) × (slice_get all place.index ≡ Some place.chunk)) (places_from p 0 all)
has_of p all = both (places_from p 0 all) (from_there p 0 all) (has_from all p 0 all (λ place. ap (slice_get all) (let e : place ≡ 0 + place = omega arith in e)))
  where
    both : (places : List Place) → AllByRecursion (IsFrom p 0) places → AllByRecursion (λ place. slice_get all place.index ≡ Some place.chunk) places → AllByRecursion (λ place. (place.path ≡ p) × (slice_get all place.index ≡ Some place.chunk)) places
    both [] a b = tt
    both (place ∷ places) a b = ((a.0.0, b.0), both places a.1 b.1)

pub at_first : (row : Path × Entry ℕ) (rows : Rows ℕ) → at (row ∷ rows) row.0 ≡ Some row.1
at_first row rows = ap (λ b. cond b (Some row.1) (at rows row.0)) (same_itself row.0)

pub at_other : (row : Path × Entry ℕ) (rows : Rows ℕ) (q : Path) → (row.0 ≡ q → ⊥) → at (row ∷ rows) q ≡ at rows q
at_other row rows q other = each (same_path q row.0) refl
  where
    each : (b : Bool) → same_path q row.0 ≡ b → cond b (Some row.1) (at rows q) ≡ at rows q
    each true h = absurd (other (sym (same_path-is q row.0 h)))
    each false h = refl

pub has_in : (rows : Rows ℕ) → T (is_sorted path_cmp rows) → AllByRecursion (HasIn rows) (places_in rows)
has_in [] sorted = tt
has_in (row ∷ rows) sorted =
    let ends = parts (below_all path_cmp row.0 rows) (is_sorted path_cmp rows) sorted in
    all_both (HasIn (row ∷ rows)) (places_from row.0 0 (chunks_in (Some row.1))) (places_in rows)
    (all_weaker (λ place. (place.path ≡ row.0) × (slice_get (chunks_in (Some row.1)) place.index ≡ Some place.chunk)) (HasIn (row ∷ rows)) (places_from row.0 0 (chunks_in (Some row.1)))
    (λ place is. ap (λ q. slice_get (chunks_in (at (row ∷ rows) q)) place.index) is.0 ∙ ap (λ v. slice_get (chunks_in v) place.index) (at_first row rows) ∙ is.1) (has_of row.0 (chunks_in (Some row.1))))
    (shifted (places_in rows) (not_below row.0 rows ends.0) (has_in rows ends.1))
  where
    shifted : (places : List Place) → AllByRecursion (NotAt row.0) places → AllByRecursion (HasIn rows) places → AllByRecursion (HasIn (row ∷ rows)) places
    shifted [] a b = tt
    shifted (place ∷ places) a b = (ap (λ v. slice_get (chunks_in v) place.index) (at_other row rows place.path a.0) ∙ b.0, shifted places a.1 b.1)

-- ---- and each chunk that stands is at one of them

abbrev pub is_at : Path → ℕ → Place → Bool
is_at p index place = same_path p place.path && (index == place.index)

found_from : (p : Path) (from index : ℕ) (chunks : List ℕ) (chunk : ℕ) → slice_get chunks index ≡ Some chunk → list_any (is_at p (from + index)) (places_from p from chunks) ≡ true
found_from p from index [] chunk is = absurd (cc)
found_from p from zero (c ∷ chunks) chunk is =
    ap (λ b. (b && (from + 0 == from)) || list_any (is_at p (from + 0)) (places_from p (from + 1) chunks)) (same_itself p)
    ∙ ap (λ b. b || list_any (is_at p (from + 0)) (places_from p (from + 1) chunks)) (here from)
  where
    here : (n : ℕ) → (n + 0 == n) ≡ true
    here n = grind (arith, nat_tests)
found_from p from (suc index) (c ∷ chunks) chunk is =
    or_later (is_at p (from + suc index) (record { path = p; index = from; chunk = c })) (ap (λ n. list_any (is_at p n) (places_from p (from + 1) chunks)) (let e : from + suc index ≡ from + 1 + index = omega arith in e) ∙ found_from p (from + 1) index chunks chunk is)
  where
    or_later : (b : Bool) {c : Bool} → c ≡ true → (b || c) ≡ true
    or_later true h = refl
    or_later false h = h

pub found_in : (rows : Rows ℕ) (p : Path) (index chunk : ℕ) → slice_get (chunks_in (at rows p)) index ≡ Some chunk → list_any (is_at p index) (places_in rows) ≡ true
found_in [] p index chunk is = absurd (cc)
found_in (row ∷ rows) p index chunk is = list_any-append (is_at p index) (places_from row.0 0 (chunks_in (Some row.1))) (places_in rows) ∙ each (λ h. found_in rows p index chunk h) (same_path p row.0) refl is
  where
    or_later : (b : Bool) {c : Bool} → c ≡ true → (b || c) ≡ true
    or_later true h = refl
    or_later false h = h

    or_first : (b c : Bool) → b ≡ true → (b || c) ≡ true
    or_first true c h = refl
    or_first false c h = absurd (false≢true h)

    each : (slice_get (chunks_in (at rows p)) index ≡ Some chunk → list_any (is_at p index) (places_in rows) ≡ true) → (b : Bool) → same_path p row.0 ≡ b → slice_get (chunks_in (cond b (Some row.1) (at rows p))) index ≡ Some chunk →
        (list_any (is_at p index) (places_from row.0 0 (chunks_in (Some row.1))) || list_any (is_at p index) (places_in rows)) ≡ true
    each others true same h =
        or_first (list_any (is_at p index) (places_from row.0 0 (chunks_in (Some row.1)))) (list_any (is_at p index) (places_in rows))
        (ap (λ q. list_any (is_at q index) (places_from row.0 0 (chunks_in (Some row.1)))) (same_path-is p row.0 same)
        ∙ ap (λ n. list_any (is_at row.0 n) (places_from row.0 0 (chunks_in (Some row.1)))) (let e : index ≡ 0 + index = omega arith in e) ∙ found_from row.0 0 index (chunks_in (Some row.1)) chunk h)
    each others false other h = or_later (list_any (is_at p index) (places_from row.0 0 (chunks_in (Some row.1)))) (others h)
