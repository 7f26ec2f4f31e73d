-- The chunks of a node's children, one after another, and that the rows of a node rise.
use Rattle.std.proofs.Common.{◌≡◌, ◌&&◌, ◌||◌, ◌++◌, ℕ, Bool, true, false, not, cond, T, List, [], ◌∷◌, refl, sym, ap, ◌∙◌, subst, append_assoc, append-nil}
use Rattle.std.specs.Prelude.{Some}
use Rattle.std.specs.declared.cmp.Ordering.TheVariants.{Less}
use Rattle.std.specs.Ordering.{is_lt, ordering_then}
use Rattle.std.specs.Cmp.Lexicographic.{nat_list_cmp_total}
use Rattle.std.proofs.lemmas.Cmp.{tied_itself}
use Rattle.std.proofs.lemmas.List.Elements.{filter-append}
use Rattle.std.specs.List.{AllByRecursion, list_any}
use Rattle.std.specs.List.Sorted.{IsStrictlySortedBy}
use Rattle.std.specs.Map.{keys_of}
use Rattle.std.specs.FinMap.{is_sorted}
use Rattle.std.specs.FinMap.Entries.{below_all}
use Rattle.gs_path.specs.Path.{Name, Path, path_cmp, name_cmp}
use Rattle.gs_path.specs.Element.{is_hidden}
use Rattle.gs_tree.specs.Entry.{Dir}
use Rattle.gs_tree.specs.Find.{Rows}
use Rattle.gs_tree.specs.Rows.{under, joined}
use Rattle.gs_tree.specs.Edits.{chunks_in}
use Rattle.gs_tree.specs.Chunks.{all_chunks, kept_rows}
use Rattle.gs_tree.specs.Build.{prefixed}

pub both : (a b : Bool) → T a → T b → T (a && b)
both true b p q = q
both false b p q = absurd p

pub first : (a b : Bool) → T (a && b) → T a
first true b p = tt
first false b p = absurd p

pub second : (a b : Bool) → T (a && b) → T b
second true b p = p
second false b p = absurd p

pub is_true : (b : Bool) → T b → b ≡ true
is_true true h = refl
is_true false h = absurd h

pub from_true : (b : Bool) → b ≡ true → T b
from_true b h = subst T (sym h) tt

pub all_chunks-append : {A : Type 0} (a b : Rows A) → all_chunks (a ++ b) ≡ all_chunks a ++ all_chunks b
all_chunks-append [] b = refl
all_chunks-append (r ∷ a) b = ap (λ l. chunks_in (Some r.1) ++ l) (all_chunks-append a b) ∙ sym (append_assoc (chunks_in (Some r.1)) (all_chunks a) (all_chunks b))

pub all_chunks-prefixed : {A : Type 0} (p : Path) (rows : Rows A) → all_chunks (prefixed p rows) ≡ all_chunks rows
all_chunks-prefixed p [] = refl
all_chunks-prefixed p (r ∷ rows) = ap (λ l. chunks_in (Some r.1) ++ l) (all_chunks-prefixed p rows)

pub under-prefixed : (n : Name) (rows : Rows ℕ) → under n rows ≡ prefixed (n ∷ []) rows
under-prefixed n [] = refl
under-prefixed n (r ∷ rows) = ap (λ l. (n ∷ r.0, r.1) ∷ l) (under-prefixed n rows)

pub cmp-prefixed : (p a b : Path) → path_cmp (p ++ a) (p ++ b) ≡ path_cmp a b
cmp-prefixed [] a b = refl
cmp-prefixed (x ∷ p) a b = ap (λ o. ordering_then o (path_cmp (p ++ a) (p ++ b))) (tied_itself nat_list_cmp_total x) ∙ cmp-prefixed p a b

below-prefixed : {A : Type 0} (p q : Path) (rows : Rows A) → below_all path_cmp (p ++ q) (prefixed p rows) ≡ below_all path_cmp q rows
below-prefixed p q [] = refl
below-prefixed p q (r ∷ rows) = ap (λ o. is_lt o && below_all path_cmp (p ++ q) (prefixed p rows)) (cmp-prefixed p q r.0) ∙ ap (λ b. is_lt (path_cmp q r.0) && b) (below-prefixed p q rows)

pub sorted-prefixed : {A : Type 0} (p : Path) (rows : Rows A) → is_sorted path_cmp (prefixed p rows) ≡ is_sorted path_cmp rows
sorted-prefixed p [] = refl
sorted-prefixed p (r ∷ rows) = ap (λ b. b && is_sorted path_cmp (prefixed p rows)) (below-prefixed p r.0 rows) ∙ ap (λ b. below_all path_cmp r.0 rows && b) (sorted-prefixed p rows)

below-append : {A : Type 0} (q : Path) (a b : Rows A) → T (below_all path_cmp q a) → T (below_all path_cmp q b) → T (below_all path_cmp q (a ++ b))
below-append q [] b g h = h
below-append q (r ∷ a) b g h = both (is_lt (path_cmp q r.0)) (below_all path_cmp q (a ++ b)) (first (is_lt (path_cmp q r.0)) (below_all path_cmp q a) g) (below-append q a b (second (is_lt (path_cmp q r.0)) (below_all path_cmp q a) g) h)

-- rows that rise, before others that rise and are all above them
sorted-append : {A : Type 0} (n : Name) (a b : Rows A) → T (is_sorted path_cmp (prefixed (n ∷ []) a)) → T (is_sorted path_cmp b) → ((q : Path) → T (below_all path_cmp (n ∷ q) b)) → T (is_sorted path_cmp (prefixed (n ∷ []) a ++ b))
sorted-append n [] b g h above = h
sorted-append n (r ∷ a) b g h above =
    let front = below_all path_cmp (n ∷ r.0) (prefixed (n ∷ []) a) in
    let rest = is_sorted path_cmp (prefixed (n ∷ []) a) in
    both (below_all path_cmp (n ∷ r.0) (prefixed (n ∷ []) a ++ b)) (is_sorted path_cmp (prefixed (n ∷ []) a ++ b)) (below-append (n ∷ r.0) (prefixed (n ∷ []) a) b (first front rest g) (above r.0)) (sorted-append n a b (second front rest g) h above)

-- what is kept of the children, one after another
abbrev pub kept_joined : Bool → List (Name × Rows ℕ) → Rows ℕ
kept_joined all [] = []
kept_joined all (e ∷ es) = cond (not all && is_hidden e.0) (kept_joined all es) (under e.0 (kept_rows all e.1) ++ kept_joined all es)

pub kept-all : (rows : Rows ℕ) → kept_rows true rows ≡ rows
kept-all [] = refl
kept-all (r ∷ rows) = ap (λ l. r ∷ l) (kept-all rows)

kept-under : (all : Bool) (n : Name) (rows : Rows ℕ) → kept_rows all (under n rows) ≡ cond (not all && is_hidden n) [] (under n (kept_rows all rows))
kept-under true n rows = kept-all (under n rows) ∙ sym (ap (under n) (kept-all rows))
kept-under false n [] = elim (is_hidden n) as (λ b. [] ≡ cond b [] (under n [])) [ true ↦ refl | false ↦ refl ]
kept-under false n (r ∷ rows) =
    let rest = under n (kept_rows false rows) in
    let hid = list_any is_hidden r.0 in
    ap (λ l. cond (not (is_hidden n || hid)) ((n ∷ r.0, r.1) ∷ l) l) (kept-under false n rows)
    ∙ elim (is_hidden n) as (λ b. cond (not (b || hid)) ((n ∷ r.0, r.1) ∷ cond b [] rest) (cond b [] rest) ≡ cond b [] (under n (cond (not hid) (r ∷ kept_rows false rows) (kept_rows false rows)))) [
      | true ↦ refl
      | false ↦ elim hid as (λ h. cond (not h) ((n ∷ r.0, r.1) ∷ rest) rest ≡ under n (cond (not h) (r ∷ kept_rows false rows) (kept_rows false rows))) [ true ↦ refl | false ↦ refl ]
    ]

kept-joined : (all : Bool) (es : List (Name × Rows ℕ)) → kept_rows all (joined es) ≡ kept_joined all es
kept-joined all [] = refl
kept-joined all (e ∷ es) =
    filter-append (λ r. not (not all && list_any is_hidden r.0)) (under e.0 e.1) (joined es)
    ∙ ap (λ l. l ++ kept_rows all (joined es)) (kept-under all e.0 e.1) ∙ ap (λ l. cond (not all && is_hidden e.0) [] (under e.0 (kept_rows all e.1)) ++ l) (kept-joined all es)
    ∙ elim (not all && is_hidden e.0) as (λ b. cond b [] (under e.0 (kept_rows all e.1)) ++ kept_joined all es ≡ cond b (kept_joined all es) (under e.0 (kept_rows all e.1) ++ kept_joined all es)) [ true ↦ refl | false ↦ refl ]

pub kept-dir : (all : Bool) (es : List (Name × Rows ℕ)) → kept_rows all (([], Dir) ∷ joined es) ≡ ([], Dir) ∷ kept_joined all es
kept-dir true es = ap (λ l. ([], Dir) ∷ l) (kept-joined true es)
kept-dir false es = ap (λ l. ([], Dir) ∷ l) (kept-joined false es)

-- the rows of each child that is kept rise
abbrev pub EachRises : Bool → List (Name × Rows ℕ) → Type 0
EachRises all [] = Unit {0}
EachRises all (e ∷ es) = ((not all && is_hidden e.0) ≡ false → is_sorted path_cmp (kept_rows all e.1) ≡ true) × EachRises all es

below-other : (x y : Name) (q : Path) (rows : Rows ℕ) → name_cmp x y ≡ Less → T (below_all path_cmp (x ∷ q) (under y rows))
below-other x y q [] h = tt
below-other x y q (r ∷ rows) h = both (is_lt (path_cmp (x ∷ q) (y ∷ r.0))) (below_all path_cmp (x ∷ q) (under y rows)) (subst (λ o. T (is_lt (ordering_then o (path_cmp q r.0)))) (sym h) tt) (below-other x y q rows h)

below-joined : (all : Bool) (x : Name) (q : Path) (es : List (Name × Rows ℕ)) → AllByRecursion (λ y. name_cmp x y ≡ Less) (keys_of es) → T (below_all path_cmp (x ∷ q) (kept_joined all es))
below-joined all x q [] h = tt
below-joined all x q (e ∷ es) h =
    let rest = below-joined all x q es h.1 in
    elim (not all && is_hidden e.0) as (λ b. T (below_all path_cmp (x ∷ q) (cond b (kept_joined all es) (under e.0 (kept_rows all e.1) ++ kept_joined all es)))) [
      | true ↦ rest
      | false ↦ below-append (x ∷ q) (under e.0 (kept_rows all e.1)) (kept_joined all es) (below-other x e.0 q (kept_rows all e.1) h.0) rest
    ]

sorted-joined : (all : Bool) (es : List (Name × Rows ℕ)) → IsStrictlySortedBy name_cmp (keys_of es) → EachRises all es → T (is_sorted path_cmp (kept_joined all es))
unfolding IsStrictlySortedBy
sorted-joined all [] h each = tt
sorted-joined all (e ∷ es) h each =
    let rest = sorted-joined all es h.1 each.1 in
    elim (not all && is_hidden e.0) as (λ b. (not all && is_hidden e.0) ≡ b → T (is_sorted path_cmp (cond b (kept_joined all es) (under e.0 (kept_rows all e.1) ++ kept_joined all es)))) [
      | true ↦ λ b. rest
      | false ↦ λ b. subst (λ l. T (is_sorted path_cmp (l ++ kept_joined all es))) (sym (under-prefixed e.0 (kept_rows all e.1)))
          (sorted-append e.0 (kept_rows all e.1) (kept_joined all es) (from_true (is_sorted path_cmp (prefixed (e.0 ∷ []) (kept_rows all e.1))) (sorted-prefixed (e.0 ∷ []) (kept_rows all e.1) ∙ each.0 b)) rest (λ q. below-joined all e.0 q es h.0))
    ] refl

below-root : (all : Bool) (es : List (Name × Rows ℕ)) → T (below_all path_cmp [] (kept_joined all es))
below-root all [] = tt
below-root all (e ∷ es) =
    let rest = below-root all es in
    elim (not all && is_hidden e.0) as (λ b. T (below_all path_cmp [] (cond b (kept_joined all es) (under e.0 (kept_rows all e.1) ++ kept_joined all es)))) [
      | true ↦ rest
      | false ↦ below-append [] (under e.0 (kept_rows all e.1)) (kept_joined all es) (child (kept_rows all e.1)) rest
    ]
  where
    child : (rows : Rows ℕ) → T (below_all path_cmp [] (under e.0 rows))
    child [] = tt
    child (r ∷ rows) = child rows

pub rows-rise : (all : Bool) (es : List (Name × Rows ℕ)) → IsStrictlySortedBy name_cmp (keys_of es) → EachRises all es → is_sorted path_cmp (kept_rows all (([], Dir) ∷ joined es)) ≡ true
rows-rise all es h each =
    ap (is_sorted path_cmp) (kept-dir all es)
    ∙ is_true (below_all path_cmp [] (kept_joined all es) && is_sorted path_cmp (kept_joined all es)) (both (below_all path_cmp [] (kept_joined all es)) (is_sorted path_cmp (kept_joined all es)) (below-root all es) (sorted-joined all es h each))

-- the loop over the children: what was found with what is left is all, and the rows of all rise if those of what is left do
pub record Gathered (keep : Bool) (all left : List (Name × Rows ℕ)) (before found : List ℕ) : Type 0 where
  pub chunks : found ++ all_chunks (kept_joined keep left) ≡ before ++ all_chunks (kept_joined keep all)
  pub rise : EachRises keep left → EachRises keep all

pub gathered-more : (keep : Bool) (all : List (Name × Rows ℕ)) (e : Name × Rows ℕ) (left : List (Name × Rows ℕ)) (before found new : List ℕ) → (not keep && is_hidden e.0) ≡ false → new ≡ found ++ all_chunks (kept_rows keep e.1) → is_sorted path_cmp (kept_rows keep e.1) ≡ true → Gathered keep all (e ∷ left) before found → Gathered keep all left before new
gathered-more keep all e left before found new seen is rise h = record {
  chunks = ap (λ l. l ++ all_chunks (kept_joined keep left)) is ∙ append_assoc found (all_chunks (kept_rows keep e.1)) (all_chunks (kept_joined keep left))
      ∙ ap (λ l. found ++ l) (sym (step ∙ ap (λ l. l ++ all_chunks (kept_joined keep left)) child))
      ∙ sym (ap (λ b. found ++ all_chunks (cond b (kept_joined keep left) (under e.0 (kept_rows keep e.1) ++ kept_joined keep left))) seen) ∙ h.chunks;
  rise = λ each. h.rise ((λ _. rise), each);
}
  where
    step : all_chunks (under e.0 (kept_rows keep e.1) ++ kept_joined keep left) ≡ all_chunks (under e.0 (kept_rows keep e.1)) ++ all_chunks (kept_joined keep left)
    step = all_chunks-append (under e.0 (kept_rows keep e.1)) (kept_joined keep left)

    child : all_chunks (under e.0 (kept_rows keep e.1)) ≡ all_chunks (kept_rows keep e.1)
    child = ap all_chunks (under-prefixed e.0 (kept_rows keep e.1)) ∙ all_chunks-prefixed (e.0 ∷ []) (kept_rows keep e.1)

pub gathered-all : (keep : Bool) (all : List (Name × Rows ℕ)) (before found : List ℕ) → Gathered keep all [] before found → found ≡ before ++ all_chunks (kept_rows keep (([], Dir) ∷ joined all))
gathered-all keep all before found h = sym (append-nil found) ∙ h.chunks ∙ sym (ap (λ rows. before ++ all_chunks rows) (kept-dir keep all))
