-- A table has what its tree has at the paths that it was made of.
use Rattle.std.proofs.Common.{◌≡◌, ◌++◌, ◌||◌, ℕ, Bool, true, false, cond, T, List, [], ◌∷◌, map, refl, sym, ap, ◌∙◌}
use Rattle.std.specs.Prelude.{Option, Some, None, is_some}
use Rattle.std.proofs.lemmas.List.Folds.{list_any-append}
use Rattle.std.specs.List.{list_any}
use Rattle.std.specs.Cmp.{Equal-is, eq_by_cmp_equiv}
use Rattle.std.specs.FinMap.{FinMap, get, entries, get-entries, entries_sorted, is_sorted, IsAntisymmetric, same_map, slice_cmp-IsAntisymmetric, nat_cmp-IsAntisymmetric}
use Rattle.std.specs.FinMap.Entries.{is_sorted-put, find-put, is_some-find, same_entries}
use Rattle.gs_path.specs.Path.{Path, path_cmp, path_total}
use Rattle.gs_tree.specs.Entry.{Entry}
use Rattle.gs_tree.specs.Plain.{Plain, Same}
use Rattle.gs_tree.specs.Find.{Rows, at}
use Rattle.gs_tree.specs.Edits.{same_path}
use Rattle.gs_edit.specs.Table.{table, with_row, paths_of}

pub paths_antisymmetric : IsAntisymmetric path_cmp
paths_antisymmetric = slice_cmp-IsAntisymmetric (slice_cmp-IsAntisymmetric nat_cmp-IsAntisymmetric)

pub same_itself : (p : Path) → same_path p p ≡ true
same_itself p = (eq_by_cmp_equiv path_total).refl p

pub same_path-is : (p q : Path) → same_path p q ≡ true → p ≡ q
same_path-is p q e = paths_antisymmetric p q ((Equal-is (path_cmp p q)).0 e)

-- whether a path is one of these
abbrev pub among : List Path → Path → Bool
among ps q = list_any (same_path q) ps

-- something stands at these paths alone
abbrev pub Covers : {A : Type 0} → List Path → Plain A → Type 0
Covers ps m = (q : Path) → is_some (m q) ≡ true → among ps q ≡ true

pub later : (b : Bool) {c : Bool} → c ≡ true → (b || c) ≡ true
later true h = refl
later false h = h

pub among-left : (ps qs : List Path) (q : Path) → among ps q ≡ true → among (ps ++ qs) q ≡ true
among-left ps qs q h = list_any-append (same_path q) ps qs ∙ ap (λ b. b || among qs q) h

pub among-right : (ps qs : List Path) (q : Path) → among qs q ≡ true → among (ps ++ qs) q ≡ true
among-right ps qs q h = list_any-append (same_path q) ps qs ∙ later (among ps q) h

pub among-map : (f : Path → Path) (ps : List Path) (q : Path) → among ps q ≡ true → among (map f ps) (f q) ≡ true
among-map f [] q h = absurd (cc)
among-map f (p ∷ ps) q h =
    elim (same_path q p) as (λ b. same_path q p ≡ b → (b || among ps q) ≡ true → (same_path (f q) (f p) || among (map f ps) (f q)) ≡ true) [
      | true ↦ λ b k. ap (λ s. s || among (map f ps) (f q)) (ap (λ r. same_path (f q) (f r)) (sym (same_path-is q p b)) ∙ same_itself (f q))
      | false ↦ λ b k. later (same_path (f q) (f p)) (among-map f ps q k)
    ] refl h

pub among-paths_of : {A : Type 0} (rows : Rows A) (q : Path) → is_some (at rows q) ≡ true → among (paths_of rows) q ≡ true
among-paths_of rows q h = sym (is_some-find path_cmp q rows) ∙ h

nothing : {A : Type 0} (b : Bool) → ◌≡◌ {A = Option (Entry A)} (cond b None None) None
nothing true = refl
nothing false = refl

found_here : {A : Type 0} (m : Plain A) (p q : Path) (ps : List Path) (v : Option (Entry A)) → m p ≡ v → at (table ps m) q ≡ cond (among ps q) (m q) None → at (with_row p v (table ps m)) q ≡ cond (among (p ∷ ps) q) (m q) None
found_here m p q ps None e h =
    elim (same_path q p) as (λ b. same_path q p ≡ b → at (table ps m) q ≡ cond (b || among ps q) (m q) None) [
      | true ↦ λ b. let none : m q ≡ None = ap m (same_path-is q p b) ∙ e in h ∙ ap (λ v. cond (among ps q) v None) none ∙ nothing (among ps q) ∙ sym none
      | false ↦ λ b. h
    ] refl
found_here m p q ps (Some a) e h =
    find-put path_cmp path_total q p a (table ps m)
    ∙ elim (same_path q p) as (λ b. same_path q p ≡ b → cond b (Some a) (at (table ps m) q) ≡ cond (b || among ps q) (m q) None) [
      | true ↦ λ b. sym (ap m (same_path-is q p b) ∙ e)
      | false ↦ λ b. h
    ] refl

pub at-table : {A : Type 0} (ps : List Path) (m : Plain A) (q : Path) → at (table ps m) q ≡ cond (among ps q) (m q) None
at-table [] m q = refl
at-table (p ∷ ps) m q = found_here m p q ps (m p) refl (at-table ps m q)

missed : {A : Type 0} (ps : List Path) (q : Path) (v : Option (Entry A)) → (is_some v ≡ true → among ps q ≡ true) → cond (among ps q) v None ≡ v
missed ps q None h = nothing (among ps q)
missed ps q (Some a) h = ap (λ b. cond b (Some a) None) (h refl)

-- a table over all paths at which something stands
pub at-covering : {A : Type 0} (ps : List Path) (m : Plain A) → Covers ps m → Same (at (table ps m)) m
at-covering ps m c q = at-table ps m q ∙ missed ps q (m q) (c q)

pub sorted-table : {A : Type 0} (ps : List Path) (m : Plain A) → T (is_sorted path_cmp (table ps m))
sorted-table [] m = tt
sorted-table {A = A} (p ∷ ps) m = one (m p) (sorted-table ps m)
  where
    one : (v : Option (Entry A)) → T (is_sorted path_cmp (table ps m)) → T (is_sorted path_cmp (with_row p v (table ps m)))
    one None h = h
    one (Some a) h = is_sorted-put path_cmp path_total p a (table ps m) h

-- a map's rows are the table of what it has
pub table-entries : (ps : List Path) (m : Plain ℕ) (n : FinMap path_cmp (Entry ℕ)) → Covers ps m → Same (get n) m → table ps m ≡ entries n
table-entries ps m n c same =
    same_entries path_cmp path_total paths_antisymmetric (table ps m) (entries n) (sorted-table ps m) (entries_sorted n)
    (λ q. at-covering ps m c q ∙ sym (same q) ∙ get-entries n q)

pub seen : (n : FinMap path_cmp (Entry ℕ)) → get n ≡ at (entries n)
seen n = λ i q. get-entries n q i

pub entries-same : (m n : FinMap path_cmp (Entry ℕ)) → Same (get m) (get n) → entries m ≡ entries n
entries-same m n h = ap entries (same_map path_total paths_antisymmetric m n h)
