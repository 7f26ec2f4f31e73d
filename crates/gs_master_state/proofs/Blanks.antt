-- Directories in a row, at the end one or a file without chunks, as rows.
use Rattle.std.proofs.Common.{◌≡◌, ◌≤◌, ◌<◌, ◌+◌, ◌⊎◌, inl, inr, ◌++◌, ◌&&◌, ◌||◌, ℕ, Bool, true, false, cond, List, [], ◌∷◌, filter, length, refl, sym, ap, ◌∙◌, append_assoc, append-nil, length-append, arith}
use Rattle.std.specs.Prelude.{Some, None, nat_lt, nat_le}
use Rattle.std.specs.Cmp.Lexicographic.{nat_list_cmp_total}
use Rattle.std.specs.FinMap as fin
use Rattle.std.specs.FinMap.Entries.{below_all, find-where_key, is_sorted}
use Rattle.std.specs.Ordering.{is_eq, ordering_then}
use Rattle.std.proofs.lemmas.Cmp.{tied_itself}
use Rattle.std.proofs.lemmas.List.{length-take-le, take-append-drop}
use Rattle.std.proofs.lemmas.Bool.{false≢true, and_parts, lt-ltb, ltb-true, leb-true, le-leb}
use Rattle.gs_path.specs.Path.{Name, Path, path_cmp, same_name, begins}
use Rattle.gs_tree.specs.Build.{prefixed}
use Rattle.gs_tree.specs.Chunks.{rows_under}
use Rattle.gs_tree.specs.Edits.{same_path, is_dir}
use Rattle.gs_tree.specs.Entry.{Entry, Dir, File}
use Rattle.gs_tree.specs.Find.{Rows, at}
use Rattle.gs_tree.specs.Inverses.{IsBlank, IsBlankRow, below_first, first_made, row_of}
use Rattle.gs_tree.specs.Lists.{fronts_below, made_paths}
use Rattle.gs_tree.specs.Plain.{after, part_at}
use Rattle.gs_tree.specs.declared.inverse.TreeInverse.TheVariants.{Made}
use Rattle.gs_tree.proofs.Depths.{paths_antisymmetric}
use Rattle.gs_tree.proofs.Gathering.{sorted-prefixed}
use Rattle.gs_tree.proofs.Laws.{after_append, begins_append}
use Rattle.gs_tree.proofs.Levels.{both_true, never}
use Rattle.gs_tree.proofs.Regions.{rows_under-part}
use Rattle.gs_tree.proofs.Splice.{one_name}
use Rattle.gs_tree.proofs.Under.{at-prefixed}
use Rattle.gs_edit.proofs.Tables.{same_itself, same_path-is, seen}
use Rattle.gs_master_spec.specs.Undoing.{are_blank, fits_rows, is_blank}

-- ---- the rows

abbrev row_rows : Path → Entry ℕ → Rows ℕ
row_rows [] e = ([], e) ∷ []
row_rows (x ∷ q) e = ([], Dir) ∷ prefixed (x ∷ []) (row_rows q e)

one_part : (x y : Name) (p q : Path) → x ∷ p ≡ y ∷ q → x ≡ y
one_part x y p q e = cc

name_itself : (x : Name) → same_name x x ≡ true
name_itself x = ap is_eq (tied_itself nat_list_cmp_total x)

other_name : (x y : Name) → same_name x y ≡ false → same_name y x ≡ false
other_name x y h = never (same_name y x) (λ e. false≢true (sym h ∙ ap (λ z. same_name x z) (one_name y x e) ∙ name_itself x))

other_path : (x y : Name) (q s : Path) → same_name x y ≡ false → same_path (x ∷ q) (y ∷ s) ≡ false
other_path x y q s h = never (same_path (x ∷ q) (y ∷ s)) (λ e. false≢true (sym h ∙ ap (same_name x) (sym (one_part x y q s (same_path-is (x ∷ q) (y ∷ s) e))) ∙ name_itself x))

row_more : (x : Name) (q : Path) (e : Entry ℕ) (s : Path) → row_of (x ∷ q) e (x ∷ s) ≡ row_of q e s
row_more x q e s =
    ap (λ b. cond b (Some e) (cond (same_name x x && begins s q) (Some Dir) None)) (ap (λ o. is_eq (ordering_then o (path_cmp q s))) (tied_itself nat_list_cmp_total x))
    ∙ ap (λ b. cond (same_path q s) (Some e) (cond (b && begins s q) (Some Dir) None)) (name_itself x)

at_row : (q : Path) (e : Entry ℕ) (s : Path) → at (row_rows q e) s ≡ row_of q e s
at_row [] e [] = refl
at_row [] e (y ∷ s) = refl
at_row (x ∷ q) e [] = refl
at_row (x ∷ q) e (y ∷ s) = at-prefixed (x ∷ []) (y ∷ s) (row_rows q e) ∙ each (at_row q e s) (same_name x y) refl
  where
    each : at (row_rows q e) s ≡ row_of q e s → (b : Bool) → same_name x y ≡ b → cond (b && true) (at (row_rows q e) s) None ≡ row_of (x ∷ q) e (y ∷ s)
    each rest true is = rest ∙ sym (row_more x q e s) ∙ ap (λ z. row_of (x ∷ q) e (z ∷ s)) (one_name x y is)
    each rest false is = sym (
        ap (λ b. cond b (Some e) (cond (same_name y x && begins s q) (Some Dir) None)) (other_path x y q s is)
        ∙ ap (λ b. cond (b && begins s q) (Some Dir) None) (other_name x y is))

below_row : (x : Name) (rows : Rows ℕ) → below_all path_cmp [] (prefixed (x ∷ []) rows) ≡ true
below_row x [] = refl
below_row x (r ∷ rows) = below_row x rows

sorted_row : (q : Path) (e : Entry ℕ) → is_sorted path_cmp (row_rows q e) ≡ true
sorted_row [] e = refl
sorted_row (x ∷ q) e = ap (λ b. b && is_sorted path_cmp (prefixed (x ∷ []) (row_rows q e))) (below_row x (row_rows q e)) ∙ sorted-prefixed (x ∷ []) (row_rows q e) ∙ sorted_row q e

prefixed_twice : (p : Path) (x : Name) (rows : Rows ℕ) → prefixed p (prefixed (x ∷ []) rows) ≡ prefixed (p ++ x ∷ []) rows
prefixed_twice p x [] = refl
prefixed_twice p x (r ∷ rows) = λ i. (sym (append_assoc p (x ∷ []) r.0) i, r.1) ∷ prefixed_twice p x rows i

-- ---- which rows are blank

dir_more : (p : Path) (rest : Rows ℕ) (q : Path) (paths : List Path) → are_blank ((p, Dir) ∷ rest) (q ∷ paths) ≡ same_path p q && are_blank rest paths
dir_more p [] q [] = refl
dir_more p [] q (s ∷ paths) = and_false (same_path p q)
  where
    and_false : (b : Bool) → false ≡ b && false
    and_false true = refl
    and_false false = refl
dir_more p (r ∷ rest) q paths = refl

blank_is : (e : Entry ℕ) → IsBlank e → is_blank e ≡ true
blank_is Dir b = refl
blank_is (File []) b = refl
blank_is (File (x ∷ xs)) b = absurd b

is_blank_of : (e : Entry ℕ) → is_blank e ≡ true → IsBlank e
is_blank_of Dir b = tt
is_blank_of (File []) b = tt
is_blank_of (File (x ∷ xs)) b = false≢true b

own_path : (p : Path) → same_path (p ++ []) p ≡ true
own_path p = ap (λ q. same_path q p) (append-nil p) ∙ same_itself p

blank_of : (p q : Path) (e : Entry ℕ) → IsBlank e → are_blank (prefixed p (row_rows q e)) (p ∷ fronts_below p q) ≡ true
blank_of p [] e b = both_true (same_path (p ++ []) p) (is_blank e) (own_path p) (blank_is e b)
blank_of p (x ∷ q) e b =
    dir_more (p ++ []) (prefixed p (prefixed (x ∷ []) (row_rows q e))) p (fronts_below p (x ∷ q))
    ∙ both_true (same_path (p ++ []) p) (are_blank (prefixed p (prefixed (x ∷ []) (row_rows q e))) (fronts_below p (x ∷ q))) (own_path p)
    (ap (λ rows. are_blank rows (fronts_below p (x ∷ q))) (prefixed_twice p x (row_rows q e)) ∙ blank_of (p ++ x ∷ []) q e b)

dir_of : (e : Entry ℕ) → is_dir (Some e) ≡ true → e ≡ Dir
dir_of Dir h = refl
dir_of (File chunks) h = absurd (false≢true h)

-- blank rows at a path and the paths below it
abbrev BlankRows : Path → Path → Rows ℕ → Type 0
BlankRows p q rows = (e : Entry ℕ) × (IsBlank e × (rows ≡ prefixed p (row_rows q e)))

row_at : (p : Path) (r : Path × Entry ℕ) (e : Entry ℕ) → same_path r.0 p ≡ true → r.1 ≡ e → r ≡ (p ++ [], e)
row_at p r e is same = λ i. ((same_path-is r.0 p is ∙ sym (append-nil p)) i, same i)

of_blank : (p q : Path) (rows : Rows ℕ) → are_blank rows (p ∷ fronts_below p q) ≡ true → BlankRows p q rows
of_blank p q [] h = absurd (false≢true h)
of_blank p [] (r ∷ []) h =
    let parts = and_parts (same_path r.0 p) (is_blank r.1) h in
    (r.1, (is_blank_of r.1 parts.1, ap (λ s. s ∷ []) (row_at p r r.1 parts.0 refl)))
of_blank p [] (r ∷ s ∷ rows) h =
    absurd (false≢true (and_parts (is_dir (Some r.1)) false (and_parts (same_path r.0 p) (is_dir (Some r.1) && false) h).1).1)
of_blank p (x ∷ q) (r ∷ []) h = absurd (false≢true h)
of_blank p (x ∷ q) (r ∷ s ∷ rows) h =
    let one = and_parts (same_path r.0 p) (is_dir (Some r.1) && are_blank (s ∷ rows) (fronts_below p (x ∷ q))) h in
    let two = and_parts (is_dir (Some r.1)) (are_blank (s ∷ rows) (fronts_below p (x ∷ q))) one.1 in
    more (of_blank (p ++ x ∷ []) q (s ∷ rows) two.1) (row_at p r Dir one.0 (dir_of r.1 two.0))
  where
    more : BlankRows (p ++ x ∷ []) q (s ∷ rows) → r ≡ (p ++ [], Dir) → BlankRows p (x ∷ q) (r ∷ s ∷ rows)
    more (e, (b, is)) own = (e, (b, λ i. own i ∷ (is ∙ sym (prefixed_twice p x (row_rows q e))) i))

-- ---- the paths that were made

one_longer : (p : Path) (x : Name) → length (p ++ x ∷ []) ≡ length p + 1
one_longer p x = let l = length-append p (x ∷ []) in omega arith

longer_kept : (n : ℕ) (p q : Path) → n ≤ length p → filter (λ f. nat_lt n (length f)) (fronts_below p q) ≡ fronts_below p q
longer_kept n p [] h = refl
longer_kept n p (x ∷ q) h =
    let l = one_longer p x in
    ap (λ b. cond b ((p ++ x ∷ []) ∷ filter (λ f. nat_lt n (length f)) (fronts_below (p ++ x ∷ []) q)) (filter (λ f. nat_lt n (length f)) (fronts_below (p ++ x ∷ []) q))) (lt-ltb n (length (p ++ x ∷ [])) (omega arith))
    ∙ ap (λ r. (p ++ x ∷ []) ∷ r) (longer_kept n (p ++ x ∷ []) q (omega arith))

first_kept : (n : ℕ) (a : Path) (x : Name) (f q : Path) → length a + length (x ∷ f) ≡ n + 1 → filter (λ g. nat_lt n (length g)) (fronts_below a ((x ∷ f) ++ q)) ≡ (a ++ x ∷ f) ∷ fronts_below (a ++ x ∷ f) q
first_kept n a x [] q h =
    let l = one_longer a x in
    ap (λ b. cond b ((a ++ x ∷ []) ∷ filter (λ g. nat_lt n (length g)) (fronts_below (a ++ x ∷ []) q)) (filter (λ g. nat_lt n (length g)) (fronts_below (a ++ x ∷ []) q))) (lt-ltb n (length (a ++ x ∷ [])) (omega arith))
    ∙ ap (λ r. (a ++ x ∷ []) ∷ r) (longer_kept n (a ++ x ∷ []) q (omega arith))
first_kept n a x (y ∷ f) q h =
    let l = one_longer a x in
    let rest = filter (λ g. nat_lt n (length g)) (fronts_below (a ++ x ∷ []) ((y ∷ f) ++ q)) in
    ap (λ b. cond b ((a ++ x ∷ []) ∷ rest) rest) (never (nat_lt n (length (a ++ x ∷ []))) (λ t. let s = ltb-true n (length (a ++ x ∷ [])) t in omega arith))
    ∙ first_kept n (a ++ x ∷ []) y f q (omega arith)
    ∙ (λ i. append_assoc a (x ∷ []) (y ∷ f) i ∷ fronts_below (append_assoc a (x ∷ []) (y ∷ f) i) q)

some_kept : (n : ℕ) (f q : Path) → length f ≡ n + 1 → made_paths (f ++ q) n ≡ f ∷ fronts_below f q
some_kept n [] q h = absurd (omega arith)
some_kept n (x ∷ f) q h = first_kept n [] x f q (omega arith)

-- ---- what was made

record Split (n : ℕ) (path : Path) : Type 0 where
  whole : first_made path n ++ below_first path n ≡ path
  size : length (first_made path n) ≡ n + 1

split : (n : ℕ) (path : Path) → n < length path → Split n path
split n path h = record { whole = take-append-drop (n + 1) path; size = length-take-le (n + 1) path (omega arith) }

paths_made : (n : ℕ) (path : Path) → n < length path → made_paths path n ≡ first_made path n ∷ fronts_below (first_made path n) (below_first path n)
paths_made n path h =
    let s = split n path h in
    ap (λ p. made_paths p n) (sym s.whole) ∙ some_kept n (first_made path n) (below_first path n) s.size

-- at a path and below it, the rows have what stands there
at_under : (p : Path) (rows : Rows ℕ) (q : Path) → at (rows_under p rows) (p ++ q) ≡ at rows (p ++ q)
at_under p rows q =
    find-where_key path_cmp (begins p) (p ++ q) (λ x e. ap (begins p) (sym (paths_antisymmetric (p ++ q) x e))) rows
    ∙ ap (λ b. cond b (at rows (p ++ q)) None) (begins_append p q)

at_behind : (p q : Path) (rows : Rows ℕ) → at (prefixed p rows) (p ++ q) ≡ at rows q
at_behind p q rows =
    at-prefixed p (p ++ q) rows ∙ ap (λ b. cond b (at rows (after p (p ++ q))) None) (begins_append p q) ∙ ap (at rows) (after_append p q)

blank_seen : (p q : Path) (rows : Rows ℕ) → are_blank (rows_under p rows) (p ∷ fronts_below p q) ≡ true → IsBlankRow (part_at p (at rows)) q
blank_seen p q rows h = each (of_blank p q (rows_under p rows) h)
  where
    each : BlankRows p q (rows_under p rows) → IsBlankRow (part_at p (at rows)) q
    each (e, (b, is)) = (e, (b, λ s. sym (at_under p rows s) ∙ ap (λ r. at r (p ++ s)) is ∙ at_behind p s (row_rows q e) ∙ at_row q e s))

seen_blank : (p q : Path) (t : fin.FinMap path_cmp (Entry ℕ)) → IsBlankRow (part_at p (at (fin.entries t))) q → are_blank (rows_under p (fin.entries t)) (p ∷ fronts_below p q) ≡ true
seen_blank p q t (e, (b, same)) =
    ap (λ rows. are_blank rows (p ∷ fronts_below p q)) (rows_under-part t p (row_rows q e) (sorted_row q e) (λ s. ap (λ m. m (p ++ s)) (seen t) ∙ same s ∙ sym (at_row q e s))) ∙ blank_of p q e b

or_left : (a b : Bool) → a ≡ true → (a || b) ≡ true
or_left a b h = ap (λ c. c || b) h

or_right : (a b : Bool) → b ≡ true → (a || b) ≡ true
or_right true b h = refl
or_right false b h = h

-- the test on rows says whether what was made stands there alone
pub made_fits : (path : Path) (n : ℕ) (t : fin.FinMap path_cmp (Entry ℕ)) → fits_rows (Made path n) (fin.entries t) ≡ true → (length path ≤ n) ⊎ IsBlankRow (part_at (first_made path n) (at (fin.entries t))) (below_first path n)
made_fits path n t h = each (nat_le (length path) n) refl h
  where
    blank : Bool
    blank = are_blank (rows_under (first_made path n) (fin.entries t)) (made_paths path n)

    each : (b : Bool) → nat_le (length path) n ≡ b → (b || are_blank (rows_under (first_made path n) (fin.entries t)) (made_paths path n)) ≡ true → (length path ≤ n) ⊎ IsBlankRow (part_at (first_made path n) (at (fin.entries t))) (below_first path n)
    each true is k = inl (leb-true (length path) n is)
    each false is k =
        let high : length path ≤ n → ⊥ = λ low. false≢true (sym is ∙ le-leb (length path) n low) in
        inr (blank_seen (first_made path n) (below_first path n) (fin.entries t) (ap (are_blank (rows_under (first_made path n) (fin.entries t))) (sym (paths_made n path (omega arith))) ∙ k))

pub made_holds : (path : Path) (n : ℕ) (t : fin.FinMap path_cmp (Entry ℕ)) → (length path ≤ n) ⊎ IsBlankRow (part_at (first_made path n) (at (fin.entries t))) (below_first path n) → fits_rows (Made path n) (fin.entries t) ≡ true
made_holds path n t (inl low) = or_left (nat_le (length path) n) _ (le-leb (length path) n low)
made_holds path n t (inr row) = each (nat_le (length path) n) refl
  where
    each : (b : Bool) → nat_le (length path) n ≡ b → (b || are_blank (rows_under (first_made path n) (fin.entries t)) (made_paths path n)) ≡ true
    each true is = refl
    each false is =
        let high : length path ≤ n → ⊥ = λ low. false≢true (sym is ∙ le-leb (length path) n low) in
        ap (are_blank (rows_under (first_made path n) (fin.entries t))) (paths_made n path (omega arith)) ∙ seen_blank (first_made path n) (below_first path n) t row
