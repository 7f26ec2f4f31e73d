-- The chunks of a map, counted part by part.
use Rattle.std.proofs.Common.{◌≡◌, ◌<◌, inl, inr, ◌+◌, ◌-◌, ◌++◌, ℕ, zero, suc, Bool, true, false, not, cond, T, List, [], ◌∷◌, length, nat_lt, slice_set, refl, sym, ap, ◌∙◌, arith, append-nil}
use Rattle.std.specs.Prelude.{Option, Some, None, is_some}
use Rattle.std.proofs.lemmas.Bool.{ltb-true, lt-ltb}
use Rattle.std.proofs.lemmas.List.{take-append-drop}
use Rattle.std.specs.Ordering.{is_eq}
use Rattle.std.specs.Ordering.{is_lt}
use Rattle.std.proofs.lemmas.Cmp.{tied_itself}
use Rattle.std.specs.FinMap.{FinMap, get, entries, get-entries, entries_sorted, is_sorted}
use Rattle.std.specs.FinMap.Entries.{below_all, where_key, find-where_key, is_sorted-where_key, same_entries}
use Rattle.gs_path.specs.Path.{Path, path_cmp, path_total, begins}
use Rattle.gs_tree.specs.Entry.{Entry, Dir, File}
use Rattle.gs_tree.specs.Entry as entry
use Rattle.gs_tree.specs.Plain.{Plain, Same, after, with_at, without, part_at, IsFree}
use Rattle.gs_tree.specs.Find.{Rows, at}
use Rattle.gs_tree.specs.Edits.{chunks_in, with_chunks, moved, same_path}
use Rattle.gs_tree.specs.Inverses.{Fits, after_undo, first_made, below_first, row_of, IsBlank, all_but_last}
use Rattle.gs_tree.specs.Chunks.{all_chunks, chunks_under, part_chunks}
use Rattle.gs_tree.specs.Counting.{IsAdditive, last_chunk, chunk_at, dropped_by, put_back_by}
use Rattle.gs_tree.specs.declared.inverse.TreeInverse.{TreeInverse}
use Rattle.gs_tree.specs.declared.inverse.TreeInverse.TheVariants.{Made, Moved, Removed, Added, Changed, Copied}
use Rattle.gs_tree.proofs.Splice.{begins_parts}
use Rattle.gs_tree.proofs.Laws.{with_at-append, free_at}
use Rattle.gs_tree.proofs.Reaching.{same_path-is}
use Rattle.gs_tree.proofs.Depths.{paths_antisymmetric}
use Rattle.gs_tree.proofs.Levels.{less}
use Rattle.gs_tree.proofs.Gathering.{first, second, is_true}
use Rattle.gs_tree.proofs.Under.{chunks_under-part, part_rows, at-part_rows}

no_chunks_count : (count : List ℕ → ℕ) → IsAdditive count → count [] ≡ 0
no_chunks_count count add = let twice : count [] ≡ count [] + count [] = add [] [] in omega arith

-- the rows that pass a test of their paths, and the others
split : (count : List ℕ → ℕ) → IsAdditive count → (t : Path → Bool) (es : Rows ℕ) → count (all_chunks es) ≡ count (all_chunks (where_key path_cmp t es)) + count (all_chunks (where_key path_cmp (λ q. not (t q)) es))
split count add t [] = let none = no_chunks_count count add in omega arith
split count add t (r ∷ es) =
    let yes = where_key path_cmp t es in
    let rest = where_key path_cmp (λ q. not (t q)) es in
    let ih : count (all_chunks es) ≡ count (all_chunks yes) + count (all_chunks rest) = split count add t es in
    let here = chunks_in (Some r.1) in
    let whole : count (here ++ all_chunks es) ≡ count here + count (all_chunks es) = add here (all_chunks es) in
    let with_yes : count (here ++ all_chunks yes) ≡ count here + count (all_chunks yes) = add here (all_chunks yes) in
    let with_rest : count (here ++ all_chunks rest) ≡ count here + count (all_chunks rest) = add here (all_chunks rest) in
    elim (t r.0) as (λ b. count (here ++ all_chunks es) ≡ count (all_chunks (cond b (r ∷ yes) yes)) + count (all_chunks (cond (not b) (r ∷ rest) rest))) [
      | true ↦ omega arith
      | false ↦ omega arith
    ]

-- the rows of one map that pass a test are those of another that pass another
same_where : (m n : FinMap path_cmp (Entry ℕ)) (s t : Path → Bool) → ((q : Path) → cond (s q) (get m q) None ≡ cond (t q) (get n q) None) → where_key path_cmp s (entries m) ≡ where_key path_cmp t (entries n)
same_where m n s t same =
    same_entries path_cmp path_total paths_antisymmetric (where_key path_cmp s (entries m)) (where_key path_cmp t (entries n)) (is_sorted-where_key path_cmp s (entries m) (entries_sorted m)) (is_sorted-where_key path_cmp t (entries n) (entries_sorted n))
    (λ q. find-where_key path_cmp s q (λ x e. ap s (sym (paths_antisymmetric q x e))) (entries m) ∙ ap (λ v. cond (s q) v None) (sym (get-entries m q)) ∙ same q
    ∙ ap (λ v. cond (t q) v None) (get-entries n q) ∙ sym (find-where_key path_cmp t q (λ x e. ap t (sym (paths_antisymmetric q x e))) (entries n)))

-- the rows of one map that pass a test are all of another
where_all : (m n : FinMap path_cmp (Entry ℕ)) (s : Path → Bool) → ((q : Path) → cond (s q) (get m q) None ≡ get n q) → where_key path_cmp s (entries m) ≡ entries n
where_all m n s same =
    same_entries path_cmp path_total paths_antisymmetric (where_key path_cmp s (entries m)) (entries n) (is_sorted-where_key path_cmp s (entries m) (entries_sorted m)) (entries_sorted n)
    (λ q. find-where_key path_cmp s q (λ x e. ap s (sym (paths_antisymmetric q x e))) (entries m) ∙ ap (λ v. cond (s q) v None) (sym (get-entries m q)) ∙ same q ∙ get-entries n q)

-- each row is what a function has at its path
abbrev Agrees : Rows ℕ → Plain ℕ → Type 0
Agrees [] g = Unit {0}
Agrees (r ∷ rows) g = (g r.0 ≡ Some r.1) × Agrees rows g

agrees : (rows : Rows ℕ) (g : Plain ℕ) → T (is_sorted path_cmp rows) → ((q : Path) → is_some (at rows q) ≡ true → g q ≡ at rows q) → Agrees rows g
agrees [] g sorted same = tt
agrees (r ∷ rows) g sorted same =
    (same r.0 (ap is_some here) ∙ here, agrees rows g (second (below_all path_cmp r.0 rows) (is_sorted path_cmp rows) sorted) (λ q some. same q (ap is_some (past q some) ∙ some) ∙ past q some))
  where
    here : at (r ∷ rows) r.0 ≡ Some r.1
    here = ap (λ o. cond (is_eq o) (Some r.1) (at rows r.0)) (tied_itself path_total r.0)

    none_at : (l : Rows ℕ) → T (below_all path_cmp r.0 l) → at l r.0 ≡ None
    none_at [] h = refl
    none_at (s ∷ l) h = ap (λ o. cond (is_eq o) (Some s.1) (at l r.0)) (less (path_cmp r.0 s.0) (is_true (is_lt (path_cmp r.0 s.0)) (first (is_lt (path_cmp r.0 s.0)) (below_all path_cmp r.0 l) h))) ∙ none_at l (second (is_lt (path_cmp r.0 s.0)) (below_all path_cmp r.0 l) h)

    past : (q : Path) → is_some (at rows q) ≡ true → at (r ∷ rows) q ≡ at rows q
    past q some = each (same_path q r.0) refl
      where
        each : (b : Bool) → same_path q r.0 ≡ b → cond b (Some r.1) (at rows q) ≡ at rows q
        each true is = absurd (let gone : is_some (at rows q) ≡ false = ap (λ p. is_some (at rows p)) (same_path-is q r.0 is) ∙ ap is_some (none_at rows (first (below_all path_cmp r.0 rows) (is_sorted path_cmp rows) sorted)) in cc)
        each false is = refl

abbrev filled : List ℕ → Bool
filled [] = false
filled (x ∷ l) = true

abbrev seen_chunks : List ℕ → Option (Entry ℕ)
seen_chunks [] = None
seen_chunks (x ∷ l) = Some (File (x ∷ l))

filled_is : (v : Option (Entry ℕ)) → cond (filled (chunks_in v)) v None ≡ seen_chunks (chunks_in v)
filled_is None = refl
filled_is (Some entry.Dir) = refl
filled_is (Some (entry.File [])) = refl
filled_is (Some (entry.File (x ∷ l))) = refl

-- rows without chunks add none
only_filled : (rows : Rows ℕ) (g : Plain ℕ) → Agrees rows g → all_chunks (where_key path_cmp (λ q. filled (chunks_in (g q))) rows) ≡ all_chunks rows
only_filled [] g h = refl
only_filled (r ∷ rows) g h = ap (λ v. all_chunks (cond (filled (chunks_in v)) (r ∷ rest) rest)) h.0 ∙ each (chunks_in (Some r.1)) refl (only_filled rows g h.1)
  where
    rest : Rows ℕ
    rest = where_key path_cmp (λ q. filled (chunks_in (g q))) rows

    each : (l : List ℕ) → chunks_in (Some r.1) ≡ l → all_chunks rest ≡ all_chunks rows → all_chunks (cond (filled (chunks_in (Some r.1))) (r ∷ rest) rest) ≡ chunks_in (Some r.1) ++ all_chunks rows
    each [] is below = ap (λ k. all_chunks (cond (filled k) (r ∷ rest) rest)) is ∙ below ∙ sym (ap (λ k. k ++ all_chunks rows) is)
    each (x ∷ l) is below = ap (λ k. all_chunks (cond (filled k) (r ∷ rest) rest)) is ∙ ap (λ k. chunks_in (Some r.1) ++ k) below

own : (m : FinMap path_cmp (Entry ℕ)) → Agrees (entries m) (get m)
own m = agrees (entries m) (get m) (entries_sorted m) (λ q some. get-entries m q)

-- maps with the same chunks at each path have the same chunks
same_chunks : (m n : FinMap path_cmp (Entry ℕ)) → ((q : Path) → chunks_in (get m q) ≡ chunks_in (get n q)) → all_chunks (entries m) ≡ all_chunks (entries n)
same_chunks m n same =
    sym (only_filled (entries m) (get m) (own m))
    ∙ ap all_chunks (same_where m n (λ q. filled (chunks_in (get m q))) (λ q. filled (chunks_in (get n q))) (λ q. filled_is (get m q) ∙ ap seen_chunks (same q) ∙ sym (filled_is (get n q))))
    ∙ only_filled (entries n) (get n) (own n)

-- the chunks at one path
abbrev one_row : Path → Option (Entry ℕ) → Rows ℕ
one_row p None = []
one_row p (Some e) = (p, e) ∷ []

turned : (p q : Path) → same_path q p ≡ same_path p q
turned p q = each (same_path q p) (same_path p q) refl refl
  where
    itself : (r : Path) → same_path r r ≡ true
    itself r = ap is_eq (tied_itself path_total r)

    each : (a b : Bool) → same_path q p ≡ a → same_path p q ≡ b → a ≡ b
    each true true f g = refl
    each true false f g = let k : same_path p q ≡ true = ap (same_path p) (same_path-is q p f) ∙ itself p in absurd (cc)
    each false true f g = let k : same_path q p ≡ true = ap (same_path q) (same_path-is p q g) ∙ itself q in absurd (cc)
    each false false f g = refl

at_path : (m : FinMap path_cmp (Entry ℕ)) (p : Path) → all_chunks (where_key path_cmp (same_path p) (entries m)) ≡ chunks_in (get m p)
at_path m p = ap all_chunks rows ∙ chunks (get m p)
  where
    chunks : (v : Option (Entry ℕ)) → all_chunks (one_row p v) ≡ chunks_in v
    chunks None = refl
    chunks (Some e) = append-nil (chunks_in (Some e))

    sorted : (v : Option (Entry ℕ)) → T (is_sorted path_cmp (one_row p v))
    sorted None = tt
    sorted (Some e) = tt

    found : (v : Option (Entry ℕ)) (q : Path) → at (one_row p v) q ≡ cond (same_path q p) v None
    found None q = each (same_path q p)
      where
        each : (b : Bool) → ◌≡◌ {A = Option (Entry ℕ)} None (cond b None None)
        each true = refl
        each false = refl
    found (Some e) q = refl

    there : (q : Path) (b : Bool) → same_path p q ≡ b → cond b (get m q) None ≡ cond b (get m p) None
    there q true is = ap (get m) (sym (same_path-is p q is))
    there q false is = refl

    rows : where_key path_cmp (same_path p) (entries m) ≡ one_row p (get m p)
    rows = same_entries path_cmp path_total paths_antisymmetric (where_key path_cmp (same_path p) (entries m)) (one_row p (get m p)) (is_sorted-where_key path_cmp (same_path p) (entries m) (entries_sorted m)) (sorted (get m p))
        (λ q. find-where_key path_cmp (same_path p) q (λ x e. ap (same_path p) (sym (paths_antisymmetric q x e))) (entries m) ∙ ap (λ v. cond (same_path p q) v None) (sym (get-entries m q)) ∙ there q (same_path p q) refl
        ∙ ap (λ b. cond b (get m p) None) (sym (turned p q)) ∙ sym (found (get m p) q))

-- a file with other chunks
chunks_changed : (count : List ℕ → ℕ) → IsAdditive count → (m n : FinMap path_cmp (Entry ℕ)) (p : Path) (chunks : List ℕ) → Same (get n) (with_chunks p chunks (get m)) → count (all_chunks (entries n)) + count (chunks_in (get m p)) ≡ count (all_chunks (entries m)) + count chunks
chunks_changed count add m n p chunks same =
    let old : count (all_chunks (entries m)) ≡ count (chunks_in (get m p)) + rest m = split count add (same_path p) (entries m) ∙ ap (λ l. count l + rest m) (at_path m p) in
    let new : count (all_chunks (entries n)) ≡ count chunks + rest n = split count add (same_path p) (entries n) ∙ ap (λ l. count l + rest n) (at_path n p ∙ ap chunks_in here) in
    let both : rest n ≡ rest m = ap (λ l. count (all_chunks l)) (same_where n m (λ q. not (same_path p q)) (λ q. not (same_path p q)) (λ q. ap (λ v. cond (not (same_path p q)) v None) (same q) ∙ each (same_path p q) (get m q))) in omega arith
  where
    rest : FinMap path_cmp (Entry ℕ) → ℕ
    rest k = count (all_chunks (where_key path_cmp (λ q. not (same_path p q)) (entries k)))

    here : get n p ≡ Some (File chunks)
    here = same p ∙ ap (λ o. cond (is_eq o) (Some (File chunks)) (get m p)) (tied_itself path_total p)

    each : (b : Bool) (v : Option (Entry ℕ)) → cond (not b) (cond b (Some (File chunks)) v) None ≡ cond (not b) v None
    each true v = refl
    each false v = refl

-- what is taken out at a path
taken_out : (count : List ℕ → ℕ) → IsAdditive count → (m n : FinMap path_cmp (Entry ℕ)) (p : Path) → Same (get n) (without p (get m)) → count (all_chunks (entries n)) + count (chunks_under p (entries m)) ≡ count (all_chunks (entries m))
taken_out count add m n p same =
    let rest : where_key path_cmp (λ q. not (begins p q)) (entries m) ≡ entries n = where_all m n (λ q. not (begins p q)) (λ q. each (begins p q) (get m q) ∙ sym (same q)) in
    let whole : count (all_chunks (entries m)) ≡ count (chunks_under p (entries m)) + count (all_chunks (entries n)) = split count add (begins p) (entries m) ∙ ap (λ l. count (chunks_under p (entries m)) + count (all_chunks l)) rest in omega arith
  where
    each : (b : Bool) (v : Option (Entry ℕ)) → cond (not b) v None ≡ cond b None v
    each true v = refl
    each false v = refl

put_in : (count : List ℕ → ℕ) → IsAdditive count → (m n : FinMap path_cmp (Entry ℕ)) (p : Path) (part : Plain ℕ) → IsFree (get m) p → Same (get n) (with_at p part (get m)) → count (all_chunks (entries n)) ≡ count (all_chunks (entries m)) + count (chunks_under p (entries n))
put_in count add m n p part free same = let out = taken_out count add n m p (λ q. each q (begins p q) refl) in omega arith
  where
    each : (q : Path) (b : Bool) → begins p q ≡ b → get m q ≡ cond b None (get n q)
    each q true is = free_at (get m) p q free is
    each q false is = sym (same q ∙ ap (λ b. cond b (part (after p q)) (get m q)) is)

-- what moves to a free place
moved_over : (count : List ℕ → ℕ) → IsAdditive count → (m n : FinMap path_cmp (Entry ℕ)) (from to : Path) → IsFree (get m) to → Same (get n) (moved from to (get m)) → count (all_chunks (entries n)) ≡ count (all_chunks (entries m))
moved_over count add m n from to free same =
    let new = split count add (begins to) (entries n) in
    let old = split count add (begins from) (entries m) in
    let part : chunks_under to (entries n) ≡ chunks_under from (entries m) = chunks_under-part n to rows (λ q. same (to ++ q) ∙ with_at-append to (part_at from (get m)) (without from (get m)) q ∙ is_part q) ∙ sym (chunks_under-part m from rows is_part) in
    let others : where_key path_cmp (λ q. not (begins to q)) (entries n) ≡ where_key path_cmp (λ q. not (begins from q)) (entries m) = same_where n m (λ q. not (begins to q)) (λ q. not (begins from q)) (λ q. ap (λ v. cond (not (begins to q)) v None) (same q) ∙ each q (begins to q) (begins from q) refl) in
    new ∙ ap (λ l. count l + count (all_chunks (where_key path_cmp (λ q. not (begins to q)) (entries n)))) part ∙ ap (λ l. count (chunks_under from (entries m)) + count (all_chunks l)) others ∙ sym old
  where
    rows : Rows ℕ
    rows = part_rows from (entries m)

    is_part : (q : Path) → get m (from ++ q) ≡ at rows q
    is_part q = get-entries m (from ++ q) ∙ sym (at-part_rows from (entries m) q)

    each : (q : Path) (b c : Bool) → begins to q ≡ b → cond (not b) (cond b (part_at from (get m) (after to q)) (cond c None (get m q))) None ≡ cond (not c) (get m q) None
    each q true true is = refl
    each q true false is = sym (free_at (get m) to q free is)
    each q false true is = refl
    each q false false is = refl

-- one of a list's chunks in the place of another
set_counts : (count : List ℕ → ℕ) → IsAdditive count → (chunks : List ℕ) (index chunk : ℕ) → nat_lt index (length chunks) ≡ true → count (slice_set chunks index chunk) + count (chunk_at index chunks) ≡ count chunks + count (chunk ∷ [])
set_counts count add [] index chunk h = let l : index < 0 = ltb-true index 0 h in absurd (omega arith)
set_counts count add (x ∷ chunks) zero chunk h =
    let new : count (chunk ∷ chunks) ≡ count (chunk ∷ []) + count chunks = add (chunk ∷ []) chunks in
    let old : count (x ∷ chunks) ≡ count (x ∷ []) + count chunks = add (x ∷ []) chunks in omega arith
set_counts count add (x ∷ chunks) (suc index) chunk h =
    let l : suc index < length (x ∷ chunks) = ltb-true (suc index) (length (x ∷ chunks)) h in
    let ih : count (slice_set chunks index chunk) + count (chunk_at index chunks) ≡ count chunks + count (chunk ∷ []) = set_counts count add chunks index chunk (lt-ltb index (length chunks) (omega arith)) in
    let new : count (x ∷ slice_set chunks index chunk) ≡ count (x ∷ []) + count (slice_set chunks index chunk) = add (x ∷ []) (slice_set chunks index chunk) in
    let old : count (x ∷ chunks) ≡ count (x ∷ []) + count chunks = add (x ∷ []) chunks in omega arith

-- what was made has no chunks
blank_row : (p : Path) (e : Entry ℕ) → IsBlank e → (q : Path) → chunks_in (row_of p e q) ≡ []
blank_row p e blank q = each (same_path p q) (begins q p)
  where
    empty : (k : Entry ℕ) → IsBlank k → chunks_in (Some k) ≡ []
    empty entry.Dir h = refl
    empty (entry.File []) h = refl
    empty (entry.File (x ∷ l)) h = absurd h

    each : (a b : Bool) → chunks_in (cond a (Some e) (cond b (Some Dir) None)) ≡ []
    each true b = empty e blank
    each false true = refl
    each false false = refl

-- an inverse that is undone
pub undone_counts : (count : List ℕ → ℕ) (i : TreeInverse) (m n : FinMap path_cmp (Entry ℕ)) → IsAdditive count → Fits i (get m) → Same (get n) (after_undo i (get m)) → count (all_chunks (entries n)) + count (dropped_by i m) ≡ count (all_chunks (entries m)) + count (put_back_by i)
undone_counts count (Made path above) m n add fits same = ap (λ l. count l + count []) (same_chunks n m (λ q. ap chunks_in (same q) ∙ each q (nat_lt above (length path)) refl))
  where
    p : Path
    p = first_made path above

    under : (q : Path) (b : Bool) → begins p q ≡ b → nat_lt above (length path) ≡ true → chunks_in (cond b None (get m q)) ≡ chunks_in (get m q)
    under q false is long = refl
    under q true is long = elim fits [
      | inl short ↦ let l : above < length path = ltb-true above (length path) long in absurd (omega arith)
      | inr row ↦ sym (ap (λ r. chunks_in (get m r)) (begins_parts p q is) ∙ ap chunks_in (row.1.1 (after p q)) ∙ blank_row (below_first path above) row.0 row.1.0 (after p q))
    ]

    each : (q : Path) (b : Bool) → nat_lt above (length path) ≡ b → chunks_in (cond b (without p (get m)) (get m) q) ≡ chunks_in (get m q)
    each q true is = under q (begins p q) refl is
    each q false is = refl
undone_counts count (Moved from to) m n add fits same = ap (λ k. k + count []) (moved_over count add m n to from fits.2 same)
undone_counts count (Removed p node) m n add fits same =
    let none = no_chunks_count count add in
    let put : count (all_chunks (entries n)) ≡ count (all_chunks (entries m)) + count (part_chunks node) = put_in count add m n p (at node) fits.0 same ∙ ap (λ l. count (all_chunks (entries m)) + count l) (chunks_under-part n p node (λ q. same (p ++ q) ∙ with_at-append p (at node) (get m) q)) in omega arith
undone_counts count (Added p) m n add fits same =
    let l = chunks_in (get m p) in
    let none = no_chunks_count count add in
    let whole : count l ≡ count (all_but_last l) + count (last_chunk l) = ap count (sym (take-append-drop (length l - 1) l)) ∙ add (all_but_last l) (last_chunk l) in
    let changed : count (all_chunks (entries n)) + count l ≡ count (all_chunks (entries m)) + count (all_but_last l) = chunks_changed count add m n p (all_but_last l) same in omega arith
undone_counts count (Changed p index chunk) m n add fits same =
    let l = chunks_in (get m p) in
    let set : count (slice_set l index chunk) + count (chunk_at index l) ≡ count l + count (chunk ∷ []) = set_counts count add l index chunk fits in
    let changed : count (all_chunks (entries n)) + count l ≡ count (all_chunks (entries m)) + count (slice_set l index chunk) = chunks_changed count add m n p (slice_set l index chunk) same in omega arith
undone_counts count (Copied p) m n add fits same =
    let none = no_chunks_count count add in
    let out : count (all_chunks (entries n)) + count (chunks_under p (entries m)) ≡ count (all_chunks (entries m)) = taken_out count add m n p same in omega arith
