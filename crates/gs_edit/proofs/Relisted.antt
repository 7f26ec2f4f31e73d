-- Inverses that are made of lists of inverses.
use Rattle.std.specs.List.{list_all}
use Rattle.std.proofs.Common.{◌≡◌, true, ℕ, List, [], ◌∷◌, refl, sym, ap, ◌∙◌, subst, ◌++◌, Bool, cond, length, false}
use Rattle.std.specs.Prelude.{Some, Vec, is_some}
use Rattle.std.specs.declared.alloc.Global.{Global}
use Rattle.std.specs.FinMap.{FinMap, get}
use Rattle.gs_path.specs.Path.{Path, path_cmp}
use Rattle.gs_refs.specs.Counts.{Counts, put_each, raised_each}
use Rattle.gs_tree.specs.Entry.{Entry}
use Rattle.gs_tree.specs.Find.{Rows, at, IsWithin, most_elements}
use Rattle.gs_tree.specs.Edits.{same_path}
use Rattle.std.proofs.lemmas.Bool.{le-leb}
use Rattle.gs_tree.proofs.Laws.{with_at-append}
use Rattle.gs_tree.proofs.Chunks.{same_itself}
use Rattle.gs_tree.proofs.Levels.{both_true}
use Rattle.gs_tree.specs.Inverses.{removed_chunks}
use Rattle.gs_tree.specs.Build.{rows_of_entries, prefixed, is_short}
use Rattle.gs_tree.specs.Lists.{made_paths, made_inverse, is_made, is_removed, PutsBack, IsSameInverse}
use Rattle.gs_tree.specs.declared.inverse.TreeInverse.{TreeInverse}
use Rattle.gs_tree.specs.declared.inverse.TreeInverse.TheVariants.{Made, Removed}
use Rattle.gs_tree.proofs.Parts.{made_same, removed_again, list_whole, list_moved}
use Rattle.gs_edit.specs.View.{NamesView}
use Rattle.gs_edit.specs.Names.{accepted, counts_back, NamesTakenBack}
use Rattle.gs_edit.specs.Listed.{Remembers, IsListOf, IsListOfMade, IsListOfRemoved, IsMadeOfList, DoesTheSame, is_listed, has_short_paths}
use Rattle.gs_edit.specs.declared.edit.Inverse.{Inverse}
use Rattle.gs_edit.specs.declared.edit.Inverse.TheVariants as inverses
use Rattle.gs_edit.specs.declared.listed.ListedInverse.{ListedInverse}
use Rattle.gs_edit.specs.declared.listed.ListedInverse.TheVariants as lists

itself : (i : Inverse) → DoesTheSame i i
itself i = record { fits = λ names h. h; back = λ names h. h; tree = λ names q. refl; counts = λ names. refl }

alike : (i j k l : Inverse) → i ≡ k → j ≡ l → DoesTheSame k l → DoesTheSame i j
alike i j k l is js h = subst (λ x. DoesTheSame x j) (sym is) (subst (λ x. DoesTheSame k x) (sym js) h)

of_tree : (s t : TreeInverse) → IsSameInverse s t → ((tree : FinMap path_cmp (Entry ℕ)) (refs : Counts) → counts_back s tree refs ≡ counts_back t tree refs) → DoesTheSame (inverses.Tree s) (inverses.Tree t)
of_tree s t same counts = record {
  fits = λ names h. same.fits (get names.tree) h;
  back = λ names h. same.back (get names.tree) h;
  tree = λ names q. same.tree (get names.tree) q;
  counts = λ names. counts names.tree names.refs;
}

made_counts : (paths : List Path) (tree : FinMap path_cmp (Entry ℕ)) (refs : Counts) → counts_back (made_inverse paths) tree refs ≡ Some refs
made_counts [] tree refs = refl
made_counts (p ∷ paths) tree refs = refl

of_made : (i j : Inverse) (paths : List Path) → IsListOfMade i paths → j ≡ inverses.Tree (made_inverse paths) → DoesTheSame i j
of_made i j paths (path, (above, (is, are))) js =
    alike i j (inverses.Tree (Made path above)) (inverses.Tree (made_inverse (made_paths path above))) is (js ∙ ap (λ l. inverses.Tree (made_inverse l)) are)
    (of_tree (Made path above) (made_inverse (made_paths path above)) (made_same path above).1 (λ tree refs. sym (made_counts (made_paths path above) tree refs)))

removed_counts : (rows : Rows ℕ) (t : TreeInverse) → PutsBack rows t → (tree : FinMap path_cmp (Entry ℕ)) (refs : Counts) → counts_back t tree refs ≡ accepted (raised_each refs (removed_chunks t))
removed_counts [] t h tree refs = absurd h
removed_counts (top ∷ rows) t h tree refs = subst (λ s. counts_back s tree refs ≡ accepted (raised_each refs (removed_chunks s))) (sym h.1.1) refl

of_removed : (i j : Inverse) (rows : Rows ℕ) → IsListOfRemoved i rows → (t : TreeInverse) → PutsBack rows t → j ≡ inverses.Tree t → DoesTheSame i j
of_removed i j rows (path, (node, (is, (one, are)))) t puts js =
    let same = removed_again path node rows t one.sound one.top are puts in
    alike i j (inverses.Tree (Removed path node)) (inverses.Tree t) is js
    (of_tree (Removed path node) t same (λ tree refs. ap (λ chunks. accepted (raised_each refs chunks)) same.chunks ∙ sym (removed_counts rows t puts tree refs)))

of_remembered : (v w : Vec ℕ Global) → v.items ≡ w.items → DoesTheSame (inverses.Remember v) (inverses.Remember w)
of_remembered v w are = record {
  fits = λ names h. h;
  back = λ names h. h;
  tree = λ names q. refl;
  counts = λ names. ap (λ items. accepted (put_each names.refs items)) are;
}

remembered : (i j : Inverse) (chunks : List ℕ) → Remembers chunks i → Remembers chunks j → DoesTheSame i j
remembered i j chunks (v, (is, are)) (w, (js, too)) = alike i j (inverses.Remember v) (inverses.Remember w) is js (of_remembered v w (sym are ∙ too))

pub relisted : (i j : Inverse) (list : ListedInverse) → IsListOf i list → IsMadeOfList list j → DoesTheSame i j
relisted i j (lists.Mkdirs paths) h k = of_made i j paths.items h k
relisted i j (lists.Create paths) h k = of_made i j paths.items h k
relisted i j (lists.Rename to from) h k = alike i j j j (h ∙ sym k) refl (itself j)
relisted i j (lists.Hide to from) h k = alike i j j j (h ∙ sym k) refl (itself j)
relisted i j (lists.Unhide to from) h k = alike i j j j (h ∙ sym k) refl (itself j)
relisted i j (lists.Remove entries) h k = of_removed i j (rows_of_entries entries.items) h.0 k.0 k.1.0 k.1.1
relisted i j (lists.AddChunk path) h k = alike i j j j (h ∙ sym k) refl (itself j)
relisted i j (lists.Cow path index chunk) h k = alike i j j j (h ∙ sym k) refl (itself j)
relisted i j (lists.Snapshot path) h k = alike i j j j (h ∙ sym k) refl (itself j)
relisted i j (lists.Forget chunks) h k = remembered i j chunks.items h k

made_list : (i : Inverse) (paths : List Path) → IsListOfMade i paths → is_made paths ≡ true
made_list i paths (path, (above, (is, are))) = ap is_made are ∙ (made_same path above).0

removed_list : (i : Inverse) (rows : Rows ℕ) → IsListOfRemoved i rows → list_all (λ r. is_short r.0) rows ≡ true → is_removed rows ≡ true
removed_list i rows (path, (node, (is, (one, are)))) short = list_whole path node rows one.sound one.top are short

pub list_is_one : (i : Inverse) (list : ListedInverse) → IsListOf i list → has_short_paths list ≡ true → is_listed list ≡ true
list_is_one i (lists.Mkdirs paths) h short = made_list i paths.items h
list_is_one i (lists.Create paths) h short = made_list i paths.items h
list_is_one i (lists.Rename to from) h short = refl
list_is_one i (lists.Hide to from) h short = refl
list_is_one i (lists.Unhide to from) h short = refl
list_is_one i (lists.Remove entries) h short = removed_list i (rows_of_entries entries.items) h.0 short
list_is_one i (lists.AddChunk path) h short = refl
list_is_one i (lists.Cow path index chunk) h short = refl
list_is_one i (lists.Snapshot path) h short = refl
list_is_one i (lists.Forget chunks) h short = refl

-- each row that stands below a path is short, where all that stands there is
rows_short : (path : Path) (rows : Rows ℕ) → ((q : Path) → is_some (at rows q) ≡ true → is_short (path ++ q) ≡ true) → list_all (λ r. is_short r.0) (prefixed path rows) ≡ true
rows_short path [] h = refl
rows_short path (r ∷ rows) h =
    both_true (is_short (path ++ r.0)) (list_all (λ s. is_short s.0) (prefixed path rows)) (h r.0 (ap (λ b. is_some (cond b (Some r.1) (at rows r.0))) (same_itself r.0)))
    (rows_short path rows (λ q some. h q (later q some (same_path q r.0))))
  where
    later : (q : Path) → is_some (at rows q) ≡ true → (b : Bool) → is_some (cond b (Some r.1) (at rows q)) ≡ true
    later q some true = refl
    later q some false = some

removed_short : (i : Inverse) (rows : Rows ℕ) (old new : NamesView) → NamesTakenBack i old new → IsWithin most_elements (get old.tree) → IsListOfRemoved i rows → list_all (λ r. is_short r.0) rows ≡ true
removed_short i rows old new back within (path, (node, (is, (one, are)))) =
    let taken : NamesTakenBack (inverses.Tree (Removed path node)) old new = subst (λ j. NamesTakenBack j old new) is back in
    list_moved (λ r. is_short r.0) path node rows are (rows_short path node (λ q some. le-leb (length (path ++ q)) 64 (within (path ++ q) (ap is_some (sym (taken.tree (path ++ q)) ∙ with_at-append path (at node) (get new.tree) q) ∙ some))))

pub list_is_short : (i : Inverse) (list : ListedInverse) (old new : NamesView) → NamesTakenBack i old new → IsWithin most_elements (get old.tree) → IsListOf i list → has_short_paths list ≡ true
list_is_short i (lists.Mkdirs paths) old new back within h = refl
list_is_short i (lists.Create paths) old new back within h = refl
list_is_short i (lists.Rename to from) old new back within h = refl
list_is_short i (lists.Hide to from) old new back within h = refl
list_is_short i (lists.Unhide to from) old new back within h = refl
list_is_short i (lists.Remove entries) old new back within h = removed_short i (rows_of_entries entries.items) old new back within h.0
list_is_short i (lists.AddChunk path) old new back within h = refl
list_is_short i (lists.Cow path index chunk) old new back within h = refl
list_is_short i (lists.Snapshot path) old new back within h = refl
list_is_short i (lists.Forget chunks) old new back within h = refl
