-- That the inverse of a list is undone as the list's definition says.
use Rattle.std.proofs.Common.{◌≡◌, ◌⊎◌, inl, inr, ◌+◌, ◌-◌, ◌<◌, ◌≤◌, ◌++◌, ◌&&◌, ℕ, zero, suc, Bool, true, false, cond, List, [], ◌∷◌, map, drop, drop-cons, add-one, get_or, length, refl, sym, ap, ◌∙◌, subst, append-nil}
use Rattle.std.specs.Prelude.{Option, Some, None, is_some, option_map, option_and_then, Result, Ok, Err, if◌then◌else◌}
use Rattle.std.specs.List.{list_all}
use Rattle.std.specs.Ordering.{is_eq}
use Rattle.std.specs.FinMap as fin
use Rattle.std.specs.FinMap.Entries.{same_entries}
use Rattle.std.proofs.lemmas.Bool.{and_parts}
use Rattle.std.proofs.lemmas.List.{drop_all}
use Rattle.gs_base.specs.declared.refusal.Refusal.{Refusal}
use Rattle.gs_base.specs.declared.refusal.Refusal.TheVariants.{Memory, BadLine}
use Rattle.gs_path.specs.Path.{Path, path_cmp, path_total, begins}
use Rattle.gs_refs.specs.Counts.{put_each, raised_each}
use Rattle.gs_tree.specs.Build.{rows_of_entries, is_part, is_short, all_apart, has_place}
use Rattle.gs_tree.specs.Chunks.{all_chunks, by_path, part_chunks}
use Rattle.gs_tree.specs.Edits.{same_path}
use Rattle.gs_tree.specs.Entry.{Entry, Dir, File}
use Rattle.gs_tree.specs.Find.{Rows, at}
use Rattle.gs_tree.specs.Inverses.{Fits}
use Rattle.gs_tree.specs.Lists.{is_removed, last_of, made_inverse, PutsBack}
use Rattle.gs_tree.specs.Plain.{Same, after}
use Rattle.gs_tree.specs.declared.entry.TreeEntry.{TreeEntry}
use Rattle.gs_tree.specs.declared.entry.TreeEntry.TheVariants as nodes
use Rattle.gs_tree.specs.declared.inverse.TreeInverse.{TreeInverse}
use Rattle.gs_tree.specs.declared.inverse.TreeInverse.TheVariants.{Moved, Removed, Added, Changed, Copied}
use Rattle.gs_tree.proofs.Depths.{paths_antisymmetric}
use Rattle.gs_tree.proofs.Gathering.{cmp-prefixed}
use Rattle.gs_tree.proofs.Laws.{begins_append}
use Rattle.gs_tree.proofs.Removals.{with_part}
use Rattle.gs_tree.proofs.Splice.{begins_parts}
use Rattle.gs_tree.proofs.Under.{at-by_path, by_path-sorted}
use Rattle.gs_edit.specs.Listed.{is_listed, IsMadeOfList, GivesInverse}
use Rattle.gs_edit.specs.Names.{Undoes, accepted}
use Rattle.gs_edit.specs.View.{NamesView, names_of}
use Rattle.gs_edit.specs.declared.edit.Inverse.{Inverse}
use Rattle.gs_edit.specs.declared.edit.Inverse.TheVariants as inverses
use Rattle.gs_edit.specs.declared.listed.ListedInverse.{ListedInverse}
use Rattle.gs_edit.specs.declared.listed.ListedInverse.TheVariants as lists
use Rattle.gs_edit.proofs.Applied.{same_tree}
use Rattle.gs_edit.proofs.Tables.{seen}
use Rattle.gs_master_record.specs.Plain.{PlainInverse, plain_inverse, plain_node}
use Rattle.gs_master_state.specs.inner.Reversing.{TakesBackOne, GivesNamesBack}
use Rattle.gs_master_spec.specs.Undoing.{all_undone, is_of_one, planted, rows_of_nodes, seen_from, tree_undone, undone, undone_if_it_fits}
use Rattle.gs_master_state.proofs.Blanks.{made_fits, made_holds}
use Rattle.gs_master_state.proofs.Reversals.{IsTest, added_test, changed_test, copied_test, moved_test, removed_test, rows_in, tree_given, tree_refused}

-- ---- one inverse of the tree

abbrev TakesTree : TreeInverse → NamesView → Result (Unit {0}) Refusal → NamesView → Type 0
TakesTree i old (Ok _) new = tree_undone i old ≡ Some new
TakesTree i old (Err e) new = (e ≡ Memory) ⊎ ((e ≡ BadLine) × (tree_undone i old ≡ None))

takes_tree : (i : TreeInverse) (old new : NamesView) (r : Result (Unit {0}) Refusal) → IsTest i (rows_in old) → Undoes (inverses.Tree i) old r new → TakesTree i old r new
takes_tree i old new (Ok _) test h = tree_given i old new (test.holds (subst (Fits i) (seen old.tree) h.0)) h.1 h.2
takes_tree i old new (Err e) test h = elim h.0 [
  | inl memory ↦ inl memory
  | inr b ↦ inr (b.0, tree_refused i old (λ fits some. b.1 (subst (Fits i) (sym (seen old.tree)) (test.fits fits)) some))
]

takes_put : (chunks : List ℕ) (old new : NamesView) → Same (fin.get new.tree) (fin.get old.tree) → accepted (put_each old.refs chunks) ≡ Some new.refs → option_map (names_of old.tree) (accepted (put_each old.refs chunks)) ≡ Some new
takes_put chunks old new same counts = ap (option_map (names_of old.tree)) counts ∙ ap (λ t. Some (names_of t new.refs)) (sym (same_tree new.tree old.tree same))

none_put : {A B : Type 0} (f : A → B) (o : Option A) → (is_some o ≡ true → ⊥) → option_map f o ≡ None
none_put f None h = refl
none_put f (Some x) h = absurd (h refl)

-- ---- what was made

made_test : (paths : List Path) (t : fin.FinMap path_cmp (Entry ℕ)) → IsTest (made_inverse paths) (fin.entries t)
made_test [] t = record { fits = made_fits [] 0 t; holds = made_holds [] 0 t }
made_test (p ∷ paths) t = record { fits = made_fits (last_of p paths) (length p - 1) t; holds = made_holds (last_of p paths) (length p - 1) t }

-- ---- what was removed

-- rows at and under a path, seen from there
at_seen : (p : Path) (rows : Rows ℕ) → list_all (λ r. begins p r.0) rows ≡ true → (q : Path) → at (seen_from p rows) q ≡ at rows (p ++ q)
at_seen p [] all q = refl
at_seen p (r ∷ rows) all q =
    let parts = and_parts (begins p r.0) (list_all (λ s. begins p s.0) rows) all in
    ap (λ b. cond b (Some r.1) (at (seen_from p rows) q)) (sym (ap is_eq (cmp-prefixed p q (after p r.0))) ∙ ap (same_path (p ++ q)) (sym (begins_parts p r.0 parts.0)))
    ∙ ap (cond (same_path (p ++ q) r.0) (Some r.1)) (at_seen p rows parts.1 q)

begins_all : (p : Path) (test : Path × Entry ℕ → Bool) (rows : Rows ℕ) → list_all (λ r. begins p r.0 && test r) rows ≡ true → list_all (λ r. begins p r.0) rows ≡ true
begins_all p test [] all = refl
begins_all p test (r ∷ rows) all =
    let parts = and_parts (begins p r.0 && test r) (list_all (λ s. begins p s.0 && test s) rows) all in
    ap (λ b. b && list_all (λ s. begins p s.0) rows) (and_parts (begins p r.0) (test r) parts.0).0 ∙ begins_all p test rows parts.1

all_under : (top : Path × Entry ℕ) (rows : Rows ℕ) → is_part top rows ≡ true → list_all (λ r. begins top.0 r.0) (top ∷ rows) ≡ true
all_under top rows h =
    let one = and_parts (is_short top.0) (all_apart (top ∷ rows) && list_all (λ r. begins top.0 r.0 && has_place (at (top ∷ rows)) r.0) rows) h in
    let two = and_parts (all_apart (top ∷ rows)) (list_all (λ r. begins top.0 r.0 && has_place (at (top ∷ rows)) r.0) rows) one.1 in
    ap (λ b. b && list_all (λ r. begins top.0 r.0) rows) (itself top.0) ∙ begins_all top.0 (λ r. has_place (at (top ∷ rows)) r.0) rows two.1
  where
    itself : (p : Path) → begins p p ≡ true
    itself p = ap (begins p) (sym (append-nil p)) ∙ begins_append p []

chunks_same : (a b : Rows ℕ) → Same (at a) (at b) → part_chunks a ≡ part_chunks b
chunks_same a b same =
    ap all_chunks (same_entries path_cmp path_total paths_antisymmetric (by_path a) (by_path b) (by_path-sorted a) (by_path-sorted b) (λ q. at-by_path a q ∙ same q ∙ sym (at-by_path b q)))

-- the same rows are planted
plants_same : (path : Path) (a b : Rows ℕ) (old new : NamesView) (r : Result (Unit {0}) Refusal) → Same (at a) (at b) → Undoes (inverses.Tree (Removed path a)) old r new → Undoes (inverses.Tree (Removed path b)) old r new
plants_same path a b old new (Ok _) same h =
    (h.0, λ q. h.1 q ∙ with_part path (at a) (at b) (fin.get old.tree) same q, ap (λ chunks. accepted (raised_each old.refs chunks)) (sym (chunks_same a b same)) ∙ h.2)
plants_same path a b old new (Err e) same h = (
  elim h.0 [
    | inl memory ↦ inl memory
    | inr k ↦ inr (k.0, λ fits some. k.1 fits (ap (λ chunks. is_some (accepted (raised_each old.refs chunks))) (chunks_same a b same) ∙ some))
  ],
  h.1,
)

takes_planted : (rows : Rows ℕ) (t : TreeInverse) (old new : NamesView) (r : Result (Unit {0}) Refusal) → is_removed rows ≡ true → PutsBack rows t → Undoes (inverses.Tree t) old r new → TakesTree (planted rows) old r new
takes_planted [] t old new r part back h = absurd back
takes_planted (top ∷ rows) t old new r part (node, (same, is)) h =
    takes_tree (planted (top ∷ rows)) old new r (removed_test top.0 (seen_from top.0 (top ∷ rows)) (rows_in old))
    (plants_same top.0 node (seen_from top.0 (top ∷ rows)) old new r (λ q. same q ∙ sym (at_seen top.0 (top ∷ rows) (all_under top rows part) q))
    (subst (λ i. Undoes (inverses.Tree i) old r new) is h))

-- ---- one list

pub rows_back_again : (es : List TreeEntry) → rows_of_nodes (map plain_node es) ≡ rows_of_entries es
rows_back_again [] = refl
rows_back_again (nodes.Dir p ∷ es) = ap (λ rows. (p, Dir) ∷ rows) (rows_back_again es)
rows_back_again (nodes.File p chunks ∷ es) = ap (λ rows. (p, File chunks.items) ∷ rows) (rows_back_again es)

same_lists : (list : ListedInverse) → is_of_one (plain_inverse list) ≡ is_listed list
same_lists (lists.Mkdirs paths) = refl
same_lists (lists.Create paths) = refl
same_lists (lists.Rename to from) = refl
same_lists (lists.Hide to from) = refl
same_lists (lists.Unhide to from) = refl
same_lists (lists.Remove entries) = ap is_removed (rows_back_again entries.items)
same_lists (lists.AddChunk path) = refl
same_lists (lists.Cow path index chunk) = refl
same_lists (lists.Snapshot path) = refl
same_lists (lists.Forget chunks) = refl

-- what a list says, undone on names
abbrev Takes : PlainInverse → NamesView → Result (Unit {0}) Refusal → NamesView → Type 0
Takes inverse old (Ok _) new = undone_if_it_fits inverse old ≡ Some new
Takes inverse old (Err e) new = (e ≡ Memory) ⊎ ((e ≡ BadLine) × (undone_if_it_fits inverse old ≡ None))

by_tree : (inverse : PlainInverse) (i : TreeInverse) (old new : NamesView) (r : Result (Unit {0}) Refusal) → undone_if_it_fits inverse old ≡ tree_undone i old → TakesTree i old r new → Takes inverse old r new
by_tree inverse i old new (Ok _) is h = is ∙ h
by_tree inverse i old new (Err e) is h = elim h [
  | inl memory ↦ inl memory
  | inr b ↦ inr (b.0, is ∙ b.1)
]

takes_list : (list : ListedInverse) (i : Inverse) (old new : NamesView) (r : Result (Unit {0}) Refusal) → is_listed list ≡ true → IsMadeOfList list i → Undoes i old r new → Takes (plain_inverse list) old r new
takes_list (lists.Mkdirs paths) i old new r one is h =
    by_tree (plain_inverse (lists.Mkdirs paths)) (made_inverse paths.items) old new r refl (takes_tree (made_inverse paths.items) old new r (made_test paths.items old.tree) (subst (λ j. Undoes j old r new) is h))
takes_list (lists.Create paths) i old new r one is h =
    by_tree (plain_inverse (lists.Create paths)) (made_inverse paths.items) old new r refl (takes_tree (made_inverse paths.items) old new r (made_test paths.items old.tree) (subst (λ j. Undoes j old r new) is h))
takes_list (lists.Rename to from) i old new r one is h =
    by_tree (plain_inverse (lists.Rename to from)) (Moved from to) old new r refl (takes_tree (Moved from to) old new r (moved_test from to (rows_in old)) (subst (λ j. Undoes j old r new) is h))
takes_list (lists.Hide to from) i old new r one is h =
    by_tree (plain_inverse (lists.Hide to from)) (Moved from to) old new r refl (takes_tree (Moved from to) old new r (moved_test from to (rows_in old)) (subst (λ j. Undoes j old r new) is h))
takes_list (lists.Unhide to from) i old new r one is h =
    by_tree (plain_inverse (lists.Unhide to from)) (Moved from to) old new r refl (takes_tree (Moved from to) old new r (moved_test from to (rows_in old)) (subst (λ j. Undoes j old r new) is h))
takes_list (lists.Remove entries) i old new r one (t, (back, is)) h =
    by_tree (plain_inverse (lists.Remove entries)) (planted (rows_of_entries entries.items)) old new r (ap (λ rows. tree_undone (planted rows) old) (rows_back_again entries.items))
    (takes_planted (rows_of_entries entries.items) t old new r one back (subst (λ j. Undoes j old r new) is h))
takes_list (lists.AddChunk path) i old new r one is h =
    by_tree (plain_inverse (lists.AddChunk path)) (Added path) old new r refl (takes_tree (Added path) old new r (added_test path (rows_in old)) (subst (λ j. Undoes j old r new) is h))
takes_list (lists.Cow path index chunk) i old new r one is h =
    by_tree (plain_inverse (lists.Cow path index chunk)) (Changed path index chunk) old new r refl (takes_tree (Changed path index chunk) old new r (changed_test path index chunk (rows_in old)) (subst (λ j. Undoes j old r new) is h))
takes_list (lists.Snapshot path) i old new r one is h =
    by_tree (plain_inverse (lists.Snapshot path)) (Copied path) old new r refl (takes_tree (Copied path) old new r (copied_test path (rows_in old)) (subst (λ j. Undoes j old r new) is h))
takes_list (lists.Forget chunks) i old new r one (kept, (is, same)) h = forget r (subst (λ j. Undoes j old r new) is h)
  where
    forget : (r : Result (Unit {0}) Refusal) → Undoes (inverses.Remember kept) old r new → Takes (plain_inverse (lists.Forget chunks)) old r new
    forget (Ok _) k = ap (λ l. option_map (names_of old.tree) (accepted (put_each old.refs l))) same ∙ takes_put kept.items old new k.1 k.2
    forget (Err e) k = elim k.0 [
      | inl memory ↦ inl memory
      | inr b ↦ inr (b.0, ap (λ l. option_map (names_of old.tree) (accepted (put_each old.refs l))) same ∙ none_put (names_of old.tree) (accepted (put_each old.refs kept.items)) (λ some. b.1 tt some))
    ]

-- where a list is one of an inverse
pub takes_one : (list : ListedInverse) (i : Inverse) (old new : NamesView) (r : Result (Unit {0}) Refusal) → is_listed list ≡ true → IsMadeOfList list i → Undoes i old r new → TakesBackOne (plain_inverse list) old r new
unfolding undone
takes_one list i old new r one is h = each r (takes_list list i old new r one is h)
  where
    same : undone (plain_inverse list) old ≡ undone_if_it_fits (plain_inverse list) old
    same = ap (λ b. if b then undone_if_it_fits (plain_inverse list) old else None) (same_lists list ∙ one)

    each : (r : Result (Unit {0}) Refusal) → Takes (plain_inverse list) old r new → TakesBackOne (plain_inverse list) old r new
    each (Ok _) k = same ∙ k
    each (Err e) k = elim k [
      | inl memory ↦ inl memory
      | inr b ↦ inr (b.0, same ∙ b.1)
    ]

-- and where it is of none
pub takes_none : (list : ListedInverse) (old : NamesView) → is_listed list ≡ false → undone (plain_inverse list) old ≡ None
unfolding undone
takes_none list old none = ap (λ b. if b then undone_if_it_fits (plain_inverse list) old else None) (same_lists list ∙ none)

pub refused_list : (list : ListedInverse) (old : NamesView) (e : Refusal) → GivesInverse list (Err e) → (e ≡ Memory) ⊎ ((e ≡ BadLine) × (undone (plain_inverse list) old ≡ None))
refused_list list old e (inl memory) = inl memory.0
refused_list list old e (inr b) = inr (b.0, takes_none list old b.1)

-- ---- all of them

drop_here : (xs : List ListedInverse) (i : ℕ) (x : ListedInverse) → i < length xs → x ≡ get_or xs i x → drop i xs ≡ x ∷ drop (i + 1) xs
drop_here xs i x h at = rw (add-one, drop-cons xs i x h) (ap (λ y. y ∷ drop (suc i) xs) (sym at))

abbrev pub back_to : List ListedInverse → NamesView → Option NamesView
back_to inverses names = all_undone (map plain_inverse inverses) names

pub back_none : (inverses : List ListedInverse) (left : ℕ) (names : NamesView) → length inverses ≤ left → back_to (drop left inverses) names ≡ Some names
back_none inverses left names h = ap (λ l. back_to l names) (drop_all left inverses h)

pub back_all : (inverses : List ListedInverse) (left : ℕ) (names before : NamesView) → left ≡ 0 → back_to (drop left inverses) names ≡ Some before → back_to inverses names ≡ Some before
back_all inverses left names before is h = ap (λ n. back_to (drop n inverses) names) (sym is) ∙ h

-- one inverse more
back_more : (inverses : List ListedInverse) (left : ℕ) (x : ListedInverse) (names mid : NamesView) → left < length inverses → x ≡ get_or inverses left x → back_to (drop (left + 1) inverses) names ≡ Some mid → back_to (drop left inverses) names ≡ undone (plain_inverse x) mid
back_more inverses left x names mid h at is = ap (λ l. back_to l names) (drop_here inverses left x h at) ∙ ap (option_and_then (undone (plain_inverse x))) is

pub back_given : (inverses : List ListedInverse) (before left : ℕ) (x : ListedInverse) (names mid new : NamesView) → left < length inverses → before ≡ left + 1 → x ≡ get_or inverses left x → back_to (drop before inverses) names ≡ Some mid → TakesBackOne (plain_inverse x) mid (Ok tt) new
    → back_to (drop left inverses) names ≡ Some new
back_given inverses before left x names mid new h one at is takes = back_more inverses left x names mid h at (ap (λ n. back_to (drop n inverses) names) (sym one) ∙ is) ∙ takes

none_further : (left : ℕ) (inverses : List ListedInverse) (names : NamesView) → back_to (drop left inverses) names ≡ None → back_to inverses names ≡ None
none_further zero inverses names none = none
none_further (suc left) [] names none = none
none_further (suc left) (inverse ∷ inverses) names none = ap (option_and_then (undone (plain_inverse inverse))) (none_further left inverses names none)

pub back_refused : (inverses : List ListedInverse) (before left : ℕ) (x : ListedInverse) (names mid new : NamesView) (e : Refusal) → left < length inverses → before ≡ left + 1 → x ≡ get_or inverses left x → back_to (drop before inverses) names ≡ Some mid
    → TakesBackOne (plain_inverse x) mid (Err e) new → GivesNamesBack (map plain_inverse inverses) names (Err e)
back_refused inverses before left x names mid new e h one at is takes = elim takes [
  | inl memory ↦ inl memory
  | inr b ↦ inr (b.0, none_further left inverses names (back_more inverses left x names mid h at (ap (λ n. back_to (drop n inverses) names) (sym one) ∙ is) ∙ b.1))
]
