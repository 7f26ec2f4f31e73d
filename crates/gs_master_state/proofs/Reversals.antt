-- That an inverse is undone as its definition on rows says.
use Rattle.std.proofs.Common.{◌≡◌, ◌++◌, ◌&&◌, ◌||◌, ℕ, Bool, true, false, not, nat_lt, cond, List, [], ◌∷◌, map, length, refl, sym, ap, ◌∙◌, arith}
use Rattle.std.specs.Prelude.{Option, Some, None, is_some, option_map, if◌then◌else◌}
use Rattle.std.specs.List.{list_any}
use Rattle.std.specs.FinMap as fin
use Rattle.std.proofs.lemmas.Bool.{false≢true, and_parts, ltb-true}
use Rattle.gs_path.specs.Path.{Path, path_cmp, path_total, begins}
use Rattle.gs_tree.specs.Entry.{Entry, Dir, File}
use Rattle.gs_tree.specs.Plain.{Plain, Same, IsFree, after, with_at, without}
use Rattle.gs_tree.specs.Find.{Rows, at}
use Rattle.gs_tree.specs.Edits.{same_path, is_dir, parent, chunks_in, with_chunks}
use Rattle.gs_tree.specs.Inverses.{Fits, after_undo, first_made, all_but_last}
use Rattle.gs_tree.specs.declared.inverse.TreeInverse.{TreeInverse}
use Rattle.gs_tree.specs.declared.inverse.TreeInverse.TheVariants.{Made, Moved, Removed, Added, Changed, Copied}
use Rattle.gs_tree.proofs.Splice.{begins_parts}
use Rattle.gs_tree.proofs.Laws.{begins_append}
use Rattle.gs_tree.proofs.Levels.{both_true, never}
use Rattle.gs_tree.proofs.Moves.{is_dir_some}
use Rattle.gs_edit.specs.Names.{counts_back}
use Rattle.gs_edit.specs.Table.{table, paths_of}
use Rattle.gs_edit.specs.View.{NamesView, names_of}
use Rattle.gs_edit.proofs.Applied.{same_tree}
use Rattle.gs_edit.proofs.Covers.{covers-moved}
use Rattle.gs_edit.proofs.Tables.{among, Covers, among-left, among-right, among-map, among-paths_of, at-covering, same_itself, same_path-is, seen}
use Rattle.gs_master_spec.specs.Undoing.{fits_rows, is_place, paths_back, rows_back, tree_undone}

-- ---- a place

-- nothing stands at a path or under it where no row's path begins with it
pub free_by : (p : Path) (rows : Rows ℕ) → list_any (λ r. begins p r.0) rows ≡ false → IsFree (at rows) p
free_by p [] none s = refl
free_by p (r ∷ rows) none s =
    ap (λ b. cond b (Some r.1) (at rows (p ++ s))) (never (same_path (p ++ s) r.0) (λ e. begun (begins p r.0) (list_any (λ r. begins p r.0) rows) none (ap (begins p) (sym (same_path-is (p ++ s) r.0 e)) ∙ begins_append p s)))
    ∙ free_by p rows (rest (begins p r.0) (list_any (λ r. begins p r.0) rows) none) s
  where
    begun : (a b : Bool) → (a || b) ≡ false → a ≡ true → ⊥
    begun true b e t = false≢true (sym e)
    begun false b e t = false≢true t

    rest : (a b : Bool) → (a || b) ≡ false → b ≡ false
    rest true b e = absurd (false≢true (sym e))
    rest false b e = e

pub free_of : (p : Path) (rows : Rows ℕ) → IsFree (at rows) p → list_any (λ r. begins p r.0) rows ≡ false
free_of p [] free = refl
free_of p (r ∷ rows) free =
    let own : begins p r.0 ≡ false = never (begins p r.0) (λ b. false≢true (ap is_some (sym (free (after p r.0)) ∙ here b))) in
    ap (λ b. b || list_any (λ r. begins p r.0) rows) own ∙ free_of p rows (λ s. later s (same_path (p ++ s) r.0) (free s))
  where
    here : begins p r.0 ≡ true → at (r ∷ rows) (p ++ after p r.0) ≡ Some r.1
    here b = ap (λ q. at (r ∷ rows) q) (sym (begins_parts p r.0 b)) ∙ ap (λ c. cond c (Some r.1) (at rows r.0)) (same_itself r.0)

    later : (s : Path) (b : Bool) → cond b (Some r.1) (at rows (p ++ s)) ≡ None → at rows (p ++ s) ≡ None
    later s true e = absurd (false≢true (sym (ap is_some e)))
    later s false e = e

not_true : (b : Bool) → not b ≡ true → b ≡ false
not_true true e = absurd (false≢true e)
not_true false e = refl

pub place_fits : (rows : Rows ℕ) (p : Path) → is_place rows p ≡ true → IsFree (at rows) p × (at rows (parent p) ≡ Some Dir)
place_fits rows p is =
    let free = not (list_any (λ r. begins p r.0) rows) in
    let parts = and_parts free (is_dir (at rows (parent p))) is in
    (free_by p rows (not_true (list_any (λ r. begins p r.0) rows) parts.0), is_dir_some (at rows (parent p)) parts.1)

pub fits_place : (rows : Rows ℕ) (p : Path) → IsFree (at rows) p → at rows (parent p) ≡ Some Dir → is_place rows p ≡ true
fits_place rows p free dir =
    both_true (not (list_any (λ r. begins p r.0) rows)) (is_dir (at rows (parent p))) (ap not (free_of p rows free)) (ap is_dir dir)

-- ---- where something can stand then

covers_without : (rows : Rows ℕ) (p : Path) → Covers (paths_of rows) (without p (at rows))
covers_without rows p q some = among-paths_of rows q (kept (begins p q) some)
  where
    kept : (b : Bool) → is_some (cond b None (at rows q)) ≡ true → is_some (at rows q) ≡ true
    kept true h = absurd (false≢true h)
    kept false h = h

covers_made : (rows : Rows ℕ) (b : Bool) (p : Path) → Covers (paths_of rows) (cond b (without p (at rows)) (at rows))
covers_made rows true p = covers_without rows p
covers_made rows false p = λ q some. among-paths_of rows q some

covers_chunks : (rows : Rows ℕ) (p : Path) (chunks : List ℕ) → is_some (at rows p) ≡ true → Covers (paths_of rows) (with_chunks p chunks (at rows))
covers_chunks rows p chunks stands q some = each (same_path p q) refl some
  where
    each : (b : Bool) → same_path p q ≡ b → is_some (cond b (Some (File chunks)) (at rows q)) ≡ true → among (paths_of rows) q ≡ true
    each true is h = ap (among (paths_of rows)) (sym (same_path-is p q is)) ∙ among-paths_of rows p stands
    each false is h = among-paths_of rows q h

paths_behind : (p : Path) (node : Rows ℕ) → map (λ q. p ++ q) (paths_of node) ≡ map (λ (r : Path × Entry ℕ). p ++ r.0) node
paths_behind p [] = refl
paths_behind p (r ∷ node) = ap (λ ps. (p ++ r.0) ∷ ps) (paths_behind p node)

covers_planted : (rows node : Rows ℕ) (p : Path) → Covers (paths_of rows ++ map (λ (r : Path × Entry ℕ). p ++ r.0) node) (with_at p (at node) (at rows))
covers_planted rows node p q some = each (begins p q) refl some
  where
    each : (b : Bool) → begins p q ≡ b → is_some (cond b (at node (after p q)) (at rows q)) ≡ true → among (paths_of rows ++ map (λ (r : Path × Entry ℕ). p ++ r.0) node) q ≡ true
    each true is h =
        among-right (paths_of rows) (map (λ (r : Path × Entry ℕ). p ++ r.0) node) q
        (ap (λ ps. among ps q) (sym (paths_behind p node)) ∙ ap (among (map (λ s. p ++ s) (paths_of node))) (begins_parts p q is)
        ∙ among-map (λ s. p ++ s) (paths_of node) (after p q) (among-paths_of node (after p q) h))
    each false is h = among-left (paths_of rows) (map (λ (r : Path × Entry ℕ). p ++ r.0) node) q (among-paths_of rows q h)

has_chunks : (n : ℕ) (v : Option (Entry ℕ)) → nat_lt n (length (chunks_in v)) ≡ true → is_some v ≡ true
has_chunks n None h = absurd (none n h)
  where
    none : (n : ℕ) → nat_lt n 0 ≡ true → ⊥
    none n h = let s = ltb-true n 0 h in omega arith
has_chunks n (Some e) h = refl

pub covers_back : (i : TreeInverse) (rows : Rows ℕ) → fits_rows i rows ≡ true → Covers (paths_back i rows) (after_undo i (at rows))
covers_back (Made path above) rows fits = covers_made rows (nat_lt above (length path)) (first_made path above)
covers_back (Moved from to) rows fits = covers-moved rows to from
covers_back (Removed path node) rows fits = covers_planted rows node path
covers_back (Added path) rows fits = covers_chunks rows path (all_but_last (chunks_in (at rows path))) (has_chunks 0 (at rows path) fits)
covers_back (Changed path index chunk) rows fits = covers_chunks rows path _ (has_chunks index (at rows path) fits)
covers_back (Copied path) rows fits = covers_without rows path

-- ---- the names then

-- the map of a table
table_map : (ps : List Path) (m : Plain ℕ) (n : fin.FinMap path_cmp (Entry ℕ)) → Covers ps m → Same (fin.get n) m → fin.from_entries (table ps m) ≡ n
table_map ps m n covers same = same_tree (fin.from_entries (table ps m)) n (λ q. fin.get-from_entries path_total (table ps m) q ∙ at-covering ps m covers q ∙ sym (same q))

abbrev pub rows_in : NamesView → Rows ℕ
rows_in names = fin.entries names.tree

pub tree_given : (i : TreeInverse) (old new : NamesView) → fits_rows i (rows_in old) ≡ true → Same (fin.get new.tree) (after_undo i (fin.get old.tree)) → counts_back i old.tree old.refs ≡ Some new.refs → tree_undone i old ≡ Some new
tree_given i old new fits same counts =
    ap (λ b. if b then option_map (λ refs. names_of (fin.from_entries (rows_back i (rows_in old))) refs) (counts_back i old.tree old.refs) else None) fits
    ∙ ap (option_map (λ refs. names_of (fin.from_entries (rows_back i (rows_in old))) refs)) counts
    ∙ ap (λ t. Some (names_of t new.refs)) (table_map (paths_back i (rows_in old)) (after_undo i (at (rows_in old))) new.tree (covers_back i (rows_in old) fits) (λ q. same q ∙ ap (λ m. after_undo i m q) (seen old.tree)))

unless_both : {A B : Type 0} (b : Bool) (o : Option A) (f : A → B) → (b ≡ true → is_some o ≡ true → ⊥) → (if b then option_map f o else None) ≡ None
unless_both false o f never = refl
unless_both true None f never = refl
unless_both true (Some x) f never = absurd (never refl refl)

pub tree_refused : (i : TreeInverse) (old : NamesView) → (fits_rows i (rows_in old) ≡ true → is_some (counts_back i old.tree old.refs) ≡ true → ⊥) → tree_undone i old ≡ None
tree_refused i old never = unless_both (fits_rows i (rows_in old)) (counts_back i old.tree old.refs) (λ refs. names_of (fin.from_entries (rows_back i (rows_in old))) refs) never

-- ---- whether an inverse fits

-- the test on rows says whether an inverse fits them
pub record IsTest (i : TreeInverse) (rows : Rows ℕ) : Type 0 where
  pub fits : fits_rows i rows ≡ true → Fits i (at rows)
  pub holds : Fits i (at rows) → fits_rows i rows ≡ true

pub moved_test : (from to : Path) (rows : Rows ℕ) → IsTest (Moved from to) rows
moved_test from to rows = record {
  fits = λ h.
      let one = and_parts (is_some (at rows to)) (not (begins to from) && is_place rows from) h in
      let two = and_parts (not (begins to from)) (is_place rows from) one.1 in
      let place = place_fits rows from two.1 in
      (one.0, not_true (begins to from) two.0, place.0, place.1);
  holds = λ h.
      both_true (is_some (at rows to)) (not (begins to from) && is_place rows from) h.0
      (both_true (not (begins to from)) (is_place rows from) (ap not h.1) (fits_place rows from h.2 h.3));
}

pub removed_test : (path : Path) (node rows : Rows ℕ) → IsTest (Removed path node) rows
removed_test path node rows = record {
  fits = λ h. place_fits rows path h;
  holds = λ h. fits_place rows path h.0 h.1;
}

pub added_test : (path : Path) (rows : Rows ℕ) → IsTest (Added path) rows
added_test path rows = record { fits = λ h. h; holds = λ h. h }

pub changed_test : (path : Path) (index chunk : ℕ) (rows : Rows ℕ) → IsTest (Changed path index chunk) rows
changed_test path index chunk rows = record { fits = λ h. h; holds = λ h. h }

pub copied_test : (path : Path) (rows : Rows ℕ) → IsTest (Copied path) rows
copied_test path rows = record {
  fits = λ h.
      let parts = and_parts (not (same_path path [])) (is_some (at rows path)) h in
      ((λ root. false≢true (sym (not_true (same_path path []) parts.0) ∙ ap (λ p. same_path p []) root)), parts.1);
  holds = λ h. both_true (not (same_path path [])) (is_some (at rows path)) (ap not (never (same_path path []) (λ e. h.0 (same_path-is path [] e)))) h.1;
}
