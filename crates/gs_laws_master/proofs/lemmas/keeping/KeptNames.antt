-- An edit that is told leaves names as they are to stand.
use Rattle.std.proofs.Common.{◌≡◌, ◌∙◌, ◌||◌, ℕ, Bool, true, false, not, [], ◌∷◌, length, T, refl, sym, ap, subst}
use Rattle.std.specs.Prelude.{is_some}
use Rattle.std.specs.List.{list_all, list_any}
use Rattle.std.specs.FinMap as fin
use Rattle.std.specs.FinMap.Entries.{is_sorted}
use Rattle.std.proofs.lemmas.Bool.{false≢true, and_parts, leb-true, le-leb}
use Rattle.gs_path.specs.Path.{Path, path_cmp}
use Rattle.gs_tree.specs.Build.{below_root, is_short, is_tree, IsSound}
use Rattle.gs_tree.specs.Entry.{Entry}
use Rattle.gs_tree.specs.Find.{Rows, IsWithin, most_elements, DirsAbove}
use Rattle.gs_tree.specs.Plain.{Plain}
use Rattle.gs_tree.proofs.Entering.{sound-tree, whole_rows}
use Rattle.gs_tree.proofs.Levels.{both_true}
use Rattle.gs_edit.specs.Names.{IsCounted}
use Rattle.gs_edit.specs.Scan.{is_without_slashes}
use Rattle.gs_edit.specs.View.{NamesView}
use Rattle.gs_edit.proofs.Tables.{seen}
use Rattle.gs_laws_master.specs.Promises.{AreKept}
use Rattle.gs_master_spec.specs.Whole.{are_hidden_once, is_hidden_twice}
use Rattle.gs_laws_master.proofs.lemmas.names.Commanded.{EachName}
use Rattle.gs_laws_master.proofs.lemmas.names.EditsBack.{FitCounts}
use Rattle.gs_laws_master.proofs.lemmas.names.Grown.{Grown}
use Rattle.gs_laws_master.proofs.lemmas.names.Planted.{each_of, of_each}
use Rattle.gs_laws_master.proofs.lemmas.spelling.Spelled.{is_once, is_plain}

-- ---- names that stand, by what stands at each path

to_true : (b : Bool) → T b → b ≡ true
to_true true h = refl
to_true false h = absurd h

pub each_rows : (f : Path → Bool) (t : fin.FinMap path_cmp (Entry ℕ)) → ((q : Path) → is_some (fin.get t q) ≡ true → f q ≡ true) → list_all (λ r. f r.0) (fin.entries t) ≡ true
each_rows f t all = each_of f (fin.entries t) (λ q some. all q (ap (λ m. is_some (m q)) (seen t) ∙ some))

pub rows_each : (f : Path → Bool) (t : fin.FinMap path_cmp (Entry ℕ)) → list_all (λ r. f r.0) (fin.entries t) ≡ true → (q : Path) → is_some (fin.get t q) ≡ true → f q ≡ true
rows_each f t all q some = of_each f (fin.entries t) q all (ap (λ m. is_some (m q)) (sym (seen t)) ∙ some)

sound_rows : (t : fin.FinMap path_cmp (Entry ℕ)) → Grown (fin.get t) → IsSound (fin.entries t)
sound_rows t g = record {
  rise = to_true (is_sorted path_cmp (fin.entries t)) (fin.entries_sorted t);
  above = subst (λ (m : Plain ℕ). (q : Path) → is_some (m q) ≡ true → DirsAbove m q) (seen t) g.above;
}

pub tree_rows : (t : fin.FinMap path_cmp (Entry ℕ)) → Grown (fin.get t) → IsWithin most_elements (fin.get t) → is_tree (below_root (fin.entries t)) ≡ true
tree_rows t g within =
    let sound = sound_rows t g in
    let whole = whole_rows (fin.entries t) sound (ap (λ m. m []) (sym (seen t)) ∙ g.root) in
    sym (sound-tree (below_root (fin.entries t)) (subst IsSound (sym whole) sound))
    ∙ ap (λ (rows : Rows ℕ). list_all (λ r. is_short r.0) rows) whole ∙ each_rows is_short t (λ q some. le-leb (length q) most_elements (within q some))

none_twice : (p : Path) → list_all is_once p ≡ true → list_any is_hidden_twice p ≡ false
none_twice [] h = refl
none_twice (x ∷ p) h = let parts = and_parts (is_once x) (list_all is_once p) h in either (is_hidden_twice x) (list_any is_hidden_twice p) parts.0 (none_twice p parts.1)
  where
    either : (a b : Bool) → not a ≡ true → b ≡ false → (a || b) ≡ false
    either true b h k = absurd (false≢true h)
    either false b h k = k

all_once : (p : Path) → list_any is_hidden_twice p ≡ false → list_all is_once p ≡ true
all_once [] h = refl
all_once (x ∷ p) h = each (all_once p) (is_hidden_twice x) refl h
  where
    each : (list_any is_hidden_twice p ≡ false → list_all is_once p ≡ true) → (a : Bool) → is_hidden_twice x ≡ a → (a || list_any is_hidden_twice p) ≡ false → list_all is_once (x ∷ p) ≡ true
    each rest true is k = absurd (false≢true (sym k))
    each rest false is k = both_true (is_once x) (list_all is_once p) (ap not is) (rest k)

once_rows : (rows : Rows ℕ) → list_all (λ r. list_all is_once r.0) rows ≡ true → are_hidden_once rows ≡ true
once_rows rows h = ap not (none rows h)
  where
    none : (rows : Rows ℕ) → list_all (λ r. list_all is_once r.0) rows ≡ true → list_any (λ r. list_any is_hidden_twice r.0) rows ≡ false
    none [] h = refl
    none (r ∷ rows) h =
        let parts = and_parts (list_all is_once r.0) (list_all (λ s. list_all is_once s.0) rows) h in
        ap (λ b. b || list_any (λ s. list_any is_hidden_twice s.0) rows) (none_twice r.0 parts.0) ∙ none rows parts.1

pub rows_once : (rows : Rows ℕ) → are_hidden_once rows ≡ true → list_all (λ r. list_all is_once r.0) rows ≡ true
rows_once [] h = refl
rows_once (r ∷ rows) h = each (list_any is_hidden_twice r.0) refl h (rows_once rows)
  where
    each : (b : Bool) → list_any is_hidden_twice r.0 ≡ b → not (b || list_any (λ s. list_any is_hidden_twice s.0) rows) ≡ true → (are_hidden_once rows ≡ true → list_all (λ s. list_all is_once s.0) rows ≡ true) → list_all (λ s. list_all is_once s.0) (r ∷ rows) ≡ true
    each true is k rest = absurd (false≢true k)
    each false is k rest = both_true (list_all is_once r.0) (list_all (λ s. list_all is_once s.0) rows) (all_once r.0 is) (rest k)

-- what stands, of a tree and counts
pub record Stands (names : NamesView) : Type 0 where
  pub grown : Grown (fin.get names.tree)
  pub within : IsWithin most_elements (fin.get names.tree)
  pub plain : EachName is_plain (fin.get names.tree)
  pub once : EachName is_once (fin.get names.tree)
  pub counted : IsCounted names
  pub counts : FitCounts names.refs

pub kept_by : (names : NamesView) → Stands names → AreKept names
kept_by names s = record {
  root = s.grown.root;
  tree = tree_rows names.tree s.grown s.within;
  plain = each_rows is_without_slashes names.tree s.plain;
  hidden = once_rows (fin.entries names.tree) (each_rows (list_all is_once) names.tree s.once);
  counted = s.counted;
  counts = s.counts;
}

pub stands_by : (names : NamesView) → AreKept names → Grown (fin.get names.tree) → list_all (λ r. is_short r.0) (fin.entries names.tree) ≡ true → Stands names
stands_by names k grown short = record {
  grown = grown;
  within = λ q some. leb-true (length q) most_elements (rows_each is_short names.tree short q some);
  plain = rows_each is_without_slashes names.tree k.plain;
  once = rows_each (list_all is_once) names.tree (rows_once (fin.entries names.tree) k.hidden);
  counted = k.counted;
  counts = k.counts;
}
