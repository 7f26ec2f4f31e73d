-- A tree and its counts are told by their lists.
use Rattle.std.proofs.Common.{◌≡◌, ◌∙◌, ◌+◌, ◌&&◌, ℕ, Bool, true, false, cond, List, [], ◌∷◌, T, refl, sym, ap, subst, arith}
use Rattle.std.specs.Prelude.{Option, Some, None, is_some, is_none}
use Rattle.std.specs.declared.cmp.Ordering.{Ordering}
use Rattle.std.specs.declared.cmp.Ordering.TheVariants.{Less, Equal, Greater}
use Rattle.std.specs.List.{AllByRecursion, list_all}
use Rattle.std.specs.Cmp.{IsTotalOrder, Equal-is, tied_itself}
use Rattle.std.specs.FinMap as fin
use Rattle.std.specs.FinMap.Entries.{below_all, is_sorted}
use Rattle.std.specs.Ordering.{eq_by_cmp, is_eq, is_lt}
use Rattle.std.proofs.lemmas.Bool.{false≢true, and_parts}
use Rattle.gs_path.specs.Path.{Path, begins, text_cmp}
use Rattle.gs_refs.specs.Counts.{occurrences}
use Rattle.gs_tree.specs.Build.{all_apart, has_place, is_short, is_tree, rooted_rows}
use Rattle.gs_tree.specs.Chunks.{all_chunks}
use Rattle.gs_tree.specs.Edits.{chunks_in, same_path}
use Rattle.gs_tree.specs.Entry.{Entry, Dir, chunks_of, entry_back, entry_of}
use Rattle.gs_tree.specs.Find.{Rows, at}
use Rattle.gs_tree.proofs.Chunks.{same_itself}
use Rattle.gs_tree.proofs.Levels.{both_true}
use Rattle.gs_edit.specs.Scan.{is_without_slashes}
use Rattle.gs_edit.proofs.Occurring.{occurrences-append}
use Rattle.gs_master_spec.specs.Undoing.{rows_of_nodes}
use Rattle.gs_master_order.specs.Order.{by_text}
use Rattle.gs_laws_master.proofs.lemmas.names.Planted.{each_of, of_each}
use Rattle.gs_laws_master.proofs.lemmas.spelling.Texted.{apart_told, at_told, is_told, kept_told, same_told, sorted_told}

abbrev Nodes : Type 0
Nodes = List (Path × Option (List ℕ))

-- ---- what holds of each entry of a map

module _ {K X : Type 0} (R : K → K → Ordering) (total : IsTotalOrder R) (exact : (x y : K) → R x y ≡ Equal → x ≡ y) where
  pub below_found : (p k : K) (es : List (K × X)) → T (below_all R p es) → is_some (fin.find R k es) ≡ true → T (is_lt (R p k))
  below_found p k [] below some = absurd (false≢true some)
  below_found p k (e ∷ es) below some = each (below_found p k es (snd (is_lt (R p e.0)) (below_all R p es) below)) (eq_by_cmp R k e.0) refl some
    where
      fst : (a b : Bool) → T (a && b) → T a
      fst true b h = tt
      fst false b h = h

      snd : (a b : Bool) → T (a && b) → T b
      snd true b h = h
      snd false b h = absurd h

      each : (is_some (fin.find R k es) ≡ true → T (is_lt (R p k))) → (b : Bool) → eq_by_cmp R k e.0 ≡ b → is_some (cond b (Some e.1) (fin.find R k es)) ≡ true → T (is_lt (R p k))
      each later true is h = subst (λ x. T (is_lt (R p x))) (sym (exact k e.0 ((Equal-is (R k e.0)).0 is))) (fst (is_lt (R p e.0)) (below_all R p es) below)
      each later false is h = later h

  -- what holds of each that is found holds of each entry
  pub each_found : (f : K × X → Bool) (es : List (K × X)) → T (is_sorted R es) → ((k : K) (v : X) → fin.find R k es ≡ Some v → f (k, v) ≡ true) → list_all f es ≡ true
  each_found f [] sorted all = refl
  each_found f (e ∷ es) sorted all =
      both_true (f e) (list_all f es) (all e.0 e.1 (ap (λ o. cond (is_eq o) (Some e.1) (fin.find R e.0 es)) (tied_itself total e.0)))
      (each_found f es (snd (below_all R e.0 es) (is_sorted R es) sorted) (λ k v found. all k v (later k v found (eq_by_cmp R k e.0) refl)))
    where
      fst : (a b : Bool) → T (a && b) → T a
      fst true b h = tt
      fst false b h = h

      snd : (a b : Bool) → T (a && b) → T b
      snd true b h = h
      snd false b h = absurd h

      later : (k : K) (v : X) → fin.find R k es ≡ Some v → (b : Bool) → eq_by_cmp R k e.0 ≡ b → cond b (Some e.1) (fin.find R k es) ≡ Some v
      later k v found true is =
          let same : k ≡ e.0 = exact k e.0 ((Equal-is (R k e.0)).0 is) in
          absurd (subst (λ o. T (is_lt o)) (ap (R e.0) same ∙ tied_itself total e.0) (below_found e.0 k es (fst (below_all R e.0 es) (is_sorted R es) sorted) (ap is_some found)))
      later k v found false is = found

  -- the same of what is said of entries
  pub each_entry : (P : K → X → Type 0) (es : List (K × X)) → T (is_sorted R es) → ((k : K) (v : X) → fin.find R k es ≡ Some v → P k v) → AllByRecursion (λ e. P e.0 e.1) es
  each_entry P [] sorted all = tt
  each_entry P (e ∷ es) sorted all = (
    all e.0 e.1 (ap (λ o. cond (is_eq o) (Some e.1) (fin.find R e.0 es)) (tied_itself total e.0)),
    each_entry P es (snd (below_all R e.0 es) (is_sorted R es) sorted) (λ k v found. all k v (later k v found (eq_by_cmp R k e.0) refl)),
  )
    where
      fst : (a b : Bool) → T (a && b) → T a
      fst true b h = tt
      fst false b h = h

      snd : (a b : Bool) → T (a && b) → T b
      snd true b h = h
      snd false b h = absurd h

      later : (k : K) (v : X) → fin.find R k es ≡ Some v → (b : Bool) → eq_by_cmp R k e.0 ≡ b → cond b (Some e.1) (fin.find R k es) ≡ Some v
      later k v found true is =
          let same : k ≡ e.0 = exact k e.0 ((Equal-is (R k e.0)).0 is) in
          absurd (subst (λ o. T (is_lt o)) (ap (R e.0) same ∙ tied_itself total e.0) (below_found e.0 k es (fst (below_all R e.0 es) (is_sorted R es) sorted) (ap is_some found)))
      later k v found false is = found

-- ---- the tree

told_rows : (rows : Rows ℕ) → is_none (at rows []) ≡ true → list_all (λ r. is_without_slashes r.0) rows ≡ true → list_all (λ r. is_told r.0) rows ≡ true
told_rows rows none plain = each_of is_told rows one
  where
    one : (q : Path) → is_some (at rows q) ≡ true → is_told q ≡ true
    one [] some = absurd (nothing (at rows []) none some)
      where
        nothing : (v : Option (Entry ℕ)) → is_none v ≡ true → is_some v ≡ true → ⊥
        nothing None n s = false≢true s
        nothing (Some e) n s = false≢true n
    one (x ∷ q) some = of_each is_without_slashes rows (x ∷ q) plain some

-- rows of a tree below its root
pub record IsBelow (rows : Rows ℕ) : Type 0 where
  pub tree : is_tree rows ≡ true
  pub plain : list_all (λ r. is_without_slashes r.0) rows ≡ true

abbrev told : Rows ℕ → Rows ℕ
told rows = rows_of_nodes (by_text rows)

record TreeParts (rows : Rows ℕ) : Type 0 where
  root : is_none (at rows []) ≡ true
  apart : all_apart rows ≡ true
  places : list_all (λ r. begins [] r.0 && has_place (at (rooted_rows rows)) r.0) rows ≡ true

tree_parts : (rows : Rows ℕ) → is_tree rows ≡ true → TreeParts rows
tree_parts rows tree =
    let all = list_all (λ r. begins [] r.0 && has_place (at (rooted_rows rows)) r.0) rows in
    let one = and_parts (is_short []) (all_apart (rooted_rows rows) && all) tree in
    let two = and_parts (all_apart (rooted_rows rows)) all one.1 in
    let three = and_parts (is_none (at rows [])) (all_apart rows) two.0 in record { root = three.0; apart = three.1; places = two.1 }

pub all_told : (rows : Rows ℕ) → IsBelow rows → list_all (λ r. is_told r.0) rows ≡ true
all_told rows is = told_rows rows (tree_parts rows is.tree).root is.plain

-- the same stands at each path
pub rooted_told : (rows : Rows ℕ) (q : Path) → IsBelow rows → at (rooted_rows (told rows)) q ≡ at (rooted_rows rows) q
rooted_told rows q is = ap (λ v. cond (same_path q []) (Some Dir) v) (at_told rows q (all_told rows is))

pub tree_told : (rows : Rows ℕ) → IsBelow rows → is_tree (told rows) ≡ true
tree_told rows is =
    let parts = tree_parts rows is.tree in
    let none : is_none (at (told rows) []) ≡ true = ap is_none (at_told rows [] (all_told rows is)) ∙ parts.root in
    let kept = kept_told (λ q. begins [] q && has_place (at (rooted_rows rows)) q) rows parts.places in
    both_true (all_apart (rooted_rows (told rows))) _ (both_true (is_none (at (told rows) [])) (all_apart (told rows)) none (apart_told (by_text rows) (sorted_told rows)))
    (ap (λ m. list_all (λ r. begins [] r.0 && has_place m r.0) (told rows)) (λ i q. rooted_told rows q is i) ∙ places (by_text rows) kept)
  where
    places : (es : Nodes) → list_all (λ n. begins [] n.0 && has_place (at (rooted_rows rows)) n.0) es ≡ true → list_all (λ r. begins [] r.0 && has_place (at (rooted_rows rows)) r.0) (rows_of_nodes es) ≡ true
    places [] h = refl
    places (e ∷ es) h = let both = and_parts (begins [] e.0 && has_place (at (rooted_rows rows)) e.0) (list_all (λ n. begins [] n.0 && has_place (at (rooted_rows rows)) n.0) es) h in
        both_true (begins [] e.0 && has_place (at (rooted_rows rows)) e.0) (list_all (λ r. begins [] r.0 && has_place (at (rooted_rows rows)) r.0) (rows_of_nodes es)) both.0 (places es both.1)

-- ---- its chunks

abbrev by_order : {A : Type 0} → Ordering → A → A → A → A
by_order Less a b c = a
by_order Equal a b c = b
by_order Greater a b c = c

chunks_put : (h : ℕ) (es : Nodes) (p : Path) (v : Option (List ℕ)) → is_told p ≡ true → list_all (λ n. is_told n.0) es ≡ true → at (rows_of_nodes es) p ≡ None
    → occurrences h (all_chunks (rows_of_nodes (fin.put text_cmp p v es))) ≡ occurrences h (chunks_in (Some (entry_of v))) + occurrences h (all_chunks (rows_of_nodes es))
chunks_put h [] p v f g none = occurrences-append h (chunks_in (Some (entry_of v))) []
chunks_put h (e ∷ es) p v f g none = each (same_path p e.0) refl none (chunks_put h es p v f (and_parts (is_told e.0) (list_all (λ n. is_told n.0) es) g).1) (text_cmp p e.0) refl
  where
    rest : List ℕ
    rest = all_chunks (rows_of_nodes es)

    own : List ℕ
    own = chunks_in (Some (entry_of v))

    by_text_order : (at (rows_of_nodes es) p ≡ None → occurrences h (all_chunks (rows_of_nodes (fin.put text_cmp p v es))) ≡ occurrences h own + occurrences h rest) → at (rows_of_nodes es) p ≡ None → same_path p e.0 ≡ false → (o : Ordering) → text_cmp p e.0 ≡ o
        → occurrences h (all_chunks (rows_of_nodes (by_order o ((p, v) ∷ e ∷ es) ((e.0, v) ∷ es) (e ∷ fin.put text_cmp p v es)))) ≡ occurrences h own + occurrences h (all_chunks (rows_of_nodes (e ∷ es)))
    by_text_order later gone other Less is = occurrences-append h own (all_chunks (rows_of_nodes (e ∷ es)))
    by_text_order later gone other Equal is =
        let same = same_told p e.0 f (and_parts (is_told e.0) (list_all (λ n. is_told n.0) es) g).0 is in absurd (false≢true (sym other ∙ ap (same_path p) (sym same) ∙ same_itself p))
    by_text_order later gone other Greater is =
        let a = occurrences-append h (chunks_in (Some (entry_of e.1))) (all_chunks (rows_of_nodes (fin.put text_cmp p v es))) in
        let b = occurrences-append h (chunks_in (Some (entry_of e.1))) rest in
        let c = later gone in omega arith

    each : (b : Bool) → same_path p e.0 ≡ b → cond b (Some (entry_of e.1)) (at (rows_of_nodes es) p) ≡ None
        → (at (rows_of_nodes es) p ≡ None → occurrences h (all_chunks (rows_of_nodes (fin.put text_cmp p v es))) ≡ occurrences h own + occurrences h rest) → (o : Ordering) → text_cmp p e.0 ≡ o
        → occurrences h (all_chunks (rows_of_nodes (by_order o ((p, v) ∷ e ∷ es) ((e.0, v) ∷ es) (e ∷ fin.put text_cmp p v es)))) ≡ occurrences h own + occurrences h (all_chunks (rows_of_nodes (e ∷ es)))
    each true is k later o ordered = absurd (false≢true (sym (ap is_some k)))
    each false is k later o ordered = by_text_order later k is o ordered

chunks_told : (h : ℕ) (rows : Rows ℕ) → list_all (λ r. is_told r.0) rows ≡ true → all_apart rows ≡ true → occurrences h (all_chunks (told rows)) ≡ occurrences h (all_chunks rows)
chunks_told h [] g apart = refl
chunks_told h (r ∷ rows) g apart =
    let parts = and_parts (is_told r.0) (list_all (λ s. is_told s.0) rows) g in
    let two = and_parts (is_none (at rows r.0)) (all_apart rows) apart in
    chunks_put h (by_text rows) r.0 (chunks_of r.1) parts.0 (kept_told is_told rows parts.1) (at_told rows r.0 parts.1 ∙ nothing (at rows r.0) two.0)
    ∙ (λ i. occurrences h (chunks_in (Some (entry_back r.1 i))) + chunks_told h rows parts.1 two.1 i) ∙ sym (occurrences-append h (chunks_in (Some r.1)) (all_chunks rows))
  where
    nothing : (v : Option (Entry ℕ)) → is_none v ≡ true → v ≡ None
    nothing None n = refl
    nothing (Some e) n = absurd (false≢true n)

pub chunks_again : (h : ℕ) (rows : Rows ℕ) → IsBelow rows → occurrences h (all_chunks (told rows)) ≡ occurrences h (all_chunks rows)
chunks_again h rows is = chunks_told h rows (all_told rows is) (tree_parts rows is.tree).apart
