-- What a removal takes out can be put back of the list of its rows by their texts.
use Rattle.std.proofs.Common.{◌≡◌, ◌≢◌, ◌∙◌, ◌<◌, ◌&&◌, ◌++◌, ℕ, Bool, true, false, cond, List, [], ◌∷◌, T, append-nil, refl, sym, ap, subst, arith}
use Rattle.std.specs.Prelude.{Option, Some, None, Ok, is_some}
use Rattle.std.specs.List.{list_all}
use Rattle.std.specs.FinMap as fin
use Rattle.std.specs.FinMap.Entries.{below_all, find-where_key, is_sorted}
use Rattle.std.specs.Cmp.{nat_cmp_total, tied_itself}
use Rattle.std.specs.Ordering.{eq_by_cmp, is_eq, is_lt, nat_cmp}
use Rattle.std.proofs.lemmas.Bool.{false≢true, and_parts, le-leb}
use Rattle.gs_path.specs.Path.{Name, Path, begins, path_cmp, text_cmp}
use Rattle.gs_refs.specs.Counts.{Counts, count_or_zero, has_count, last_count, lowered_each, occurrences}
use Rattle.gs_refs.proofs.EachLemmas.{fitting, lowered-sum}
use Rattle.gs_tree.specs.Build.{all_apart, has_place, is_short}
use Rattle.gs_tree.specs.Chunks.{rows_under}
use Rattle.gs_tree.specs.Edits.{is_dir, parent, same_path}
use Rattle.gs_tree.specs.Entry.{Entry, entry_of}
use Rattle.gs_tree.specs.Find.{Rows, at}
use Rattle.gs_tree.specs.Lists.{is_removed}
use Rattle.gs_tree.specs.Plain.{Same, after, part_at}
use Rattle.gs_tree.proofs.Chunks.{same_itself}
use Rattle.gs_tree.proofs.Depths.{paths_antisymmetric}
use Rattle.gs_tree.proofs.Gathering.{cmp-prefixed}
use Rattle.gs_tree.proofs.Laws.{begins_append}
use Rattle.gs_tree.proofs.Levels.{both_true}
use Rattle.gs_tree.proofs.Moves.{dir_above}
use Rattle.gs_tree.proofs.Reaching.{same_path-is}
use Rattle.gs_tree.proofs.Splice.{begins_parts}
use Rattle.gs_edit.specs.Scan.{is_without_slashes}
use Rattle.gs_edit.proofs.Tables.{seen}
use Rattle.gs_laws_master.proofs.lemmas.names.EditsBack.{FitCounts}
use Rattle.gs_laws_master.proofs.lemmas.names.Grown.{Grown}
use Rattle.gs_laws_master.proofs.lemmas.spelling.Texted.{Headed, apart_told, at_told, headed, is_told, kept_told, not_tied, sorted_told}
use Rattle.gs_master_spec.specs.Undoing.{rows_of_nodes, seen_from}
use Rattle.gs_master_order.specs.Order.{by_text}

abbrev Nodes : Type 0
Nodes = List (Path × Option (List ℕ))

-- ---- what holds of each path of rows

-- what holds of each path at which something stands
pub each_of : (f : Path → Bool) (rows : Rows ℕ) → ((q : Path) → is_some (at rows q) ≡ true → f q ≡ true) → list_all (λ r. f r.0) rows ≡ true
each_of f [] h = refl
each_of f (r ∷ rows) h =
    both_true (f r.0) (list_all (λ s. f s.0) rows) (h r.0 (ap (λ b. is_some (cond b (Some r.1) (at rows r.0))) (same_itself r.0))) (each_of f rows (λ q some. h q (later (same_path q r.0) q some)))
  where
    later : (b : Bool) (q : Path) → is_some (at rows q) ≡ true → is_some (cond b (Some r.1) (at rows q)) ≡ true
    later true q some = refl
    later false q some = some

pub of_each : (f : Path → Bool) (rows : Rows ℕ) (q : Path) → list_all (λ r. f r.0) rows ≡ true → is_some (at rows q) ≡ true → f q ≡ true
of_each f [] q h some = absurd (false≢true some)
of_each f (r ∷ rows) q h some = by_test (of_each f rows q (and_parts (f r.0) (list_all (λ s. f s.0) rows) h).1) (same_path q r.0) refl some
  where
    by_test : (is_some (at rows q) ≡ true → f q ≡ true) → (b : Bool) → same_path q r.0 ≡ b → is_some (cond b (Some r.1) (at rows q)) ≡ true → f q ≡ true
    by_test later true is k = ap f (same_path-is q r.0 is) ∙ (and_parts (f r.0) (list_all (λ s. f s.0) rows) h).0
    by_test later false is k = later k

-- ---- the rows under a path

-- what stands at and under a path, of its rows
at_under : (p : Path) (rows : Rows ℕ) (q : Path) → at (rows_under p rows) q ≡ cond (begins p q) (at rows q) None
at_under p rows q = find-where_key path_cmp (begins p) q (λ x e. ap (begins p) (sym (paths_antisymmetric q x e))) rows

under_begins : (p q : Path) (rows : Rows ℕ) → is_some (at (rows_under p rows) q) ≡ true → begins p q ≡ true
under_begins p q rows some = by_test (begins p q) (sym (ap is_some (at_under p rows q)) ∙ some)
  where
    by_test : (b : Bool) → is_some (cond b (at rows q) None) ≡ true → b ≡ true
    by_test true h = refl
    by_test false h = absurd (false≢true h)

under_stands : (p q : Path) (rows : Rows ℕ) → is_some (at (rows_under p rows) q) ≡ true → is_some (at rows q) ≡ true
under_stands p q rows some = by_test (begins p q) (sym (ap is_some (at_under p rows q)) ∙ some)
  where
    by_test : (b : Bool) → is_some (cond b (at rows q) None) ≡ true → is_some (at rows q) ≡ true
    by_test true h = h
    by_test false h = absurd (false≢true h)

at_behind : (p : Path) (rows : Rows ℕ) (q : Path) → at (rows_under p rows) (p ++ q) ≡ at rows (p ++ q)
at_behind p rows q = at_under p rows (p ++ q) ∙ ap (λ b. cond b (at rows (p ++ q)) None) (begins_append p q)

-- rows that all begin with a path, seen from there
at_seen : (p : Path) (rows : Rows ℕ) (q : Path) → list_all (λ r. begins p r.0) rows ≡ true → at (seen_from p rows) q ≡ at rows (p ++ q)
at_seen p [] q h = refl
at_seen p (r ∷ rows) q h =
    let parts = and_parts (begins p r.0) (list_all (λ s. begins p s.0) rows) h in
    ap (λ v. cond (same_path q (after p r.0)) (Some r.1) v) (at_seen p rows q parts.1)
    ∙ ap (λ b. cond b (Some r.1) (at rows (p ++ q))) (sym (ap is_eq (cmp-prefixed p q (after p r.0))) ∙ ap (same_path (p ++ q)) (sym (begins_parts p r.0 parts.0)))

-- ---- the list of what stands under a path below the root

below_told : (p q : Path) → p ≢ [] → begins p q ≡ true → is_without_slashes q ≡ true → is_told q ≡ true
below_told [] q ne b plain = absurd (ne refl)
below_told (x ∷ p) [] ne b plain = absurd (false≢true b)
below_told (x ∷ p) (y ∷ q) ne b plain = plain

-- what is said of a path in the tree
pub record IsPlainTree (t : fin.FinMap path_cmp (Entry ℕ)) : Type 0 where
  pub grown : Grown (fin.get t)
  pub short : list_all (λ r. is_short r.0) (fin.entries t) ≡ true
  pub plain : list_all (λ r. is_without_slashes r.0) (fin.entries t) ≡ true

abbrev listed : fin.FinMap path_cmp (Entry ℕ) → Path → Nodes
listed t p = by_text (rows_under p (fin.entries t))

all_told : (t : fin.FinMap path_cmp (Entry ℕ)) (p : Path) → IsPlainTree t → p ≢ [] → list_all (λ r. is_told r.0) (rows_under p (fin.entries t)) ≡ true
all_told t p is ne =
    each_of is_told (rows_under p (fin.entries t)) (λ q some. below_told p q ne (under_begins p q (fin.entries t) some) (of_each is_without_slashes (fin.entries t) q is.plain (under_stands p q (fin.entries t) some)))

listed_at : (t : fin.FinMap path_cmp (Entry ℕ)) (p : Path) → IsPlainTree t → p ≢ [] → (q : Path) → at (rows_of_nodes (listed t p)) (p ++ q) ≡ fin.get t (p ++ q)
listed_at t p is ne q =
    at_told (rows_under p (fin.entries t)) (p ++ q) (all_told t p is ne) ∙ at_behind p (fin.entries t) q ∙ ap (λ m. m (p ++ q)) (sym (seen t))

listed_begins : (t : fin.FinMap path_cmp (Entry ℕ)) (p : Path) → list_all (λ n. begins p n.0) (listed t p) ≡ true
listed_begins t p = kept_told (begins p) (rows_under p (fin.entries t)) (each_of (begins p) (rows_under p (fin.entries t)) (λ q some. under_begins p q (fin.entries t) some))

rows_begin : (p : Path) (es : Nodes) → list_all (λ n. begins p n.0) es ≡ true → list_all (λ r. begins p r.0) (rows_of_nodes es) ≡ true
rows_begin p [] h = refl
rows_begin p (e ∷ es) h = let parts = and_parts (begins p e.0) (list_all (λ n. begins p n.0) es) h in both_true (begins p e.0) _ parts.0 (rows_begin p es parts.1)

-- seen from the path, it is what stands there
pub planted_at : (t : fin.FinMap path_cmp (Entry ℕ)) (p : Path) → IsPlainTree t → p ≢ [] → Same (part_at p (fin.get t)) (at (seen_from p (rows_of_nodes (listed t p))))
planted_at t p is ne q = sym (at_seen p (rows_of_nodes (listed t p)) q (rows_begin p (listed t p) (listed_begins t p)) ∙ listed_at t p is ne q)

pub listed_headed : (t : fin.FinMap path_cmp (Entry ℕ)) (p : Path) → IsPlainTree t → p ≢ [] → is_some (fin.get t p) ≡ true → Headed p (listed t p)
listed_headed t p is ne some =
    headed p (listed t p) ne (sorted_told (rows_under p (fin.entries t))) (listed_begins t p)
    (subst (λ q. is_some (at (rows_of_nodes (listed t p)) q) ≡ true) (append-nil p) (ap is_some (listed_at t p is ne [] ∙ ap (fin.get t) (append-nil p)) ∙ some))

-- ---- it is what a removal takes out

parent_behind : (p : Path) (x : Name) (r : Path) → parent (p ++ x ∷ r) ≡ p ++ parent (x ∷ r)
parent_behind [] x r = refl
parent_behind (y ∷ []) x [] = refl
parent_behind (y ∷ []) x (z ∷ r) = refl
parent_behind (y ∷ z ∷ p) x r = ap (λ q. y ∷ q) (parent_behind (z ∷ p) x r)

-- what stands at a path of the tree
abbrev stands_in : fin.FinMap path_cmp (Entry ℕ) → Path → Bool
stands_in t q = is_some (fin.get t q)

has_parent : (t : fin.FinMap path_cmp (Entry ℕ)) (p q : Path) → IsPlainTree t → p ≢ [] → begins p q ≡ true → same_path p q ≡ false → stands_in t q ≡ true → is_dir (at (rows_of_nodes (listed t p)) (parent q)) ≡ true
has_parent t p q is ne b other some = by_rest (after p q) (begins_parts p q b)
  where
    some_path : (r : Path) (x : Name) (s : Path) → r ++ x ∷ s ≢ []
    some_path [] x s e = cc
    some_path (y ∷ r) x s e = cc

    by_rest : (r : Path) → q ≡ p ++ r → is_dir (at (rows_of_nodes (listed t p)) (parent q)) ≡ true
    by_rest [] e = absurd (false≢true (sym other ∙ ap (same_path p) (e ∙ append-nil p) ∙ same_itself p))
    by_rest (x ∷ r) e =
        let up : parent q ≡ p ++ parent (x ∷ r) = ap parent e ∙ parent_behind p x r in
        ap is_dir (ap (at (rows_of_nodes (listed t p))) up ∙ listed_at t p is ne (parent (x ∷ r)) ∙ ap (fin.get t) (sym up) ∙ dir_above (fin.get t) q (λ root. some_path p x r (sym e ∙ root)) (is.grown.above q some))

abbrev is_listed : fin.FinMap path_cmp (Entry ℕ) → Path → Path → Bool
is_listed t p q = begins p q && (is_short q && stands_in t q)

places : (t : fin.FinMap path_cmp (Entry ℕ)) (p : Path) (es : Nodes) → IsPlainTree t → p ≢ [] → T (below_all text_cmp p es) → list_all (λ n. is_listed t p n.0) es ≡ true
    → list_all (λ r. begins p r.0 && has_place (at (rows_of_nodes (listed t p))) r.0) (rows_of_nodes es) ≡ true
places t p [] is ne below h = refl
places t p (e ∷ es) is ne below h =
    let parts = and_parts (is_listed t p e.0) (list_all (λ n. is_listed t p n.0) es) h in
    let one = and_parts (begins p e.0) (is_short e.0 && stands_in t e.0) parts.0 in
    let two = and_parts (is_short e.0) (stands_in t e.0) one.1 in
    both_true (begins p e.0 && has_place (at (rows_of_nodes (listed t p))) e.0) _
    (both_true (begins p e.0) _ one.0 (both_true (is_short e.0) _ two.0 (has_parent t p e.0 is ne one.0 (not_tied p e.0 (fst (is_lt (text_cmp p e.0)) (below_all text_cmp p es) below)) two.1)))
    (places t p es is ne (snd (is_lt (text_cmp p e.0)) (below_all text_cmp p es) below) parts.1)
  where
    fst : (a b : Bool) → T (a && b) → T a
    fst true b h = tt
    fst false b h = h

    snd : (a b : Bool) → T (a && b) → T b
    snd true b h = h
    snd false b h = absurd h

pub listed_removed : (t : fin.FinMap path_cmp (Entry ℕ)) (p : Path) → IsPlainTree t → p ≢ [] → is_some (fin.get t p) ≡ true → is_removed (rows_of_nodes (listed t p)) ≡ true
listed_removed t p is ne some = by_head (listed_headed t p is ne some)
  where
    all : list_all (λ n. is_listed t p n.0) (listed t p) ≡ true
    all = kept_told (is_listed t p) (rows_under p (fin.entries t)) (each_of (is_listed t p) (rows_under p (fin.entries t)) (λ q stands.
        let there = under_stands p q (fin.entries t) stands in
        both_true (begins p q) _ (under_begins p q (fin.entries t) stands) (both_true (is_short q) _ (of_each is_short (fin.entries t) q is.short there) (ap (λ m. is_some (m q)) (seen t) ∙ there))))

    by_head : Headed p (listed t p) → is_removed (rows_of_nodes (listed t p)) ≡ true
    by_head h =
        let rise = subst (λ es. T (is_sorted text_cmp es)) h.is (sorted_told (rows_under p (fin.entries t))) in
        let each = and_parts (is_listed t p p) (list_all (λ n. is_listed t p n.0) h.rest) (ap (list_all (λ n. is_listed t p n.0)) (sym h.is) ∙ all) in
        let short = and_parts (is_short p) (stands_in t p) (and_parts (begins p p) (is_short p && stands_in t p) each.0).1 in
        ap (λ es. is_removed (rows_of_nodes es)) h.is
        ∙ both_true (is_short p) _ short.0
        (both_true (all_apart ((p, entry_of h.first) ∷ rows_of_nodes h.rest)) _ (apart_told ((p, h.first) ∷ h.rest) rise)
        (ap (λ es. list_all (λ r. begins p r.0 && has_place (at (rows_of_nodes es)) r.0) (rows_of_nodes h.rest)) (sym h.is) ∙ places t p h.rest is ne (fst (below_all text_cmp p h.rest) (is_sorted text_cmp h.rest) rise) each.1))
      where
        fst : (a b : Bool) → T (a && b) → T a
        fst true b h = tt
        fst false b h = h

-- ---- each of its chunks is counted

pub each_chunk : (f : ℕ → Bool) (hs : List ℕ) → ((h : ℕ) → 0 < occurrences h hs → f h ≡ true) → list_all f hs ≡ true
each_chunk f [] all = refl
each_chunk f (x ∷ hs) all =
    both_true (f x) (list_all f hs) (all x (let own = once x in omega arith)) (each_chunk f hs (λ h some. all h (omega arith)))
  where
    once : (n : ℕ) → cond {A = ℕ} (eq_by_cmp nat_cmp n n) 1 0 ≡ 1
    once n = ap (λ b. cond {A = ℕ} b 1 0) (ap is_eq (tied_itself nat_cmp_total n))

pub fits_all : (refs new : Counts) (hs : List ℕ) → FitCounts refs → lowered_each refs hs ≡ Ok new → fitting refs hs ≡ true
fits_all refs new hs fit low = each_chunk (λ h. has_count (fin.get refs h)) hs (λ h some. by_count h (fin.get refs h) refl (let sum = lowered-sum hs refs new h low in omega arith))
  where
    by_count : (h : ℕ) (v : Option ℕ) → fin.get refs h ≡ v → 0 < count_or_zero v → has_count v ≡ true
    by_count h None is some = absurd (omega arith)
    by_count h (Some n) is some = le-leb n last_count (fit h n is)
