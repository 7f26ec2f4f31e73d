-- What stands at a path as rows with that path in front, and the inverse that is made of them.
use Rattle.std.proofs.Common.{◌≡◌, ◌≢◌, ◌≤◌, ◌&&◌, ◌++◌, inl, ℕ, Bool, true, false, cond, [], ◌∷◌, length, refl, sym, ap, ◌∙◌, subst, append-nil, arith}
use Rattle.std.specs.Prelude.{Some, None, is_some, is_none, nat_le, nat_lt}
use Rattle.std.specs.List.{list_all}
use Rattle.std.specs.Ordering.{is_eq, ordering_then}
use Rattle.std.specs.Cmp.Lexicographic.{nat_list_cmp_total}
use Rattle.std.proofs.lemmas.Cmp.{tied_itself}
use Rattle.std.proofs.lemmas.Bool.{le-leb, leb-true, ltb-true}
use Rattle.std.specs.FinMap.{is_sorted}
use Rattle.std.specs.FinMap.Entries.{same_entries}
use Rattle.gs_path.specs.Path.{Path, path_cmp, path_total, begins}
use Rattle.gs_tree.specs.Entry.{Entry}
use Rattle.gs_tree.specs.Plain.{Plain, Same, without}
use Rattle.gs_tree.specs.Find.{Rows, at, DirsAbove}
use Rattle.gs_tree.specs.Edits.{same_path, is_dir, parent}
use Rattle.gs_tree.specs.Chunks.{all_chunks, by_path, part_chunks}
use Rattle.gs_tree.specs.Build.{prefixed, all_apart, is_short, has_place, IsSound, below_root, is_part}
use Rattle.gs_tree.specs.Lists.{made_paths, is_made, made_inverse, is_removed, PutsBack, IsSameInverse, top_path, IsPartList}
use Rattle.gs_tree.specs.Inverses.{first_made}
use Rattle.gs_tree.specs.declared.inverse.TreeInverse.{TreeInverse}
use Rattle.gs_tree.specs.declared.inverse.TreeInverse.TheVariants.{Made, Removed}
use Rattle.gs_tree.proofs.Laws.{begins_append}
use Rattle.gs_tree.proofs.Moves.{dir_above}
use Rattle.gs_tree.proofs.Removals.{with_part}
use Rattle.gs_tree.proofs.Depths.{paths_antisymmetric}
use Rattle.gs_tree.proofs.Under.{at-by_path, by_path-sorted}
use Rattle.gs_tree.proofs.Entering.{apart-of}
use Rattle.gs_tree.proofs.Gathering.{from_true}
use Rattle.gs_tree.proofs.Chunks.{same_itself}
use Rattle.gs_tree.proofs.Levels.{both_true, left_true, right_true, no_one, never, parent_under}
use Rattle.std.proofs.lemmas.List.Sorted.{IsPermutation-sym}
use Rattle.gs_tree.proofs.Orders.{same_moved, part_moved, all_moved}
use Rattle.gs_tree.proofs.Fronts.{made_again, made_none}

same_front : (p a b : Path) → same_path (p ++ a) (p ++ b) ≡ same_path a b
same_front [] a b = refl
same_front (x ∷ p) a b = ap (λ o. is_eq (ordering_then o (path_cmp (p ++ a) (p ++ b)))) (tied_itself nat_list_cmp_total x) ∙ same_front p a b

pub at-prefixed : (p : Path) (rows : Rows ℕ) (q : Path) → at (prefixed p rows) (p ++ q) ≡ at rows q
at-prefixed p [] q = refl
at-prefixed p (r ∷ rows) q =
    ap (λ b. cond b (Some r.1) (at (prefixed p rows) (p ++ q))) (same_front p q r.0) ∙ ap (λ v. cond (same_path q r.0) (Some r.1) v) (at-prefixed p rows q)

chunks_same : (a b : Rows ℕ) → Same (at a) (at b) → part_chunks a ≡ part_chunks b
chunks_same a b same =
    ap all_chunks (same_entries path_cmp path_total paths_antisymmetric (by_path a) (by_path b) (by_path-sorted a) (by_path-sorted b) (λ q. at-by_path a q ∙ same q ∙ sym (at-by_path b q)))

same_removed : (path to : Path) (a b : Rows ℕ) → to ≡ path → Same (at b) (at a) → IsSameInverse (Removed path a) (Removed to b)
same_removed path to a b is same =
    subst (λ (p : Path). IsSameInverse (Removed path a) (Removed p b)) (sym is)
    (record {
      fits = λ m h. h;
      back = λ m h. h;
      tree = λ m q. sym (with_part path (at b) (at a) m same q);
      chunks = sym (chunks_same b a same);
    })

apart-prefixed : (p : Path) (rows : Rows ℕ) → all_apart (prefixed p rows) ≡ all_apart rows
apart-prefixed p [] = refl
apart-prefixed p (r ∷ rows) =
    ap (λ v. is_none v && all_apart (prefixed p rows)) (at-prefixed p rows r.0) ∙ ap (λ b. is_none (at rows r.0) && b) (apart-prefixed p rows)

places_under : (p top : Path) (m : Plain ℕ) (all rows : Rows ℕ) → p ≡ top → ((q : Path) → m (p ++ q) ≡ at all q) → ((q : Path) → is_some (at all q) ≡ true → DirsAbove (at all) q) → ((q : Path) → is_some (at rows q) ≡ true → (q ≢ []) × (is_some (at all q) ≡ true))
    → all_apart rows ≡ true → list_all (λ r. is_short r.0) (prefixed p rows) ≡ true → list_all (λ r. begins top r.0 && has_place m r.0) (prefixed p rows) ≡ true
places_under p top m all [] is seen above stand apart short = refl
places_under p top m all (r ∷ rows) is seen above stand apart short =
    both_true (begins top (p ++ r.0) && has_place m (p ++ r.0)) (list_all (λ s. begins top s.0 && has_place m s.0) (prefixed p rows)) (both_true (begins top (p ++ r.0)) (has_place m (p ++ r.0)) (ap (λ t. begins t (p ++ r.0)) (sym is) ∙ begins_append p r.0) (both_true (is_short (p ++ r.0)) (is_dir (m (parent (p ++ r.0)))) (left_true (is_short (p ++ r.0)) (list_all (λ s. is_short s.0) (prefixed p rows)) short) dir))
    (places_under p top m all rows is seen above (λ q some. stand q (later q some (same_path q r.0))) (right_true (is_none (at rows r.0)) (all_apart rows) apart) (right_true (is_short (p ++ r.0)) (list_all (λ s. is_short s.0) (prefixed p rows)) short))
  where
    own : (r.0 ≢ []) × (is_some (at all r.0) ≡ true)
    own = stand r.0 (ap (λ b. is_some (cond b (Some r.1) (at rows r.0))) (same_itself r.0))

    dir : is_dir (m (parent (p ++ r.0))) ≡ true
    dir = ap (λ q. is_dir (m q)) (parent_under p r.0 own.0) ∙ ap is_dir (seen (parent r.0) ∙ dir_above (at all) r.0 own.0 (above r.0 own.1))

    later : (q : Path) → is_some (at rows q) ≡ true → (b : Bool) → is_some (cond b (Some r.1) (at rows q)) ≡ true
    later q some true = refl
    later q some false = some

-- the rows of a node are what was removed, where they are short enough
pub removed_whole : (path : Path) (node : Rows ℕ) → IsSound node → top_path node ≡ [] → is_some (at node []) ≡ true → list_all (λ r. is_short r.0) (prefixed path node) ≡ true → is_removed (prefixed path node) ≡ true
removed_whole path [] sound top some short = absurd (cc)
removed_whole path (r ∷ rows) sound top some short =
    let is : path ++ r.0 ≡ path = ap (λ p. path ++ p) top ∙ append-nil path in
    let apart = apart-of (r ∷ rows) (from_true (is_sorted path_cmp (r ∷ rows)) sound.rise) in
    let rest = right_true (is_none (at rows r.0)) (all_apart rows) apart in
    let gone : at rows [] ≡ None = ap (at rows) (sym top) ∙ no_one (at rows r.0) (left_true (is_none (at rows r.0)) (all_apart rows) apart) in
    both_true (is_short (path ++ r.0)) (all_apart (prefixed path (r ∷ rows)) && list_all (λ s. begins (path ++ r.0) s.0 && has_place (at (prefixed path (r ∷ rows))) s.0) (prefixed path rows)) (left_true (is_short (path ++ r.0)) (list_all (λ s. is_short s.0) (prefixed path rows)) short)
    (both_true (all_apart (prefixed path (r ∷ rows))) (list_all (λ s. begins (path ++ r.0) s.0 && has_place (at (prefixed path (r ∷ rows))) s.0) (prefixed path rows)) (apart-prefixed path (r ∷ rows) ∙ apart)
    (places_under path (path ++ r.0) (at (prefixed path (r ∷ rows))) (r ∷ rows) rows (sym is) (λ q. at-prefixed path (r ∷ rows) q) sound.above (λ q here. ((λ e. let k : is_some (at rows q) ≡ false = ap (λ p. is_some (at rows p)) e ∙ ap is_some gone in cc), later q here (same_path q r.0))) rest (right_true (is_short (path ++ r.0)) (list_all (λ s. is_short s.0) (prefixed path rows)) short)))
  where
    later : (q : Path) → is_some (at rows q) ≡ true → (b : Bool) → is_some (cond b (Some r.1) (at rows q)) ≡ true
    later q here true = refl
    later q here false = here

below_apart : (r : Path × Entry ℕ) (below : Rows ℕ) → IsSound (r ∷ below) → all_apart below ≡ true
below_apart r below sound = right_true (is_none (at below r.0)) (all_apart below) (apart-of (r ∷ below) (from_true (is_sorted path_cmp (r ∷ below)) sound.rise))

-- what was removed, made of its rows
pub removed_again : (path : Path) (node rows : Rows ℕ) (i : TreeInverse) → IsSound node → top_path node ≡ [] → IsPartList path node rows → PutsBack rows i → IsSameInverse (Removed path node) i
removed_again path node [] i sound top list h = absurd h
removed_again path [] (t ∷ rows) i sound top list h = absurd (let k = list.0 in cc)
removed_again path (r ∷ below) (t ∷ rows) i sound top list h =
    let is : path ++ r.0 ≡ path = ap (λ p. path ++ p) top ∙ append-nil path in
    let own : t ≡ (path ++ r.0, r.1) = let k = list.0 in cc in
    let moved = same_moved (prefixed path below) rows list.1 (apart-prefixed path below ∙ below_apart r below sound) in
    let place : t.0 ≡ path = ap (λ s. s.0) own ∙ is in
    let same : Same (at h.0) (at (r ∷ below)) = λ q. h.1.0 q ∙ ap (λ (p : Path). at (t ∷ rows) (p ++ q)) place ∙ ap (λ (s : Path × Entry ℕ). cond (same_path (path ++ q) s.0) (Some s.1) (at rows (path ++ q))) own
    ∙ ap (λ v. cond (same_path (path ++ q) (path ++ r.0)) (Some r.1) v) (moved.1 (path ++ q)) ∙ at-prefixed path (r ∷ below) q in
    subst (λ j. IsSameInverse (Removed path (r ∷ below)) j) (sym h.1.1) (same_removed path t.0 (r ∷ below) h.0 place same)

-- the rows of a node in another order
pub list_moved : (f : Path × Entry ℕ → Bool) (path : Path) (node rows : Rows ℕ) → IsPartList path node rows → list_all f (prefixed path node) ≡ true → list_all f rows ≡ true
list_moved f path node [] list h = absurd list
list_moved f path node (t ∷ rows) list h =
    let all : list_all f (t ∷ prefixed path (below_root node)) ≡ true = ap (list_all f) (sym list.0) ∙ h in
    both_true (f t) (list_all f rows) (left_true (f t) (list_all f (prefixed path (below_root node))) all) (all_moved f (prefixed path (below_root node)) rows list.1 (right_true (f t) (list_all f (prefixed path (below_root node))) all))

list_back : (f : Path × Entry ℕ → Bool) (path : Path) (node rows : Rows ℕ) → IsPartList path node rows → list_all f rows ≡ true → list_all f (prefixed path node) ≡ true
list_back f path node [] list h = absurd list
list_back f path node (t ∷ rows) list h =
    ap (list_all f) list.0
    ∙ both_true (f t) (list_all f (prefixed path (below_root node))) (left_true (f t) (list_all f rows) h) (all_moved f rows (prefixed path (below_root node)) (IsPermutation-sym (prefixed path (below_root node)) rows list.1) (right_true (f t) (list_all f rows) h))

pub list_whole : (path : Path) (node rows : Rows ℕ) → IsSound node → top_path node ≡ [] → IsPartList path node rows → list_all (λ r. is_short r.0) rows ≡ true → is_removed rows ≡ true
list_whole path node [] sound top list short = absurd list
list_whole path [] (t ∷ rows) sound top list short = absurd (let k = list.0 in cc)
list_whole path (r ∷ below) (t ∷ rows) sound top list short =
    let own : t ≡ (path ++ r.0, r.1) = let k = list.0 in cc in
    let stands : is_some (at (r ∷ below) []) ≡ true = ap (λ p. is_some (cond (same_path [] p) (Some r.1) (at below []))) top in
    let whole = removed_whole path (r ∷ below) sound top stands (list_back (λ s. is_short s.0) path (r ∷ below) (t ∷ rows) list short) in
    (part_moved t (prefixed path below) rows list.1 (ap (λ s. is_part s (prefixed path below)) own ∙ whole)).0

same_made : (i j : TreeInverse) → j ≡ i → IsSameInverse i j
same_made i j is = subst (λ k. IsSameInverse i k) (sym is) (record { fits = λ m h. h; back = λ m h. h; tree = λ m q. refl; chunks = refl })

-- what was made, made of its paths
pub made_same : (path : Path) (above : ℕ) → (is_made (made_paths path above) ≡ true) × IsSameInverse (Made path above) (made_inverse (made_paths path above))
made_same path above = each (nat_le (length path) above) refl
  where
    nothing : length path ≤ above → IsSameInverse (Made path above) (Made [] 0)
    nothing low = record {
      fits = λ m h. inl (omega arith);
      back = λ m h. inl low;
      tree = λ m q. ap (λ b. cond b (without (first_made path above) m) m q) (never (nat_lt above (length path)) (λ t. let s = ltb-true above (length path) t in omega arith));
      chunks = refl;
    }

    each : (b : Bool) → nat_le (length path) above ≡ b → (is_made (made_paths path above) ≡ true) × IsSameInverse (Made path above) (made_inverse (made_paths path above))
    each true is =
        let none = made_none path above (leb-true (length path) above is) in
        (ap is_made none, subst (λ l. IsSameInverse (Made path above) (made_inverse l)) (sym none) (nothing (leb-true (length path) above is)))
    each false is =
        let high : length path ≤ above → ⊥ = λ g. let k : nat_le (length path) above ≡ true = le-leb (length path) above g in cc in
        let again = made_again path above (omega arith) in
        (again.0, same_made (Made path above) (made_inverse (made_paths path above)) again.1)
