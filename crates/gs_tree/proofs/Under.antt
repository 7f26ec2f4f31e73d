-- The chunks under a path of a map, from a part that stands there.
use Rattle.std.proofs.Common.{◌≡◌, ◌&&◌, ◌++◌, ℕ, Bool, true, false, not, cond, T, [], ◌∷◌, map, refl, sym, ap, ◌∙◌, subst}
use Rattle.std.specs.Prelude.{Option, Some, None, Result, Ok, Err, IfOk, is_some, is_none}
use Rattle.std.specs.List.{list_any}
use Rattle.std.specs.Ordering.{is_eq}
use Rattle.std.specs.FinMap.{FinMap, get, entries, get-entries, entries_sorted, is_sorted}
use Rattle.std.specs.FinMap.Entries.{where_key, find-where_key, is_sorted-where_key, is_sorted-put, find-put, same_entries}
use Rattle.gs_base.specs.declared.refusal.Refusal.{Refusal}
use Rattle.gs_base.specs.declared.refusal.Refusal.TheVariants.{BadPath, NotFound, Exists, NotADirectory, IntoItself, IsRoot}
use Rattle.gs_path.specs.Path.{Path, path_cmp, path_total, begins}
use Rattle.gs_path.specs.Element.{is_hidden}
use Rattle.gs_tree.specs.Entry.{Entry}
use Rattle.gs_tree.specs.Plain.{Plain, Same, after, part_at}
use Rattle.gs_tree.specs.Find.{Rows, at}
use Rattle.gs_tree.specs.Edits.{same_path, visible, snapshot, copied, placed, parent, is_file}
use Rattle.gs_tree.specs.Inverses.{IsRemoved, removed_chunks}
use Rattle.gs_tree.specs.Follows.{FollowsPlain}
use Rattle.gs_tree.specs.Places.{IsTakenOut}
use Rattle.gs_tree.specs.declared.inverse.TreeInverse.{TreeInverse}
use Rattle.gs_tree.specs.Chunks.{all_chunks, chunks_under, visible_chunks_under, visible_under, by_path, part_chunks}
use Rattle.gs_tree.proofs.Splice.{begins_parts}
use Rattle.gs_tree.proofs.Laws.{begins_append, with_at-append}
use Rattle.gs_tree.proofs.Reaching.{same_path-is}
use Rattle.gs_tree.proofs.Depths.{paths_antisymmetric}
use Rattle.gs_tree.specs.Build.{prefixed}
use Rattle.gs_tree.proofs.Gathering.{cmp-prefixed, sorted-prefixed, all_chunks-prefixed, from_true}

pub at-by_path : (rows : Rows ℕ) (q : Path) → at (by_path rows) q ≡ at rows q
at-by_path [] q = refl
at-by_path (r ∷ rows) q = find-put path_cmp path_total q r.0 r.1 (by_path rows) ∙ ap (cond (same_path q r.0) (Some r.1)) (at-by_path rows q)

pub by_path-sorted : (rows : Rows ℕ) → T (is_sorted path_cmp (by_path rows))
by_path-sorted [] = tt
by_path-sorted (r ∷ rows) = is_sorted-put path_cmp path_total r.0 r.1 (by_path rows) (by_path-sorted rows)

-- rows that rise are those of their map
pub by_path-same : (rows : Rows ℕ) → is_sorted path_cmp rows ≡ true → by_path rows ≡ rows
by_path-same rows h = same_entries path_cmp path_total paths_antisymmetric (by_path rows) rows (by_path-sorted rows) (from_true (is_sorted path_cmp rows) h) (at-by_path rows)

pub at-prefixed : (p q : Path) (rows : Rows ℕ) → at (prefixed p rows) q ≡ cond (begins p q) (at rows (after p q)) None
at-prefixed p q [] = nothing (begins p q)
  where
    nothing : (b : Bool) → ◌≡◌ {A = Option (Entry ℕ)} None (cond b None None)
    nothing true = refl
    nothing false = refl
at-prefixed p q (r ∷ rows) =
    ap (cond (same_path q (p ++ r.0)) (Some r.1)) (at-prefixed p q rows)
    ∙ elim (begins p q) as (λ b. begins p q ≡ b → cond (same_path q (p ++ r.0)) (Some r.1) (cond b (at rows (after p q)) None) ≡ cond b (cond (same_path (after p q) r.0) (Some r.1) (at rows (after p q))) None) [
      | true ↦ λ b. ap (λ s. cond s (Some r.1) (at rows (after p q))) (ap (λ s. same_path s (p ++ r.0)) (begins_parts p q b) ∙ ap is_eq (cmp-prefixed p (after p q) r.0))
      | false ↦ λ b. ap (λ s. cond s (Some r.1) None) (other (same_path q (p ++ r.0)) refl b)
    ] refl
  where
    other : (s : Bool) → same_path q (p ++ r.0) ≡ s → begins p q ≡ false → s ≡ false
    other true e b = let k : begins p q ≡ true = ap (begins p) (same_path-is q (p ++ r.0) e) ∙ begins_append p r.0 in absurd (cc)
    other false e b = refl

-- the entries whose paths pass a test, where these are the paths of rows behind p
where_part : (m : FinMap path_cmp (Entry ℕ)) (p : Path) (test : Path → Bool) (rows : Rows ℕ) → T (is_sorted path_cmp rows) → ((q : Path) → cond (test q) (get m q) None ≡ cond (begins p q) (at rows (after p q)) None) → where_key path_cmp test (entries m) ≡ prefixed p rows
where_part m p test rows rise same =
    same_entries path_cmp path_total paths_antisymmetric (where_key path_cmp test (entries m)) (prefixed p rows) (is_sorted-where_key path_cmp test (entries m) (entries_sorted m)) (subst T (sym (sorted-prefixed p rows)) rise)
    (λ q. find-where_key path_cmp test q (λ x e. ap test (sym (paths_antisymmetric q x e))) (entries m) ∙ ap (λ v. cond (test q) v None) (sym (get-entries m q)) ∙ same q ∙ sym (at-prefixed p q rows))

chunks_where : (m : FinMap path_cmp (Entry ℕ)) (p : Path) (test : Path → Bool) (rows : Rows ℕ) → ((q : Path) → cond (test q) (get m q) None ≡ cond (begins p q) (at rows (after p q)) None) → all_chunks (where_key path_cmp test (entries m)) ≡ part_chunks rows
chunks_where m p test rows same =
    ap all_chunks (where_part m p test (by_path rows) (by_path-sorted rows) (λ q. same q ∙ ap (λ v. cond (begins p q) v None) (sym (at-by_path rows (after p q))))) ∙ all_chunks-prefixed p (by_path rows)

-- the chunks under a path are those of any rows that have what stands there
pub chunks_under-part : (m : FinMap path_cmp (Entry ℕ)) (p : Path) (rows : Rows ℕ) → Same (part_at p (get m)) (at rows) → chunks_under p (entries m) ≡ part_chunks rows
chunks_under-part m p rows same = chunks_where m p (begins p) rows each
  where
    each : (q : Path) → cond (begins p q) (get m q) None ≡ cond (begins p q) (at rows (after p q)) None
    each q = elim (begins p q) as (λ b. begins p q ≡ b → cond b (get m q) None ≡ cond b (at rows (after p q)) None) [
      | true ↦ λ b. ap (get m) (begins_parts p q b) ∙ same (after p q)
      | false ↦ λ b. refl
    ] refl

pub visible_under-part : (m : FinMap path_cmp (Entry ℕ)) (p : Path) (rows : Rows ℕ) → Same (visible (part_at p (get m))) (at rows) → visible_chunks_under p (entries m) ≡ part_chunks rows
visible_under-part m p rows same = chunks_where m p (λ q. begins p q && not (list_any is_hidden (after p q))) rows each
  where
    turned : (b : Bool) (v : Option (Entry ℕ)) → cond (not b) v None ≡ cond b None v
    turned true v = refl
    turned false v = refl

    each : (q : Path) → cond (begins p q && not (list_any is_hidden (after p q))) (get m q) None ≡ cond (begins p q) (at rows (after p q)) None
    each q = elim (begins p q) as (λ b. begins p q ≡ b → cond (b && not (list_any is_hidden (after p q))) (get m q) None ≡ cond b (at rows (after p q)) None) [
      | true ↦ λ b. turned (list_any is_hidden (after p q)) (get m q) ∙ ap (λ r. cond (list_any is_hidden (after p q)) None (get m r)) (begins_parts p q b) ∙ same (after p q)
      | false ↦ λ b. refl
    ] refl

-- what is visible of rows
pub at-visible : (rows : Rows ℕ) (q : Path) → at (visible_under [] rows) q ≡ visible (at rows) q
at-visible rows q = find-where_key path_cmp (λ r. not (list_any is_hidden r)) q (λ x e. ap (λ r. not (list_any is_hidden r)) (sym (paths_antisymmetric q x e))) rows ∙ turned (list_any is_hidden q) (at rows q)
  where
    turned : (b : Bool) (v : Option (Entry ℕ)) → cond (not b) v None ≡ cond b None v
    turned true v = refl
    turned false v = refl

-- the same of a part
pub visible-part : (m : FinMap path_cmp (Entry ℕ)) (p : Path) (rows : Rows ℕ) → Same (part_at p (get m)) (at rows) → Same (visible (part_at p (get m))) (at (visible_under [] rows))
visible-part m p rows same q = ap (λ v. cond (list_any is_hidden q) None v) (same q) ∙ sym (at-visible rows q)

-- what stands at and behind a path, as rows
abbrev pub part_rows : Path → Rows ℕ → Rows ℕ
part_rows p rows = map (λ r. (after p r.0, r.1)) (where_key path_cmp (begins p) rows)

pub at-part_rows : (p : Path) (rows : Rows ℕ) (q : Path) → at (part_rows p rows) q ≡ at rows (p ++ q)
at-part_rows p [] q = refl
at-part_rows p (r ∷ rows) q =
    elim (begins p r.0) as (λ b. begins p r.0 ≡ b → at (map (λ s. (after p s.0, s.1)) (cond b (r ∷ where_key path_cmp (begins p) rows) (where_key path_cmp (begins p) rows))) q ≡ at (r ∷ rows) (p ++ q)) [
      | true ↦ λ b. ap (cond (same_path q (after p r.0)) (Some r.1)) (at-part_rows p rows q) ∙ ap (λ s. cond s (Some r.1) (at rows (p ++ q))) (sym (ap is_eq (cmp-prefixed p q (after p r.0))) ∙ ap (same_path (p ++ q)) (sym (begins_parts p r.0 b)))
      | false ↦ λ b. at-part_rows p rows q ∙ ap (λ s. cond s (Some r.1) (at rows (p ++ q))) (sym (other (same_path (p ++ q) r.0) refl b))
    ] refl
  where
    other : (s : Bool) → same_path (p ++ q) r.0 ≡ s → begins p r.0 ≡ false → s ≡ false
    other true e b = let k : begins p r.0 ≡ true = ap (begins p) (sym (same_path-is (p ++ q) r.0 e)) ∙ begins_append p q in absurd (cc)
    other false e b = refl

-- two maps with the same behind two paths have the same chunks there
pub chunks_of_copy : (old new : FinMap path_cmp (Entry ℕ)) (from to : Path) → Same (part_at to (get new)) (visible (part_at from (get old))) → chunks_under to (entries new) ≡ visible_chunks_under from (entries old)
chunks_of_copy old new from to same =
    let rows = part_rows to (entries new) in
    let part = λ (q : Path). get-entries new (to ++ q) ∙ sym (at-part_rows to (entries new) q) in
    chunks_under-part new to rows part ∙ sym (visible_under-part old from rows (λ q. sym (same q) ∙ part q))

-- what is answered where a test lets through
past : {I : Type 0} (b : Bool) (e : Refusal) (rest : Result (Plain ℕ) Refusal) (i : I) (old new : Plain ℕ) → FollowsPlain (cond b (Err e) rest) (Ok i) old new → FollowsPlain rest (Ok i) old new
past true e rest i old new h = absurd h
past false e rest i old new h = h

placed_is : {I : Type 0} (deep : Bool) (m : Plain ℕ) (from to : Path) (all : Plain ℕ) (i : I) (new : Plain ℕ) → FollowsPlain (placed deep m from to all) (Ok i) m new → Same new all
placed_is deep m from to all i new h =
    let h1 = past (same_path to from) Exists _ i m new h in
    let h2 = past (begins from to) IntoItself _ i m new h1 in
    let h3 = past (is_some (m to)) Exists _ i m new h2 in
    let h4 = past (is_none (m (parent to))) NotFound _ i m new h3 in
    let h5 = past (is_file (m (parent to))) NotADirectory _ i m new h4 in
    past deep BadPath (Ok all) i m new h5

-- an accepted snapshot
pub snapshot_is : {I : Type 0} (is_deep : Path → Bool) (m : Plain ℕ) (from to : Path) (i : I) (new : Plain ℕ) → FollowsPlain (snapshot is_deep m from to) (Ok i) m new → Same new (copied from to m)
snapshot_is is_deep m from to i new h =
    let h1 = past (same_path from []) IsRoot _ i m new h in
    let h2 = past (is_none (m from)) NotFound _ i m new h1 in
    placed_is (is_deep to) m from to (copied from to m) i new h2

-- a snapshot's copy has the chunks that were visible at its source
pub snapshot_chunks : {I : Type 0} (r : Result I Refusal) (is_deep : Path → Bool) (old new : FinMap path_cmp (Entry ℕ)) (from to : Path) → FollowsPlain (snapshot is_deep (get old) from to) r (get old) (get new) → IfOk r (λ _. chunks_under to (entries new) ≡ visible_chunks_under from (entries old))
snapshot_chunks (Err e) is_deep old new from to h = tt
snapshot_chunks (Ok i) is_deep old new from to h =
    let is = snapshot_is is_deep (get old) from to i (get new) h in
    chunks_of_copy old new from to (λ q. is (to ++ q) ∙ with_at-append to (visible (part_at from (get old))) (get old) q)

-- what a remove answers has the chunks that stood under the path
pub remove_chunks : (r : Result TreeInverse Refusal) (old : FinMap path_cmp (Entry ℕ)) (p : Path) → IfOk r (λ i. IsRemoved (get old) p i) → IfOk r (λ i. removed_chunks i ≡ chunks_under p (entries old))
remove_chunks (Err e) old p h = tt
remove_chunks (Ok i) old p (node, (same, is)) = ap removed_chunks is ∙ sym (chunks_under-part old p node same)

-- and those of what left its place
pub taken_chunks : (r : Result (Rows ℕ) Refusal) (old : FinMap path_cmp (Entry ℕ)) (new : Plain ℕ) (p : Path) → IfOk r (λ node. IsTakenOut p (at node) (get old) new) → IfOk r (λ node. part_chunks node ≡ chunks_under p (entries old))
taken_chunks (Err e) old new p h = tt
taken_chunks (Ok node) old new p h = sym (chunks_under-part old p node h.part)
