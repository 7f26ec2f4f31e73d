-- The rows at and under a path of a map, from a part that stands there.
use Rattle.std.proofs.Common.{◌≡◌, ◌++◌, ℕ, true, false, cond, T, refl, sym, ap, ◌∙◌, subst}
use Rattle.std.specs.Prelude.{None, Result, Ok, Err, IfOk, Vec}
use Rattle.std.specs.FinMap.{FinMap, get, entries, get-entries, entries_sorted, is_sorted}
use Rattle.std.specs.FinMap.Entries.{where_key, find-where_key, is_sorted-where_key, same_entries}
use Rattle.std.specs.declared.alloc.Global.{Global}
use Rattle.gs_path.specs.Path.{Path, path_cmp, path_total, begins}
use Rattle.gs_tree.specs.Build.{prefixed, rows_of_entries, IsSound}
use Rattle.gs_tree.specs.Chunks.{rows_under}
use Rattle.gs_tree.specs.Entry.{Entry}
use Rattle.gs_tree.specs.Find.{Rows, at}
use Rattle.gs_tree.specs.Plain.{Same, after, part_at}
use Rattle.gs_tree.specs.declared.entry.TreeEntry.{TreeEntry}
use Rattle.gs_tree.proofs.Depths.{paths_antisymmetric}
use Rattle.gs_tree.proofs.Gathering.{sorted-prefixed, from_true}
use Rattle.gs_tree.proofs.Splice.{begins_parts}
use Rattle.gs_tree.proofs.Under.{at-prefixed}

-- the rows under a path are those of any rows that rise and have what stands there
pub rows_under-part : (m : FinMap path_cmp (Entry ℕ)) (p : Path) (rows : Rows ℕ) → is_sorted path_cmp rows ≡ true → Same (part_at p (get m)) (at rows) → rows_under p (entries m) ≡ prefixed p rows
rows_under-part m p rows rise same =
    same_entries path_cmp path_total paths_antisymmetric (where_key path_cmp (begins p) (entries m)) (prefixed p rows) (is_sorted-where_key path_cmp (begins p) (entries m) (entries_sorted m))
    (subst T (sym (sorted-prefixed p rows)) (from_true (is_sorted path_cmp rows) rise))
    (λ q. find-where_key path_cmp (begins p) q (λ x e. ap (begins p) (sym (paths_antisymmetric q x e))) (entries m) ∙ ap (λ v. cond (begins p q) v None) (sym (get-entries m q)) ∙ each q ∙ sym (at-prefixed p q rows))
  where
    each : (q : Path) → cond (begins p q) (get m q) None ≡ cond (begins p q) (at rows (after p q)) None
    each q = elim (begins p q) as (λ b. begins p q ≡ b → cond b (get m q) None ≡ cond b (at rows (after p q)) None) [
      | true ↦ λ b. ap (get m) (begins_parts p q b) ∙ same (after p q)
      | false ↦ λ b. refl
    ] refl

-- and those of any map that has the same there
pub rows_under-same : (m n : FinMap path_cmp (Entry ℕ)) (p : Path) → ((q : Path) → get m (p ++ q) ≡ get n (p ++ q)) → rows_under p (entries m) ≡ rows_under p (entries n)
rows_under-same m n p same =
    same_entries path_cmp path_total paths_antisymmetric (where_key path_cmp (begins p) (entries m)) (where_key path_cmp (begins p) (entries n)) (is_sorted-where_key path_cmp (begins p) (entries m) (entries_sorted m)) (is_sorted-where_key path_cmp (begins p) (entries n) (entries_sorted n))
    (λ q. kept m q ∙ each q ∙ sym (kept n q))
  where
    kept : (t : FinMap path_cmp (Entry ℕ)) (q : Path) → at (where_key path_cmp (begins p) (entries t)) q ≡ cond (begins p q) (get t q) None
    kept t q = find-where_key path_cmp (begins p) q (λ x e. ap (begins p) (sym (paths_antisymmetric q x e))) (entries t) ∙ ap (λ v. cond (begins p q) v None) (sym (get-entries t q))

    each : (q : Path) → cond (begins p q) (get m q) None ≡ cond (begins p q) (get n q) None
    each q = elim (begins p q) as (λ b. begins p q ≡ b → cond b (get m q) None ≡ cond b (get n q) None) [
      | true ↦ λ b. ap (get m) (begins_parts p q b) ∙ same (after p q) ∙ ap (get n) (sym (begins_parts p q b))
      | false ↦ λ b. refl
    ] refl

-- the entries of what stands at a path
pub listed_under : {E : Type 0} (r : Result (Vec TreeEntry Global) E) (m : FinMap path_cmp (Entry ℕ)) (p : Path) (node : Rows ℕ) → Same (part_at p (get m)) (at node) → IfOk r (λ listed. rows_of_entries listed.items ≡ prefixed p node) → IfOk r (λ _. IsSound node)
    → IfOk r (λ listed. rows_of_entries listed.items ≡ rows_under p (entries m))
listed_under (Ok listed) m p node part rows sound = rows ∙ sym (rows_under-part m p node sound.rise part)
listed_under (Err e) m p node part rows sound = tt
