-- The rows of each edit are those of the plain command, whatever the payload, and follow a map over it.
use Rattle.std.proofs.Common.{◌≡◌, ◌&&◌, ◌||◌, ◌+◌, ◌++◌, ℕ, Bool, true, false, not, cond, T, List, [], ◌∷◌, length, nat_lt, map, refl, ap, ◌∙◌}
use Rattle.std.specs.Prelude.{Option, Some, None, Result, Ok, Err}
use Rattle.std.specs.List.{list_any}
use Rattle.std.specs.declared.cmp.Ordering.TheVariants.{Less, Equal, Greater}
use Rattle.std.specs.FinMap.Entries.{put, by_order}
use Rattle.gs_base.specs.declared.refusal.Refusal.{Refusal}
use Rattle.gs_path.specs.Path.{Path, path_cmp, begins}
use Rattle.gs_path.specs.Element.{is_hidden}
use Rattle.gs_tree.specs.Entry.{Entry, Dir, File}
use Rattle.gs_tree.specs.Plain.{Plain, after}
use Rattle.gs_tree.specs.Find.{Rows, at, is_too_deep, is_copied_too_deep, most_elements}
use Rattle.gs_tree.specs.Edits.{mkdirs, create, rename, hide, unhide, add_chunk, set_chunk, remove, snapshot, same_path, target_of, hidden_path, old_name, is_dir, last}
use Rattle.gs_tree.specs.Mapped.{mapped_entry, mapped_at, mapped, mapped_result}
use Rattle.gs_tree.proofs.Mapped.{mapped_cond, mkdirs-map, create-map, rename-map, hide-map, unhide-map, remove-map, add_chunk-map, set_chunk-map, snapshot-map}
use Rattle.gs_edit.specs.Table.{with_row, table, tabled, paths_of, fronts, moved_path}
use Rattle.gs_edit.specs.Plain.{mkdirs_rows, create_rows, rename_rows, hide_rows, unhide_rows, unhide_target, add_chunk_rows, set_chunk_rows, remove_rows, snapshot_rows}
use Rattle.gs_edit.specs.Mapped.{mapped_rows, mapped_edit, Tables}
use Rattle.gs_edit.proofs.Tables.{at-covering, sorted-table}
use Rattle.gs_edit.proofs.Covers.{Covered, covered-mkdirs, covered-create, covered-rename, covered-hide, covered-unhide, covered-add, covered-set, covered-remove, covered-snapshot}

t_true : (b : Bool) → T b → b ≡ true
t_true true h = refl
t_true false h = absurd h

-- the table of an answer that stands at these paths alone
pub tables : {A : Type 0} (ps : List Path) (r : Result (Plain A) Refusal) → Covered ps r → Tables r (tabled ps r)
tables ps (Ok m) covers = (t_true _ (sorted-table ps m), at-covering ps m covers)
tables ps (Err e) covers = refl

module _ {A : Type 0} (rows : Rows A) where
  pub mkdirs-tables : (p : Path) → Tables (mkdirs (at rows) p) (mkdirs_rows rows p)
  mkdirs-tables p = tables (paths_of rows ++ fronts p) (mkdirs (at rows) p) (covered-mkdirs rows p)

  pub create-tables : (p : Path) → Tables (create (at rows) p) (create_rows rows p)
  create-tables p = tables (paths_of rows ++ fronts p) (create (at rows) p) (covered-create rows p)

  pub rename-tables : (from to : Path) → Tables (rename (is_too_deep rows from) (at rows) from to) (rename_rows rows from to)
  rename-tables from to = tables (paths_of rows ++ map (moved_path from (target_of (at rows) from to)) (paths_of rows)) (rename (is_too_deep rows from) (at rows) from to) (covered-rename rows from to)

  pub hide-tables : (p : Path) (moment number : ℕ) → Tables (hide (at rows) p moment number) (hide_rows rows p moment number)
  hide-tables p moment number = tables (paths_of rows ++ map (moved_path p (hidden_path p moment number)) (paths_of rows)) (hide (at rows) p moment number) (covered-hide rows p moment number)

  pub unhide-tables : (p : Path) → Tables (unhide (at rows) p) (unhide_rows rows p)
  unhide-tables p = tables (paths_of rows ++ map (moved_path p (unhide_target p (old_name p))) (paths_of rows)) (unhide (at rows) p) (covered-unhide rows p (old_name p))

  pub add_chunk-tables : (p : Path) (chunk : A) → Tables (add_chunk (at rows) p chunk) (add_chunk_rows rows p chunk)
  add_chunk-tables p chunk = tables (paths_of rows) (add_chunk (at rows) p chunk) (covered-add rows p chunk)

  pub set_chunk-tables : (p : Path) (index : ℕ) (chunk : A) → Tables (set_chunk (at rows) p index chunk) (set_chunk_rows rows p index chunk)
  set_chunk-tables p index chunk = tables (paths_of rows) (set_chunk (at rows) p index chunk) (covered-set rows p index chunk)

  pub remove-tables : (p : Path) → Tables (remove (at rows) p) (remove_rows rows p)
  remove-tables p = tables (paths_of rows) (remove (at rows) p) (covered-remove rows p)

  pub snapshot-tables : (from to : Path) → Tables (snapshot (is_copied_too_deep rows from) (at rows) from to) (snapshot_rows rows from to)
  snapshot-tables from to = tables (paths_of rows ++ map (moved_path from to) (paths_of rows)) (snapshot (is_copied_too_deep rows from) (at rows) from to) (covered-snapshot rows from to)

-- a map over the payload
paths-map : {A B : Type 0} (f : A → B) (rows : Rows A) → paths_of (mapped_rows f rows) ≡ paths_of rows
paths-map f [] = refl
paths-map f (r ∷ rows) = ap (λ ps. r.0 ∷ ps) (paths-map f rows)

at-map : {A B : Type 0} (f : A → B) (rows : Rows A) (q : Path) → at (mapped_rows f rows) q ≡ mapped f (at rows) q
at-map f [] q = refl
at-map f (r ∷ rows) q = ap (cond (same_path q r.0) (Some (mapped_entry f r.1))) (at-map f rows q) ∙ mapped_cond f (same_path q r.0) (Some r.1) (at rows q)

put-map : {A B : Type 0} (f : A → B) (p : Path) (e : Entry A) (rows : Rows A) → put path_cmp p (mapped_entry f e) (mapped_rows f rows) ≡ mapped_rows f (put path_cmp p e rows)
put-map f p e [] = refl
put-map f p e (r ∷ rows) =
    elim (path_cmp p r.0) as (λ o. by_order o ((p, mapped_entry f e) ∷ mapped_rows f (r ∷ rows)) ((r.0, mapped_entry f e) ∷ mapped_rows f rows) ((r.0, mapped_entry f r.1) ∷ put path_cmp p (mapped_entry f e) (mapped_rows f rows))
    ≡ mapped_rows f (by_order o ((p, e) ∷ r ∷ rows) ((r.0, e) ∷ rows) (r ∷ put path_cmp p e rows))) [
      | Less ↦ refl
      | Equal ↦ refl
      | Greater ↦ ap (λ rs. (r.0, mapped_entry f r.1) ∷ rs) (put-map f p e rows)
    ]

row-map : {A B : Type 0} (f : A → B) (p : Path) (v : Option (Entry A)) (rows : Rows A) → with_row p (mapped_at f v) (mapped_rows f rows) ≡ mapped_rows f (with_row p v rows)
row-map f p None rows = refl
row-map f p (Some e) rows = put-map f p e rows

table-map : {A B : Type 0} (f : A → B) (ps : List Path) (m : Plain A) → table ps (mapped f m) ≡ mapped_rows f (table ps m)
table-map f [] m = refl
table-map f (p ∷ ps) m = ap (with_row p (mapped_at f (m p))) (table-map f ps m) ∙ row-map f p (m p) (table ps m)

tabled-map : {A B : Type 0} (f : A → B) (ps : List Path) (r : Result (Plain A) Refusal) → tabled ps (mapped_result f r) ≡ mapped_edit f (tabled ps r)
tabled-map f ps (Ok m) = ap (λ rows. Ok rows) (table-map f ps m)
tabled-map f ps (Err e) = refl

-- what is tabled at the same paths, of commands that follow the map
follows : {A B : Type 0} (f : A → B) (ps qs : List Path) (r : Result (Plain A) Refusal) (s t : Result (Plain B) Refusal) → qs ≡ ps → t ≡ s → s ≡ mapped_result f r → tabled qs t ≡ mapped_edit f (tabled ps r)
follows f ps qs r s t e k h = ap (λ l. tabled l t) e ∙ ap (tabled ps) (k ∙ h) ∙ tabled-map f ps r

dir-map : {A B : Type 0} (f : A → B) (v : Option (Entry A)) → is_dir (mapped_at f v) ≡ is_dir v
dir-map f None = refl
dir-map f (Some Dir) = refl
dir-map f (Some (File chunks)) = refl

deep-map : {A B : Type 0} (f : A → B) (rows : Rows A) (from to : Path) → is_too_deep (mapped_rows f rows) from to ≡ is_too_deep rows from to
deep-map f [] from to = refl
deep-map f (r ∷ rows) from to = ap (λ b. (begins from r.0 && nat_lt most_elements (length to + length (after from r.0))) || b) (deep-map f rows from to)

copied_deep-map : {A B : Type 0} (f : A → B) (rows : Rows A) (from to : Path) → is_copied_too_deep (mapped_rows f rows) from to ≡ is_copied_too_deep rows from to
copied_deep-map f [] from to = refl
copied_deep-map f (r ∷ rows) from to =
    ap (λ b. (begins from r.0 && (not (list_any is_hidden (after from r.0)) && nat_lt most_elements (length to + length (after from r.0)))) || b) (copied_deep-map f rows from to)

module _ {A B : Type 0} (f : A → B) (rows : Rows A) where
  seen : at (mapped_rows f rows) ≡ mapped f (at rows)
  seen = λ i q. at-map f rows q i

  moved-paths : (from to : Path) → paths_of (mapped_rows f rows) ++ map (moved_path from to) (paths_of (mapped_rows f rows)) ≡ paths_of rows ++ map (moved_path from to) (paths_of rows)
  moved-paths from to = ap (λ ps. ps ++ map (moved_path from to) ps) (paths-map f rows)

  pub mkdirs_rows-map : (p : Path) → mkdirs_rows (mapped_rows f rows) p ≡ mapped_edit f (mkdirs_rows rows p)
  mkdirs_rows-map p = follows f _ _ (mkdirs (at rows) p) (mkdirs (mapped f (at rows)) p) _ (ap (λ ps. ps ++ fronts p) (paths-map f rows)) (ap (λ m. mkdirs m p) seen) (mkdirs-map f (at rows) p)

  pub create_rows-map : (p : Path) → create_rows (mapped_rows f rows) p ≡ mapped_edit f (create_rows rows p)
  create_rows-map p = follows f _ _ (create (at rows) p) (create (mapped f (at rows)) p) _ (ap (λ ps. ps ++ fronts p) (paths-map f rows)) (ap (λ m. create m p) seen) (create-map f (at rows) p)

  target-map : (from to : Path) → target_of (at (mapped_rows f rows)) from to ≡ target_of (at rows) from to
  target-map from to = ap (λ v. cond (is_dir v) (to ++ last from) to) (at-map f rows to) ∙ ap (λ b. cond b (to ++ last from) to) (dir-map f (at rows to))

  pub rename_rows-map : (from to : Path) → rename_rows (mapped_rows f rows) from to ≡ mapped_edit f (rename_rows rows from to)
  rename_rows-map from to =
      follows f _ _ (rename (is_too_deep rows from) (at rows) from to) (rename (is_too_deep rows from) (mapped f (at rows)) from to) _
      (ap (λ t. paths_of (mapped_rows f rows) ++ map (moved_path from t) (paths_of (mapped_rows f rows))) (target-map from to) ∙ moved-paths from (target_of (at rows) from to))
      (ap (λ d. rename d (at (mapped_rows f rows)) from to) (λ i t. deep-map f rows from t i) ∙ ap (λ m. rename (is_too_deep rows from) m from to) seen) (rename-map f (is_too_deep rows from) (at rows) from to)

  pub hide_rows-map : (p : Path) (moment number : ℕ) → hide_rows (mapped_rows f rows) p moment number ≡ mapped_edit f (hide_rows rows p moment number)
  hide_rows-map p moment number =
      follows f _ _ (hide (at rows) p moment number) (hide (mapped f (at rows)) p moment number) _ (moved-paths p (hidden_path p moment number)) (ap (λ m. hide m p moment number) seen) (hide-map f (at rows) p moment number)

  pub unhide_rows-map : (p : Path) → unhide_rows (mapped_rows f rows) p ≡ mapped_edit f (unhide_rows rows p)
  unhide_rows-map p = follows f _ _ (unhide (at rows) p) (unhide (mapped f (at rows)) p) _ (moved-paths p (unhide_target p (old_name p))) (ap (λ m. unhide m p) seen) (unhide-map f (at rows) p)

  pub remove_rows-map : (p : Path) → remove_rows (mapped_rows f rows) p ≡ mapped_edit f (remove_rows rows p)
  remove_rows-map p = follows f _ _ (remove (at rows) p) (remove (mapped f (at rows)) p) _ (paths-map f rows) (ap (λ m. remove m p) seen) (remove-map f (at rows) p)

  pub add_chunk_rows-map : (p : Path) (chunk : A) → add_chunk_rows (mapped_rows f rows) p (f chunk) ≡ mapped_edit f (add_chunk_rows rows p chunk)
  add_chunk_rows-map p chunk = follows f _ _ (add_chunk (at rows) p chunk) (add_chunk (mapped f (at rows)) p (f chunk)) _ (paths-map f rows) (ap (λ m. add_chunk m p (f chunk)) seen) (add_chunk-map f (at rows) p chunk)

  pub set_chunk_rows-map : (p : Path) (index : ℕ) (chunk : A) → set_chunk_rows (mapped_rows f rows) p index (f chunk) ≡ mapped_edit f (set_chunk_rows rows p index chunk)
  set_chunk_rows-map p index chunk =
      follows f _ _ (set_chunk (at rows) p index chunk) (set_chunk (mapped f (at rows)) p index (f chunk)) _ (paths-map f rows) (ap (λ m. set_chunk m p index (f chunk)) seen) (set_chunk-map f (at rows) p index chunk)

  pub snapshot_rows-map : (from to : Path) → snapshot_rows (mapped_rows f rows) from to ≡ mapped_edit f (snapshot_rows rows from to)
  snapshot_rows-map from to =
      follows f _ _ (snapshot (is_copied_too_deep rows from) (at rows) from to) (snapshot (is_copied_too_deep rows from) (mapped f (at rows)) from to) _ (moved-paths from to)
      (ap (λ d. snapshot d (at (mapped_rows f rows)) from to) (λ i t. copied_deep-map f rows from t i) ∙ ap (λ m. snapshot (is_copied_too_deep rows from) m from to) seen) (snapshot-map f (is_copied_too_deep rows from) (at rows) from to)
