-- The edits of a plain tree of finitely many paths.
use Rattle.std.specs.Prelude.{ℕ, ◌++◌, map, Option, Some, None, Result}
use Rattle.gs_path.specs.Path.{Name, Path}
use Rattle.gs_base.specs.declared.refusal.Refusal.{Refusal}
use Rattle.gs_tree.specs.Find.{Rows, at, is_too_deep, is_copied_too_deep}
use Rattle.gs_tree.specs.Edits.{mkdirs, create, rename, hide, unhide, add_chunk, set_chunk, remove, snapshot, target_of, hidden_path, old_name, beside}
use Rattle.gs_edit.specs.Table.{tabled, paths_of, fronts, moved_path}

-- Each edit is the plain tree's command. What can stand somewhere afterwards stands at the old paths, those that are
-- made, or those to which something moves or is copied.
abbrev pub mkdirs_rows : {A : Type 0} → Rows A → Path → Result (Rows A) Refusal
mkdirs_rows rows p = tabled (paths_of rows ++ fronts p) (mkdirs (at rows) p)

abbrev pub create_rows : {A : Type 0} → Rows A → Path → Result (Rows A) Refusal
create_rows rows p = tabled (paths_of rows ++ fronts p) (create (at rows) p)

abbrev pub rename_rows : {A : Type 0} → Rows A → Path → Path → Result (Rows A) Refusal
rename_rows rows from to =
    tabled (paths_of rows ++ map (moved_path from (target_of (at rows) from to)) (paths_of rows)) (rename (is_too_deep rows from) (at rows) from to)

abbrev pub hide_rows : {A : Type 0} → Rows A → Path → ℕ → ℕ → Result (Rows A) Refusal
hide_rows rows p moment number =
    tabled (paths_of rows ++ map (moved_path p (hidden_path p moment number)) (paths_of rows)) (hide (at rows) p moment number)

abbrev pub unhide_target : Path → Option Name → Path
unhide_target p None = p
unhide_target p (Some name) = beside p name

abbrev pub unhide_rows : {A : Type 0} → Rows A → Path → Result (Rows A) Refusal
unhide_rows rows p = tabled (paths_of rows ++ map (moved_path p (unhide_target p (old_name p))) (paths_of rows)) (unhide (at rows) p)

abbrev pub add_chunk_rows : {A : Type 0} → Rows A → Path → A → Result (Rows A) Refusal
add_chunk_rows rows p chunk = tabled (paths_of rows) (add_chunk (at rows) p chunk)

abbrev pub set_chunk_rows : {A : Type 0} → Rows A → Path → ℕ → A → Result (Rows A) Refusal
set_chunk_rows rows p index chunk = tabled (paths_of rows) (set_chunk (at rows) p index chunk)

abbrev pub remove_rows : {A : Type 0} → Rows A → Path → Result (Rows A) Refusal
remove_rows rows p = tabled (paths_of rows) (remove (at rows) p)

abbrev pub snapshot_rows : {A : Type 0} → Rows A → Path → Path → Result (Rows A) Refusal
snapshot_rows rows from to =
    tabled (paths_of rows ++ map (moved_path from to) (paths_of rows)) (snapshot (is_copied_too_deep rows from) (at rows) from to)
