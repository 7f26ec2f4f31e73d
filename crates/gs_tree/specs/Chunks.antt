-- The chunks of a tree's rows as one list, in the order of the paths. A chunk stands in it as often as the files have it.
use Rattle.std.specs.Prelude.{◌≡◌, ◌&&◌, ℕ, Bool, List, [], ◌∷◌, ◌++◌, filter, not, codes, Some, refl}
use Rattle.std.specs.List.{list_any}
use Rattle.std.specs.FinMap.{put}
use Rattle.gs_path.specs.Path.{Path, path_cmp, begins}
use Rattle.gs_path.specs.Element.{is_hidden}
use Rattle.gs_tree.specs.Entry.{Dir, File}
use Rattle.gs_tree.specs.Plain.{after}
use Rattle.gs_tree.specs.Find.{Rows}
use Rattle.gs_tree.specs.Edits.{chunks_in}

abbrev pub all_chunks : {A : Type 0} → Rows A → List A
all_chunks [] = []
all_chunks (r ∷ rows) = chunks_in (Some r.1) ++ all_chunks rows

-- the rows at and under a path
abbrev pub rows_under : {A : Type 0} → Path → Rows A → Rows A
rows_under p rows = filter (λ r. begins p r.0) rows

-- of these what a snapshot copies: what has no hidden element below the path
abbrev pub visible_under : {A : Type 0} → Path → Rows A → Rows A
visible_under p rows = filter (λ r. begins p r.0 && not (list_any is_hidden (after p r.0))) rows

abbrev pub chunks_under : {A : Type 0} → Path → Rows A → List A
chunks_under p rows = all_chunks (rows_under p rows)

abbrev pub visible_chunks_under : {A : Type 0} → Path → Rows A → List A
visible_chunks_under p rows = all_chunks (visible_under p rows)

-- the rows in the order of their paths; of those of one path, the first
abbrev pub by_path : {A : Type 0} → Rows A → Rows A
by_path [] = []
by_path (r ∷ rows) = put path_cmp r.0 r.1 (by_path rows)

-- the chunks of rows that stand in any order
abbrev pub part_chunks : {A : Type 0} → Rows A → List A
part_chunks rows = all_chunks (by_path rows)

-- all rows, or those without a hidden element
abbrev pub kept_rows : {A : Type 0} → Bool → Rows A → Rows A
kept_rows all rows = filter (λ r. not (not all && list_any is_hidden r.0)) rows

-- a/f with two chunks, a/.h/g with one of them again, b with another
abbrev pub some_rows : Rows ℕ
some_rows =
    ([], Dir) ∷ (codes "a" ∷ [], Dir) ∷ (codes "a" ∷ codes ".deleted.00000000000000000005.00000000000000000012.g" ∷ [], File (7 ∷ []))
    ∷ (codes "a" ∷ codes "f" ∷ [], File (7 ∷ 8 ∷ [])) ∷ (codes "b" ∷ [], File (9 ∷ [])) ∷ []

as_often_as_the_files_have_it : chunks_under (codes "a" ∷ []) some_rows ≡ 7 ∷ 7 ∷ 8 ∷ []
as_often_as_the_files_have_it = refl

without_what_is_hidden : visible_chunks_under (codes "a" ∷ []) some_rows ≡ 7 ∷ 8 ∷ []
without_what_is_hidden = refl

in_the_order_of_the_paths : part_chunks {A = ℕ} ((codes "b" ∷ [], File (9 ∷ [])) ∷ (codes "a" ∷ [], File (7 ∷ 8 ∷ [])) ∷ []) ≡ 7 ∷ 8 ∷ 9 ∷ []
in_the_order_of_the_paths = refl
