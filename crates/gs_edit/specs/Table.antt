-- A plain tree as the rows of its finitely many paths, in their order. It computes.
use Rattle.std.specs.Prelude.{◌++◌, List, [], ◌∷◌, map, if◌then◌else◌, Option, Some, None, Result, Ok, Err}
use Rattle.std.specs.FinMap.{put}
use Rattle.gs_path.specs.Path.{Path, path_cmp, begins}
use Rattle.gs_base.specs.declared.refusal.Refusal.{Refusal}
use Rattle.gs_tree.specs.Entry.{Entry, Dir}
use Rattle.gs_tree.specs.Plain.{Plain, after}
use Rattle.gs_tree.specs.Find.{Rows}

-- the row of a path, if something stands there, put in its place
abbrev pub with_row : {A : Type 0} → Path → Option (Entry A) → Rows A → Rows A
with_row p None rows = rows
with_row p (Some e) rows = put path_cmp p e rows

-- the rows of what stands at these paths
abbrev pub table : {A : Type 0} → List Path → Plain A → Rows A
table [] m = []
table (p ∷ ps) m = with_row p (m p) (table ps m)

abbrev pub tabled : {A : Type 0} → List Path → Result (Plain A) Refusal → Result (Rows A) Refusal
tabled ps (Ok m) = Ok (table ps m)
tabled ps (Err e) = Err e

abbrev pub paths_of : {A : Type 0} → Rows A → List Path
paths_of rows = map (λ r. r.0) rows

-- the root, and each path down to this one
abbrev pub fronts : Path → List Path
fronts [] = [] ∷ []
fronts (x ∷ p) = [] ∷ map (λ q. x ∷ q) (fronts p)

-- where what stood at q stands after a move
abbrev pub moved_path : Path → Path → Path → Path
moved_path from to q = if begins from q then to ++ after from q else q

-- the root alone
abbrev pub root_rows : {A : Type 0} → Rows A
root_rows = ([], Dir) ∷ []
