-- What stands at each path of a desk's store, hidden names too.
use Rattle.std.specs.Prelude.{◌≡◌, ◌++◌, ◌∷◌, [], List, ℕ, Option, None, Some, Vec, codes, refl}
use Rattle.std.specs.FinMap as fin
use Rattle.std.specs.declared.alloc.Global.{Global}
use Rattle.gs_nodes.specs.declared.place.MasterPlace.{MasterPlace}
use Rattle.gs_nodes.specs.declared.place.MasterPlace.TheVariants.{Standing, Closed, Away}
use Rattle.gs_path.specs.Path.{path_text}
use Rattle.gs_tree.specs.Build.{rooted_rows, rows_of_entries}
use Rattle.gs_tree.specs.declared.entry.TreeEntry.{TreeEntry}
use Rattle.gs_tree.specs.declared.entry.TreeEntry.TheVariants.{Dir, File}

-- Where a master stands, they are what stands at each path but the root, in the order of the paths. Else none are told.
abbrev pub AreNames : {D : Type 0} → MasterPlace D → Option (Vec TreeEntry Global) → Type 0
AreNames (Standing m) (Some listed) = rooted_rows (rows_of_entries listed.items) ≡ fin.entries m.state.durable.names.tree
AreNames (Standing m) None = ⊥
AreNames (Closed first second) found = found ≡ None
AreNames Away found = found ≡ None

-- the line that tells of one
abbrev pub name_line : TreeEntry → List ℕ
name_line (Dir path) = codes "dir " ++ path_text path
name_line (File path chunks) = codes "file " ++ path_text path

a_directory_is_told : name_line (Dir (codes "a" ∷ codes "b" ∷ [])) ≡ codes "dir /a/b"
a_directory_is_told = refl
