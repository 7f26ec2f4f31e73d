-- What a scan removes, seen by the tree's list.
use Rattle.std.proofs.Common.{◌≡◌, ◌++◌, ◌∷◌, [], ℕ, false, true, cond, List, filter, map, refl, ap}
use Rattle.gs_path.specs.Path.{Name, Path}
use Rattle.gs_tree.specs.Build.{path_of_entry, rooted_rows, rows_of_entries}
use Rattle.gs_tree.specs.declared.entry.TreeEntry.{TreeEntry}
use Rattle.gs_edit.specs.Table.{paths_of}
use Rattle.gs_edit.specs.Scan.{goes, is_over}

same_paths : (es : List TreeEntry) → map path_of_entry es ≡ paths_of (rows_of_entries es)
same_paths [] = refl
same_paths (e ∷ es) = ap (λ ps. path_of_entry e ∷ ps) (same_paths es)

-- the root never goes
pub paths_listed : (moment : ℕ) (es : List TreeEntry) → filter (goes moment) (map path_of_entry es) ≡ filter (goes moment) (paths_of (rooted_rows (rows_of_entries es)))
paths_listed moment es = ap (filter (goes moment)) (same_paths es)

-- an element above the last one is over
pub goes_over : (moment : ℕ) (x : Name) (rest : Path) (last : Name) → is_over moment x ≡ true → goes moment (x ∷ (rest ++ last ∷ [])) ≡ false
goes_over moment x [] last over = ap (λ b. cond b false (goes moment (last ∷ []))) over
goes_over moment x (y ∷ rest) last over = ap (λ b. cond b false (goes moment (y ∷ (rest ++ last ∷ [])))) over

-- or it isn't
pub goes_on : (moment : ℕ) (x : Name) (rest : Path) (last : Name) → is_over moment x ≡ false → goes moment (x ∷ (rest ++ last ∷ [])) ≡ goes moment (rest ++ last ∷ [])
goes_on moment x [] last fresh = ap (λ b. cond b false (goes moment (last ∷ []))) fresh
goes_on moment x (y ∷ rest) last fresh = ap (λ b. cond b false (goes moment (y ∷ (rest ++ last ∷ [])))) fresh
