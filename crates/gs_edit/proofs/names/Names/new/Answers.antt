use Rattle.std.proofs.Common.{◌≡◌, ℕ, [], ◌∷◌, refl, sym, ◌∙◌}
use Rattle.std.specs.FinMap.{from_entries, get-from_entries, same_map}
use Rattle.gs_path.specs.Path.{Path, path_cmp, path_total}
use Rattle.gs_tree.specs.Plain.{rooted}
use Rattle.gs_tree.specs.Find.{at}
use Rattle.gs_edit.specs.Table.{root_rows}
use Rattle.gs_edit.proofs.Tables.{paths_antisymmetric}
use Rattle.gs_edit.proofs.names.Names.new.Goals as goal

pub returns : goal.returns
returns c =
    let tree : c.new.result ≡ from_entries {R = path_cmp} root_rows = same_map path_total paths_antisymmetric c.new.result (from_entries root_rows) (λ q. c.new.ensures q ∙ sym (alone q) ∙ sym (get-from_entries path_total root_rows q)) in
    λ i. record { tree = tree i; refs = c.new-2.ensures i }
  where
    alone : (q : Path) → at {A = ℕ} root_rows q ≡ rooted q
    alone [] = refl
    alone (x ∷ p) = refl
