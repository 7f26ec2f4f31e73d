-- What a contract sees of the names.
use Rattle.std.specs.Prelude.{ℕ, refl}
use Rattle.std.specs.Coded.{Coded, code_by, coded×, coded_ℕ}
use Rattle.std.specs.FinMap as map
use Rattle.std.specs.Ordering.{nat_cmp}
use Rattle.gs_path.specs.Path.{path_cmp, coded_path}
use Rattle.gs_tree.specs.Entry.{Entry, coded_entry}

-- the tree with the handles of its files, and of each handle how often it stands there
pub record NamesView : Type 0 where
  pub tree : map.FinMap path_cmp (Entry ℕ)
  pub refs : map.FinMap nat_cmp ℕ

abbrev pub coded_names : Coded NamesView
coded_names =
    code_by (map.FinMap path_cmp (Entry ℕ) × map.FinMap nat_cmp ℕ) (coded× (map.code coded_path coded_entry) (map.code coded_ℕ coded_ℕ))
    (λ v. (v.tree, v.refs)) (λ p. record { tree = p.0; refs = p.1 }) (λ _. refl)

abbrev pub names_of : map.FinMap path_cmp (Entry ℕ) → map.FinMap nat_cmp ℕ → NamesView
names_of tree refs = record { tree = tree; refs = refs }
