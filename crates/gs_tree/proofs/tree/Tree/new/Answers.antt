use Rattle.std.proofs.Common.{ℕ, ◌≡◌, ap, ◌∙◌, ◌∷◌, [], refl}
use Rattle.gs_path.specs.Path.{Path}
use Rattle.gs_tree.specs.Entry.{Dir}
use Rattle.gs_tree.specs.Plain.{rooted}
use Rattle.gs_tree.specs.Find.{at}
use Rattle.gs_tree.proofs.Moves.{seen}
use Rattle.gs_tree.proofs.tree.Tree.new.Goals as goal

pub returns : goal.returns
returns c q = ap (λ f. f q) (seen c.new.result) ∙ ap (λ r. at r q) c.new.ensures ∙ alone q
  where
    alone : (q : Path) → at {A = ℕ} (([], Dir) ∷ []) q ≡ rooted q
    alone [] = refl
    alone (x ∷ p) = refl
