use Rattle.std.proofs.Common.{ap, sym, ◌∙◌}
use Rattle.std.specs.FinMap.{get, same_map, from_entries}
use Rattle.gs_path.specs.Path.{path_cmp, path_total}
use Rattle.gs_tree.proofs.Moves.{seen}
use Rattle.gs_tree.proofs.Depths.{paths_antisymmetric}
use Rattle.gs_tree.proofs.tree.Tree.copy.Goals as goal

pub returns : goal.returns
returns c = same_map path_total paths_antisymmetric (from_entries {R = path_cmp} c.in_ok-copy.field-0) c.args.self.now (λ q.
    ap (λ f. f q) (seen c.in_ok-copy.field-0) ∙ c.in_ok-copy.ensures.same q ∙ sym (ap (λ f. f q) (seen c.self.inside.root)) ∙ ap (λ m. get m q) c.self.view_is)
