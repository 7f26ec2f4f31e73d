use Rattle.std.proofs.Common.{◌∷◌, ◌++◌, [], ap, sym, ◌∙◌}
use Rattle.gs_tree.specs.Edits.{parent}
use Rattle.gs_tree.proofs.Moves.{parent_is}
use Rattle.gs_tree.proofs.moving.with_name.Goals as goal

pub returns : goal.returns
returns c =
    c.in_ok-push.ensures.ok ∙ ap (λ p. p ++ c.in_ok-copy.field-0 ∷ []) (parent_is c.args.path.now c.in-Some.target (sym c.in_ok-target.ensures ∙ c.in-Some.is))
    ∙ ap (λ x. parent c.args.path.now ++ x ∷ []) c.in_ok-copy.ensures
