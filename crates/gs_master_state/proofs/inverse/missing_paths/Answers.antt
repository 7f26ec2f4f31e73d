use Rattle.std.proofs.Common.{◌≡◌, ◌∙◌, ap, subst}
use Rattle.std.specs.Prelude.{IfOk}
use Rattle.gs_tree.specs.Edits.{stood}
use Rattle.gs_tree.specs.Lists.{made_paths}
use Rattle.gs_master_state.proofs.Deleted.{seen}
use Rattle.gs_master_state.proofs.inverse.missing_paths.Goals as goal

pub returns : goal.returns
returns c =
    subst (λ above. IfOk c.made_paths.result (λ paths. paths.items ≡ made_paths c.args.path.now above))
    (c.in_ok-above.ensures ∙ ap (λ m. stood m c.args.path.now) (seen c.args.names.now.names.tree)) c.made_paths.ensures
