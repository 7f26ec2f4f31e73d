use Rattle.std.proofs.Common.{◌∙◌, ap}
use Rattle.std.specs.FinMap as fin
use Rattle.gs_tree.specs.Lists.{made_paths}
use Rattle.gs_master_state.specs.inner.Judging.{leading}
use Rattle.gs_master_state.proofs.Fronts.{leading_is}
use Rattle.gs_master_state.proofs.Mapping.{if_ok_weaker}
use Rattle.gs_master_state.proofs.recorded.Recorded.missing.Goals as goal

pub returns : goal.returns
returns c =
    let m = fin.get c.args.self.now.names.names.tree in
    if_ok_weaker _ _ (λ paths told. told ∙ ap (made_paths c.args.path.now) (c.leading.ensures ∙ ap (leading m) (c.deref.ensures.value ∙ c.in_ok-fronts.ensures) ∙ leading_is m c.args.path.now)) c.made_paths-2.result c.made_paths-2.ensures
