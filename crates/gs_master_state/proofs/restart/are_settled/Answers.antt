use Rattle.std.proofs.Common.{◌∙◌}
use Rattle.gs_master_state.specs.Checkpoints.{have_views}
use Rattle.gs_master_state.proofs.Readings.{views_settled}
use Rattle.gs_master_state.proofs.restart.are_settled.Goals as goal

pub returns : goal.returns
returns c =
    let checkpoint = c.args.checkpoint.now in
    c.have_views.ensures ∙ (λ i. have_views (c.requires i) (c.deref.ensures.value i)) ∙ views_settled checkpoint.settled.items checkpoint.references.items
