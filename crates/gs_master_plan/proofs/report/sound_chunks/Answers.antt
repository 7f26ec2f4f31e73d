use Rattle.std.proofs.Common.{◌∙◌}
use Rattle.gs_master_state.proofs.Mapping.{if_ok_weaker}
use Rattle.gs_master_state.proofs.Surveys.{are_sound}
use Rattle.gs_master_plan.proofs.report.sound_chunks.Goals as goal

pub returns : goal.returns
returns c = if_ok_weaker _ _ (λ set is. are_sound c.args.reported.now _ _ (c.deref.ensures.value ∙ c.in_ok-handles.ensures) is) c.chunk_set.result c.chunk_set.ensures
