use Rattle.std.proofs.Common.{ap, ◌∙◌}
use Rattle.std.specs.FinMap as fin
use Rattle.gs_tree.specs.Chunks.{visible_chunks_under}
use Rattle.gs_master_state.specs.inner.Recorded.{durable_of}
use Rattle.gs_master_state.proofs.Mapping.{if_ok_weaker}
use Rattle.gs_master_state.proofs.Surveys.{are_visible}
use Rattle.gs_master_state.proofs.recorded.Recorded.visible_chunks.Goals as goal

pub returns : goal.returns
returns c =
    if_ok_weaker _ _
    (λ set is. are_visible (fin.entries (durable_of c.args.self.now).names.tree) _ _
    (c.deref.ensures.value ∙ c.in_ok-chunks.ensures ∙ ap (λ p. visible_chunks_under p (fin.entries c.args.self.now.names.names.tree)) c.root-root.ensures) is)
    c.chunk_set.result c.chunk_set.ensures
