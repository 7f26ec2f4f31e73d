use Rattle.gs_master_state.proofs.Listed.{has_visible_is}
use Rattle.gs_master_state.proofs.recorded.Recorded.has_visible_child.Goals as goal

pub returns : goal.returns
returns c = has_visible_is c.args.self.now.names.names.tree c.args.path.now c.has_visible.result c.has_visible.ensures
