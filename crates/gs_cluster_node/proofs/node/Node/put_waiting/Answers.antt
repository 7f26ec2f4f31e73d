use Rattle.gs_cluster_history.specs.Setting.{all_ids}
use Rattle.gs_cluster_node.proofs.Stepping.{again_sound, kept_as}
use Rattle.gs_cluster_node.proofs.node.Node.put_waiting.Goals as goal

pub invariant_of-self : goal.invariant_of-self
invariant_of-self g c =
    let inside = c.self.inside in
    let k = kept_as inside.me inside.core inside.clock inside.diary.log.sent inside.diary.log.entries in
    let agrees = c.self.invariant.1 in (
      again_sound g.C.Core.Does (g.C.Core.Starts g.N.Plan.setting) (all_ids g.N.Plan.setting) k inside.ways.items c.put_waiting.new.ways.items inside.ear c.self.invariant.0 c.put_waiting.ensures.routes,
      record { counts = agrees.counts; waits = c.put_waiting.ensures.own; own = agrees.own; keeps = agrees.keeps },
    )
