use Rattle.gs_cluster_history.specs.Setting.{all_ids}
use Rattle.gs_cluster_threads.proofs.Matching.{all_there, is_whole}
use Rattle.gs_cluster_threads.proofs.gathering.gather.Goals as goal

pub settle_all-requires : goal.settle_all-requires
settle_all-requires g c =
    all_there g.C.Core.Does (g.C.Core.Starts g.N.Plan.setting) (all_ids g.N.Plan.setting) c.in_ok-nodes.nodes.items c.in_ok-members.field-0.rows.items c.in_ok-members.field-0.ears.items
    c.in_ok-nodes.ensures.numbers c.in_ok-members.ensures.apart

pub returns : goal.returns
returns g c = (
  c.are_all.ensures.0 c.if-not-are_all.false,
  is_whole g.C.Core.Does (g.C.Core.Starts g.N.Plan.setting) (all_ids g.N.Plan.setting) c.args.nodes.items c.in_ok-nodes.nodes.items c.in_ok-members.field-0.members.items c.in_ok-members.field-0.notes.items c.in_ok-members.field-0.rows.items c.in_ok-members.field-0.ears.items
      c.in_ok-nodes.ensures c.in_ok-members.ensures.apart c.in_ok-members.ensures.members c.in_ok-members.ensures.notes c.in_ok-settle_all.ensures,
)
