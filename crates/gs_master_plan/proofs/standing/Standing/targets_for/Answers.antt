use Rattle.gs_master_spec.specs.Beginning.{counted_views}
use Rattle.gs_master_plan.specs.inner.Planning.{state_of}
use Rattle.gs_master_plan.proofs.Targets.{targets_found}
use Rattle.gs_master_plan.proofs.standing.Standing.targets_for.Goals as goal

pub returns : goal.returns
returns c =
    targets_found c.args.config.now (counted_views (state_of c.args.self.now)) _ c.args.present c.args.wanted c.targets.result c.ok.result c.replica_counts-counts.ensures c.ok.ensures.value c.targets.ensures.targets
