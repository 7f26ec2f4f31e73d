use Rattle.std.proofs.Common.{◌≡◌, drop}
use Rattle.gs_master_spec.specs.Durable.{prepared_view}
use Rattle.gs_master_plan.specs.inner.Planning.{state_of}
use Rattle.gs_master_spec.specs.Upgrades.{told_of, unrestored}
use Rattle.gs_master_plan.proofs.standing.Standing.unrestored.Given as goal

abbrev pub invariant-loop-place : goal.invariant-loop-place
invariant-loop-place l =
    unrestored (prepared_view (state_of l.self).durable) (told_of (state_of l.self)) (drop l.place l.listed.items) ≡ unrestored (prepared_view (state_of l.self).durable) (told_of (state_of l.self)) l.listed.items
