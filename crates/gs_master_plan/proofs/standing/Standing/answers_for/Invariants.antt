use Rattle.std.proofs.Common.{◌≡◌, map, take}
use Rattle.gs_master_spec.specs.Durable.{prepared_view}
use Rattle.gs_master_plan.specs.inner.Planning.{state_of}
use Rattle.gs_master_spec.specs.Upgrades.{answer_for, told_of}
use Rattle.gs_master_plan.proofs.standing.Standing.answers_for.Given as goal

abbrev pub invariant-loop-place : goal.invariant-loop-place
invariant-loop-place l = l.answers.items ≡ map (answer_for (prepared_view (state_of l.self).durable) (told_of (state_of l.self))) (take l.place l.listed.items)
