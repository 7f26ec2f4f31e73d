use Rattle.std.proofs.Common.{◌≡◌, drop}
use Rattle.gs_master_spec.specs.Applied.{are_answers}
use Rattle.gs_master_spec.specs.Durable.{prepared_view}
use Rattle.gs_master_state.specs.inner.Recorded.{durable_of}
use Rattle.gs_master_state.proofs.recorded.Recorded.are_answers.Given as goal

abbrev pub invariant-loop-place : goal.invariant-loop-place
invariant-loop-place l = are_answers (prepared_view (durable_of l.self)) (drop l.place l.listed) (drop l.place l.answered) ≡ are_answers (prepared_view (durable_of l.self)) l.listed l.answered
