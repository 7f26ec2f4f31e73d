use Rattle.std.proofs.Common.{◌==◌}
use Rattle.std.specs.Prelude.{nat_lt}
use Rattle.gs_journal.specs.Journal.{checkpoint_size, last_generation}
use Rattle.gs_master_plan.proofs.Renewals.{known_first}
use Rattle.gs_master_plan.specs.inner.Planning.{state_of}
use Rattle.gs_master_spec.specs.State.{is_failed}
use Rattle.gs_master_plan.proofs.standing.Standing.checkpoint_refusal.Goals as goal

pub returns-in-Some-clause-first : goal.returns-in-Some-clause-first
returns-in-Some-clause-first c =
    let s = state_of c.args.self.now in
    known_first (is_failed s.fault) s.volatile.is_preparing (s.log.generation == last_generation) (nat_lt s.log.limit (checkpoint_size c.args.body.now)) c.in-Some.refusal c.in-Some.ensures.first
