use Rattle.std.proofs.Common.{◌==◌, inr, sym}
use Rattle.std.specs.Prelude.{nat_lt}
use Rattle.gs_journal.specs.Journal.{checkpoint_size, last_generation}
use Rattle.gs_master_plan.proofs.Renewals.{known_first}
use Rattle.gs_master_plan.specs.inner.Planning.{state_of}
use Rattle.gs_master_spec.specs.Handling.{checkpoint_body}
use Rattle.gs_master_spec.specs.State.{is_failed}
use Rattle.gs_master_plan.proofs.standing.Standing.renewal.Goals as goal

pub returns-in-Some : goal.returns-in-Some
returns-in-Some g c =
    let s = state_of c.args.self.now in
    inr (sym (known_first (is_failed s.fault) s.volatile.is_preparing (s.log.generation == last_generation) (nat_lt s.log.limit (checkpoint_size (checkpoint_body s.durable))) c.in-Some.known c.in-Some.ensures.first))
