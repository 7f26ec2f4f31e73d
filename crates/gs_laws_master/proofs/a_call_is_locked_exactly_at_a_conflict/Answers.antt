use Rattle.gs_laws_master.proofs.lemmas.refusals.Locking.{locked_exactly, refused_at_locks}
use Rattle.gs_laws_master.proofs.lemmas.refusals.Wanting.{locked_else}
use Rattle.gs_laws_master.proofs.a_call_is_locked_exactly_at_a_conflict.Goals as goal

pub returns : goal.returns
returns c = record { exactly = locked_exactly; taken = refused_at_locks; alone = locked_else }
