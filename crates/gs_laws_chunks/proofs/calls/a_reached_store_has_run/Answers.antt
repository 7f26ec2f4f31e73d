use Rattle.gs_laws_chunks.proofs.lemmas.calls.Reached.{reached_runs}
use Rattle.gs_laws_chunks.proofs.calls.a_reached_store_has_run.Goals as goal

pub returns : goal.returns
returns g c x = reached_runs x
