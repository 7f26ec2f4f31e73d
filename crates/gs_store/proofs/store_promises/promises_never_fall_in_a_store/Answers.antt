use Rattle.gs_store.proofs.StoreRuns.{call_rises, run_rises}
use Rattle.gs_store.proofs.store_promises.promises_never_fall_in_a_store.Goals as goal

pub returns-clause-call : goal.returns-clause-call
returns-clause-call c call s s2 handle is = call_rises call s s2 handle is

pub returns-clause-run : goal.returns-clause-run
returns-clause-run c calls s end handle leads = run_rises calls s end handle leads
