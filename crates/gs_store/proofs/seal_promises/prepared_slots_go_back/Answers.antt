use Rattle.std.proofs.Common.{refl}
use Rattle.gs_store.specs.Learning.{prepared}
use Rattle.gs_store.proofs.Sealing.{run_stood, prepared_stood, back}
use Rattle.gs_store.proofs.seal_promises.prepared_slots_go_back.Goals as goal

pub returns-clause-stood : goal.returns-clause-stood
returns-clause-stood c block chunk s end edits calls stood kept leads = run_stood block chunk edits s end calls kept leads stood

pub returns-clause-back : goal.returns-clause-back
returns-clause-back c block chunk epoch s end edits calls stands kept leads live =
    back block chunk edits epoch end (run_stood block chunk edits (prepared s) end calls kept leads (prepared_stood block chunk edits s s.live refl stands)) live
