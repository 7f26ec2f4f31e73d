use Rattle.gs_replica.specs.Seals.{seal}
use Rattle.gs_replica.proofs.Carried.{stood_there}
use Rattle.gs_replica.proofs.Stood.{rolled_back, holds, carried_image}
use Rattle.gs_replica.proofs.Running.{leads_stood, goes_back}
use Rattle.gs_replica.proofs.promises.sealed_replicas_go_back.Goals as goal

pub returns-clause-stands : goal.returns-clause-stands
returns-clause-stands c block chunk r end r2 edits calls start stands leads e =
    let stood = leads_stood block chunk edits (seal r) end calls (stood_there block chunk r.held edits stands) leads in
    let b = rolled_back block chunk edits start end.sealed r2 stood e in
    (b.stands, b.undamaged, λ told. holds block chunk r2.held edits b.stands told b.undamaged)

pub returns-clause-carries : goal.returns-clause-carries
returns-clause-carries c block chunk r end i edits calls stands leads told e =
    let stood = leads_stood block chunk edits (seal r) end calls (stood_there block chunk r.held edits stands) leads in
    let b = carried_image block chunk edits end.sealed i stood told e in
    b.image

pub returns-clause-same : goal.returns-clause-same
returns-clause-same c r end calls start none leads = goes_back start r end calls none leads
