use Rattle.gs_store.proofs.BlockByBlock.{undamaged_holds}
use Rattle.gs_server.specs.Runs.{slot_in}
use Rattle.gs_laws_server.proofs.lemmas.servers.BlockByBlock.{event_holds, run_holds, created_holds}
use Rattle.gs_laws_server.proofs.servers.a_block_that_is_not_damaged_holds_what_its_edits_give.Goals as goal

pub returns-clause-event : goal.returns-clause-event
returns-clause-event c = λ handle k e s edits stands holds kept spared live. event_holds handle k e s edits stands holds kept spared live

pub returns-clause-run : goal.returns-clause-run
returns-clause-run c = λ handle k events s edits stands holds told kept spared live. run_holds handle k events s edits stands holds told kept spared live

pub returns-clause-created : goal.returns-clause-created
returns-clause-created c = λ s from handle k stamp moment above said. created_holds s from handle k stamp moment above said

pub returns-clause-undamaged : goal.returns-clause-undamaged
returns-clause-undamaged c = λ handle k s edits stands told none. undamaged_holds s.block s.chunk k (slot_in handle s).live edits stands told none
