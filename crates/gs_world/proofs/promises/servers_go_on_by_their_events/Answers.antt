use Rattle.gs_world.proofs.Serving.{run_goes}
use Rattle.gs_world.proofs.promises.servers_go_on_by_their_events.Goals as goal

pub returns : goal.returns
returns g c seen failures armed steps old new runs id = run_goes seen failures armed steps old new runs id
