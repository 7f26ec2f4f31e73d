use Rattle.gs_world.proofs.Ongoing.{come}
use Rattle.gs_world.proofs.promises.events_are_steps.Goals as goal

pub returns : goal.returns
returns g c seen failures armed events said old new all = come seen failures armed events said old new all
