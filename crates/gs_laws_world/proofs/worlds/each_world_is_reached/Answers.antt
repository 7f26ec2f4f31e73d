use Rattle.gs_laws_world.proofs.lemmas.worlds.Worlds.{begins_so, goes_on_so, replies_so, steps_so}
use Rattle.gs_laws_world.proofs.worlds.each_world_is_reached.Goals as goal

pub returns-clause-begins : goal.returns-clause-begins
returns-clause-begins g c = begins_so

pub returns-clause-run : goal.returns-clause-run
returns-clause-run g c = goes_on_so

pub returns-clause-step : goal.returns-clause-step
returns-clause-step g c = steps_so

pub returns-clause-replies : goal.returns-clause-replies
returns-clause-replies g c = replies_so
