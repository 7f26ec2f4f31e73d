use Rattle.gs_laws_world.proofs.lemmas.worlds.Worlds.{begins_so_of}
use Rattle.gs_laws_world.proofs.worlds.new_world.Goals as goal

pub returns : goal.returns
returns c = begins_so_of c.args.config c.new.result c.new.ensures.begins
