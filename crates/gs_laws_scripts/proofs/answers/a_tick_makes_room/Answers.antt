use Rattle.gs_laws_scripts.proofs.lemmas.answers.Room.{makes_room}
use Rattle.gs_laws_scripts.proofs.answers.a_tick_makes_room.Goals as goal

pub returns : goal.returns
returns g c = makes_room
