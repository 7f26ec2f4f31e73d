use Rattle.gs_laws_chunk.proofs.lemmas.machine.Facts.{reached_world, gives_back}
use Rattle.gs_laws_chunk.proofs.lemmas.machine.Exact.{gives_back_exactly}
use Rattle.gs_laws_chunk.proofs.machine.a_rollback_gives_back_what_stood.Goals as goal

pub returns-clause-back : goal.returns-clause-back
returns-clause-back c = λ w members r can. gives_back w (reached_world w r) members can

pub returns-clause-exact : goal.returns-clause-exact
returns-clause-exact c = λ w whole last members r can leads. gives_back_exactly w (reached_world w r) whole can last leads members
