use Rattle.gs_laws_chunk.proofs.lemmas.machine.Facts.{reached_world, survivors_keep, survivors_name, survivors_were_current, current_still_keep}
use Rattle.gs_laws_chunk.proofs.machine.a_survivor_keeps_what_was_prepared.Goals as goal

pub returns-clause-seals : goal.returns-clause-seals
returns-clause-seals c = λ w r. survivors_keep w (reached_world w r)

pub returns-clause-named : goal.returns-clause-named
returns-clause-named c = λ w r. survivors_name w (reached_world w r)

pub returns-clause-current : goal.returns-clause-current
returns-clause-current c = λ w r. survivors_were_current w (reached_world w r)

pub returns-clause-late : goal.returns-clause-late
returns-clause-late c = λ w r. current_still_keep w (reached_world w r)
