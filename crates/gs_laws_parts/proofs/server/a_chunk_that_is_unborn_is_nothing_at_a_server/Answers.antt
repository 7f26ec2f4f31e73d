use Rattle.gs_laws_parts.proofs.lemmas.server.Unborn.{body_unborn, restart_unborn, beat_unborn, tick_unborn, lose_unborn, damage_unborn, born_shows, nothing_tells}
use Rattle.gs_laws_parts.proofs.server.a_chunk_that_is_unborn_is_nothing_at_a_server.Goals as goal

pub returns-clause-heard : goal.returns-clause-heard
returns-clause-heard c = λ chunk s message moment none says. body_unborn chunk s none message.from message.body moment says

pub returns-clause-restarted : goal.returns-clause-restarted
returns-clause-restarted c = λ chunk s none. restart_unborn chunk s none

pub returns-clause-beats : goal.returns-clause-beats
returns-clause-beats c = λ chunk s none. beat_unborn chunk s none

pub returns-clause-ticked : goal.returns-clause-ticked
returns-clause-ticked c = λ chunk s moment none. tick_unborn chunk s none moment

pub returns-clause-lost : goal.returns-clause-lost
returns-clause-lost c = λ chunk s handle none. lose_unborn chunk s none handle

pub returns-clause-damaged : goal.returns-clause-damaged
returns-clause-damaged c = λ chunk s handle block none. damage_unborn chunk s none handle block

pub returns-clause-born : goal.returns-clause-born
returns-clause-born c = λ setting chunk how origin s none within. born_shows setting chunk how origin s none within

pub returns-clause-told : goal.returns-clause-told
returns-clause-told c = λ setting chunk w m says timely. nothing_tells setting chunk w m says timely
