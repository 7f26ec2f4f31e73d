use Rattle.gs_laws_parts.proofs.lemmas.server.Steps.{restart_steps, beat_steps}
use Rattle.gs_laws_parts.proofs.lemmas.server.Renaming.{message_steps}
use Rattle.gs_laws_parts.proofs.lemmas.server.Ticks.{tick_steps, lose_steps, damage_steps}
use Rattle.gs_laws_parts.proofs.server.what_a_server_does_is_steps_of_each_chunk.Goals as goal

pub returns-clause-heard : goal.returns-clause-heard
returns-clause-heard c = λ bytes born chunk w s message moment x to tells brings. message_steps bytes born chunk w s x message moment to tells brings

pub returns-clause-restarted : goal.returns-clause-restarted
returns-clause-restarted c = λ bytes born chunk w s x. restart_steps bytes born chunk w s x

pub returns-clause-beats : goal.returns-clause-beats
returns-clause-beats c = λ bytes born chunk w s x. beat_steps bytes born chunk w s x

pub returns-clause-ticked : goal.returns-clause-ticked
returns-clause-ticked c = λ bytes born chunk w s moment x. tick_steps bytes born chunk w s x moment

pub returns-clause-lost : goal.returns-clause-lost
returns-clause-lost c = λ bytes born chunk w s handle x. lose_steps bytes born chunk w s x handle

pub returns-clause-damaged : goal.returns-clause-damaged
returns-clause-damaged c = λ bytes born chunk w s handle block x. damage_steps bytes born chunk w s x handle block
