use Rattle.gs_laws_moves.proofs.lemmas.looks.Leaving.{checkpoints_leave, messages_leave, steps_leave, ticks_leave}
use Rattle.gs_laws_moves.proofs.looks.no_chunk_is_leased_while_clients_look.Goals as goal

pub returns-clause-messages : goal.returns-clause-messages
returns-clause-messages c = messages_leave

pub returns-clause-ticks : goal.returns-clause-ticks
returns-clause-ticks c = ticks_leave

pub returns-clause-steps : goal.returns-clause-steps
returns-clause-steps c = steps_leave

pub returns-clause-checkpoints : goal.returns-clause-checkpoints
returns-clause-checkpoints c = checkpoints_leave
