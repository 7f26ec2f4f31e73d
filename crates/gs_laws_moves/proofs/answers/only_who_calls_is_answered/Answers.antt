use Rattle.gs_laws_moves.proofs.lemmas.answers.Concerning.{checkpoints_concerned, messages_concerned, steps_concerned, ticks_concerned}
use Rattle.gs_laws_moves.proofs.answers.only_who_calls_is_answered.Goals as goal

pub returns-clause-messages : goal.returns-clause-messages
returns-clause-messages g = messages_concerned

pub returns-clause-ticks : goal.returns-clause-ticks
returns-clause-ticks g = ticks_concerned

pub returns-clause-steps : goal.returns-clause-steps
returns-clause-steps g = steps_concerned

pub returns-clause-checkpoints : goal.returns-clause-checkpoints
returns-clause-checkpoints g = checkpoints_concerned
