use Rattle.gs_replica.proofs.Carrying.{carried_rolls, carried_again, refused_same}
use Rattle.gs_replica.proofs.promises.carried_seals_roll_back.Goals as goal

pub returns-clause-same : goal.returns-clause-same
returns-clause-same c r i start whole is = carried_rolls start r.held r.sealed i whole.undoing is

pub returns-clause-refused : goal.returns-clause-refused
returns-clause-refused c r start = refused_same start r.sealed

pub returns-clause-again : goal.returns-clause-again
returns-clause-again c r i whole is = carried_again r.held r.sealed i whole.undoing is
