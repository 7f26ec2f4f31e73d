use Rattle.gs_replica.specs.Calls.{Applies, Undoes, Promises, Damages}
use Rattle.gs_replica.proofs.Returning.{rolls_there}
use Rattle.gs_replica.proofs.Running.{called_rolls}
use Rattle.gs_replica.proofs.promises.rollbacks_stay.Goals as goal

pub returns-clause-seal : goal.returns-clause-seal
returns-clause-seal c r start none = rolls_there r start none

pub returns-clause-apply : goal.returns-clause-apply
returns-clause-apply c r r2 start stamp number req op bytes e = called_rolls start (Applies stamp number req op bytes) r r2 tt e

pub returns-clause-undo : goal.returns-clause-undo
returns-clause-undo c r r2 start i e = called_rolls start (Undoes i) r r2 tt e

pub returns-clause-promise : goal.returns-clause-promise
returns-clause-promise c r r2 start stamp e = called_rolls start (Promises stamp) r r2 tt e

pub returns-clause-damage : goal.returns-clause-damage
returns-clause-damage c r r2 start index touched e = called_rolls start (Damages index) r r2 touched e
