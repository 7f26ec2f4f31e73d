use Rattle.gs_laws_lift.proofs.lemmas.stores.Accounts.{replica_begins, settled_same}
use Rattle.gs_laws_lift.proofs.stores.lists_that_agree_tell_what_replicas_stand_for.Goals as goal

pub returns-clause-stands : goal.returns-clause-stands
returns-clause-stands c = replica_begins

pub returns-clause-settled : goal.returns-clause-settled
returns-clause-settled c = settled_same
