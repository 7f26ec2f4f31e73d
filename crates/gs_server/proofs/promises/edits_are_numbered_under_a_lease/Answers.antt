use Rattle.gs_server.proofs.promises.edits_are_numbered_under_a_lease.Goals as goal
use Rattle.gs_server.specs.Edits.{edit}
use Rattle.gs_server.proofs.Keeping.{of_becomes, numbered_is}

pub returns : goal.returns
returns c = λ h p req stamp op s is. of_becomes _ (edit h p req stamp op).slot s is (numbered_is h p req stamp op)
