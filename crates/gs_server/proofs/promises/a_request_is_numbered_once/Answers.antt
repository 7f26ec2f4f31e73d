use Rattle.gs_server.proofs.promises.a_request_is_numbered_once.Goals as goal
use Rattle.gs_server.specs.Edits.{edit}
use Rattle.gs_server.proofs.Keeping.{of_becomes, numbered_once}

pub returns : goal.returns
returns c = λ h p req stamp op last s done is. of_becomes _ (edit h p req stamp op).slot s is (numbered_once h p req stamp op last done)
