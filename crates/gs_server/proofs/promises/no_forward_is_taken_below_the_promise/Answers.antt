use Rattle.gs_server.proofs.promises.no_forward_is_taken_below_the_promise.Goals as goal
use Rattle.gs_server.specs.Edits.{forward}
use Rattle.gs_server.proofs.Keeping.{of_becomes, forwarded_is}

pub returns : goal.returns
returns c = λ h p from stamp number req op carried s is. of_becomes _ (forward h p from stamp number req op carried).slot s is (forwarded_is h p from stamp number req op carried)
