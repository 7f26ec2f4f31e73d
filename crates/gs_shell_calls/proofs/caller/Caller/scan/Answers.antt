use Rattle.gs_shell_calls.specs.Asked.{scanned}
use Rattle.gs_shell_calls.proofs.Talking.{plain_answered}
use Rattle.gs_client.specs.Sends.{Sends}
use Rattle.gs_client.specs.Trees as trees
use Rattle.gs_shell_calls.proofs.caller.Caller.scan.Goals as goal

pub returns : goal.returns
returns g c = rw c.scanned.ensures (plain_answered (Sends g.L.Link.Carries) trees.scan_call scanned _ _ _ c.scan.ensures)
