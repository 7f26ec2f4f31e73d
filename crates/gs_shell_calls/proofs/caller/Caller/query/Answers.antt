use Rattle.gs_shell_calls.specs.Asked.{at_phase}
use Rattle.gs_shell_calls.proofs.Talking.{plain_answered}
use Rattle.gs_client.specs.Sends.{Sends}
use Rattle.gs_client.specs.Trees as trees
use Rattle.gs_shell_calls.proofs.caller.Caller.query.Goals as goal

pub returns : goal.returns
returns g c = rw c.phase.ensures (plain_answered (Sends g.L.Link.Carries) trees.query_call at_phase _ _ _ c.query.ensures)
