use Rattle.gs_shell_calls.specs.declared.answer.Answer.TheVariants as answers
use Rattle.gs_shell_calls.proofs.Talking.{plain_answered}
use Rattle.gs_client.specs.Sends.{Sends}
use Rattle.gs_client.specs.Trees as trees
use Rattle.gs_shell_calls.proofs.caller.Caller.replicate.Goals as goal

pub returns : goal.returns
returns g c = rw c.copied.ensures (plain_answered (Sends g.L.Link.Carries) trees.replicate_call answers.Copied _ _ _ c.replicate.ensures)
