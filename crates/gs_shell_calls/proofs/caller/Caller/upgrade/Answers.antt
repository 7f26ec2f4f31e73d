use Rattle.gs_shell_calls.specs.declared.answer.Answer.TheVariants as answers
use Rattle.gs_shell_calls.proofs.Talking.{plain_answered}
use Rattle.gs_client.specs.Sends.{Sends}
use Rattle.gs_client.specs.Trees as trees
use Rattle.gs_shell_calls.proofs.caller.Caller.upgrade.Goals as goal

pub returns-in-Finalize : goal.returns-in-Finalize
returns-in-Finalize g c = rw c.in-Finalize.is (rw c.number.ensures (plain_answered (Sends g.L.Link.Carries) trees.finalize_call answers.Number _ _ _ c.finalize.ensures))
