use Rattle.gs_client.specs.Sends.{Sends}
use Rattle.gs_client_dialogue.proofs.Talks.{follows_both, follows_none}
use Rattle.gs_cluster.specs.Linked.{carried}
use Rattle.gs_shell_calls.specs.Asked.{step_line}
use Rattle.gs_shell_calls.specs.declared.answer.Answer.{Answer}
use Rattle.gs_shell_grammar.specs.declared.command.UpgradeStep.TheVariants as steps
use Rattle.gs_shell_threads.specs.Asked.{commit_or_give_up}
use Rattle.gs_shell_threads.proofs.desk.Desk.prepare.Goals as goal

pub returns-in-Ok : goal.returns-in-Ok
returns-in-Ok g c = follows_both (Sends (carried g.D.Disk.seen g.D.Disk.failures)) (step_line steps.PrepareBegin) (λ (a : Answer). commit_or_give_up) _ _ _ _ _ c.in-Ok.ensures c.commit_prepare.ensures

pub returns : goal.returns
returns g c = follows_none (Sends (carried g.D.Disk.seen g.D.Disk.failures)) (step_line steps.PrepareBegin) (λ (a : Answer). commit_or_give_up) _ _ _ c.in-Err.ensures
