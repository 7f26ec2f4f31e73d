use Rattle.std.proofs.Common.{◌∙◌, sym}
use Rattle.gs_client.specs.Sends.{Sends}
use Rattle.gs_cluster.specs.Linked.{carried}
use Rattle.gs_shell_calls.specs.Asked.{step_line}
use Rattle.gs_shell_grammar.specs.declared.command.UpgradeStep.TheVariants as steps
use Rattle.gs_shell_threads.specs.Asked.{more_turns, until}
use Rattle.gs_shell_threads.proofs.Turns.{gives_it_up, keeps_it}
use Rattle.gs_shell_threads.proofs.desk.Desk.commit_prepare.Goals as goal

pub returns-then-is_unquiet : goal.returns-then-is_unquiet
returns-then-is_unquiet g c =
    gives_it_up (Sends (carried g.D.Disk.seen g.D.Disk.failures)) (until more_turns (step_line steps.PrepareCommit)) _ _ _ _ _ (sym c.is_unquiet.ensures ∙ c.if-is_unquiet.true) c.ask_until-answer.ensures c.prepare_abort-given_up.ensures

pub returns-else-is_unquiet : goal.returns-else-is_unquiet
returns-else-is_unquiet g c =
    keeps_it (Sends (carried g.D.Disk.seen g.D.Disk.failures)) (until more_turns (step_line steps.PrepareCommit)) _ _ _ (sym c.is_unquiet.ensures ∙ c.if-is_unquiet.false) c.ask_until-answer.ensures
