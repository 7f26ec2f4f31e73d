use Rattle.gs_shell_calls.specs.declared.answer.Answer.TheVariants as answers
use Rattle.gs_shell_calls.proofs.Talking.{plain_answered}
use Rattle.gs_client.specs.Sends.{Sends}
use Rattle.gs_client.specs.Trees as trees
use Rattle.gs_shell_calls.proofs.caller.Caller.upgrade_step.Goals as goal

pub returns-in-PrepareBegin : goal.returns-in-PrepareBegin
returns-in-PrepareBegin g c = rw c.in-PrepareBegin.is (rw c.number.ensures (plain_answered (Sends g.L.Link.Carries) trees.prepare_begin_call answers.Number _ _ _ c.prepare_begin.ensures))

pub returns-in-PrepareCommit : goal.returns-in-PrepareCommit
returns-in-PrepareCommit g c = rw c.in-PrepareCommit.is (rw c.number-in-PrepareCommit.ensures (plain_answered (Sends g.L.Link.Carries) trees.prepare_commit_call answers.Number _ _ _ c.prepare_commit.ensures))

pub returns-in-RollbackBegin : goal.returns-in-RollbackBegin
returns-in-RollbackBegin g c = rw c.in-RollbackBegin.is (rw c.number-in-RollbackBegin.ensures (plain_answered (Sends g.L.Link.Carries) trees.rollback_begin_call answers.Number _ _ _ c.rollback_begin.ensures))

pub returns-in-RollbackCommit : goal.returns-in-RollbackCommit
returns-in-RollbackCommit g c = rw c.in-RollbackCommit.is (rw c.number-in-RollbackCommit.ensures (plain_answered (Sends g.L.Link.Carries) trees.rollback_commit_call answers.Number _ _ _ c.rollback_commit.ensures))
