use Rattle.gs_shell_calls.specs.declared.answer.Answer.TheVariants as answers
use Rattle.gs_client_dialogue.proofs.Talks.{follows_both, follows_none}
use Rattle.gs_shell_calls.specs.Asked.{plain}
use Rattle.gs_shell_calls.proofs.Talking.{plain_answered}
use Rattle.gs_client.specs.Sends.{Sends}
use Rattle.gs_client.specs.Trees as trees
use Rattle.gs_shell_calls.proofs.caller.Caller.roll_back.Goals as goal

pub returns-in-Ok : goal.returns-in-Ok
returns-in-Ok g c =
    rw c.number.ensures (follows_both (Sends g.L.Link.Carries) trees.rollback_begin_call (λ epoch. plain trees.rollback_commit_call answers.Number) _ _ _ _ _ c.in-Ok.ensures
    (plain_answered (Sends g.L.Link.Carries) trees.rollback_commit_call answers.Number _ _ _ c.rollback_commit.ensures))

pub returns-in-Err : goal.returns-in-Err
returns-in-Err g c = follows_none (Sends g.L.Link.Carries) trees.rollback_begin_call (λ epoch. plain trees.rollback_commit_call answers.Number) _ _ _ c.in-Err.ensures
