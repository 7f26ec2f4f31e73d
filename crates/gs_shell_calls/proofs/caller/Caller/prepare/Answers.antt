use Rattle.gs_client_dialogue.specs.Dialogues.{upon}
use Rattle.gs_client_dialogue.proofs.Talks.{follows_both, follows_none}
use Rattle.gs_shell_calls.specs.Asked.{unless_quiet}
use Rattle.gs_client.specs.Sends.{Sends}
use Rattle.gs_client.specs.Trees as trees
use Rattle.gs_shell_calls.proofs.caller.Caller.prepare.Goals as goal

pub returns-in-Ok : goal.returns-in-Ok
returns-in-Ok g c = follows_both (Sends g.L.Link.Carries) trees.prepare_begin_call (λ epoch. upon trees.prepare_commit_call unless_quiet) _ _ _ _ _ c.in-Ok.ensures c.commit_prepare.ensures

pub returns-in-Err : goal.returns-in-Err
returns-in-Err g c = follows_none (Sends g.L.Link.Carries) trees.prepare_begin_call (λ epoch. upon trees.prepare_commit_call unless_quiet) _ _ _ c.in-Err.ensures
