use Rattle.std.proofs.Common.{◌≡◌, rules, Err}
use Rattle.gs_client_dialogue.specs.Dialogues.{Grow}
use Rattle.gs_client_dialogue.proofs.Talks.{follows_both, follows_none}
use Rattle.gs_msg.specs.declared.call.Call.TheVariants as calls
use Rattle.gs_client.proofs.Ones.{follows_said_on}
use Rattle.gs_client.specs.Sends.{Sends}
use Rattle.gs_client.specs.Replies.{status_in, chunks_in}
use Rattle.gs_client.specs.Trees.{look}
use Rattle.gs_client.specs.Looking.{count_in}
use Rattle.gs_client.proofs.client.Client.chunks.Goals as goal

pub returns-in_err-status-clause-is : goal.returns-in_err-status-clause-is
returns-in_err-status-clause-is g c =
    let e : c.from_residual.result ≡ Err c.in_err-status.field-0.0 = search rules in
    rw e (follows_none (Sends g.L.Link.Carries) (Grow (look (calls.Status c.args.path.now) status_in)) _ _ _ _ c.in_err-status.ensures)

pub returns-clause-is : goal.returns-clause-is
returns-clause-is g c =
    follows_both (Sends g.L.Link.Carries) (Grow (look (calls.Status c.args.path.now) status_in)) _ _ _ _ _ _ c.in_ok-status.ensures
    (follows_said_on (Sends g.L.Link.Carries) (chunks_in c.in_ok-status.status) count_in _ _ c.count_of.ensures.is)
