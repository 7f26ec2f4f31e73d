use Rattle.std.proofs.Common.{refl}
use Rattle.gs_client.specs.Replies.{changed, epoch_in}
use Rattle.gs_client.specs.Sends.{Sends}
use Rattle.gs_client.specs.Trees.{and_then}
use Rattle.gs_msg.specs.declared.call.Call.TheVariants as calls
use Rattle.gs_msg.specs.declared.event.Request.TheVariants as requests
use Rattle.gs_shell_calls.proofs.Talking.{asks_upon}
use Rattle.gs_shell_calls.specs.Asked.{unless_quiet}
use Rattle.gs_shell_calls.proofs.caller.Caller.commit_prepare.Goals as goal

pub returns-in-Ok : goal.returns-in-Ok
returns-in-Ok g c =
    asks_upon (Sends g.L.Link.Carries) (requests.Call calls.PrepareCommit) (λ reply. and_then epoch_in (changed reply)) unless_quiet _ _ _ _ _ c.in-Ok.ensures (refl, refl)

pub returns-in-Err : goal.returns-in-Err
returns-in-Err g c =
    asks_upon (Sends g.L.Link.Carries) (requests.Call calls.PrepareCommit) (λ reply. and_then epoch_in (changed reply)) unless_quiet _ _ _ _ _ c.in-Err.ensures c.unless_quiet.ensures
