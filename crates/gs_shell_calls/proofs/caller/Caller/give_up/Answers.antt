use Rattle.std.proofs.Common.{refl, Err}
use Rattle.gs_client.specs.Replies.{changed, epoch_in}
use Rattle.gs_client.specs.Sends.{Sends}
use Rattle.gs_client.specs.Trees.{and_then}
use Rattle.gs_msg.specs.declared.call.Call.TheVariants as calls
use Rattle.gs_msg.specs.declared.event.Request.TheVariants as requests
use Rattle.gs_shell_calls.proofs.Talking.{asks_upon}
use Rattle.gs_shell_calls.specs.Asked.{ends_so}
use Rattle.gs_shell_calls.proofs.caller.Caller.give_up.Goals as goal

pub returns : goal.returns
returns g c =
    asks_upon (Sends g.L.Link.Carries) (requests.Call calls.PrepareAbort) (λ reply. and_then epoch_in (changed reply)) (ends_so (Err c.args.refusal)) _ _ _ _ _ c.prepare_abort-given_up.ensures (refl, refl)
