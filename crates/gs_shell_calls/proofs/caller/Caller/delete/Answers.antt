use Rattle.gs_shell_calls.specs.Asked.{hidden}
use Rattle.gs_path.specs.Rules.{parse}
use Rattle.gs_shell_calls.proofs.Talking.{on_answered}
use Rattle.gs_client.specs.Sends.{Sends}
use Rattle.gs_client.specs.Trees as trees
use Rattle.gs_shell_calls.proofs.caller.Caller.delete.Goals as goal

pub returns : goal.returns
returns g c =
    rw c.hidden.ensures (on_answered (Sends g.L.Link.Carries) (parse c.args.path.now) (λ path. trees.delete_call path c.args.recursive) hidden _ _ c.in_ok-path.path _ c.in_ok-path.ensures.answer c.delete.ensures)
