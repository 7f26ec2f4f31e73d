use Rattle.std.proofs.Common.{◌≡◌, Err, rules}
use Rattle.gs_path.specs.Rules.{parse}
use Rattle.gs_shell_calls.proofs.Talking.{two_answered, two_none}
use Rattle.gs_client.specs.Sends.{Sends}
use Rattle.gs_client.specs.Trees as trees
use Rattle.gs_shell_calls.proofs.caller.Caller.rename.Goals as goal

pub returns-in_err-to : goal.returns-in_err-to
returns-in_err-to g c =
    let e : c.from_residual-in_err-to.result ≡ Err c.in_err-to.field-0.0 = search rules in
    rw e (two_none (Sends g.L.Link.Carries) (parse c.args.from.now) (parse c.args.to.now) trees.rename_call _ c.in_ok-from.from c.in_err-to.field-0.0 c.in_ok-from.ensures.answer c.in_err-to.ensures.answer)

pub returns : goal.returns
returns g c =
    rw c.done.ensures (two_answered (Sends g.L.Link.Carries) (parse c.args.from.now) (parse c.args.to.now) trees.rename_call _ _ c.in_ok-from.from c.in_ok-to.to _ c.in_ok-from.ensures.answer c.in_ok-to.ensures.answer c.rename.ensures)
