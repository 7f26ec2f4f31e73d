use Rattle.gs_shell_calls.specs.declared.answer.Answer.TheVariants as answers
use Rattle.gs_shell_calls.specs.Asked.{append_to, with_file}
use Rattle.gs_path.specs.Rules.{parse}
use Rattle.gs_shell_calls.proofs.Talking.{on_answered}
use Rattle.gs_client.specs.Sends.{Sends}
use Rattle.gs_client.specs.Trees as trees
use Rattle.gs_shell_calls.proofs.caller.Caller.append.Goals as goal

pub returns : goal.returns
returns g c =
    rw c.number.ensures (on_answered (Sends g.L.Link.Carries) (parse c.args.path.now) (with_file (append_to c.args.self.now.client.chunk c.args.bytes.now)) answers.Number _ _ c.in_ok-path.path _ c.in_ok-path.ensures.answer c.append_to_file.ensures)
