use Rattle.gs_client.specs.Reading.{stat_call}
use Rattle.gs_client.specs.Sends.{Sends}
use Rattle.gs_path.specs.Rules.{parse_hidden}
use Rattle.gs_shell_calls.proofs.Talking.{on_answered}
use Rattle.gs_shell_calls.specs.declared.answer.Answer.TheVariants as answers
use Rattle.gs_shell_calls.proofs.caller.Caller.stat.Goals as goal

pub returns : goal.returns
returns g c =
    rw c.stat-2.ensures (on_answered (Sends g.L.Link.Carries) (parse_hidden c.args.path.now) (stat_call c.args.self.now.client.chunk) answers.Stat _ _ c.in_ok-path.path _ c.in_ok-path.ensures.answer c.stat.ensures)
