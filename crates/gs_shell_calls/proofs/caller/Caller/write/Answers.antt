use Rattle.gs_shell_calls.specs.Asked.{done, with_file, write_to}
use Rattle.gs_path.specs.Rules.{parse}
use Rattle.gs_shell_calls.proofs.Talking.{on_answered}
use Rattle.gs_client.specs.Sends.{Sends}
use Rattle.gs_client.specs.Trees as trees
use Rattle.gs_shell_calls.proofs.caller.Caller.write.Goals as goal

pub returns : goal.returns
returns g c =
    rw c.done.ensures (on_answered (Sends g.L.Link.Carries) (parse c.args.path.now) (with_file (write_to c.args.self.now.client.chunk c.args.offset c.args.bytes.now)) done _ _ c.in_ok-path.path _ c.in_ok-path.ensures.answer c.write_file.ensures)
