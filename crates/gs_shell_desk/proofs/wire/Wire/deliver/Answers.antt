use Rattle.gs_nodes.specs.Nodes.{nodes_of}
use Rattle.gs_shell_desk.proofs.wire.Wire.deliver.Goals as goal

pub returns : goal.returns
returns g c = record { nodes = nodes_of c.deliver-done.new.self; turn = c.deliver-done.result; delivers = c.deliver-done.ensures; ends = c.end.ensures }
