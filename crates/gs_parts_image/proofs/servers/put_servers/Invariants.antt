use Rattle.std.proofs.Common.{drop}
use Rattle.gs_parts_image.specs.Work.{bytes_of}
use Rattle.gs_parts_image.proofs.Loops.{Left}
use Rattle.gs_parts_image.proofs.servers.put_servers.Given as goal

abbrev pub invariant-loop-server : goal.invariant-loop-server
invariant-loop-server l = Left l.servers (drop l.server-index l.servers) (bytes_of l.initial.parts.items) (bytes_of l.parts.items)
