use Rattle.std.specs.FinMap as fin
use Rattle.gs_fields.proofs.Loops.{Left}
use Rattle.gs_server_image.specs.Encoding.{entry, by_number}
use Rattle.gs_server_image.specs.Writable.{IsEntry}
use Rattle.gs_server_image.proofs.refused.put_each.Given as goal

abbrev pub invariant-loop-client : goal.invariant-loop-client
invariant-loop-client l = Left by_number IsEntry entry (fin.entries l.server.kept.refused) l.client-iterator l.initial.out.items l.out.items
