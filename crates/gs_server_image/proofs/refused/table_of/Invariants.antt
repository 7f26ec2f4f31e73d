use Rattle.std.proofs.Common.{◌≡◌, map, length}
use Rattle.gs_base_table.specs.Slots.{live}
use Rattle.gs_server.specs.Servers.{client_cmp}
use Rattle.gs_server_image.specs.Reading.{map_of}
use Rattle.gs_server_image.proofs.Clients.{onto}
use Rattle.gs_server_image.proofs.refused.table_of.Given as goal

abbrev pub invariant-loop-client : goal.invariant-loop-client
invariant-loop-client l = onto (map (λ e. (e.0, e.1.kept)) l.left.items) (live client_cmp l.table) ≡ map_of (map (λ e. (e.0, e.1.kept)) l.fn.entries.items)

abbrev pub decreases-loop-client : goal.decreases-loop-client
decreases-loop-client l = length l.left.items
