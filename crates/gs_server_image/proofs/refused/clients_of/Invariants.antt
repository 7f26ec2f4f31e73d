use Rattle.std.proofs.Common.{◌≡◌, ◌++◌, map}
use Rattle.std.specs.FinMap as fin
use Rattle.gs_server_image.proofs.refused.clients_of.Given as goal

abbrev pub invariant-loop-client : goal.invariant-loop-client
invariant-loop-client l = l.clients.items ++ map (λ e. e.0.0) l.client-iterator ≡ map (λ e. e.0.0) (fin.entries l.server.kept.refused)
