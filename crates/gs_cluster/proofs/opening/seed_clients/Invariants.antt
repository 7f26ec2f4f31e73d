use Rattle.std.specs.Prelude.{◌≡◌, ◌++◌}
use Rattle.gs_cluster.specs.inner.Seeds.{client_rows, rows_of}
use Rattle.gs_cluster.proofs.opening.seed_clients.Given as goal

abbrev pub invariant-loop-before : goal.invariant-loop-before
invariant-loop-before g l = rows_of l.seeds.items ≡ rows_of l.initial.seeds.items ++ client_rows l.before
