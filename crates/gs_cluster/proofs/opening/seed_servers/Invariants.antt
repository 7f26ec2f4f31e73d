use Rattle.std.specs.Prelude.{◌≡◌, ◌++◌}
use Rattle.gs_cluster.specs.inner.Seeds.{rows_of, server_rows}
use Rattle.gs_cluster.proofs.opening.seed_servers.Given as goal

abbrev pub invariant-loop-number : goal.invariant-loop-number
invariant-loop-number g l = rows_of l.seeds.items ≡ rows_of l.initial.seeds.items ++ server_rows l.config l.number
