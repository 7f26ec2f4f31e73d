use Rattle.std.proofs.Common.{[]}
use Rattle.gs_cluster.specs.Opened.{names_of}
use Rattle.gs_cluster_tests.proofs.whole.what_was_not_noted_is_not_told.Given as goal

abbrev pub ghosts-one_asks-N-Naming : goal.ghosts-one_asks-N-Naming
ghosts-one_asks-N-Naming g a = record { names = names_of a.opened.config.servers a.opened.seeds.items }

abbrev pub ghosts-one_asks-N-Plan : goal.ghosts-one_asks-N-Plan
ghosts-one_asks-N-Plan g a = record { setting = record { config = a.opened.config; clients = 1; texts = ([], []) } }
