use Rattle.std.proofs.Common.{[]}
use Rattle.gs_cluster.specs.Opened.{names_of}
use Rattle.gs_cluster_tests.proofs.callers.a_caller_that_is_missing_is_missed.Given as goal

abbrev pub ghosts-finished_alone-N-Naming : goal.ghosts-finished_alone-N-Naming
ghosts-finished_alone-N-Naming g a = record { names = names_of a.opened.config.servers a.opened.seeds.items }

abbrev pub ghosts-finished_alone-N-Plan : goal.ghosts-finished_alone-N-Plan
ghosts-finished_alone-N-Plan g a = record { setting = record { config = a.opened.config; clients = 1; texts = ([], []) } }
