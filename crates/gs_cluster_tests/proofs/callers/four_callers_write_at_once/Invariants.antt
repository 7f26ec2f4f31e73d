use Rattle.std.proofs.Common.{[]}
use Rattle.gs_cluster.specs.Opened.{names_of}
use Rattle.gs_cluster_tests.proofs.callers.four_callers_write_at_once.Given as goal

abbrev pub ghosts-four_write-N-Naming : goal.ghosts-four_write-N-Naming
ghosts-four_write-N-Naming g a = record { names = names_of a.opened.config.servers a.opened.seeds.items }

abbrev pub ghosts-four_write-N-Plan : goal.ghosts-four_write-N-Plan
ghosts-four_write-N-Plan g a = record { setting = record { config = a.opened.config; clients = 4; texts = ([], []) } }
