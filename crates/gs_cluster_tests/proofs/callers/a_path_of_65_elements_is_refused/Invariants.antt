use Rattle.std.proofs.Common.{[]}
use Rattle.gs_cluster.specs.Opened.{names_of}
use Rattle.gs_cluster_tests.proofs.callers.a_path_of_65_elements_is_refused.Given as goal

abbrev pub ghosts-cluster_takes_64-N-Naming : goal.ghosts-cluster_takes_64-N-Naming
ghosts-cluster_takes_64-N-Naming g a = record { names = names_of a.opened.config.servers a.opened.seeds.items }

abbrev pub ghosts-cluster_takes_64-N-Plan : goal.ghosts-cluster_takes_64-N-Plan
ghosts-cluster_takes_64-N-Plan g a = record { setting = record { config = a.opened.config; clients = 1; texts = ([], []) } }
