use Rattle.std.proofs.Common.{[]}
use Rattle.gs_cluster.specs.Opened.{names_of}
use Rattle.gs_cluster_tests.proofs.gate.steps_of_two_nodes_and_of_two_threads_of_one_node_overlap.Given as goal

abbrev pub ghosts-written-N-Naming : goal.ghosts-written-N-Naming
ghosts-written-N-Naming g a = record { names = names_of a.opened.config.servers a.opened.seeds.items }

abbrev pub ghosts-written-N-Plan : goal.ghosts-written-N-Plan
ghosts-written-N-Plan g a = record { setting = record { config = a.opened.config; clients = 1; texts = ([], []) } }
