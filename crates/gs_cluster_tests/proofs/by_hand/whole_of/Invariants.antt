use Rattle.std.proofs.Common.{[]}
use Rattle.gs_cluster.specs.Opened.{names_of}
use Rattle.gs_cluster_tests.proofs.by_hand.whole_of.Given as goal

abbrev pub ghosts-gathered-N-Naming : goal.ghosts-gathered-N-Naming
ghosts-gathered-N-Naming g a = record { names = names_of a.opened.config.servers a.opened.seeds.items }

abbrev pub ghosts-gathered-N-Plan : goal.ghosts-gathered-N-Plan
ghosts-gathered-N-Plan g a = record { setting = record { config = a.opened.config; clients = 4; texts = ([], []) } }
