use Rattle.std.proofs.Common.{[]}
use Rattle.gs_cluster.specs.Opened.{names_of}
use Rattle.gs_shell_threads.proofs.run_threads.Given as goal

abbrev pub ghosts-serve-N-Naming : goal.ghosts-serve-N-Naming
ghosts-serve-N-Naming g a = record { names = names_of a.opened.config.servers a.opened.seeds.items }

abbrev pub ghosts-serve-N-Plan : goal.ghosts-serve-N-Plan
ghosts-serve-N-Plan g a = record { setting = record { config = a.opened.config; clients = 1; texts = ([], []) } }
