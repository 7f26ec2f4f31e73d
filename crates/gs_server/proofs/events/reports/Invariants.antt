use Rattle.std.proofs.Common.{◌≡◌, ◌++◌, map}
use Rattle.gs_store.specs.Stores.{report}
use Rattle.gs_server.specs.Servers.{reported}
use Rattle.gs_server.proofs.events.reports.Given as goal

abbrev pub invariant-loop-found : goal.invariant-loop-found
invariant-loop-found l = l.replicas.items ++ map reported l.found-iterator ≡ map reported (report l.store)
