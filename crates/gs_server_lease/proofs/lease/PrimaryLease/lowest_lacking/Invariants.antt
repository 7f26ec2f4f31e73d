use Rattle.std.proofs.Common.{◌≡◌}
use Rattle.std.specs.Prelude.{find}
use Rattle.gs_server_lease.specs.Leases.{lacks}
use Rattle.gs_server_lease.proofs.lease.PrimaryLease.lowest_lacking.Given as goal

abbrev pub invariant-loop-number : goal.invariant-loop-number
invariant-loop-number l = find (λ edit. lacks l.self.told edit.0 l.server) l.number-iterator ≡ find (λ edit. lacks l.self.told edit.0 l.server) l.self.outbox
