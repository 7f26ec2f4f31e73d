use Rattle.std.proofs.Common.{◌≡◌, ℕ}
use Rattle.std.specs.List.{list_any}
use Rattle.gs_server_lease.specs.declared.lease.Open.{Open}
use Rattle.gs_server_lease.specs.Leases.{is_request, waits}
use Rattle.gs_server_lease.proofs.lease.PrimaryLease.waits.Given as goal

abbrev pub invariant-loop-number : goal.invariant-loop-number
invariant-loop-number l = list_any (λ (edit : ℕ × Open). is_request l.req edit.1.req) l.number-iterator ≡ waits l.req l.self
