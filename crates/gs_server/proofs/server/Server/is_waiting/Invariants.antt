use Rattle.std.proofs.Common.{◌≡◌, ◌==◌, length, not}
use Rattle.std.specs.Prelude.{ℕ}
use Rattle.std.specs.List.{list_any}
use Rattle.std.specs.FinMap as fin
use Rattle.gs_server_lease.specs.Leases.{PrimaryLease}
use Rattle.gs_server.proofs.server.Server.is_waiting.Given as goal

abbrev pub invariant-loop-handle : goal.invariant-loop-handle
invariant-loop-handle l = list_any (λ (e : ℕ × PrimaryLease). not (length e.1.outbox == 0)) l.handle-iterator ≡ list_any (λ (e : ℕ × PrimaryLease). not (length e.1.outbox == 0)) (fin.entries l.self.dropped.leases)
