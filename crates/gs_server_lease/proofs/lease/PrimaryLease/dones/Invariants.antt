use Rattle.std.proofs.Common.{◌≡◌, ◌++◌, map}
use Rattle.std.specs.Prelude.{filter}
use Rattle.gs_server_lease.specs.Leases.{done_of, dones, is_acknowledged, with_told}
use Rattle.gs_server_lease.proofs.lease.PrimaryLease.dones.Given as goal

abbrev pub invariant-loop-number : goal.invariant-loop-number
invariant-loop-number l =
    l.sent.items ++ map (done_of l.me) (filter (λ edit. is_acknowledged (with_told l.told l.self) edit.0) l.number-iterator) ≡ l.fn.sent.items ++ dones l.me (with_told l.told l.self)
