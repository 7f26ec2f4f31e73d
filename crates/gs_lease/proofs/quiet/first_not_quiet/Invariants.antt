use Rattle.std.proofs.Common.{◌≡◌}
use Rattle.gs_lease.proofs.Quiets.{first_unquiet}
use Rattle.gs_lease.proofs.quiet.first_not_quiet.Given as goal

abbrev pub invariant-loop-handle : goal.invariant-loop-handle
invariant-loop-handle l = first_unquiet l.handle-iterator ≡ first_unquiet l.initial.handle-iterator
