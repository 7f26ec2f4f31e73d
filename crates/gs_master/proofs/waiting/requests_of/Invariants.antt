use Rattle.std.proofs.Common.{◌≡◌, take}
use Rattle.gs_master_spec.specs.Settling.{requests_of}
use Rattle.gs_master.proofs.waiting.requests_of.Given as goal

abbrev pub invariant-loop-one : goal.invariant-loop-one
invariant-loop-one l = l.requests.items ≡ requests_of (take l.one-index l.pending)
