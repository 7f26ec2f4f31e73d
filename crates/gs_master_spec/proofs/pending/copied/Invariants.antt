use Rattle.std.proofs.Common.{◌≡◌, take}
use Rattle.gs_master_spec.proofs.pending.copied.Given as goal

abbrev pub invariant-loop-one : goal.invariant-loop-one
invariant-loop-one l = l.copies.items ≡ take l.one-index l.pending
