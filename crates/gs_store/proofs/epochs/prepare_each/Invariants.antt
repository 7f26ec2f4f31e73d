use Rattle.std.proofs.Common.{◌≡◌, map, take}
use Rattle.gs_store.specs.Learning.{held_in}
use Rattle.gs_store.proofs.epochs.prepare_each.Given as goal

abbrev pub invariant-loop-slot : goal.invariant-loop-slot
invariant-loop-slot l = l.made.items ≡ map (λ t. held_in t.live) (take l.slot-index l.slots)
