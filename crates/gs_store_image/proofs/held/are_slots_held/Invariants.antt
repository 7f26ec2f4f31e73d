use Rattle.std.specs.FinMap as fin
use Rattle.std.specs.List.{AllByRecursion}
use Rattle.gs_store_image.specs.StoreWritable.{IsSlotHeld}
use Rattle.gs_store_image.proofs.held.are_slots_held.Given as goal

-- all are where those that are left are
abbrev pub invariant-loop-entry : goal.invariant-loop-entry
invariant-loop-entry l = AllByRecursion (λ e. IsSlotHeld e.1) l.entry-iterator → AllByRecursion (λ e. IsSlotHeld e.1) (fin.entries l.store.slots)
