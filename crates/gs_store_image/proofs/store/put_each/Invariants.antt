use Rattle.std.specs.FinMap as fin
use Rattle.gs_fields.proofs.Loops.{Left}
use Rattle.gs_store_image.specs.StoreEncoding.{kept}
use Rattle.gs_store_image.specs.StoreWritable.{IsKeptTold}
use Rattle.gs_store_image.proofs.store.put_each.Given as goal

abbrev pub invariant-loop-handle : goal.invariant-loop-handle
invariant-loop-handle l = Left (λ x. x) IsKeptTold kept (fin.entries l.store.slots) l.handle-iterator l.initial.out.items l.out.items
