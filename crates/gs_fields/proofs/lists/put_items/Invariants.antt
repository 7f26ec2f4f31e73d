use Rattle.std.proofs.Common.{drop}
use Rattle.gs_fields.proofs.Loops.{Left}
use Rattle.gs_fields.proofs.lists.put_items.Given as goal

abbrev pub invariant-loop-item : goal.invariant-loop-item
invariant-loop-item g l = Left g.T.Field.plain g.T.Field.Is g.T.Field.written l.items (drop l.item-index l.items) l.initial.out.items l.out.items
