use Rattle.std.proofs.Common.{drop}
use Rattle.gs_master_record.proofs.Loops.{Left}
use Rattle.gs_master_record.proofs.lists.put_list.Given as goal

abbrev pub invariant-loop-item : goal.invariant-loop-item
invariant-loop-item g l = Left g.T.Field.plain g.T.Field.Is g.T.Field.written l.items (drop l.item-index l.items) l.initial.out.items l.out.items
