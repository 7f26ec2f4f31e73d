use Rattle.std.proofs.Common.{◌≡◌, map, take}
use Rattle.gs_master_record.proofs.lists.held_by_none.Given as goal

abbrev pub invariant-loop-unheld : goal.invariant-loop-unheld
invariant-loop-unheld l = l.all.items ≡ map (λ u. u.view) (take l.unheld-index l.views)
