use Rattle.std.proofs.Common.{◌≡◌, ◌++◌, List, length}
use Rattle.gs_tree.specs.Build.{rows_of_entries}
use Rattle.gs_tree.specs.declared.entry.TreeEntry.{TreeEntry}
use Rattle.gs_master_order.specs.Order.{by_text}
use Rattle.gs_master_order.specs.inner.Texts.{nodes_of}
use Rattle.gs_master_order.proofs.by_text.Given as goal

abbrev pub invariant-loop-entry : goal.invariant-loop-entry
invariant-loop-entry l = (rest : List TreeEntry) × ((l.left.items ++ rest ≡ l.fn.entries.items) × (nodes_of l.nodes.entries ≡ by_text (rows_of_entries rest)))

abbrev pub decreases-loop-entry : goal.decreases-loop-entry
decreases-loop-entry l = length l.left.items
