use Rattle.std.proofs.Common.{◌≡◌, length}
use Rattle.gs_base_table.specs.Slots.{live_entries}
use Rattle.gs_base_table.proofs.entries.EntriesIterator.next.Given as goal

abbrev pub invariant-loop-key : goal.invariant-loop-key
invariant-loop-key g l = live_entries l.self-inside.slots ≡ l.fn.self

abbrev pub decreases-loop-key : goal.decreases-loop-key
decreases-loop-key g l = length l.self-inside.slots
