use Rattle.std.proofs.Common.{◌≡◌, length}
use Rattle.gs_store.specs.Stores.{reports_of}
use Rattle.gs_store.specs.inner.Placed.{entries_at}
use Rattle.gs_store.proofs.report.ReportsIterator.next.Given as goal

abbrev pub invariant-loop-handle : goal.invariant-loop-handle
invariant-loop-handle l = reports_of (entries_at l.self-inside.places l.self-inside.slots.now) ≡ l.fn.self

abbrev pub decreases-loop-handle : goal.decreases-loop-handle
decreases-loop-handle l = length l.self-inside.places
