use Rattle.std.proofs.Common.{◌≡◌, ◌≤◌, ◌++◌, length}
use Rattle.gs_store.specs.Stores.{named_of, named}
use Rattle.gs_store.specs.inner.Placed.{entries_at}
use Rattle.gs_store.proofs.store.Store.name_each.Given as goal

abbrev pub invariant-loop-handle : goal.invariant-loop-handle
invariant-loop-handle l =
    (l.names.handles ++ named_of l.epoch (entries_at l.handle-iterator l.self-inside.slots.items) ≡ named l.epoch l.self)
    × (length l.handle-iterator ≤ l.names.room)
