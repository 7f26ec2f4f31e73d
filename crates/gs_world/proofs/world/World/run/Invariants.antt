use Rattle.std.specs.Prelude.{◌+◌, ◌++◌, ◌≤◌, List, length, vec_capacity, vec_len}
use Rattle.gs_journal.specs.Faults.{Failing}
use Rattle.gs_world.specs.Histories.{arms, History, failures_of, history_of, seen_of}
use Rattle.gs_world.specs.Runs.{AreOutcomes}
use Rattle.gs_world.specs.declared.outcome.Outcome.{Outcome}
use Rattle.gs_world.proofs.world.World.run.Given as goal

abbrev pub invariant-loop-event : goal.invariant-loop-event
invariant-loop-event g l =
    (length l.event-iterator.rest.items + vec_len l.outcomes ≤ vec_capacity l.outcomes)
    × ((others : List Outcome) (new : History (Failing g.row.D.Denot))
    → AreOutcomes (seen_of g.D.Disk.seen) (failures_of g.D.Disk.failures) arms l.event-iterator.rest.items others (history_of l.self) new
    → AreOutcomes (seen_of g.D.Disk.seen) (failures_of g.D.Disk.failures) arms l.fn.events.items (l.outcomes.items ++ others) (history_of l.initial.self) new)
