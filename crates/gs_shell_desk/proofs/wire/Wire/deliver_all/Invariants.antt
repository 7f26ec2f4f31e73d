use Rattle.std.specs.Prelude.{◌-◌}
use Rattle.gs_shell_desk.specs.Ways.{DeliversAll, DeliversWhole, Way, last_count, way_of}
use Rattle.gs_shell_desk.proofs.wire.Wire.deliver_all.Given as goal

abbrev pub invariant-loop-done : goal.invariant-loop-done
invariant-loop-done g l =
    (new : Way g.row.D.Denot) → DeliversAll g.D.Disk.seen g.D.Disk.failures (last_count - l._done) (way_of l.self) new → DeliversWhole g.D.Disk.seen g.D.Disk.failures (way_of l.initial.self) new
