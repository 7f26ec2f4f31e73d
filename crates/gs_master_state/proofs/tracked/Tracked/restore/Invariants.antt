use Rattle.std.proofs.Common.{◌≡◌, drop}
use Rattle.std.specs.Prelude.{fold}
use Rattle.gs_master_spec.specs.Volatile.{with_restored}
use Rattle.gs_master_state.proofs.tracked.Tracked.restore.Given as goal

abbrev pub invariant-loop-chunk : goal.invariant-loop-chunk
invariant-loop-chunk l =
    (fold (with_restored l.fn.server) l.self.now.restored (drop l.chunk-index l.chunks) ≡ fold (with_restored l.fn.server) l.initial.self.now.restored l.chunks)
    × (l.self.now ≡ record (l.initial.self.now) { restored = l.self.now.restored })
    × (l.self.before ≡ l.initial.self.before)
