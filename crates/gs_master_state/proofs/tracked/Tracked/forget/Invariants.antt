use Rattle.std.proofs.Common.{◌≡◌, drop}
use Rattle.std.specs.Prelude.{fold}
use Rattle.std.specs.FinMap as fin
use Rattle.gs_master_state.proofs.tracked.Tracked.forget.Given as goal

abbrev pub invariant-loop-chunk : goal.invariant-loop-chunk
invariant-loop-chunk l =
    (fold fin.remove l.self.now.moving (drop l.chunk-index l.chunks) ≡ fold fin.remove l.initial.self.now.moving l.chunks)
    × (l.self.now ≡ record (l.initial.self.now) { moving = l.self.now.moving })
    × (l.self.before ≡ l.initial.self.before)
