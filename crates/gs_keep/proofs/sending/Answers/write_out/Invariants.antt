use Rattle.std.proofs.Common.{◌≤◌, ◌-◌, length, take}
use Rattle.std.specs.Io.KnownBytes.{Appends}
use Rattle.gs_keep.proofs.sending.Answers.write_out.Given as goal

abbrev pub invariant-loop-self : goal.invariant-loop-self
invariant-loop-self g l = (l.written ≤ length l.bytes) × Appends (g.W.Write.contents l.initial.self.writer) (g.W.Write.contents l.self.writer) (take l.written l.bytes)

abbrev pub decreases-loop-self : goal.decreases-loop-self
decreases-loop-self g l = 18446744073709551615 - l.self.calls
