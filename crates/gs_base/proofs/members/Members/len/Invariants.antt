use Rattle.std.proofs.Common.{◌≡◌, ◌+◌, ◌≤◌, length}
use Rattle.gs_base.proofs.Bits.{servers_from}
use Rattle.gs_base.proofs.members.Members.len.Given as goal

abbrev pub invariant-loop-i : goal.invariant-loop-i
invariant-loop-i l = (l.count + length (servers_from l.self-inside.bits l.i) ≡ length l.fn.self) × (l.count ≤ l.i)
