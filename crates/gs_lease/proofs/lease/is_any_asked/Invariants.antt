use Rattle.std.proofs.Common.{◌≡◌, length}
use Rattle.std.specs.List.{list_any}
use Rattle.gs_base.specs.Members.{is_member}
use Rattle.gs_lease.proofs.lease.is_any_asked.Given as goal

abbrev pub invariant-loop-member : goal.invariant-loop-member
invariant-loop-member l = list_any (is_member l.asked) l.left ≡ list_any (is_member l.asked) l.fn.members

abbrev pub decreases-loop-member : goal.decreases-loop-member
decreases-loop-member l = length l.left
