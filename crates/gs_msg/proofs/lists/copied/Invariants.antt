use Rattle.std.proofs.Common.{◌≡◌, take}
use Rattle.gs_msg.proofs.lists.copied.Given as goal

abbrev pub invariant-loop-name : goal.invariant-loop-name
invariant-loop-name l = l.v.items ≡ take l.name-index l.names
