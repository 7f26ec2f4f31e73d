use Rattle.std.proofs.Common.{◌≡◌}
use Rattle.gs_tree.proofs.texts.without_texts.Given as goal

abbrev pub invariant-loop-item : goal.invariant-loop-item
invariant-loop-item l = l.entries.items ≡ l.yielded
