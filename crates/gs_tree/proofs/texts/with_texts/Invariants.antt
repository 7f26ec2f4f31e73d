use Rattle.std.proofs.Common.{◌≡◌}
use Rattle.gs_tree.proofs.texts.with_texts.Given as goal

abbrev pub invariant-loop-entry : goal.invariant-loop-entry
invariant-loop-entry l = l.all.items ≡ l.yielded
