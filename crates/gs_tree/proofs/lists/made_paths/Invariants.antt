use Rattle.std.proofs.Common.{◌≡◌, ◌++◌, drop, filter, length}
use Rattle.std.specs.Prelude.{nat_lt}
use Rattle.gs_tree.specs.Lists.{fronts_below, made_paths}
use Rattle.gs_tree.proofs.lists.made_paths.Given as goal

-- what is left, from the front on, completes the list
abbrev pub invariant-loop-name : goal.invariant-loop-name
invariant-loop-name l =
    l.paths.items ++ filter (λ p. nat_lt l.above (length p)) (fronts_below l.front (drop l.name-index l.name-items)) ≡ made_paths l.path l.above
