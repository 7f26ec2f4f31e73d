use Rattle.std.proofs.Common.{◌≡◌, drop}
use Rattle.gs_tree.specs.Lists.{grows, last_of}
use Rattle.gs_tree.proofs.inverse.TreeInverse.of_made.Given as goal

-- what is left decides, from the last path on
abbrev pub invariant-loop-path : goal.invariant-loop-path
invariant-loop-path l =
    (grows l.last (drop l.path-index l.rest) ≡ grows l.first l.rest) × (last_of l.last (drop l.path-index l.rest) ≡ last_of l.first l.rest)
