use Rattle.std.proofs.Common.{◌≡◌, drop, take}
use Rattle.std.specs.Prelude.{Ok}
use Rattle.gs_refs.specs.Counts.{raised_each}
use Rattle.gs_refs.proofs.refs.Refs.raise_each.Given as goal

abbrev pub invariant-loop-index : goal.invariant-loop-index
invariant-loop-index l =
    (raised_each l.self (drop l.index l.handles) ≡ raised_each l.initial.self l.handles)
    × (raised_each l.initial.self (take l.index l.handles) ≡ Ok l.self)
