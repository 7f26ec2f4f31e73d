use Rattle.std.proofs.Common.{◌≡◌, drop, take, true}
use Rattle.std.specs.Prelude.{Ok}
use Rattle.gs_refs.specs.Counts.{lowered_each}
use Rattle.gs_refs.proofs.EachLemmas.{fitting}
use Rattle.gs_refs.proofs.refs.Refs.lower_each.Given as goal

abbrev pub invariant-loop-index : goal.invariant-loop-index
invariant-loop-index l =
    (lowered_each l.self (drop l.index l.handles) ≡ lowered_each l.initial.self l.handles)
    × (lowered_each l.initial.self (take l.index l.handles) ≡ Ok l.self)
    × (fitting l.initial.self (take l.index l.handles) ≡ true)
