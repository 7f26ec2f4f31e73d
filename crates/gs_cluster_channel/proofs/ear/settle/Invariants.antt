use Rattle.crossbeam_channel.specs.Claims.{view, IsSeatAt}
use Rattle.crossbeam_channel.specs.Ends.{sends_on}
use Rattle.gs_cluster_channel.proofs.Settling.{Pooled}
use Rattle.gs_cluster_channel.proofs.ear.settle.Given as goal

abbrev pub invariant-loop-way : goal.invariant-loop-way
invariant-loop-way g l = IsSeatAt (sends_on l.outlet) l.pass × Pooled l.fn.ways.items l.way-iterator.rest.items (view l.initial.pass) (view l.pass)
