use Rattle.std.proofs.Common.{subst}
use Rattle.gs_replica.specs.Held.{Held}
use Rattle.gs_replica.specs.Whole.{IsWhole}
use Rattle.gs_replica.proofs.Carrying.{has_undone}
use Rattle.gs_replica.proofs.replica.Replica.whole.Goals as goal

pub returns : goal.returns
returns c =
    let live : Held = c.self.inside.live in
    let stored = c.capacity-capacity.ensures.stored in
    subst IsWhole c.self.view_is (record { stands = stored; undoing = has_undone live c.self.inside.seal stored c.self.invariant })
