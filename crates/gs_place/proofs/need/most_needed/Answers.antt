use Rattle.std.proofs.Common.{take}
use Rattle.gs_place.specs.Offered.{IsNeeded}
use Rattle.gs_place.proofs.Most.{needed_item, needed_all}
use Rattle.gs_place.proofs.need.most_needed.Goals as goal

pub loop-need-preserved : goal.loop-need-preserved
loop-need-preserved c =
    needed_item c.args.config.now.replicas c.args.needs.now c.loop-need.need-index c.need-item.result c.offer.new.self c.loop-need-test.true c.need-item.is
    (c.offer.ensures c.args.config.now.replicas (take c.loop-need.need-index c.args.needs.now) c.loop-need.invariant)

pub returns : goal.returns
returns c =
    let all : IsNeeded c.args.config.now.replicas c.args.needs.now c.loop-need.needed =
    needed_all c.args.config.now.replicas c.args.needs.now c.loop-need.need-index c.loop-need.needed c.loop-need-test.false c.loop-need.invariant
    in
    record { function = c.handle.ensures.function _ _ all; most = c.handle.ensures.most _ _ all }
