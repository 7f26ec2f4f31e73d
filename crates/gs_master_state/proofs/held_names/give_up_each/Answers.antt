use Rattle.gs_master_state.proofs.Keeping.{give_up_next}
use Rattle.gs_master_state.proofs.held_names.give_up_each.Goals as goal

pub loop-place-preserved : goal.loop-place-preserved
loop-place-preserved c =
    give_up_next c.args.places.now c.loop-place.place-index c.place-item.result c.args.names.now c.loop-place.names c.give_up_place.new.self c.requires c.loop-place-test.true c.place-item.is c.loop-place.invariant c.give_up_place.ensures.tree c.give_up_place.ensures.refs
