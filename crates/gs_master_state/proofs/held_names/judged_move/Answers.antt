use Rattle.std.proofs.Common.{[], ◌∷◌, refl}
use Rattle.gs_master_state.specs.inner.Held.{without_kept}
use Rattle.gs_master_state.proofs.Holding.{none_refuses, refused_told}
use Rattle.gs_master_state.proofs.Keeping.{closed_at, returned_home}
use Rattle.gs_master_state.proofs.held_names.judged_move.Goals as goal

pub returns-in-Err-clause-judged : goal.returns-in-Err-clause-judged
returns-in-Err-clause-judged c =
    let refused = c.in-Err.ensures.edit c.requires c.move_keeping_place.new.self (λ q. refl, refl) in
    refused_told c.args.edit.now c.args.names.now c.in-Err.refusal c.told.result refused.0 c.told.ensures.told

pub returns-in-Err-clause-stays : goal.returns-in-Err-clause-stays
returns-in-Err-clause-stays c = (c.in-Err.ensures.edit c.requires c.move_keeping_place.new.self (λ q. refl, refl)).1

pub returns-clause-judged : goal.returns-clause-judged
returns-clause-judged c =
    let after = without_kept (c.in-Moved.from ∷ []) c.move_keeping_place.new.self in
    none_refuses c.args.edit.now c.args.names.now after (c.in-Ok.ensures.edit c.requires after (closed_at c.in-Ok.inverse c.in-Moved.from c.in-Moved.to c.in-Moved.from c.move_keeping_place.new.self c.in-Moved.is refl c.in-Ok.ensures.place))

pub returns-clause-stays : goal.returns-clause-stays
returns-clause-stays c =
    returned_home c.in-Ok.inverse c.in-Moved.from c.in-Moved.to c.args.names.now c.move_keeping_place.new.self c.return_to_place.new.self c.in-Moved.is c.in-Ok.ensures.place c.in-Ok.ensures.undo c.return_to_place.ensures.tree c.return_to_place.ensures.refs
