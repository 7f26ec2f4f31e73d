use Rattle.std.proofs.Common.{◌∙◌, ap}
use Rattle.gs_master_state.specs.inner.Held.{HeldView, without_kept}
use Rattle.gs_master_state.proofs.Keeping.{home_from}
use Rattle.gs_master_state.proofs.held_names.HeldNames.move_back.Goals as goal

pub returns-clause-names : goal.returns-clause-names
returns-clause-names c = λ stood back.
    ap (λ ps. without_kept ps c.return_to_place.new.self) c.new.ensures.items
    ∙ home_from c.self.inside.places.items c.args.moved.from c.args.moved.to c.self.inside.names c.return_to_place.new.self stood c.args.self.now.names (ap (λ (v : HeldView). v.places) c.self.view_is ∙ c.requires) c.self.invariant.0.0 (ap (λ (v : HeldView). v.names) c.self.view_is) back.0
    c.return_to_place.ensures.tree c.return_to_place.ensures.refs
