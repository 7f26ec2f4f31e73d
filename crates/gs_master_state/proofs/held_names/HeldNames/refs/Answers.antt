use Rattle.std.proofs.Common.{◌∙◌, ap, sym}
use Rattle.gs_master_state.specs.inner.Held.{HeldView}
use Rattle.gs_master_state.proofs.Keeping.{same_refs}
use Rattle.gs_master_state.proofs.held_names.HeldNames.refs.Goals as goal

pub returns : goal.returns
returns c = c.refs.ensures ∙ sym (same_refs c.self.inside.places.items c.self.inside.names) ∙ ap (λ (v : HeldView). v.names.refs) c.self.view_is
