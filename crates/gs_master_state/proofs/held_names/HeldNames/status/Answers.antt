use Rattle.std.proofs.Common.{◌∙◌, ap, refl, subst, sym}
use Rattle.std.specs.FinMap.{get}
use Rattle.gs_tree.specs.Listing.{StandsAs}
use Rattle.gs_master_state.specs.inner.Held.{HeldView, is_at}
use Rattle.gs_master_state.proofs.Keeping.{status_in, status_out}
use Rattle.gs_master_state.proofs.held_names.HeldNames.status.Goals as goal

pub returns-then-is_place : goal.returns-then-is_place
returns-then-is_place c = (
  refl,
  ap (λ (v : HeldView). get v.names.tree c.args.path.now) (sym c.self.view_is)
      ∙ status_out c.self.inside.places.items c.self.inside.names c.args.path.now (ap (λ (v : HeldView). is_at v.places c.args.path.now) c.self.view_is ∙ sym c.is_place.ensures ∙ c.if-is_place.true),
)

pub returns : goal.returns
returns c =
    subst (λ e. StandsAs e c.status.result)
    (ap (λ t. get t c.args.path.now) c.tree-tree.ensures
    ∙ sym (status_in c.self.inside.places.items c.self.inside.names c.args.path.now (ap (λ (v : HeldView). is_at v.places c.args.path.now) c.self.view_is ∙ sym c.is_place.ensures ∙ c.if-is_place.false))
    ∙ ap (λ (v : HeldView). get v.names.tree c.args.path.now) c.self.view_is) c.status.ensures
