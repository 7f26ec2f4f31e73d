use Rattle.std.proofs.Common.{◌≡◌, ap, subst, sym}
use Rattle.gs_master_state.specs.inner.Held.{HeldView, StandsBy, without_kept}
use Rattle.gs_master_state.specs.inner.TakingBack.{AreNamesBefore}
use Rattle.gs_master_state.specs.declared.undo.NamesBefore.TheVariants.{Moved as MovedTo}
use Rattle.gs_master_state.proofs.Keeping.{led_on}
use Rattle.gs_master_state.proofs.held_names.HeldNames.follow.Goals as goal

pub invariant_of-self-in-Some-11 : goal.invariant_of-self-in-Some-11
invariant_of-self-in-Some-11 c =
    let now : without_kept c.self.inside.places.items c.self.inside.names ≡ c.args.self.now.names = ap (λ (v : HeldView). v.names) c.self.view_is in
    let before : AreNamesBefore (MovedTo c.in-Moved.moved) c.requires.0 c.args.self.now.names = subst (λ b. AreNamesBefore b c.requires.0 c.args.self.now.names) c.in-Moved.is c.requires.1 in (
      c.self.invariant.0,
      subst (StandsBy c.led.result) (sym now) (led_on c.in-Moved.moved c.in-Some.spare c.requires.0 c.args.self.now.names c.led.result c.in-Some.is before c.led.ensures),
      c.self.invariant.2,
    )
