use Rattle.std.proofs.Common.{refl, ap, sym, ◌∙◌}
use Rattle.std.specs.Prelude.{not}
use Rattle.gs_master_state.specs.inner.Tracked.{NowAndBefore}
use Rattle.gs_master_state.proofs.Tracking.{changed_before, rooms_stay}
use Rattle.gs_master_state.proofs.tracked.Tracked.end.Goals as goal

pub invariant_of-self : goal.invariant_of-self
invariant_of-self c =
    rooms_stay c.self.inside.memory c.end.new.self c.self.inside.touched.items (record { moving = c.end.ensures.keeps.moving; restored = c.end.ensures.keeps.restored; replies = c.end.ensures.keeps.replies }) c.self.invariant

pub returns-clause-before : goal.returns-clause-before
returns-clause-before c =
    changed_before c.self.inside.memory c.self.inside.touched.items c.self.inside.calls c.args.self.now _ _ _ _ c.args.self.now.before c.self.view_is
    (ap (λ (x : NowAndBefore). x.keeps_calls) (sym c.self.view_is) ∙ c.is_none.ensures ∙ ap not c.if-is_none.false) refl c.end.ensures.changed
