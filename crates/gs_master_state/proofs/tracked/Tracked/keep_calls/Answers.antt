use Rattle.std.proofs.Common.{sym, ap, ◌∙◌}
use Rattle.gs_master_state.specs.inner.Memories.{volatile_of}
use Rattle.gs_master_state.specs.inner.Tracked.{NowAndBefore}
use Rattle.gs_master_state.proofs.Tracking.{calls_keep, none_kept}
use Rattle.gs_master_state.proofs.tracked.Tracked.keep_calls.Goals as goal

pub returns-clause-before : goal.returns-clause-before
returns-clause-before c =
    calls_keep (record { pending = c.in_ok-copied.field-0; locks = c.in_ok-copy.field-0; unplaced = c.in_ok-from_slice.field-0 }) (volatile_of c.self.inside.memory) c.self.inside.touched.items
    (c.in_ok-copied.ensures ∙ c.deref.ensures.value) c.in_ok-copy.ensures (c.in_ok-from_slice.ensures.items ∙ c.deref-2.ensures.value)
    ∙ sym (none_kept c.self.inside.calls _ (sym c.is_some.ensures ∙ c.if-is_some.false)) ∙ ap (λ (x : NowAndBefore). x.before) c.self.view_is
