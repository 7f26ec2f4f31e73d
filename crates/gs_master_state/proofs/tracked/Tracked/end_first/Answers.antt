use Rattle.std.proofs.Common.{Some, refl, sym, ap, ◌∙◌}
use Rattle.gs_master_state.specs.inner.Memories.{volatile_of}
use Rattle.gs_master_state.specs.inner.Tracked.{NowAndBefore}
use Rattle.gs_master_state.specs.declared.tracked.Calls.{Calls}
use Rattle.gs_master_state.proofs.Tracking.{calls_keep, calls_kept, none_kept, rooms_stay}
use Rattle.gs_master_state.proofs.tracked.Tracked.end_first.Goals as goal

pub invariant_of-self : goal.invariant_of-self
invariant_of-self c = rooms_stay c.self.inside.memory _ c.self.inside.touched.items (record { moving = record { keeps = λ key room. room }; restored = record { keeps = λ key room. room }; replies = record { keeps = λ key room. room } }) c.self.invariant

pub returns-clause-before : goal.returns-clause-before
returns-clause-before c =
    let memory = c.self.inside.memory in
    let calls : Calls = record { pending = c.replace.result; locks = c.replace-2.result; unplaced = c.in_ok-unplaced.unplaced } in
    calls_kept (Some calls) (volatile_of memory) c.self.inside.touched.items _ _ _ refl
    ∙ calls_keep calls (volatile_of memory) c.self.inside.touched.items (ap (λ pending. pending.items) c.replace.ensures.value) c.replace-2.ensures.value (c.in_ok-unplaced.ensures.items ∙ c.deref-2.ensures.value)
    ∙ sym (none_kept c.self.inside.calls _ (ap (λ (x : NowAndBefore). x.keeps_calls) c.self.view_is ∙ c.requires)) ∙ ap (λ (x : NowAndBefore). x.before) c.self.view_is
