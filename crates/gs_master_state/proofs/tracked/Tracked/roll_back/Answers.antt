use Rattle.std.proofs.Common.{subst, sym}
use Rattle.std.specs.Ordering.{nat_cmp}
use Rattle.gs_base_table.specs.Slots.{HasRoom, live}
use Rattle.gs_master_state.specs.inner.Memories.{volatile_of}
use Rattle.gs_master_state.specs.declared.tracked.Slot.TheVariants as slots
use Rattle.gs_master_state.proofs.Tracking.{rolled_before, rooms_pushed}
use Rattle.gs_master_state.proofs.tracked.Tracked.roll_back.Goals as goal

pub invariant_of-self-2 : goal.invariant_of-self-2
invariant_of-self-2 c =
    let memory = c.self.inside.memory in
    rooms_pushed memory memory (record memory { moving = c.replace-moving.new.dest; restored = c.replace-restored.new.dest; unplaced = c.new-3.result }) c.self.inside.touched.items _ _ (slots.Rolled c.replace-moving.result c.replace-restored.result)
    (record { moving = record { keeps = λ key room. room }; restored = record { keeps = λ key room. room }; replies = record { keeps = λ key room. room } })
    (record {
      moving = record { keeps = λ key room. subst (λ x. HasRoom nat_cmp x key) (sym c.replace-moving.ensures.value) room };
      restored = record { keeps = λ key room. subst (λ x. HasRoom nat_cmp x key) (sym c.replace-restored.ensures.value) room };
      replies = record { keeps = λ key room. room };
    })
    c.self.invariant tt c.reserve.ensures.items c.push_reserved.ensures.items

pub returns-clause-before : goal.returns-clause-before
returns-clause-before c =
    let memory = c.self.inside.memory in
    rolled_before memory c.self.inside.touched.items _ _ c.self.inside.calls c.keep_calls.new.self _ (slots.Rolled c.replace-moving.result c.replace-restored.result) c.args.self.now.before c.self.view_is c.in_ok-keep_calls.ensures.kept
    c.in_ok-keep_calls.ensures.before c.reserve.ensures.items c.push_reserved.ensures.items
    (λ i. record (volatile_of memory) { moving = live nat_cmp (c.replace-moving.ensures.value i); restored = live nat_cmp (c.replace-restored.ensures.value i); unplaced = c.new-3.ensures.items i })
