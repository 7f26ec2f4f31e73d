use Rattle.std.proofs.Common.{ap}
use Rattle.gs_master_state.specs.inner.Memories.{volatile_of}
use Rattle.gs_master_state.specs.inner.Tracked.{NowAndBefore}
use Rattle.gs_master_spec.specs.Volatile.{Volatile}
use Rattle.gs_master_state.specs.declared.tracked.Slot.TheVariants as slots
use Rattle.gs_master_state.proofs.Tracking.{before_is, rooms_pushed}
use Rattle.gs_master_state.proofs.tracked.Tracked.prepare.Goals as goal

pub invariant_of-self-2 : goal.invariant_of-self-2
invariant_of-self-2 c =
    rooms_pushed c.self.inside.memory c.self.inside.memory c.prepare.new.self c.self.inside.touched.items _ _ (slots.Preparing c.self.inside.memory.is_preparing) (record { moving = record { keeps = λ key room. room }; restored = record { keeps = λ key room. room }; replies = record { keeps = λ key room. room } }) c.prepare.ensures.keeps c.self.invariant
    tt c.reserve.ensures.items c.push_reserved.ensures.items

pub returns-clause-before : goal.returns-clause-before
returns-clause-before c =
    before_is c.self.inside.calls (volatile_of c.self.inside.memory) _ c.args.self.now c.self.inside.touched.items _ _ (slots.Preparing c.self.inside.memory.is_preparing) (ap (λ (x : NowAndBefore). x.before) c.self.view_is)
    c.reserve.ensures.items c.push_reserved.ensures.items (ap (λ (v : Volatile). record v { is_preparing = c.self.inside.memory.is_preparing }) c.prepare.ensures.changed)
