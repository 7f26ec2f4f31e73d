use Rattle.gs_master_state.proofs.Tracking.{changed_before, rooms_stay}
use Rattle.gs_master_state.proofs.tracked.Tracked.enter.Goals as goal

pub invariant_of-self-2 : goal.invariant_of-self-2
invariant_of-self-2 c =
    rooms_stay c.self.inside.memory c.enter.new.self c.self.inside.touched.items (record { moving = c.enter.ensures.keeps.moving; restored = c.enter.ensures.keeps.restored; replies = c.enter.ensures.keeps.replies }) c.self.invariant

pub returns-clause-before : goal.returns-clause-before
returns-clause-before c =
    changed_before c.self.inside.memory c.self.inside.touched.items c.self.inside.calls c.keep_calls.new.self _ _ _ _ c.args.self.now.before c.self.view_is c.in_ok-keep_calls.ensures.kept c.in_ok-keep_calls.ensures.before
    c.enter.ensures.changed

pub invariant_of-self : goal.invariant_of-self
invariant_of-self c = rooms_stay c.self.inside.memory _ c.self.inside.touched.items (record { moving = record { keeps = λ key room. room }; restored = record { keeps = λ key room. room }; replies = record { keeps = λ key room. room } }) c.self.invariant
