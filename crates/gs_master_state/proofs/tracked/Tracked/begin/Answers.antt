use Rattle.gs_master_state.proofs.Tracking.{changed_before, rooms_stay}
use Rattle.gs_master_state.proofs.tracked.Tracked.begin.Goals as goal

pub invariant_of-self-2 : goal.invariant_of-self-2
invariant_of-self-2 c =
    rooms_stay c.self.inside.memory c.begin.new.self c.self.inside.touched.items (record { moving = c.begin.ensures.keeps.moving; restored = c.begin.ensures.keeps.restored; replies = c.begin.ensures.keeps.replies }) c.self.invariant

pub returns-clause-before : goal.returns-clause-before
returns-clause-before c =
    changed_before c.self.inside.memory c.self.inside.touched.items c.self.inside.calls c.keep_calls.new.self _ _ _ _ c.args.self.now.before c.self.view_is c.in_ok-keep_calls.ensures.kept c.in_ok-keep_calls.ensures.before
    c.begin.ensures.changed

pub invariant_of-self : goal.invariant_of-self
invariant_of-self c = rooms_stay c.self.inside.memory _ c.self.inside.touched.items (record { moving = record { keeps = λ key room. room }; restored = record { keeps = λ key room. room }; replies = record { keeps = λ key room. room } }) c.self.invariant

pub invariant_of-self-in_err-lock : goal.invariant_of-self-in_err-lock
invariant_of-self-in_err-lock c = rooms_stay c.self.inside.memory _ c.self.inside.touched.items (record { moving = record { keeps = λ key room. room }; restored = record { keeps = λ key room. room }; replies = record { keeps = λ key room. room } }) c.self.invariant
