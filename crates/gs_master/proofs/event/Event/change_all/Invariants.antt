use Rattle.std.proofs.Common.{◌≡◌}
use Rattle.gs_master_spec.specs.Volatile.{all_changed}
use Rattle.gs_master.proofs.event.Event.change_all.Given as goal

abbrev pub invariant-loop-change : goal.invariant-loop-change
invariant-loop-change l = record {
  now : l.self.memory.now ≡ all_changed l.initial.self.memory.now l.yielded;
  before : l.self.memory.before ≡ l.initial.self.memory.before;
  others : l.self ≡ record (l.initial.self) { memory = l.self.memory };
}
