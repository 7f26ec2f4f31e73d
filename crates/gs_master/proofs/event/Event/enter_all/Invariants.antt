use Rattle.std.proofs.Common.{◌≡◌, false, length}
use Rattle.std.specs.Prelude.{map, Result}
use Rattle.std.specs.List.{list_any}
use Rattle.gs_base.specs.declared.refusal.Refusal.{Refusal}
use Rattle.gs_master_record.specs.Plain.{plain}
use Rattle.gs_master_state.specs.inner.Recorded.{durable_of}
use Rattle.gs_master_state.specs.inner.Reversing.{AreBack}
use Rattle.gs_master_state.specs.inner.TakingBack.{comes_alone}
use Rattle.gs_master.specs.inner.Turns.{EntersAll, GoesBack}
use Rattle.gs_master.specs.declared.event.Event.{Event}
use Rattle.gs_master.proofs.event.Event.enter_all.Given as goal

abbrev pub invariant-loop-entry : goal.invariant-loop-entry
invariant-loop-entry l = record {
  rest : (result : Result (Unit {0}) Refusal) (new : Event) → EntersAll (map plain l.entry-iterator.rest.items) l.self result new → EntersAll (map plain l.fn.records.items) l.fn.self result new;
  long : length l.entry-iterator.rest.items ≡ l.entry-iterator.rest.len;
  alone : list_any comes_alone (map plain l.entry-iterator.rest.items) ≡ false;
  given : AreBack (durable_of l.self.recorded) l.back;
  back : GoesBack l.fn.self l.self;
  memory : l.self.memory ≡ l.fn.self.memory;
  sent : l.self.sent ≡ l.fn.self.sent;
  said : l.self.said ≡ l.fn.self.said;
}
