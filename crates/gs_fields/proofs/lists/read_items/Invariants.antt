use Rattle.std.proofs.Common.{◌≡◌, ◌-◌, map}
use Rattle.gs_fields.specs.Reading.{times}
use Rattle.gs_fields.proofs.Loops.{with_front}
use Rattle.gs_fields.proofs.lists.read_items.Given as goal

abbrev pub invariant-loop : goal.invariant-loop
invariant-loop g l = with_front (map g.T.Field.plain l.items.items) (times g.T.Field.reading (l.count - l.counter) l.cursor.rest.now) ≡ times g.T.Field.reading l.count l.initial.cursor.rest.now
