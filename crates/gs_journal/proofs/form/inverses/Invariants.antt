use Rattle.std.proofs.Common.{◌≡◌, ◌-◌}
use Rattle.gs_journal.specs.Reading.{list, times}
use Rattle.gs_journal.specs.Bodies.{inverse}
use Rattle.gs_journal.proofs.form.inverses.Given as goal

abbrev pub invariant-loop : goal.invariant-loop
invariant-loop l = times (inverse) (l.n - l.counter) l.rest ≡ list (inverse) l.bytes
