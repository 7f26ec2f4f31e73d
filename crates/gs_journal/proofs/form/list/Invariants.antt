use Rattle.std.proofs.Common.{◌≡◌, ◌-◌}
use Rattle.gs_journal.specs.Reading.{list, times}
use Rattle.gs_journal.specs.inner.Items.{part_of}
use Rattle.gs_journal.proofs.form.list.Given as goal

abbrev pub invariant-loop : goal.invariant-loop
invariant-loop l = times (part_of l.of) (l.n - l.counter) l.rest ≡ list (part_of l.of) l.bytes
