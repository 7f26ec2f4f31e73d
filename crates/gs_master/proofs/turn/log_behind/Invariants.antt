use Rattle.std.proofs.Common.{◌≡◌, ◌≤◌, ◌+◌, take}
use Rattle.std.specs.Prelude.{sum_by}
use Rattle.gs_journal.specs.Journal.{record_size}
use Rattle.gs_master.proofs.turn.log_behind.Given as goal

abbrev pub invariant-loop-place : goal.invariant-loop-place
invariant-loop-place l = record {
  records : l.log.records ≡ l.fn.first.records + l.place;
  size : l.log.size ≡ l.fn.first.size + sum_by record_size (take l.place l.records);
  limit : l.log.limit ≡ l.fn.first.limit;
  generation : l.log.generation ≡ l.fn.first.generation;
  counted : l.log.records ≤ l.log.size;
}
