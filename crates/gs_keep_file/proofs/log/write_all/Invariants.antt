use Rattle.std.proofs.Common.{◌≤◌, length}
use Rattle.gs_keep_file.proofs.Writing.{Wrote}
use Rattle.gs_keep_file.proofs.log.write_all.Given as goal

abbrev pub invariant-loop : goal.invariant-loop
invariant-loop g l = record {
  fits : l.written ≤ length l.bytes;
  wrote : Wrote l.bytes l.written (g.F.LogFile.holds l.initial.file) (g.F.LogFile.holds l.file);
}
