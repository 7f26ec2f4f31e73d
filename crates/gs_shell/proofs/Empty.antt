-- What a run over some empty disks tells is told over empty disks.
use Rattle.std.proofs.Common.{ℕ, List, Option, Some, None, IfSome, IfErr, OnOk, Result, Ok, Err}
use Rattle.gs_base.specs.declared.config.Config.{Config}
use Rattle.gs_journal.specs.Memory.{bytes_of, times_failed}
use Rattle.gs_nodes.specs.NewDisks.{OverEmpty}
use Rattle.gs_shell.specs.Serving.{ServeFails, Serves}
use Rattle.gs_shell.specs.Telling.{Tells}
use Rattle.gs_shell.specs.Watching.{both_watched, failures_of, seen_of}
use Rattle.gs_shell.specs.declared.trouble.Trouble.{Trouble}
use Rattle.gs_shell_script.specs.declared.RunFault.{RunFault}
use Rattle.gs_shell_script.specs.declared.RunFault.TheVariants as fault

module _ (config : Config) (trouble : Trouble) (left old new : Option (List ℕ)) where
  answered : (before : Option (List ℕ)) → OverEmpty (λ disks. Tells bytes_of times_failed config disks trouble (Ok tt) before left old new)
      → IfSome before (λ input. OverEmpty (λ disks. Serves (seen_of bytes_of) (failures_of times_failed) config (both_watched disks) input old new))
  answered None told = tt
  answered (Some input) (disks, empty, (s, told)) = (disks, empty, s)

  stopped : (e : RunFault) (before : Option (List ℕ)) → OverEmpty (λ disks. Tells bytes_of times_failed config disks trouble (Err e) before left old new)
      → OverEmpty (λ disks. ServeFails (seen_of bytes_of) (failures_of times_failed) config (both_watched disks) e before left old new)
  stopped fault.Read before (disks, empty, (s, told)) = (disks, empty, s)
  stopped fault.Write before (disks, empty, (s, told)) = (disks, empty, s)
  stopped (fault.Refused refusal) before (disks, empty, (n, nothing)) = (disks, empty, n)

  pub serves : (r : Result (Unit {0}) RunFault) (before : Option (List ℕ)) → OverEmpty (λ disks. Tells bytes_of times_failed config disks trouble r before left old new)
      → OnOk r (IfSome before (λ input. OverEmpty (λ disks. Serves (seen_of bytes_of) (failures_of times_failed) config (both_watched disks) input old new)))
  serves (Ok done) before told = answered before told
  serves (Err e) before told = tt

  pub fails : (r : Result (Unit {0}) RunFault) (before : Option (List ℕ)) → OverEmpty (λ disks. Tells bytes_of times_failed config disks trouble r before left old new)
      → IfErr r (λ e. OverEmpty (λ disks. ServeFails (seen_of bytes_of) (failures_of times_failed) config (both_watched disks) e before left old new))
  fails (Ok done) before told = tt
  fails (Err e) before told = stopped e before told
