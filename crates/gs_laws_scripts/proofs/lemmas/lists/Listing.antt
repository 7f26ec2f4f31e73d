-- A run of the shell lists the same.
use Rattle.std.proofs.Common.{◌≡◌, ◌∙◌, ℕ, List, [], Option, Result, ap}
use Rattle.gs_base.specs.declared.config.Config.{Config}
use Rattle.gs_journal.specs.Memory.{bytes_of, times_failed}
use Rattle.gs_journal.specs.Records.{fresh, standing}
use Rattle.gs_journal.specs.declared.memory.MemoryDisk.{MemoryDisk}
use Rattle.gs_nodes.specs.NewDisks.{AreEmpty, OverEmpty}
use Rattle.gs_shell.proofs.Answered.{answers}
use Rattle.gs_shell.specs.Answering.{Answers}
use Rattle.gs_shell.specs.Telling.{Tells}
use Rattle.gs_shell.specs.Watching.{both_watched, failures_of, seen_of}
use Rattle.gs_shell.specs.declared.trouble.Trouble.{Trouble}
use Rattle.gs_shell.specs.declared.watched.Watched.{Watched}
use Rattle.gs_shell_script.specs.declared.RunFault.{RunFault}
use Rattle.gs_laws_scripts.proofs.lemmas.lists.Scripts.{from_start}
use Rattle.gs_laws_scripts.specs.lists.Lines.{ListTheSame}
use Rattle.gs_laws_scripts.specs.lists.Scripts as scripts

pub empty_disks : (disks : MemoryDisk × MemoryDisk) → AreEmpty disks → standing (bytes_of disks.0) (bytes_of disks.1) ≡ fresh
empty_disks disks (first, second) = ap (λ (l : List ℕ). standing l (bytes_of disks.1)) first ∙ ap (standing []) second

pub lists : ((seen : Watched MemoryDisk → List ℕ) (failures : Watched MemoryDisk → ℕ) (config : Config) (disks : Watched MemoryDisk × Watched MemoryDisk) → ListTheSame seen failures config disks)
    → (config : Config) (trouble : Trouble) (r : Result (Unit {0}) RunFault) (before left old new : Option (List ℕ)) → OverEmpty (λ disks. Tells bytes_of times_failed config disks trouble r before left old new)
    → Answers scripts.ListTheSame r before left old new
lists law config trouble r before left old new (disks, empty, told) =
    answers bytes_of times_failed config disks trouble scripts.ListTheSame
    (λ begun ended starts it input lines more texts parts runs. from_start law (seen_of bytes_of) (failures_of times_failed) config (both_watched disks) (empty_disks disks empty) begun ended starts lines texts runs)
    left old new r before told
