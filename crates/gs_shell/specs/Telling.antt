-- What a run tells beside what it writes: what went wrong within the store.
use Rattle.std.specs.Prelude.{◌≡◌, Bool, Err, IfSome, List, None, Ok, Option, Result, Some, false, true, ℕ, if◌then◌else◌}
use Rattle.gs_base.specs.declared.config.Config.{Config}
use Rattle.gs_nodes.specs.Happenings.{disks_of}
use Rattle.gs_shell.specs.Serving.{NotBegun, Serves, StopsServing}
use Rattle.gs_shell.specs.Watching.{both_watched, failures_of, seen_of}
use Rattle.gs_shell.specs.declared.trouble.Trouble.{Trouble}
use Rattle.gs_shell.specs.declared.watched.Watched.{Watched}
use Rattle.gs_shell_desk.specs.declared.desk.Desk.{Desk}
use Rattle.gs_shell_script.specs.declared.RunFault.{RunFault}
use Rattle.gs_shell_script.specs.declared.RunFault.TheVariants as fault

abbrev pub none : Trouble
none = record { was_short = false; has_disk_failed = false }

-- one of these disks has failed
abbrev pub has_failed_in : {D : Type 0} → Option (Watched D × Watched D) → Bool
has_failed_in None = false
has_failed_in (Some disks) = if disks.0.has_failed then true else disks.1.has_failed

-- It is told whether the desk has noted that no memory was left for something, and whether a disk of the master's journal has failed.
pub record IsTold {D : Type 0} (trouble : Trouble) (desk : Desk (Watched D)) : Type 0 where
  pub short : trouble.was_short ≡ desk.wire.is_short
  pub failed : trouble.has_disk_failed ≡ has_failed_in (disks_of desk.wire.nodes.master)

-- For what is seen of a disk, how often one has failed, the configuration, and the disks of the master's journal.
module _ {D : Type 0} (seen : D → List ℕ) (failures : D → ℕ) (config : Config) (disks : D × D) where
  -- what is written where all is read and written
  abbrev pub ServesOver : List ℕ → Option (List ℕ) → Option (List ℕ) → Type 0
  ServesOver input old new = Serves (seen_of seen) (failures_of failures) config (both_watched disks) input old new

  -- what is written where a read or a write fails
  abbrev pub StopsOver : RunFault → Option (List ℕ) → Option (List ℕ) → Option (List ℕ) → Option (List ℕ) → Type 0
  StopsOver fault before left old new = StopsServing (seen_of seen) (failures_of failures) config (both_watched disks) fault before left old new

  -- How a run ends, with what it tells: of a store that doesn't begin nothing went wrong.
  abbrev pub Tells : Trouble → Result (Unit {0}) RunFault → Option (List ℕ) → Option (List ℕ) → Option (List ℕ) → Option (List ℕ) → Type 0
  Tells trouble (Ok done) before left old new = IfSome before (λ input. (s : ServesOver input old new) × IsTold trouble s.ended)
  Tells trouble (Err (fault.Refused refusal)) before left old new = NotBegun (seen_of seen) (failures_of failures) config (both_watched disks) refusal before left old new × (trouble ≡ none)
  Tells trouble (Err fault) before left old new = (s : StopsOver fault before left old new) × IsTold trouble s.ended
