-- The disks of a new store, which may be made to fail.
use Rattle.gs_journal.specs.Faults.{Failing}
use Rattle.gs_journal.specs.declared.fault.Fault.TheVariants.{Never}

-- a disk that isn't to fail, and hasn't
abbrev pub new_disk : {D : Type 0} → D → Failing D
new_disk disk = record { disk = disk; fault = Never; failures = 0 }

abbrev pub new_disks : {D : Type 0} → D × D → Failing D × Failing D
new_disks disks = (new_disk disks.0, new_disk disks.1)
