-- The disks in memory of a new store.
use Rattle.std.specs.Prelude.{◌≡◌, []}
use Rattle.gs_journal.specs.Memory.{bytes_of}
use Rattle.gs_journal.specs.declared.memory.MemoryDisk.{MemoryDisk}

-- nothing is on them
abbrev pub AreEmpty : MemoryDisk × MemoryDisk → Type 0
AreEmpty disks = (bytes_of disks.0 ≡ []) × (bytes_of disks.1 ≡ [])

-- what holds of two disks in memory with nothing on them
abbrev pub OverEmpty : (MemoryDisk × MemoryDisk → Type 0) → Type 0
OverEmpty holds = (disks : MemoryDisk × MemoryDisk) × AreEmpty disks × holds disks
