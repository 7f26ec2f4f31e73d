-- What a disk in memory has and had.
use Rattle.std.specs.Prelude.{◌≡◌, ◌⊎◌, ℕ, List, length}
use Rattle.gs_journal.specs.inner.History.{contents, failures_of}
use Rattle.gs_journal.specs.inner.Past.{HeldSince}
use Rattle.gs_journal.specs.declared.memory.MemoryDisk.{MemoryDisk}

abbrev pub bytes_of : MemoryDisk → List ℕ
bytes_of m = m.bytes.items

-- a crash leaves what is there
abbrev pub may_leave : MemoryDisk → List ℕ → Type 0
may_leave m c = c ≡ bytes_of m

-- how often its bytes were to change
abbrev pub moment_of : MemoryDisk → ℕ
moment_of m = length (contents m.history)

abbrev pub left_since : MemoryDisk → ℕ → List ℕ → Type 0
left_since m t c = (c ≡ bytes_of m) ⊎ HeldSince t (contents m.history) c

abbrev pub times_failed : MemoryDisk → ℕ
times_failed m = failures_of m.history
