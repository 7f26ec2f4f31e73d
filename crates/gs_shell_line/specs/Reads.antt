-- The reads that were made of a reader.
use Rattle.std.specs.Prelude.{◌≡◌, ◌+◌, ◌≤◌, ◌⊎◌, true}
use Rattle.gs_shell_line.specs.declared.taken.Reads.{Reads}

-- one more was made, and it was good or interrupted
abbrev pub MakesRead : Reads → Reads → Type 0
MakesRead old new = (new.count ≡ old.count + 1) × (new.has_failed ≡ old.has_failed)

-- one more was made, and it failed
abbrev pub ReadFails : Reads → Reads → Type 0
ReadFails old new = (new.count ≡ old.count + 1) × (new.has_failed ≡ true)

-- no more are made, since one has failed or since there can't be more
abbrev pub HasEnded : Reads → Type 0
HasEnded reads = (reads.has_failed ≡ true) ⊎ (18446744073709551615 ≤ reads.count)
