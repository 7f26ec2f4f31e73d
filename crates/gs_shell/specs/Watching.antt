-- A disk that keeps whether it has failed.
use Rattle.std.specs.Prelude.{◌+◌, Bool, List, false, true, ℕ, if◌then◌else◌}
use Rattle.gs_shell.specs.declared.watched.Watched.{Watched}

-- one that has not
abbrev pub watched : {D : Type 0} → D → Watched D
watched disk = record { disk = disk; has_failed = false }

abbrev pub both_watched : {D : Type 0} → D × D → Watched D × Watched D
both_watched disks = (watched disks.0, watched disks.1)

-- a read gives what one of the disk below gives
abbrev pub seen_of : {D : Type 0} → (D → List ℕ) → Watched D → List ℕ
seen_of seen w = seen w.disk

-- how often it has failed: never, or once at least
abbrev pub failures_of : {D : Type 0} → (D → ℕ) → Watched D → ℕ
failures_of failures w = if w.has_failed then failures w.disk + 1 else 0

-- a call has failed, if this is so
abbrev pub noted : {D : Type 0} → Bool → Watched D → Watched D
noted fails w = record w { has_failed = if fails then true else w.has_failed }
