-- What the number of an edit is to that of its client's last.
use Rattle.std.specs.Prelude.{◌≡◌, ◌<◌, ℕ}
use Rattle.gs_server_lease.specs.declared.recency.Recency.{Recency}
use Rattle.gs_server_lease.specs.declared.recency.Recency.TheVariants.{New, Repeated, Old}

-- it is one of the three, whatever the numbers
abbrev pub IsRecency : ℕ → ℕ → Recency → Type 0
IsRecency number last New = last < number
IsRecency number last Repeated = number ≡ last
IsRecency number last Old = number < last
