-- A lease at its primary.
use Rattle.std.specs.Prelude.{◌≡◌, ◌<◌, ◌≤◌, max, Result, Ok, Err}
use Rattle.gs_base.specs.declared.numbers.Moment.{Moment}
use Rattle.gs_base.specs.declared.numbers.Stamp.{Stamp}
use Rattle.gs_base.specs.declared.refusal.Refusal.{Refusal}
use Rattle.gs_base.specs.declared.refusal.Refusal.TheVariants.{LeaseOver}
use Rattle.gs_lease.specs.declared.held.Grant.{Grant}

-- edits may be numbered exactly below the end
abbrev pub Checks : Moment → Moment → Result (Unit {0}) Refusal → Type 0
Checks end moment (Ok u) = moment.0 < end.0
Checks end moment (Err refusal) = (end.0 ≤ moment.0) × (refusal ≡ LeaseOver)

-- a lease is over exactly from its end on, and then its stamp is spent
abbrev pub Expires : Grant → Moment → Result Stamp Grant → Type 0
Expires held moment (Ok spent) = (held.end.0 ≤ moment.0) × (spent ≡ held.stamp)
Expires held moment (Err kept) = (moment.0 < held.end.0) × (kept ≡ held)

-- the later of two ends
abbrev pub renewed : Grant → Moment → Grant
renewed held end = record held { end = record { 0 = max held.end.0 end.0 } }
