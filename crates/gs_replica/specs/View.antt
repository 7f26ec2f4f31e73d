-- How a seal in memory is seen.
use Rattle.std.specs.Prelude.{◌≡◌, ◌≤◌, Option, Some, None}
use Rattle.gs_block.specs.Images.{AreFirst, undone, touched}
use Rattle.gs_replica.specs.declared.seal.Seal.{Seal}
use Rattle.gs_replica.specs.Held.{Held}
use Rattle.gs_replica.specs.First.{done_before}
use Rattle.gs_replica.specs.Inside.{HasSealed}
use Rattle.gs_replica.specs.Seals.{Sealed, State, sealed_of}

abbrev pub seen : Held → Seal → Sealed
seen h s = record { undone = undone s.images h.chunk; count = s.count; done = done_before s.first h.done; stamp = s.stamp; touched = touched s.images; first = s.first }

abbrev pub state_of : Held → Seal → State
state_of h s = record { held = h; sealed = Some (seen h s) }

-- the images are of this chunk, no edit was undone that came before the seal, and each client that had a request then has one
pub record Belongs (h : Held) (s : Seal) : Type 0 where
  pub first : AreFirst s.images h.chunk
  pub later : s.count ≤ h.count
  pub has : HasSealed s.first h.done

-- a seal of a replica as it stands
pub record Seals (h : Held) (s : Seal) : Type 0 where
  pub seen : seen h s ≡ sealed_of h
  pub belongs : Belongs h s

abbrev pub seen_in : Held → Option Seal → Option Sealed
seen_in h None = None
seen_in h (Some s) = Some (seen h s)

abbrev pub BelongsIn : Held → Option Seal → Type 0
BelongsIn h None = Unit {0}
BelongsIn h (Some s) = Belongs h s
