-- Who acts at an event, and what that leaves of the others.
use Rattle.std.specs.Prelude.{◌≡◌, ◌≢◌, ◌⊎◌, ℕ, Bool, Option, Some, None}
use Rattle.gs_laws_chunk.specs.machine.Machine.{ChunkWorld}
use Rattle.gs_laws_chunk.specs.machine.Events.{Event, Raises, Rises, Promises, SendsCopy, TakesLease, Numbers, Forwards, Applies, Acknowledges, Hears, Closes, Answers, Spends, Drops, Loses, Damages, Learns, Names, Reports, Prepares, happens}

-- the server at which an event happens; of the master's events none
abbrev pub actor : Event → Option ℕ
actor (Raises me stamp edits image) = Some me
actor (Rises me stamp edits) = Some me
actor (Promises me edits) = Some me
actor (SendsCopy me stamp target edits image) = Some me
actor (TakesLease me stamp members) = Some me
actor (Numbers me lease edits edit) = Some me
actor (Forwards me lease to place edit) = Some me
actor (Applies me edits edit) = Some me
actor (Acknowledges me edits) = Some me
actor (Hears me lease from count) = Some me
actor (Closes me lease place) = Some me
actor (Answers me lease place edit) = Some me
actor (Spends me) = Some me
actor (Drops me) = Some me
actor (Loses me) = Some me
actor (Damages me) = Some me
actor (Learns me end fails) = Some me
actor (Names me edits) = Some me
actor (Reports me) = Some me
actor e = None

-- An event leaves each server as it is but the one that acts; a prepare marks those that are whole, which only the proof sees.
abbrev pub OthersStay : ChunkWorld → Event → Type 0
OthersStay w e = (me : ℕ) → actor e ≢ Some me → ((happens w e).members me ≡ w.members me) ⊎ ((whole : ℕ → Bool) × (e ≡ Prepares whole))
