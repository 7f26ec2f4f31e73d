-- Where lists of views come from: the master makes none but of the first edits of others.
use Rattle.std.specs.Prelude.{◌≡◌, ◌⊎◌, ◌<◌, ℕ, [], take, true, None}
use Rattle.gs_laws_chunk.specs.machine.Machine.{ChunkWorld}
use Rattle.gs_laws_chunk.specs.machine.Laws.{Birth}
use Rattle.gs_laws_chunk.specs.machine.Events.{Event, happens}
use Rattle.gs_laws_chunk.specs.machine.Acting.{actor}

-- the first edits of each list are the first ones of a list of before
abbrev pub ListsAreOld : ChunkWorld → ChunkWorld → Type 0
ListsAreOld w last = (stamp many : ℕ) → (old fewer : ℕ) × (take many (last.known.list stamp) ≡ take fewer (w.known.list old))

abbrev pub MastersListsAreOld : ChunkWorld → Event → Type 0
MastersListsAreOld w e = actor e ≡ None → ListsAreOld w (happens w e)

-- The list of a stamp is that of a view that stood, behind the birth; or it has the edits of the birth, or none.
abbrev pub ListsAreOfViews : Birth → ChunkWorld → Type 0
ListsAreOfViews b w = (stamp : ℕ) → ((w.known.stood stamp ≡ true) × (w.known.born < stamp)) ⊎ ((w.known.list stamp ≡ b.origin) ⊎ (w.known.list stamp ≡ []))
