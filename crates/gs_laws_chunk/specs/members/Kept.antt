-- That each member of a settled view has its replica, unless that was lost.
use Rattle.std.specs.Prelude.{[], ◌≡◌, Bool, cond, false, is_some, nat_eq, refl, true, ℕ}
use Rattle.gs_laws_chunk.specs.machine.Events.{Event, Goes, Leads, Loses, Raises, Rests, Rises}
use Rattle.gs_laws_chunk.specs.machine.Laws.{Birth, is_member, world_of}
use Rattle.gs_laws_chunk.specs.machine.Machine.{ChunkWorld}

-- whether a server has lost its replica after it promised what it promises: a greater promise brings a replica, or keeps one
abbrev pub lost_at : Event → ℕ → Bool → Bool
lost_at (Raises me stamp edits image) j lost = cond (nat_eq j me) false lost
lost_at (Rises me stamp edits) j lost = cond (nat_eq j me) false lost
lost_at (Loses me) j lost = cond (nat_eq j me) true lost
lost_at e j lost = lost

-- the same over a run
abbrev pub was_lost : (w v : ChunkWorld) → Leads w v → ℕ → Bool
was_lost w v Rests j = false
was_lost w v (Goes u e before can) j = lost_at e j (was_lost w u before j)

-- It is so where the master knows the chunk and no rollback goes on. Each member of the settled view has a live replica, unless it has lost it after it promised what it promises.
-- So none is dropped, and none goes at a rollback.
abbrev pub MembersAreThere : Type 0
MembersAreThere = (b : Birth) (w : ChunkWorld) (leads : Leads (world_of b) w) → w.entry.is_known ≡ true → w.entry.is_rolling ≡ false → (j : ℕ) → is_member w j ≡ true → was_lost (world_of b) w leads j ≡ false → is_some (w.members j).live ≡ true

-- ---- Worked
a_loss_is_its_own : lost_at (Loses 1) 2 false ≡ false
a_loss_is_its_own = refl

a_greater_promise_ends_it : lost_at (Rises 1 7 []) 1 true ≡ false
a_greater_promise_ends_it = refl
