-- What runs of events of the master alone make of the lists of views.
use Rattle.std.specs.Prelude.{◌≡◌, ◌≢◌, ◌⊎◌, ◌<◌, ◌≤◌, ◌+◌, ◌-◌, ℕ, true, false, nat_eq, cond, [], take, None}
use Rattle.gs_base.specs.declared.epoch.EpochEnd.TheVariants.{Prepare, Rollback}
use Rattle.gs_laws_chunk.specs.machine.Stamps.{start_of}
use Rattle.gs_laws_chunk.specs.machine.Machine.{ChunkWorld}
use Rattle.gs_laws_chunk.specs.machine.Events.{Leads, Rests, Goes}
use Rattle.gs_laws_chunk.specs.machine.Acting.{actor}
use Rattle.gs_laws_chunk.specs.machine.Laws.{IsReached}

-- each event of a run is the master's
abbrev pub AreOfMaster : (w v : ChunkWorld) → Leads w v → Type 0
AreOfMaster w v Rests = Unit {0}
AreOfMaster w v (Goes u e before can) = AreOfMaster w u before × (actor e ≡ None)

-- no view is settled: the lists stay as they are
pub record KeepsLists (w v : ChunkWorld) : Type 0 where
  pub view : v.known.view ≡ w.known.view
  pub list : v.known.list ≡ w.known.list
  pub stood : v.known.stood ≡ w.known.stood

-- The view was settled that had been proposed last, of which the version isn't 0: its list is the first edits of that of the view before, as many as it begins with. All other lists stay.
pub record SettlesList (w v : ChunkWorld) : Type 0 where
  pub moving : w.known.view < w.known.top
  pub fresh : (e : ℕ) → w.known.top ≢ start_of e
  pub view : v.known.view ≡ w.known.top
  pub list : (t : ℕ) → v.known.list t ≡ cond (nat_eq t w.known.top) (take (v.known.base w.known.top) (w.known.list w.known.view)) (w.known.list t)
  pub stood : (t : ℕ) → v.known.stood t ≡ cond (nat_eq t w.known.top) true (w.known.stood t)

-- Of a chunk that was prepared the prepared list is that of the view of version 0 of the epoch, and any other has none. All other lists stay, but perhaps that
-- of a view that was proposed.
pub record IsRestored (w v : ChunkWorld) : Type 0 where
  pub view : v.known.view ≡ start_of w.known.current
  pub others : (t : ℕ) → (t ≢ w.known.top) ⊎ (w.known.view ≡ w.known.top) → t ≢ start_of w.known.current → (v.known.list t ≡ w.known.list t) × (v.known.stood t ≡ w.known.stood t)
  pub here : ((v.known.list (start_of w.known.current) ≡ w.known.list (w.known.prepared (w.known.current - 1))) × (v.known.stood (start_of w.known.current) ≡ true) × (w.entry.was_known ≡ true))
      ⊎ ((v.known.list (start_of w.known.current) ≡ []) × (v.known.stood (start_of w.known.current) ≡ false))

-- A rollback was committed in an epoch that it began: the one that stood, which was being rolled back, or one that has begun since. It is over there.
pub record IsCommittedSince (w v : ChunkWorld) : Type 0 where
  pub e : ℕ
  pub since : w.entry.epoch ≤ e
  pub within : e ≤ v.entry.epoch
  pub how : v.entry.how e ≡ Rollback
  pub was : e ≡ w.entry.epoch → w.entry.is_rolling ≡ true
  pub done : e ≡ v.entry.epoch → v.entry.is_rolling ≡ false

-- A rollback was committed: the view is later than all that were proposed. Within one epoch it is the last one that was begun.
pub record RestoresList (w v : ChunkWorld) : Type 0 where
  pub later : w.known.top < v.known.view
  pub committed : IsCommittedSince w v
  pub over : v.known.current ≡ w.known.current → v.entry.is_rolling ≡ false
  pub exact : v.known.current ≡ w.known.current → IsRestored w v

-- Of each chunk one view is settled at most in such a run, since nobody has promised a stamp that is proposed in it.
abbrev pub SettlesOnce : ChunkWorld → ChunkWorld → Type 0
SettlesOnce w v = KeepsLists w v ⊎ (SettlesList w v ⊎ RestoresList w v)

abbrev pub MastersSettleOnce : Type 0
MastersSettleOnce = (w v : ChunkWorld) (leads : Leads w v) → IsReached w → AreOfMaster w v leads → SettlesOnce w v

-- A chunk that isn't known is settled no more, and stays unknown; or a rollback was committed.
abbrev pub MastersForget : Type 0
MastersForget = (w v : ChunkWorld) (leads : Leads w v) → IsReached w → AreOfMaster w v leads → w.entry.is_known ≡ false → ((v.entry.is_known ≡ false) × KeepsLists w v) ⊎ (w.known.top < v.known.view)

-- The view is as it was; or one was settled, and has a member; or a rollback was committed.
abbrev pub MastersPeople : Type 0
MastersPeople = (w v : ChunkWorld) (leads : Leads w v) → IsReached w → AreOfMaster w v leads → (v.entry.view ≡ w.entry.view) ⊎ ((v.entry.view.members ≢ []) ⊎ (w.known.top < v.known.view))

-- no epoch has begun by a prepare since
abbrev pub NonePrepared : ChunkWorld → ChunkWorld → Type 0
NonePrepared w v = (e : ℕ) → w.entry.epoch < e → e ≤ v.entry.epoch → v.entry.how e ≡ Prepare → ⊥

-- Then what was prepared is as it was, of a chunk that was known at the prepare, as long as the upgrade isn't over.
abbrev pub MastersKeepPrepared : Type 0
MastersKeepPrepared = (w v : ChunkWorld) (leads : Leads w v) → IsReached w → AreOfMaster w v leads → NonePrepared w v → v.entry.was_known ≡ true → (w.entry.was_known ≡ true) × (v.entry.prepared.stamp ≡ w.entry.prepared.stamp)

-- Within one epoch nothing is rolled back where nothing was; and where a rollback is over it was committed.
abbrev pub MastersStayCalm : Type 0
MastersStayCalm = (w v : ChunkWorld) (leads : Leads w v) → IsReached w → AreOfMaster w v leads → w.entry.is_rolling ≡ false → v.entry.epoch ≡ w.entry.epoch → v.entry.is_rolling ≡ false

abbrev pub MastersCommit : Type 0
MastersCommit = (w v : ChunkWorld) (leads : Leads w v) → IsReached w → AreOfMaster w v leads → w.entry.is_rolling ≡ true → v.entry.is_rolling ≡ false → w.known.top < v.known.view

-- Where one epoch has begun, by a prepare, and nothing was being rolled back, a chunk that was known at the prepare was known before; and the view of the prepare is none that is
-- earlier than the one before, or later than the one behind it.
abbrev pub MastersPrepare : Type 0
MastersPrepare = (w v : ChunkWorld) (leads : Leads w v) → IsReached w → AreOfMaster w v leads → w.entry.is_rolling ≡ false → v.entry.epoch ≡ w.entry.epoch + 1 → v.entry.how v.entry.epoch ≡ Prepare → v.entry.was_known ≡ true
    → (w.entry.is_known ≡ true) × (w.entry.view.stamp ≤ v.entry.prepared.stamp) × (v.entry.prepared.stamp ≤ v.entry.view.stamp)

-- A view with members stood.
abbrev pub MembersStood : Type 0
MembersStood = (w : ChunkWorld) (t j : ℕ) → IsReached w → w.known.members t j ≡ true → (w.known.stood t ≡ true) × (w.known.born < t)
