-- What a server may rest on: what is so of its lease, of what it is told, and of the epochs that it has learned, in every world.
use Rattle.std.specs.Prelude.{◌≡◌, ℕ, ◌<◌, ◌≤◌, Bool, true, false, List, None, Option, Some}
use Rattle.gs_base.specs.declared.epoch.EpochEnd.{EpochEnd}
use Rattle.gs_base.specs.declared.epoch.EpochEnd.TheVariants.{Rollback}
use Rattle.gs_replica.specs.Stands.{Edit}
use Rattle.gs_laws_chunk.specs.machine.Stamps.{epoch_of, start_of}
use Rattle.gs_laws_chunk.specs.machine.Machine.{MemberLease, Create, Advance, CopyOut, CopyIn, Epoch, ChunkWorld, WasTold}
use Rattle.gs_laws_chunk.specs.machine.Events.{is_of}
use Rattle.gs_laws_chunk.specs.machine.Laws.{IsUpgrading, is_member}

-- A lease is of a view that was settled, under the promise, and it was taken last; its holder is a member of that view, and may number
-- in it. Its replica has the whole list of the view.
pub record LeaseRests (w : ChunkWorld) (me : ℕ) (lease : MemberLease) : Type 0 where
  pub settled : lease.stamp ≤ w.entry.view.stamp
  pub promise : lease.stamp ≡ (w.members me).promise
  pub taken : lease.stamp ≡ (w.members me).taken
  pub holder : w.known.holder lease.stamp ≡ Some me
  pub member : is_of lease.members me ≡ true
  pub members : (j : ℕ) → w.known.members lease.stamp j ≡ is_of lease.members j
  pub whole : (edits : List Edit) → (w.members me).live ≡ Some edits → w.known.list lease.stamp ≡ edits

abbrev pub LeasesRest : ChunkWorld → Type 0
LeasesRest w = (me : ℕ) (lease : MemberLease) → (w.members me).lease ≡ Some lease → LeaseRests w me lease

-- What a server was told of an epoch is how the epoch began, and it is one of the past or the present.
abbrev pub EpochsAreTold : ChunkWorld → Type 0
EpochsAreTold w = (server epoch : ℕ) (end : EpochEnd) → WasTold w server (Epoch epoch end) → (epoch ≤ w.entry.epoch) × (w.known.how epoch ≡ end)

-- Of a chunk that was born in an epoch: nothing is brought, asked for or copied under a stamp of an earlier one, nor is any live
-- replica under one; and each server counts as one of that epoch at least.
pub record BornFirst (epoch : ℕ) (w : ChunkWorld) : Type 0 where
  pub born : w.known.born ≡ start_of epoch
  pub current : epoch ≤ w.entry.epoch
  pub created : (server stamp : ℕ) → WasTold w server (Create stamp) → (epoch ≤ epoch_of stamp) × (0 < stamp)
  pub advanced : (server stamp : ℕ) → WasTold w server (Advance stamp) → (epoch ≤ epoch_of stamp) × (0 < stamp)
  pub copied : (server stamp target : ℕ) (with_image : Bool) → WasTold w server (CopyOut stamp target with_image) → (epoch ≤ epoch_of stamp) × (0 < stamp)
  pub brought : (server stamp : ℕ) (edits : List Edit) (image : Option (List Edit)) → WasTold w server (CopyIn stamp edits image) → (epoch ≤ epoch_of stamp) × (0 < stamp)
  pub epochs : (me : ℕ) → epoch ≤ (w.members me).epoch

-- While no rollback is begun each member of the settled view has learned of every rollback: none lags behind one, so that what it has
-- sealed can't be rolled back to any more. And no server is of an epoch that the master hasn't begun.
abbrev pub MembersHaveLearned : ChunkWorld → Type 0
MembersHaveLearned w = w.entry.is_rolling ≡ false → (me epoch : ℕ) → is_member w me ≡ true → epoch ≤ w.entry.epoch → w.known.how epoch ≡ Rollback → epoch ≤ (w.members me).epoch

abbrev pub NoneIsAhead : ChunkWorld → Type 0
NoneIsAhead w = (me : ℕ) → (w.members me).epoch ≤ w.entry.epoch

-- The view of a chunk with a member was settled, or rolled back to, whether the master knows the chunk still or not.
abbrev pub PeopledStood : ChunkWorld → Type 0
PeopledStood w = (me : ℕ) → is_member w me ≡ true → w.known.stood w.entry.view.stamp ≡ true

-- Each member of the settled view has promised it; and while no rollback is begun no server has promised more than was proposed.
pub record PromisesRest (w : ChunkWorld) : Type 0 where
  pub members : (me : ℕ) → is_member w me ≡ true → w.entry.view.stamp ≤ (w.members me).promise
  pub within : w.entry.is_rolling ≡ false → (me : ℕ) → (w.members me).promise ≤ w.entry.top

-- While an upgrade stands, or is being rolled back, the prepared view of a chunk that was known at the prepare is one that was settled, and nobody may
-- number in it.
pub record PreparedRests (w : ChunkWorld) : Type 0 where
  pub within : w.entry.prepared.stamp ≤ w.entry.view.stamp
  pub stood : w.known.stood w.entry.prepared.stamp ≡ true
  pub free : w.known.holder w.entry.prepared.stamp ≡ None

abbrev pub PreparedViewsRest : ChunkWorld → Type 0
PreparedViewsRest w = (e : ℕ) → IsUpgrading w e → w.entry.was_known ≡ true → PreparedRests w
