-- Under which stamps edits were numbered: the list of a view has each edit where that of the view has it in which it was numbered, behind the same edits.
use Rattle.std.specs.Prelude.{◌≡◌, ◌⊎◌, ◌+◌, ◌<◌, ◌≤◌, ◌++◌, ℕ, true, List, [], ◌∷◌, Option, Some, length, slice_get, take}
use Rattle.gs_base.specs.declared.epoch.EpochEnd.TheVariants.{Prepare, Rollback}
use Rattle.gs_base.specs.declared.numbers.ReqId.{ReqId}
use Rattle.gs_base.specs.declared.numbers.Stamp.{Stamp}
use Rattle.gs_replica.specs.Stands.{Edit}
use Rattle.gs_laws_chunk.specs.machine.Stamps.{epoch_of, stamp_at, start_of}
use Rattle.gs_laws_chunk.specs.machine.Machine.{Known, ChunkWorld}
use Rattle.gs_laws_chunk.specs.machine.Events.{Leads}
use Rattle.gs_laws_chunk.specs.machine.Laws.{Birth, IsReached, world_of}
use Rattle.gs_laws_chunk.specs.machine.Mastering.{AreOfMaster}

-- What was numbered under a lower stamp, and stands at a place of the list of a view: where the upgrade of that view's epoch began behind the lower stamp, the
-- prepared list has the place.
abbrev pub StandsPrepared : Known → ℕ → ℕ → ℕ → Type 0
StandsPrepared k lower t place = t ≤ k.view → k.stood t ≡ true → epoch_of t ≤ k.current → k.how (epoch_of t) ≡ Prepare → k.kept (epoch_of t) ≡ true → lower ≤ k.prepared (epoch_of t) → k.prepared (epoch_of t) < t
    → place < length (k.list (k.prepared (epoch_of t)))

-- A rollback that was accepted gave up the view of a stamp, before that of another was settled.
pub record WasGivenUp (k : Known) (u t : ℕ) : Type 0 where
  pub e : ℕ
  pub within : e + 1 ≤ k.current
  pub prepare : k.how e ≡ Prepare
  pub kept : k.kept e ≡ true
  pub how : k.how (e + 1) ≡ Rollback
  pub accepted : start_of (e + 1) ≤ t
  pub after : k.prepared e < u
  pub before : u < start_of (e + 1)

-- And each view that was settled between has the place in its list, but those that were given up.
abbrev pub StandsBetween : Known → ℕ → ℕ → ℕ → Type 0
StandsBetween k lower t place = t ≤ k.view → k.stood t ≡ true → (u : ℕ) → lower ≤ u → u < t → k.stood u ≡ true → (WasGivenUp k u t → ⊥) → place < length (k.list u)

-- where it is told under which stamp the edit of a request is asked for
module _ (under : ReqId → Option Stamp) where
  -- The edit at a place of the list of a stamp was numbered in a view of this stamp, which was settled behind that of the birth, and under which it was asked for.
  pub record IsNumberedAt (k : Known) (t place : ℕ) (edit : Edit) : Type 0 where
    pub stamp : ℕ
    pub within : stamp ≤ t
    pub settled : stamp ≤ k.view
    pub stood : k.stood stamp ≡ true
    pub late : k.born < stamp
    pub asked : under edit.req ≡ Some (stamp_at stamp)
    pub same : take (place + 1) (k.list stamp) ≡ take (place + 1) (k.list t)
    pub prepared : StandsPrepared k stamp t place
    pub between : StandsBetween k stamp t place

  -- so was each edit of any list but those with which the chunk was born
  abbrev pub AreNumbered : List Edit → Known → Type 0
  AreNumbered origin k = (t place : ℕ) (edit : Edit) → slice_get (k.list t) place ≡ Some edit → (slice_get origin place ≡ Some edit) ⊎ IsNumberedAt k t place edit

  abbrev pub BornNumbered : Birth → Type 0
  BornNumbered b = AreNumbered b.origin (world_of b).known

  -- So it stays where the master's events lead,
  abbrev pub MastersNumber : List Edit → ChunkWorld → ChunkWorld → Type 0
  MastersNumber origin w v = IsReached w → (leads : Leads w v) → AreOfMaster w v leads → AreNumbered origin w.known → AreNumbered origin v.known

  -- and where others lead that number no edit that isn't asked for under the stamp of the list.
  abbrev pub NumbersAsked : ℕ → List Edit → List Edit → Type 0
  NumbersAsked t old new = (new ≡ old) ⊎ ((edit : Edit) × (new ≡ old ++ edit ∷ []) × (under edit.req ≡ Some (stamp_at t)))

  abbrev pub ServersNumber : List Edit → ChunkWorld → ChunkWorld → Type 0
  ServersNumber origin w v = IsReached w → Leads w v → v.entry ≡ w.entry → ((t : ℕ) → NumbersAsked t (w.known.list t) (v.known.list t)) → AreNumbered origin w.known → AreNumbered origin v.known

-- No view behind the birth's is of a stamp below a bound, nor will be, since the stamp proposed last isn't.
pub record IsBehind (bound : ℕ) (k : Known) : Type 0 where
  pub stood : (t : ℕ) → k.born < t → k.stood t ≡ true → bound ≤ t
  pub top : bound ≤ k.top

abbrev pub StaysBehind : ChunkWorld → ChunkWorld → Type 0
StaysBehind w v = (bound : ℕ) → IsReached w → Leads w v → IsBehind bound w.known → IsBehind bound v.known
