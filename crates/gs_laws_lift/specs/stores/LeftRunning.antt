-- All chunks of a store at once, over a step and over a run, whatever disks of the master fail.
use Rattle.std.specs.Prelude.{◌≡◌, ℕ, Bool, List, [], ◌∷◌}
use Rattle.gs_base.specs.declared.config.Config.{Config}
use Rattle.gs_base.specs.declared.numbers.ReqId.{ReqId}
use Rattle.gs_block.specs.Written.{HasBlocks, TellsApart}
use Rattle.gs_laws_chunk.specs.machine.Machine.{ChunkWorld}
use Rattle.gs_journal.specs.Records.{fresh, standing}
use Rattle.gs_master_spec.specs.Durable.{Durable}
use Rattle.gs_msg.specs.declared.event.DiskId.{DiskId}
use Rattle.gs_nodes.specs.declared.place.MasterPlace.{MasterPlace}
use Rattle.gs_replica.specs.Stands.{replica_of}
use Rattle.gs_world.specs.Histories.{Begins, History}
use Rattle.gs_laws_world.specs.lasting.Lasting.{Lasts, StepNamed}
use Rattle.gs_world.specs.Runs.{Goes, Step}
use Rattle.gs_laws_lift.specs.stores.Among.{AllAmong}
use Rattle.gs_laws_lift.specs.stores.Doing.{HasDurable}
use Rattle.gs_laws_lift.specs.stores.Going.{AllSent, Kind, heard_in}
use Rattle.gs_laws_lift.specs.stores.Left.{as_left, left_in}
use Rattle.gs_laws_lift.specs.stores.Living.{BornFrom, GoesOn, LeadsOn, StoreLives}
use Rattle.gs_laws_lift.specs.stores.Saying.{PushRight}
use Rattle.gs_laws_lift.specs.stores.Showing.{ShowsMaster}
use Rattle.gs_laws_lift.specs.stores.Unborn.{IsUnknown}

-- a failure that is arranged changes nothing of what is left of the master
pub record ArmsLeft {D : Type 0} (seen : D → List ℕ) (armed : DiskId → ℕ → MasterPlace D → MasterPlace D) : Type 0 where
  pub shown : (chunk : ℕ) (w : ChunkWorld) (disk : DiskId) (call : ℕ) (place : MasterPlace D) → ShowsMaster seen chunk (as_left place) w → ShowsMaster seen chunk (as_left (armed disk call place)) w
  pub durable : (d : Durable) (disk : DiskId) (call : ℕ) (place : MasterPlace D) → HasDurable seen (as_left place) d → HasDurable seen (as_left (armed disk call place)) d
  pub unknown : (chunk : ℕ) (disk : DiskId) (call epoch : ℕ) (place : MasterPlace D) → IsUnknown seen chunk epoch (as_left place) → IsUnknown seen chunk epoch (as_left (armed disk call place))

module _ {D : Type 0} (seen : D → List ℕ) (failures : D → ℕ) (armed : DiskId → ℕ → MasterPlace D → MasterPlace D) where
  -- steps one after the other, behind each of which what is left of the master lasts
  abbrev pub RunsLasting : List Step → History D → History D → Type 0
  RunsLasting [] old new = new ≡ old
  RunsLasting (step ∷ steps) old new = (mid : History D) × Goes seen failures armed step old mid × StepNamed step old × Lasts seen (as_left mid.nodes.master) × RunsLasting steps mid new

module _ {D : Type 0} (seen : D → List ℕ) (failures : D → ℕ) (armed : DiskId → ℕ → MasterPlace D → MasterPlace D) (config : Config) (bytes : ReqId → List ℕ) (among : List ℕ → Bool) where
  -- in each world of a run the blocks that servers have of the chunk are among some
  abbrev pub AreHeldThrough : ℕ → (steps : List Step) (old new : History D) → RunsLasting seen failures armed steps old new → Type 0
  AreHeldThrough chunk [] old new same = AllAmong among config.block chunk old.nodes.servers
  AreHeldThrough chunk (step ∷ steps) old new runs = AllAmong among config.block chunk old.nodes.servers × AreHeldThrough chunk steps runs.0 new runs.4

  -- A store as it is left behind a step: each chunk has gone on by just what the step is; those that are born have the edits of old ones.
  pub record StoreGoesAll (step : Step) (old new : History D) (lives : StoreLives seen config bytes among (left_in old)) : Type 0 where
    pub kind : Kind seen failures armed step old new
    pub last : StoreLives seen config bytes among (left_in new)
    pub goes : (chunk : ℕ) → GoesOn seen config bytes chunk step (heard_in seen failures armed kind) (left_in old) (left_in new) (lives.life chunk) (last.life chunk)
    pub from : (chunk : ℕ) → BornFrom seen config bytes chunk (left_in old) (left_in new) lives.life (lives.life chunk) (last.life chunk)

  -- and behind many
  pub record StoreLeadsAll (old new : History D) (lives : StoreLives seen config bytes among (left_in old)) : Type 0 where
    pub last : StoreLives seen config bytes among (left_in new)
    pub leads : (chunk : ℕ) → LeadsOn seen config bytes chunk (left_in old) (left_in new) (lives.life chunk) (last.life chunk)

  -- what is asked of failures that are arranged, and of digests
  pub record IsSetUp : Type 0 where
    pub arming : ArmsLeft seen armed
    pub apart : TellsApart among
    pub empty : HasBlocks config.block among (replica_of config.chunk []).bytes

  -- Whatever step a store makes, also one at which a disk of the master fails, all chunks go on with their machines, where what is left of the master lasts.
  abbrev pub StoresGoAll : Type 0
  StoresGoAll = IsSetUp → (step : Step) (old new : History D) (lives : StoreLives seen config bytes among (left_in old)) → Goes seen failures armed step old new → StepNamed step old → Lasts seen (as_left new.nodes.master)
      → ((chunk : ℕ) → AllAmong among config.block chunk new.nodes.servers) → AllSent (PushRight bytes) new.sent → StoreGoesAll step old new lives

  -- So it is over each run, from any world of a store on,
  abbrev pub StoresRunAll : Type 0
  StoresRunAll = IsSetUp → (steps : List Step) (old new : History D) (lives : StoreLives seen config bytes among (left_in old)) (runs : RunsLasting seen failures armed steps old new) → ((chunk : ℕ) → AreHeldThrough chunk steps old new runs)
      → AllSent (PushRight bytes) new.sent → StoreLeadsAll old new lives

  -- and from the beginning of one, over disks that say nothing.
  abbrev pub EachLivesAll : Type 0
  EachLivesAll = IsSetUp → (clients : ℕ) (disks : D × D) (steps : List Step) (begun now : History D) → standing (seen disks.0) (seen disks.1) ≡ fresh → Begins seen failures armed config clients disks begun
      → (runs : RunsLasting seen failures armed steps begun now) → ((chunk : ℕ) → AreHeldThrough chunk steps begun now runs) → AllSent (PushRight bytes) now.sent → StoreLives seen config bytes among (left_in now)
