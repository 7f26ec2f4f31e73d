-- What clients have asked and were told goes along with the machines of a store's chunks, whatever disks of the master fail.
use Rattle.std.specs.Prelude.{◌≡◌, ℕ, Bool, List}
use Rattle.gs_base.specs.declared.config.Config.{Config}
use Rattle.gs_base.specs.declared.numbers.ReqId.{ReqId}
use Rattle.gs_journal.specs.Records.{fresh, standing}
use Rattle.gs_msg.specs.declared.event.DiskId.{DiskId}
use Rattle.gs_nodes.specs.declared.place.MasterPlace.{MasterPlace}
use Rattle.gs_laws_parts.specs.server.Requests.{Asked, IsOfOneEdit}
use Rattle.gs_world.specs.Histories.{Begins, History}
use Rattle.gs_laws_world.specs.lasting.Lasting.{Lasts}
use Rattle.gs_world.specs.Runs.{Step}
use Rattle.gs_laws_lift.specs.stores.Among.{AllAmong}
use Rattle.gs_laws_lift.specs.stores.Asking.{AreAskedIn, AskMore}
use Rattle.gs_laws_lift.specs.stores.Going.{AllSent}
use Rattle.gs_laws_lift.specs.stores.Left.{as_left, left_in}
use Rattle.gs_laws_lift.specs.stores.LeftRunning.{AreHeldThrough, IsSetUp, RunsLasting, StoreGoesAll, StoreLeadsAll}
use Rattle.gs_laws_lift.specs.stores.Living.{StoreLives}
use Rattle.gs_laws_lift.specs.stores.Saying.{PushRight}
use Rattle.gs_laws_lift.specs.stores.Telling.{StoreTells}

module _ {D : Type 0} (seen : D → List ℕ) (failures : D → ℕ) (armed : DiskId → ℕ → MasterPlace D → MasterPlace D) where
  -- Clients go on asking over any steps behind which what is left of the master lasts.
  abbrev pub AskOnAll : Type 0
  AskOnAll = (steps : List Step) (old new : History D) (asked : ℕ → Asked) → AreAskedIn asked old → Lasts seen (as_left old.nodes.master) → RunsLasting seen failures armed steps old new → AskMore asked new

  -- So it is of a store that has begun new, behind any such steps.
  abbrev pub AreAskedOverAll : Type 0
  AreAskedOverAll = (config : Config) (clients : ℕ) (disks : D × D) (steps : List Step) (begun now : History D) → standing (seen disks.0) (seen disks.1) ≡ fresh → Begins seen failures armed config clients disks begun → RunsLasting seen failures armed steps begun now
      → (asked : ℕ → Asked) × AreAskedIn asked now

module _ {D : Type 0} (seen : D → List ℕ) (failures : D → ℕ) (armed : DiskId → ℕ → MasterPlace D → MasterPlace D) (config : Config) (bytes : ReqId → List ℕ) (among : List ℕ → Bool) (asked : ℕ → Asked) where
  -- What clients were told stays done in the machines at each step by which all chunks of a store go on, also one at which a disk of the master fails.
  abbrev pub StoresTellOnAll : Type 0
  StoresTellOnAll = (step : Step) (old new : History D) (lives : StoreLives seen config bytes among (left_in old)) (goes : StoreGoesAll seen failures armed config bytes among step old new lives) → AllSent (IsOfOneEdit asked) new.sent
      → StoreTells seen config bytes asked among (left_in old) lives → StoreTells seen config bytes asked among (left_in new) goes.last

  -- behind many steps each chunk has led on, and it is so still
  pub record StoreTellsOnAll (old new : History D) (lives : StoreLives seen config bytes among (left_in old)) : Type 0 where
    pub leads : StoreLeadsAll seen failures armed config bytes among old new lives
    pub tells : StoreTells seen config bytes asked among (left_in new) leads.last

  -- So it is over each run, from any world of a store on,
  abbrev pub StoresTellRunAll : Type 0
  StoresTellRunAll = IsSetUp seen failures armed config bytes among → (steps : List Step) (old new : History D) (lives : StoreLives seen config bytes among (left_in old)) (runs : RunsLasting seen failures armed steps old new)
      → ((chunk : ℕ) → AreHeldThrough seen failures armed config bytes among chunk steps old new runs) → AllSent (PushRight bytes) new.sent → AllSent (IsOfOneEdit asked) new.sent → StoreTells seen config bytes asked among (left_in old) lives → StoreTellsOnAll old new lives

  -- and when a store begins over disks that say nothing.
  abbrev pub StoresTellFirstAll : Type 0
  StoresTellFirstAll = (clients : ℕ) (disks : D × D) (begun : History D) → standing (seen disks.0) (seen disks.1) ≡ fresh → Begins seen failures armed config clients disks begun → ((chunk : ℕ) → AllAmong among config.block chunk begun.nodes.servers)
      → AllSent (PushRight bytes) begun.sent → AllSent (IsOfOneEdit asked) begun.sent → (lives : StoreLives seen config bytes among (left_in begun)) × StoreTells seen config bytes asked among (left_in begun) lives
