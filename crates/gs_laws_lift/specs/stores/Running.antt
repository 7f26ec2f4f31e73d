-- All chunks of a store at once, over a step and over a run in which no disk of the master fails.
use Rattle.std.specs.Prelude.{◌≡◌, ℕ, Bool, List, [], ◌∷◌}
use Rattle.gs_base.specs.declared.config.Config.{Config}
use Rattle.gs_base.specs.declared.numbers.ReqId.{ReqId}
use Rattle.gs_block.specs.Written.{HasBlocks, TellsApart}
use Rattle.gs_replica.specs.Stands.{replica_of}
use Rattle.gs_msg.specs.declared.event.DiskId.{DiskId}
use Rattle.gs_nodes.specs.declared.place.MasterPlace.{MasterPlace}
use Rattle.gs_journal.specs.Records.{fresh, standing}
use Rattle.gs_world.specs.Histories.{Begins, History}
use Rattle.gs_laws_world.specs.lasting.Lasting.{Lasts, RunsSoundly, StepNamed, failures_at}
use Rattle.gs_world.specs.Runs.{Goes, Step}
use Rattle.gs_laws_lift.specs.stores.Saying.{PushRight}
use Rattle.gs_laws_lift.specs.stores.Going.{AllSent}
use Rattle.gs_laws_lift.specs.stores.Unborn.{IsUnknown}
use Rattle.gs_laws_lift.specs.stores.Among.{AllAmong}
use Rattle.gs_laws_lift.specs.stores.Living.{ShowsArmed, StoreGoes, StoreLeads, StoreLives}

-- a failure that is arranged leaves the master firm
abbrev pub LastsArmed : {D : Type 0} → (D → List ℕ) → (DiskId → ℕ → MasterPlace D → MasterPlace D) → Type 0
LastsArmed {D} seen armed = (disk : DiskId) (call : ℕ) (place : MasterPlace D) → Lasts seen place → Lasts seen (armed disk call place)

-- a failure that is arranged changes nothing of what the master doesn't know
abbrev pub UnknownArmed : {D : Type 0} → (D → List ℕ) → (DiskId → ℕ → MasterPlace D → MasterPlace D) → Type 0
UnknownArmed {D} seen armed = (chunk : ℕ) (disk : DiskId) (call epoch : ℕ) (place : MasterPlace D) → IsUnknown seen chunk epoch place → IsUnknown seen chunk epoch (armed disk call place)

-- in each world of a run the blocks that servers have of the chunk are among some
abbrev pub AreHeld : {D : Type 0} (seen : D → List ℕ) (failures : D → ℕ) (armed : DiskId → ℕ → MasterPlace D → MasterPlace D) → Config → (List ℕ → Bool) → ℕ → (steps : List Step) (old new : History D) → RunsSoundly seen failures armed steps old new → Type 0
AreHeld seen failures armed config among chunk [] old new same = AllAmong among config.block chunk old.nodes.servers
AreHeld seen failures armed config among chunk (step ∷ steps) old new runs = AllAmong among config.block chunk old.nodes.servers × AreHeld seen failures armed config among chunk steps runs.0 new runs.4

-- ---- from the beginning of a store

-- A store begins new, over disks that say nothing: no chunk is born.
abbrev pub StoresBegin : {D : Type 0} → (D → List ℕ) → (D → ℕ) → (DiskId → ℕ → MasterPlace D → MasterPlace D) → Config → (ReqId → List ℕ) → (List ℕ → Bool) → Type 0
StoresBegin {D} seen failures armed config bytes among = (clients : ℕ) (disks : D × D) (begun : History D) → standing (seen disks.0) (seen disks.1) ≡ fresh → Begins seen failures armed config clients disks begun
    → ((chunk : ℕ) → AllAmong among config.block chunk begun.nodes.servers) → AllSent (PushRight bytes) begun.sent → StoreLives seen config bytes among begun

-- ---- a step

-- Whatever step a store makes at which no disk of the master fails, all chunks go on with their machines: what is pushed for a request are its own bytes, and
-- different blocks of what servers have, and the empty one, have different digests.
abbrev pub StoresGoOn : {D : Type 0} → (D → List ℕ) → (D → ℕ) → (DiskId → ℕ → MasterPlace D → MasterPlace D) → Config → (ReqId → List ℕ) → (List ℕ → Bool) → Type 0
StoresGoOn {D} seen failures armed config bytes among = ShowsArmed seen armed → LastsArmed seen armed → UnknownArmed seen armed → TellsApart among → HasBlocks config.block among (replica_of config.chunk []).bytes
    → (step : Step) (old new : History D) (lives : StoreLives seen config bytes among old) → Goes seen failures armed step old new → StepNamed step old → failures_at failures new.nodes.master ≡ failures_at failures old.nodes.master
    → ((chunk : ℕ) → AllAmong among config.block chunk new.nodes.servers) → AllSent (PushRight bytes) new.sent → StoreGoes seen failures armed config bytes among step old new lives

-- ---- a run

-- So it is over each run, from any world of a store on: the machine of each chunk that lives there leads to the one that shows the last world.
abbrev pub StoresRun : {D : Type 0} → (D → List ℕ) → (D → ℕ) → (DiskId → ℕ → MasterPlace D → MasterPlace D) → Config → (ReqId → List ℕ) → (List ℕ → Bool) → Type 0
StoresRun {D} seen failures armed config bytes among = ShowsArmed seen armed → LastsArmed seen armed → UnknownArmed seen armed → TellsApart among → HasBlocks config.block among (replica_of config.chunk []).bytes
    → (steps : List Step) (old new : History D) (lives : StoreLives seen config bytes among old) (runs : RunsSoundly seen failures armed steps old new) → ((chunk : ℕ) → AreHeld seen failures armed config among chunk steps old new runs)
    → AllSent (PushRight bytes) new.sent → StoreLeads seen config bytes among old new lives

-- From the beginning of a store on, each chunk is not born in any world, or a world of its machine, which is reached from its birth, shows that one.
abbrev pub EachLives : {D : Type 0} → (D → List ℕ) → (D → ℕ) → (DiskId → ℕ → MasterPlace D → MasterPlace D) → Config → (ReqId → List ℕ) → (List ℕ → Bool) → Type 0
EachLives {D} seen failures armed config bytes among = ShowsArmed seen armed → LastsArmed seen armed → UnknownArmed seen armed → TellsApart among → HasBlocks config.block among (replica_of config.chunk []).bytes
    → (clients : ℕ) (disks : D × D) (steps : List Step) (begun now : History D) → standing (seen disks.0) (seen disks.1) ≡ fresh → Begins seen failures armed config clients disks begun
    → (runs : RunsSoundly seen failures armed steps begun now) → ((chunk : ℕ) → AreHeld seen failures armed config among chunk steps begun now runs) → AllSent (PushRight bytes) now.sent → StoreLives seen config bytes among now
