-- What the laws of the chunks of a store say.
use Rattle.std.specs.Prelude.{◌≡◌, ◌<◌, ℕ, Bool, List, [], Option, Some, true}
use Rattle.gs_msg.specs.declared.event.DiskId.{DiskId}
use Rattle.gs_nodes.specs.declared.place.MasterPlace.{MasterPlace}
use Rattle.gs_journal.specs.Records.{fresh, standing}
use Rattle.gs_world.specs.Histories.{Begins, History}
use Rattle.gs_laws_world.specs.lasting.Lasting.{StepNamed}
use Rattle.gs_world.specs.Runs.{Goes, Step}
use Rattle.gs_base.specs.declared.config.Config.{Config}
use Rattle.gs_base.specs.declared.numbers.ReqId.{ReqId}
use Rattle.gs_base.specs.declared.numbers.Stamp.{Stamp}
use Rattle.gs_replica.specs.Stands.{Edit}
use Rattle.gs_lease.specs.declared.view.View.{View}
use Rattle.gs_laws_chunk.specs.machine.Machine.{ChunkWorld}
use Rattle.gs_laws_chunk.specs.machine.Events.{Leads}
use Rattle.gs_laws_chunk.specs.machine.Laws.{Birth, settled, world_of}
use Rattle.gs_laws_parts.specs.master.Showing.{ShowsView}
use Rattle.gs_laws_lift.specs.stores.Accounts.{BeginsList, CountsShow, Lists, ListsShow, settled_in}
use Rattle.gs_laws_parts.specs.server.Requests.{Asked}
use Rattle.gs_laws_lift.specs.stores.Going.{Kind}
use Rattle.gs_laws_lift.specs.stores.Asking.{AreAskedIn}
use Rattle.gs_laws_lift.specs.stores.Answers.{AnswersBegin, AnswersGoOn}
use Rattle.gs_laws_lift.specs.stores.Telling.{StoresTellFirst, StoresTellOn, StoresTellRun}
use Rattle.gs_laws_lift.specs.stores.Running.{EachLives, StoresBegin, StoresGoOn, StoresRun}
use Rattle.gs_laws_lift.specs.stores.LeftRunning.{EachLivesAll, StoresGoAll, StoresRunAll}
use Rattle.gs_laws_lift.specs.stores.LeftTelling.{StoresTellFirstAll, StoresTellOnAll, StoresTellRunAll}

-- ---- a step
-- Each step of a store is something at one server, at the master, or elsewhere.
abbrev pub StepsAreAtOneNode : Type 0 → Type 0
StepsAreAtOneNode D = (seen : D → List ℕ) (failures : D → ℕ) (armed : DiskId → ℕ → MasterPlace D → MasterPlace D) (step : Step) (old new : History D)
    → Goes seen failures armed step old new → StepNamed step old → Kind seen failures armed step old new

-- ---- while no disk fails
-- In a new store no chunk is born, whatever its configuration, bytes and blocks.
abbrev pub ChunksBeginUnborn : Type 0 → Type 0
ChunksBeginUnborn D = (seen : D → List ℕ) (failures : D → ℕ) (armed : DiskId → ℕ → MasterPlace D → MasterPlace D) (config : Config) (bytes : ReqId → List ℕ) (among : List ℕ → Bool)
    → StoresBegin seen failures armed config bytes among

-- At each step at which no disk fails, all chunks go on with their machines.
abbrev pub ChunksGoOnWithMachines : Type 0 → Type 0
ChunksGoOnWithMachines D = (seen : D → List ℕ) (failures : D → ℕ) (armed : DiskId → ℕ → MasterPlace D → MasterPlace D) (config : Config) (bytes : ReqId → List ℕ) (among : List ℕ → Bool)
    → StoresGoOn seen failures armed config bytes among

-- Over each run from a new store on, each chunk is unborn, or lives.
abbrev pub ChunksLiveOverRuns : Type 0 → Type 0
ChunksLiveOverRuns D = (seen : D → List ℕ) (failures : D → ℕ) (armed : DiskId → ℕ → MasterPlace D → MasterPlace D) (config : Config) (bytes : ReqId → List ℕ) (among : List ℕ → Bool)
    → EachLives seen failures armed config bytes among

-- From any world of a store on, the machine of each chunk that lives leads to the last.
abbrev pub ChunksLiveOnward : Type 0 → Type 0
ChunksLiveOnward D = (seen : D → List ℕ) (failures : D → ℕ) (armed : DiskId → ℕ → MasterPlace D → MasterPlace D) (config : Config) (bytes : ReqId → List ℕ) (among : List ℕ → Bool)
    → StoresRun seen failures armed config bytes among

-- ---- lists beside the nodes
-- The edits of each live replica are the first ones of a list, where lists agree with the machine.
abbrev pub ReplicasStandForLists : Type 0
ReplicasStandForLists = (list : Lists) (copied : Option (ℕ × Stamp)) (chunk : ℕ) (b : Birth) (w : ChunkWorld) (me : ℕ) (edits : List Edit) → Leads (world_of b) w
    → ListsShow list copied chunk b w → 0 < (w.members me).promise → (w.members me).live ≡ Some edits → BeginsList list copied chunk edits

-- What is settled by such lists and counts is what is settled in the machine.
abbrev pub ListsTellWhatIsSettled : Type 0
ListsTellWhatIsSettled = (list : Lists) (reached : ℕ → ℕ → Stamp → ℕ) (copied : Option (ℕ × Stamp)) (chunk : ℕ) (b : Birth) (w : ChunkWorld) (view : View)
    → ListsShow list copied chunk b w → CountsShow reached chunk w → ShowsView view w.entry.view → w.entry.is_known ≡ true → w.known.stood w.entry.view.stamp ≡ true
    → w.known.born < w.entry.view.stamp → settled_in list reached chunk view ≡ settled w

-- ---- requests
-- In a new store clients have asked nothing.
abbrev pub NewStoresAreUnasked : Type 0 → Type 0
NewStoresAreUnasked D = (seen : D → List ℕ) (failures : D → ℕ) (armed : DiskId → ℕ → MasterPlace D → MasterPlace D) (config : Config) (clients : ℕ) (disks : D × D) (begun : History D)
    → standing (seen disks.0) (seen disks.1) ≡ fresh → Begins seen failures armed config clients disks begun → AreAskedIn (λ id. []) begun

-- ---- edits that are told done
-- In a new store each edit that is told done is done in a machine.
abbrev pub FirstAnswersAreDone : Type 0 → Type 0
FirstAnswersAreDone D = (seen : D → List ℕ) (failures : D → ℕ) (armed : DiskId → ℕ → MasterPlace D → MasterPlace D) (config : Config) (bytes : ReqId → List ℕ) (asked : ℕ → Asked)
    → AnswersBegin seen failures armed config bytes asked

-- So it is behind each step by which all chunks go on.
abbrev pub FurtherAnswersAreDone : Type 0 → Type 0
FurtherAnswersAreDone D = (seen : D → List ℕ) (failures : D → ℕ) (armed : DiskId → ℕ → MasterPlace D → MasterPlace D) (config : Config) (bytes : ReqId → List ℕ) (asked : ℕ → Asked)
    → AnswersGoOn seen failures armed config bytes asked

-- ---- what clients have asked and were told
-- In a new store what clients have asked and were told agrees with the machines.
abbrev pub TellingBeginsWithMachines : Type 0 → Type 0
TellingBeginsWithMachines D = (seen : D → List ℕ) (failures : D → ℕ) (armed : DiskId → ℕ → MasterPlace D → MasterPlace D) (config : Config) (bytes : ReqId → List ℕ) (among : List ℕ → Bool) (asked : ℕ → Asked)
    → StoresTellFirst seen failures armed config bytes among asked

-- So it does behind each step at which no disk fails.
abbrev pub TellingGoesWithMachines : Type 0 → Type 0
TellingGoesWithMachines D = (seen : D → List ℕ) (failures : D → ℕ) (armed : DiskId → ℕ → MasterPlace D → MasterPlace D) (config : Config) (bytes : ReqId → List ℕ) (among : List ℕ → Bool) (asked : ℕ → Asked)
    → StoresTellOn seen failures armed config bytes among asked

-- And over each such run.
abbrev pub TellingRunsWithMachines : Type 0 → Type 0
TellingRunsWithMachines D = (seen : D → List ℕ) (failures : D → ℕ) (armed : DiskId → ℕ → MasterPlace D → MasterPlace D) (config : Config) (bytes : ReqId → List ℕ) (among : List ℕ → Bool) (asked : ℕ → Asked)
    → StoresTellRun seen failures armed config bytes among asked

-- ---- whatever disks fail
-- At each step all chunks go on with their machines, whatever disk fails.
abbrev pub ChunksGoOnWhateverFails : Type 0 → Type 0
ChunksGoOnWhateverFails D = (seen : D → List ℕ) (failures : D → ℕ) (armed : DiskId → ℕ → MasterPlace D → MasterPlace D) (config : Config) (bytes : ReqId → List ℕ) (among : List ℕ → Bool)
    → StoresGoAll seen failures armed config bytes among

-- Over each run from a new store on, each chunk is unborn, or lives.
abbrev pub ChunksLiveWhateverFails : Type 0 → Type 0
ChunksLiveWhateverFails D = (seen : D → List ℕ) (failures : D → ℕ) (armed : DiskId → ℕ → MasterPlace D → MasterPlace D) (config : Config) (bytes : ReqId → List ℕ) (among : List ℕ → Bool)
    → EachLivesAll seen failures armed config bytes among

-- From any world of a store on, the machine of each chunk that lives leads to the last.
abbrev pub ChunksLiveOnWhateverFails : Type 0 → Type 0
ChunksLiveOnWhateverFails D = (seen : D → List ℕ) (failures : D → ℕ) (armed : DiskId → ℕ → MasterPlace D → MasterPlace D) (config : Config) (bytes : ReqId → List ℕ) (among : List ℕ → Bool)
    → StoresRunAll seen failures armed config bytes among

-- In a new store what clients have asked and were told agrees with the machines.
abbrev pub TellingBeginsWhateverFails : Type 0 → Type 0
TellingBeginsWhateverFails D = (seen : D → List ℕ) (failures : D → ℕ) (armed : DiskId → ℕ → MasterPlace D → MasterPlace D) (config : Config) (bytes : ReqId → List ℕ) (among : List ℕ → Bool) (asked : ℕ → Asked)
    → StoresTellFirstAll seen failures armed config bytes among asked

-- So it does behind each step, whatever disk fails.
abbrev pub TellingGoesOnWhateverFails : Type 0 → Type 0
TellingGoesOnWhateverFails D = (seen : D → List ℕ) (failures : D → ℕ) (armed : DiskId → ℕ → MasterPlace D → MasterPlace D) (config : Config) (bytes : ReqId → List ℕ) (among : List ℕ → Bool) (asked : ℕ → Asked)
    → StoresTellOnAll seen failures armed config bytes among asked

-- And over each run.
abbrev pub TellingRunsWhateverFails : Type 0 → Type 0
TellingRunsWhateverFails D = (seen : D → List ℕ) (failures : D → ℕ) (armed : DiskId → ℕ → MasterPlace D → MasterPlace D) (config : Config) (bytes : ReqId → List ℕ) (among : List ℕ → Bool) (asked : ℕ → Asked)
    → StoresTellRunAll seen failures armed config bytes among asked
