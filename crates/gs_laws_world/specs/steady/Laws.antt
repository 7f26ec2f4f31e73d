-- What the laws of a steady master of a store say.
use Rattle.std.specs.Prelude.{◌≡◌, ◌≤◌, ◌<◌, ◌^◌, ℕ, Err, List, Ok}
use Rattle.std.specs.List.{AllByRecursion}
use Rattle.gs_base.specs.Told.{IsNumber}
use Rattle.gs_base.specs.declared.config.Config.{Config}
use Rattle.gs_base.specs.declared.numbers.Moment.{Moment}
use Rattle.gs_base.specs.declared.refusal.Refusal.{Refusal}
use Rattle.gs_journal.specs.Faults.{Failing}
use Rattle.gs_journal.specs.Records.{fresh, standing}
use Rattle.gs_laws_master.specs.Standing.{IsNamedBody}
use Rattle.gs_laws_master.specs.Written.{IsHeardBody, IsSteady}
use Rattle.gs_master.specs.Masters.{MasterOf}
use Rattle.gs_master.specs.Ticking.{pressed_all}
use Rattle.gs_msg.specs.declared.event.DiskId.{DiskId}
use Rattle.gs_msg.specs.declared.message.Message.{Message}
use Rattle.gs_world.specs.Histories.{Begins, History, arms, failures_of, seen_of}
use Rattle.gs_laws_world.specs.lasting.Lasting.{OpensAs, StandsFirm, WaitsAs}
use Rattle.gs_world.specs.Runs.{Goes, RunsTo, Step}
use Rattle.gs_world.specs.Sent.{IsSent}
use Rattle.gs_master.specs.declared.turn.Turn.{Turn}
use Rattle.gs_master_spec.specs.Durable.{Durable}
use Rattle.gs_master_spec.specs.Handling.{handle}
use Rattle.gs_laws_world.specs.steady.Enduring.{RunsForMemory}
use Rattle.gs_laws_world.specs.steady.Refusing.{RefusesAlone}
use Rattle.gs_laws_world.specs.steady.Saying.{IsStepWithin, KeepsTypes, RunsQuietly}
use Rattle.gs_laws_world.specs.steady.Steady.{LastsSteady, RunsSteadily}
use Rattle.gs_laws_world.specs.steady.Through.{LastsThrough, TellsAt, TellsOn, TurnsAt}
use Rattle.gs_nodes.specs.Happenings.{MasterHears, MasterTicks, Reopens}
use Rattle.gs_nodes.specs.declared.place.MasterPlace.{MasterPlace}
use Rattle.gs_nodes.specs.declared.place.MasterPlace.TheVariants.{Standing}
use Rattle.gs_base.specs.declared.refusal.Refusal.TheVariants as refusals
use Rattle.gs_msg.specs.declared.node.NodeId.TheVariants as nodes

-- ---- what a master refuses
-- A firm master refuses a message for memory alone, or where a record of it cannot be written.
abbrev pub FirmMastersRefuseMessagesForMemory : Type 0 → Type 0
FirmMastersRefuseMessagesForMemory D = (seen : D → List ℕ) (failures : D → ℕ) (message : Message) (moment : Moment) (m : MasterOf D) (e : Refusal) (new : MasterPlace D)
    → StandsFirm seen m → m.state.log.size ≤ m.state.log.limit → IsNamedBody message.body × IsNumber moment.0
    → MasterHears seen failures message moment (Standing m) (Err e) new → RefusesAlone (handle m.config m.state message moment) e

-- So it does with a tick.
abbrev pub FirmMastersRefuseTicksForMemory : Type 0 → Type 0
FirmMastersRefuseTicksForMemory D = (seen : D → List ℕ) (failures : D → ℕ) (moment : Moment) (m : MasterOf D) (e : Refusal) (new : MasterPlace D) → StandsFirm seen m
    → m.state.log.size ≤ m.state.log.limit → MasterTicks seen failures moment (Standing m) (Err e) new → RefusesAlone (pressed_all m.state moment) e

-- A steady master refuses a message within its types for memory alone.
abbrev pub SteadyMastersRefuseMessagesForMemory : Type 0 → Type 0
SteadyMastersRefuseMessagesForMemory D = (seen : D → List ℕ) (failures : D → ℕ) (message : Message) (moment : Moment) (m : MasterOf D) (e : Refusal) (new : MasterPlace D)
    → StandsFirm seen m → IsSteady m.state → IsNamedBody message.body × IsNumber moment.0 → IsHeardBody m.state.durable.names message.body
    → MasterHears seen failures message moment (Standing m) (Err e) new → e ≡ refusals.Memory

-- So it does with a tick.
abbrev pub SteadyMastersRefuseTicksForMemory : Type 0 → Type 0
SteadyMastersRefuseTicksForMemory D = (seen : D → List ℕ) (failures : D → ℕ) (moment : Moment) (m : MasterOf D) (e : Refusal) (new : MasterPlace D) → StandsFirm seen m
    → IsSteady m.state → MasterTicks seen failures moment (Standing m) (Err e) new → e ≡ refusals.Memory

-- ---- a steady master
-- Over disks that say nothing a store begins with a steady master.
abbrev pub NewStoresAreSteady : Type 0 → Type 0
NewStoresAreSteady D = (seen : D → List ℕ) (failures : D → ℕ) (armed : DiskId → ℕ → MasterPlace D → MasterPlace D) (config : Config) (clients : ℕ) (disks : D × D) (new : History D)
    → standing (seen disks.0) (seen disks.1) ≡ fresh → Begins seen failures armed config clients disks new → LastsSteady seen new.nodes.master

-- It is steady behind each run in which no disk fails and all is heard within its types.
abbrev pub SteadyRunsStaySteady : Type 0 → Type 0
SteadyRunsStaySteady D = (seen : D → List ℕ) (failures : D → ℕ) (steps : List Step) (old new : History (Failing D))
    → RunsSteadily (seen_of seen) (failures_of failures) arms steps old new → LastsSteady (seen_of seen) old.nodes.master → LastsSteady (seen_of seen) new.nodes.master

-- So it is where no failure can be made to come.
abbrev pub UnarmedSteadyRunsStaySteady : Type 0 → Type 0
UnarmedSteadyRunsStaySteady D = (seen : D → List ℕ) (failures : D → ℕ) (armed : DiskId → ℕ → MasterPlace D → MasterPlace D) (steps : List Step) (old new : History D)
    → ((disk : DiskId) (call : ℕ) (place : MasterPlace D) → armed disk call place ≡ place) → RunsSteadily seen failures armed steps old new
    → LastsSteady seen old.nodes.master → LastsSteady seen new.nodes.master

-- ---- a store that is asked within its types
-- A new store of fewer than 2 to the 32 clients keeps its types.
abbrev pub NewStoresKeepTypes : Type 0 → Type 0
NewStoresKeepTypes D = (seen : D → List ℕ) (failures : D → ℕ) (armed : DiskId → ℕ → MasterPlace D → MasterPlace D) (config : Config) (clients : ℕ) (disks : D × D) (new : History D)
    → clients < 2 ^ 32 → Begins seen failures armed config clients disks new → KeepsTypes new

-- It keeps them over each run that is asked within its types.
abbrev pub RunsKeepTypes : Type 0 → Type 0
RunsKeepTypes D = (seen : D → List ℕ) (failures : D → ℕ) (armed : DiskId → ℕ → MasterPlace D → MasterPlace D) (steps : List Step) (old new : History D)
    → RunsTo seen failures armed steps old new → AllByRecursion IsStepWithin steps → KeepsTypes old → KeepsTypes new

-- If no disk fails in such a run, its master hears all within its types.
abbrev pub QuietRunsHearWithinTypes : Type 0 → Type 0
QuietRunsHearWithinTypes D = (seen : D → List ℕ) (failures : D → ℕ) (armed : DiskId → ℕ → MasterPlace D → MasterPlace D) (steps : List Step) (old new : History D)
    → RunsQuietly seen failures armed steps old new → AllByRecursion IsStepWithin steps → KeepsTypes old → RunsSteadily seen failures armed steps old new

-- ---- its master
-- Behind each run that is asked within its types and in which no disk fails, the master is steady.
abbrev pub QuietRunsStaySteady : Type 0 → Type 0
QuietRunsStaySteady D = (seen : D → List ℕ) (failures : D → ℕ) (steps : List Step) (old new : History (Failing D))
    → RunsQuietly (seen_of seen) (failures_of failures) arms steps old new → AllByRecursion IsStepWithin steps → KeepsTypes old
    → LastsSteady (seen_of seen) old.nodes.master → LastsSteady (seen_of seen) new.nodes.master

-- So it is where no failure can be made to come.
abbrev pub UnarmedQuietRunsStaySteady : Type 0 → Type 0
UnarmedQuietRunsStaySteady D = (seen : D → List ℕ) (failures : D → ℕ) (armed : DiskId → ℕ → MasterPlace D → MasterPlace D) (steps : List Step) (old new : History D)
    → ((disk : DiskId) (call : ℕ) (place : MasterPlace D) → armed disk call place ≡ place) → RunsQuietly seen failures armed steps old new
    → AllByRecursion IsStepWithin steps → KeepsTypes old → LastsSteady seen old.nodes.master → LastsSteady seen new.nodes.master

-- It refuses what it is sent for memory alone.
abbrev pub SentMessagesAreRefusedForMemory : Type 0 → Type 0
SentMessagesAreRefusedForMemory D = (seen : D → List ℕ) (failures : D → ℕ) (h : History D) (message : Message) (moment : Moment) (e : Refusal) (new : MasterPlace D)
    → KeepsTypes h → LastsSteady seen h.nodes.master → IsSent message h.sent → message.to ≡ nodes.Master → IsNumber moment.0
    → MasterHears seen failures message moment h.nodes.master (Err e) new → e ≡ refusals.Memory

-- So it does with a tick.
abbrev pub TicksAreRefusedForMemory : Type 0 → Type 0
TicksAreRefusedForMemory D = (seen : D → List ℕ) (failures : D → ℕ) (h : History D) (moment : Moment) (e : Refusal) (new : MasterPlace D)
    → LastsSteady seen h.nodes.master → MasterTicks seen failures moment h.nodes.master (Err e) new → e ≡ refusals.Memory

-- What is refused at a step of such a run is refused for memory alone.
abbrev pub QuietRunsRefuseForMemory : Type 0 → Type 0
QuietRunsRefuseForMemory D = (seen : D → List ℕ) (failures : D → ℕ) (steps : List Step) (old new : History (Failing D)) (runs : RunsQuietly (seen_of seen) (failures_of failures) arms steps old new)
    → AllByRecursion IsStepWithin steps → KeepsTypes old → LastsSteady (seen_of seen) old.nodes.master
    → RunsForMemory (seen_of seen) (failures_of failures) arms steps old new runs

-- ---- failures of disks
-- Over disks that say nothing a store begins with a master that lasts through failures.
abbrev pub NewStoresLastThrough : Type 0 → Type 0
NewStoresLastThrough D = (seen : D → List ℕ) (failures : D → ℕ) (armed : DiskId → ℕ → MasterPlace D → MasterPlace D) (config : Config) (clients : ℕ) (disks : D × D) (new : History D)
    → standing (seen disks.0) (seen disks.1) ≡ fresh → Begins seen failures armed config clients disks new → LastsThrough seen new.nodes.master

-- It lasts through each run that is asked within its types.
abbrev pub RunsLastThrough : Type 0 → Type 0
RunsLastThrough D = (seen : D → List ℕ) (failures : D → ℕ) (steps : List Step) (old new : History (Failing D))
    → RunsTo (seen_of seen) (failures_of failures) arms steps old new → AllByRecursion IsStepWithin steps → KeepsTypes old → LastsThrough (seen_of seen) old.nodes.master
    → LastsThrough (seen_of seen) new.nodes.master

-- So it does where no failure can be made to come.
abbrev pub UnarmedRunsLastThrough : Type 0 → Type 0
UnarmedRunsLastThrough D = (seen : D → List ℕ) (failures : D → ℕ) (armed : DiskId → ℕ → MasterPlace D → MasterPlace D) (steps : List Step) (old new : History D)
    → ((disk : DiskId) (call : ℕ) (place : MasterPlace D) → armed disk call place ≡ place) → RunsTo seen failures armed steps old new → AllByRecursion IsStepWithin steps
    → KeepsTypes old → LastsThrough seen old.nodes.master → LastsThrough seen new.nodes.master

-- Behind a step the disks tell what they told, or that with the first records of a turn of the master.
abbrev pub StepsTellOn : Type 0 → Type 0
StepsTellOn D = (seen : D → List ℕ) (failures : D → ℕ) (step : Step) (old new : History (Failing D)) (d : Durable)
    → Goes (seen_of seen) (failures_of failures) arms step old new → IsStepWithin step → KeepsTypes old → LastsThrough (seen_of seen) old.nodes.master
    → TellsAt (seen_of seen) old.nodes.master d → (e : Durable) × TellsAt (seen_of seen) new.nodes.master e × TellsOn (TurnsAt step old) old.nodes.master d e

-- A restart behind it opens what the disks tell.
abbrev pub RestartsOpenWhatIsTold : Type 0 → Type 0
RestartsOpenWhatIsTold D = (seen : D → List ℕ) (failures : D → ℕ) (config : Config) (place : MasterPlace D) (d : Durable) (turn : Turn) (new : MasterPlace D)
    → LastsThrough seen place → TellsAt seen place d → Reopens seen failures config place (Ok turn) new → OpensAs seen d new

-- Or the disks wait, and tell what they told.
abbrev pub RestartsWaitForWhatIsTold : Type 0 → Type 0
RestartsWaitForWhatIsTold D = (seen : D → List ℕ) (failures : D → ℕ) (config : Config) (place : MasterPlace D) (d : Durable) (e : Refusal) (new : MasterPlace D)
    → LastsThrough seen place → TellsAt seen place d → Reopens seen failures config place (Err e) new → WaitsAs seen d new
