-- What the laws of runs of a store say.
use Rattle.std.specs.Prelude.{◌≡◌, ℕ, true, false, List, Result, Some, slice_get}
use Rattle.gs_base.specs.declared.config.Config.{Config}
use Rattle.gs_base.specs.declared.numbers.Moment.{Moment}
use Rattle.gs_base.specs.declared.refusal.Refusal.{Refusal}
use Rattle.gs_msg.specs.declared.event.DiskId.{DiskId}
use Rattle.gs_msg.specs.declared.event.Event.{Event}
use Rattle.gs_msg.specs.declared.message.Message.{Message}
use Rattle.gs_msg.specs.declared.node.NodeId.{NodeId}
use Rattle.gs_nodes.specs.declared.place.MasterPlace.{MasterPlace}
use Rattle.gs_server.specs.Runs as at_server
use Rattle.gs_server.specs.Servers.{Server}
use Rattle.gs_world.specs.Histories.{History}
use Rattle.gs_world.specs.Runs.{GoesOn, HappensAll, IsReached, RunsTo, SameNodes, StaySent, Step, all_come}
use Rattle.gs_world.specs.Sent.{AllPosted, IsPosted, Sent}

-- ---- what was sent
-- In each run what was sent stays sent.
abbrev pub RunsKeepWhatWasSent : Type 0 → Type 0
RunsKeepWhatWasSent D = (seen : D → List ℕ) (failures : D → ℕ) (armed : DiskId → ℕ → MasterPlace D → MasterPlace D) (steps : List Step) (old new : History D)
    → RunsTo seen failures armed steps old new → StaySent old.sent new.sent

-- And there are as many nodes as before.
abbrev pub RunsKeepTheNodes : Type 0 → Type 0
RunsKeepTheNodes D = (seen : D → List ℕ) (failures : D → ℕ) (armed : DiskId → ℕ → MasterPlace D → MasterPlace D) (steps : List Step) (old new : History D)
    → RunsTo seen failures armed steps old new → SameNodes old.nodes new.nodes

-- Where none was lost, all messages of an event stand behind what was sent.
abbrev pub AllStandWhereNoneIsLost : Type 0
AllStandWhereNoneIsLost = (moment : Moment) (by : NodeId) (messages : List Message) (old new : Sent) → IsPosted moment by messages old new → new.has_lost ≡ false
    → AllPosted moment by messages old new

-- In each run it stays told that one was lost.
abbrev pub RunsKeepThatOneWasLost : Type 0 → Type 0
RunsKeepThatOneWasLost D = (seen : D → List ℕ) (failures : D → ℕ) (armed : DiskId → ℕ → MasterPlace D → MasterPlace D) (steps : List Step) (old new : History D)
    → RunsTo seen failures armed steps old new → old.sent.has_lost ≡ true → new.sent.has_lost ≡ true

-- ---- what happens
-- Events that happen one after the other are steps.
abbrev pub EventsAreSteps : Type 0 → Type 0
EventsAreSteps D = (seen : D → List ℕ) (failures : D → ℕ) (armed : DiskId → ℕ → MasterPlace D → MasterPlace D) (events : List Event) (said : List (Result (Unit {0}) Refusal)) (old new : History D)
    → HappensAll seen failures armed events said old new → RunsTo seen failures armed (all_come events) old new

-- In each run each server goes on by events of its own.
abbrev pub ServersGoOn : Type 0 → Type 0
ServersGoOn D = (seen : D → List ℕ) (failures : D → ℕ) (armed : DiskId → ℕ → MasterPlace D → MasterPlace D) (steps : List Step) (old new : History D)
    → RunsTo seen failures armed steps old new → (id : ℕ) → GoesOn id old new

-- Each server of a store that has begun new has begun with nothing, and is behind events of its own.
abbrev pub ServersAreReached : Type 0 → Type 0
ServersAreReached D = (seen : D → List ℕ) (failures : D → ℕ) (armed : DiskId → ℕ → MasterPlace D → MasterPlace D) (config : Config) (clients : ℕ) (disks : D × D) (now : History D) (id : ℕ) (s : Server)
    → IsReached seen failures armed config clients disks now → slice_get now.nodes.servers id ≡ Some s → at_server.IsReached s
