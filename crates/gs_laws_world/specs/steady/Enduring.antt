-- What the master of a store refuses, in a run in which no disk of it fails.
use Rattle.std.specs.Prelude.{◌≡◌, ℕ, List, [], ◌∷◌, Some, Err}
use Rattle.gs_base.specs.declared.refusal.Refusal.{Refusal}
use Rattle.gs_base.specs.declared.refusal.Refusal.TheVariants as refusals
use Rattle.gs_msg.specs.declared.event.DiskId.{DiskId}
use Rattle.gs_msg.specs.declared.event.Happening.{Happening}
use Rattle.gs_msg.specs.declared.event.Happening.TheVariants as happenings
use Rattle.gs_msg.specs.declared.message.Message.{Message}
use Rattle.gs_msg.specs.declared.node.NodeId.TheVariants as nodes
use Rattle.gs_msg.specs.declared.node.StoreNode.TheVariants as keepers
use Rattle.gs_nodes.specs.declared.place.MasterPlace.{MasterPlace}
use Rattle.gs_world.specs.Histories.{History, Upshot}
use Rattle.gs_world.specs.Runs.{Goes, Step, Comes, Takes}
use Rattle.gs_world.specs.Sent.{message_of}
use Rattle.gs_laws_world.specs.steady.Saying.{RunsQuietly}

-- of a message that the master is sent, and of its tick, an event is refused for want of memory alone
abbrev pub IsForMemory : {D : Type 0} → Happening → History D → Upshot → Type 0
IsForMemory (happenings.Deliver id) old outcome =
    (message : Message) (e : Refusal) → message_of old.sent id ≡ Some message → message.to ≡ nodes.Master → outcome ≡ Err e → e ≡ refusals.Memory
IsForMemory (happenings.Tick keepers.Master) old outcome = (e : Refusal) → outcome ≡ Err e → e ≡ refusals.Memory
IsForMemory happening old outcome = Unit {0}

module _ {D : Type 0} (seen : D → List ℕ) (failures : D → ℕ) (armed : DiskId → ℕ → MasterPlace D → MasterPlace D) where
  -- so is a step
  abbrev pub GoesForMemory : (step : Step) (old new : History D) → Goes seen failures armed step old new → Type 0
  GoesForMemory (Comes event) old new (said, happens) = IsForMemory event.happening old happens.outcome
  GoesForMemory (Takes client) old new goes = Unit {0}

  -- so is each step of a run
  abbrev pub RunsForMemory : (steps : List Step) (old new : History D) → RunsQuietly seen failures armed steps old new → Type 0
  RunsForMemory [] old new runs = Unit {0}
  RunsForMemory (step ∷ steps) old new (mid, goes, quiet, rest) = GoesForMemory step old mid goes × RunsForMemory steps mid new rest
