-- What stands at the master as long as no disk fails and what it hears is within its types, and that its disks tell it.
use Rattle.std.specs.Prelude.{◌≡◌, ◌≤◌, ◌<◌, ◌^◌, ℕ, List, [], ◌∷◌, Some}
use Rattle.gs_journal.specs.Journal.{text_size}
use Rattle.gs_journal.specs.Records.{Text, standing}
use Rattle.gs_laws_master.specs.Written.{IsHeardBody, IsSteady}
use Rattle.gs_master.specs.Masters.{MasterOf}
use Rattle.gs_msg.specs.declared.body.Body.{Body}
use Rattle.gs_msg.specs.declared.event.DiskId.{DiskId}
use Rattle.gs_msg.specs.declared.event.Happening.{Happening}
use Rattle.gs_msg.specs.declared.event.Happening.TheVariants as happenings
use Rattle.gs_msg.specs.declared.message.Message.{Message}
use Rattle.gs_msg.specs.declared.node.NodeId.TheVariants as ids
use Rattle.gs_master_spec.specs.Durable.{Durable}
use Rattle.gs_master_spec.specs.Handling.{restarted}
use Rattle.gs_master_spec.specs.State.{Log}
use Rattle.gs_nodes.specs.Happenings.{limit}
use Rattle.gs_nodes.specs.declared.place.MasterPlace.{MasterPlace}
use Rattle.gs_nodes.specs.declared.place.MasterPlace.TheVariants.{Standing, Closed, Away}
use Rattle.gs_world.specs.Histories.{History}
use Rattle.gs_laws_world.specs.lasting.Lasting.{IsToldIn, StandsFirm, StepNamed, failures_at}
use Rattle.gs_world.specs.Runs.{Goes, Step, Comes, Takes}
use Rattle.gs_world.specs.Sent.{message_of}

-- ---- what disks tell

-- The records of a text lead to something on which a restarted master is steady, whatever log within a limit of 32 bits it has; and the text has
-- no more bytes than a disk of the master may have.
pub record TellsSteady (text : Text) : Type 0 where
  pub durable : Durable
  pub told : IsToldIn text durable
  pub steady : (log : Log) → log.size ≤ log.limit → log.limit < 2 ^ 32 → IsSteady (restarted durable log)
  pub within : text_size text ≤ limit

-- ---- the master

module _ {D : Type 0} (seen : D → List ℕ) where
  -- The master stands firm, and all that it keeps is within its types. Its disks may have as many bytes as every opening gives them.
  pub record StandsSteady (m : MasterOf D) : Type 0 where
    pub firm : StandsFirm seen m
    pub steady : IsSteady m.state
    pub bound : m.state.log.limit ≡ limit

  -- the master stands so, or its disks wait, and tell one
  abbrev pub LastsSteady : MasterPlace D → Type 0
  LastsSteady (Standing m) = StandsSteady m
  LastsSteady (Closed first second) = TellsSteady (standing (seen first) (seen second))
  LastsSteady Away = ⊥

-- ---- a run in which no disk fails, and all that the master hears is within its types

-- where a master stands, its names being what a call may meet
abbrev pub IsHeardAt : {D : Type 0} → MasterPlace D → Body → Type 0
IsHeardAt (Standing m) body = IsHeardBody m.state.durable.names body
IsHeardAt place body = Unit {0}

abbrev pub HearsWithin : {D : Type 0} → Happening → History D → Type 0
HearsWithin (happenings.Deliver id) old = (message : Message) → message_of old.sent id ≡ Some message → message.to ≡ ids.Master → IsHeardAt old.nodes.master message.body
HearsWithin happening old = Unit {0}

-- what the master hears names paths by the rules and numbers of 64 bits, and its request and what it meets are within their types
abbrev pub StepWithin : {D : Type 0} → Step → History D → Type 0
StepWithin (Comes event) old = StepNamed (Comes event) old × HearsWithin event.happening old
StepWithin (Takes client) old = Unit {0}

module _ {D : Type 0} (seen : D → List ℕ) (failures : D → ℕ) (armed : DiskId → ℕ → MasterPlace D → MasterPlace D) where
  -- steps one after the other, in none of which a disk of the master fails
  abbrev pub RunsSteadily : List Step → History D → History D → Type 0
  RunsSteadily [] old new = new ≡ old
  RunsSteadily (step ∷ steps) old new =
      (mid : History D) × Goes seen failures armed step old mid × StepWithin step old × (failures_at failures mid.nodes.master ≡ failures_at failures old.nodes.master) × RunsSteadily steps mid new
