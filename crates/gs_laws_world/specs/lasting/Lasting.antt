-- What stands at the master as long as no disk fails, and that its disks tell it.
use Rattle.std.specs.Prelude.{◌≡◌, ◌+◌, ℕ, false, List, [], ◌∷◌, map, Some}
use Rattle.std.specs.List.{AllByRecursion}
use Rattle.gs_base.specs.Told.{IsNumber}
use Rattle.gs_base.specs.declared.numbers.Moment.{Moment}
use Rattle.gs_journal.specs.Journal.{failures_of_both}
use Rattle.gs_journal.specs.Records.{Text, standing}
use Rattle.gs_journal.specs.declared.version.Version.TheVariants.{Two}
use Rattle.gs_laws_master.specs.Promises.{IsKept}
use Rattle.gs_laws_master.specs.Standing.{AreCounters, IsFirm, IsNamedBody}
use Rattle.gs_master.specs.Journaled.{IsAsSeen, IsLogOf}
use Rattle.gs_master.specs.Masters.{MasterOf}
use Rattle.gs_msg.specs.declared.event.DiskId.{DiskId}
use Rattle.gs_msg.specs.declared.event.Happening.{Happening}
use Rattle.gs_msg.specs.declared.event.Happening.TheVariants as happenings
use Rattle.gs_msg.specs.declared.message.Message.{Message}
use Rattle.gs_msg.specs.declared.node.NodeId.TheVariants as ids
use Rattle.gs_master_record.specs.Encoding.{encoded}
use Rattle.gs_master_record.specs.Plain.{PlainEntry}
use Rattle.gs_master_record.specs.Writable.{IsEntry}
use Rattle.gs_master_spec.specs.Applied.{replayed}
use Rattle.gs_master_spec.specs.Durable.{Durable, start}
use Rattle.gs_master_spec.specs.Handling.{restarted}
use Rattle.gs_master_spec.specs.State.{is_failed}
use Rattle.gs_nodes.specs.declared.place.MasterPlace.{MasterPlace}
use Rattle.gs_nodes.specs.declared.place.MasterPlace.TheVariants.{Standing, Closed, Away}
use Rattle.gs_world.specs.Histories.{History}
use Rattle.gs_world.specs.Runs.{Goes, Step, Comes, Takes}
use Rattle.gs_world.specs.Sent.{message_of}

-- ---- what disks tell

-- the records of a text can be read again, and lead to this from a new store
pub record IsToldIn (text : Text) (d : Durable) : Type 0 where
  pub entries : List PlainEntry
  pub records : text ≡ (Two, map (encoded Two) entries)
  pub are_entries : AllByRecursion (IsEntry Two) entries
  pub replays : replayed start entries ≡ Some d

-- they lead to something that a master may stand on
pub record TellsAMaster (text : Text) : Type 0 where
  pub durable : Durable
  pub kept : IsKept durable
  pub counters : AreCounters durable
  pub told : IsToldIn text durable

-- ---- the master

module _ {D : Type 0} (seen : D → List ℕ) where
  -- No disk has failed. The master is firm, its journal is as its disks are seen, it knows its room, and the records tell what is durable.
  pub record StandsFirm (m : MasterOf D) : Type 0 where
    pub sound : is_failed m.state.fault ≡ false
    pub firm : IsFirm m.state
    pub as_seen : IsAsSeen seen m.journal
    pub known : IsLogOf m.state.log m.journal
    pub told : IsToldIn m.journal.text m.state.durable

  -- the master stands firm, or its disks wait, and tell one
  abbrev pub Lasts : MasterPlace D → Type 0
  Lasts (Standing m) = StandsFirm m
  Lasts (Closed first second) = TellsAMaster (standing (seen first) (seen second))
  Lasts Away = ⊥

  -- a master stands firm, as a restart leaves it on this: nothing is asked, and no call waits
  abbrev pub OpensAs : Durable → MasterPlace D → Type 0
  OpensAs d new = (after : MasterOf D) × (new ≡ Standing after) × (after.state ≡ restarted d after.state.log) × StandsFirm after

  -- disks wait that tell this
  abbrev pub WaitsAs : Durable → MasterPlace D → Type 0
  WaitsAs d new = (first second : D) × (new ≡ Closed first second) × IsToldIn (standing (seen first) (seen second)) d

-- ---- a run in which no disk fails

-- how often the disks of the master have failed
abbrev pub failures_at : {D : Type 0} → (D → ℕ) → MasterPlace D → ℕ
failures_at failures (Standing m) = failures_of_both failures m.journal
failures_at failures (Closed first second) = failures first + failures second
failures_at failures Away = 0

-- what the master hears names paths by the rules, and numbers of 64 bits
abbrev pub HearsNamed : {D : Type 0} → Moment → Happening → History D → Type 0
HearsNamed moment (happenings.Deliver id) old =
    (message : Message) → message_of old.sent id ≡ Some message → message.to ≡ ids.Master → IsNamedBody message.body × IsNumber moment.0
HearsNamed moment happening old = Unit {0}

abbrev pub StepNamed : {D : Type 0} → Step → History D → Type 0
StepNamed (Comes event) old = HearsNamed event.moment event.happening old
StepNamed (Takes client) old = Unit {0}

module _ {D : Type 0} (seen : D → List ℕ) (failures : D → ℕ) (armed : DiskId → ℕ → MasterPlace D → MasterPlace D) where
  -- steps one after the other, in none of which a disk of the master fails
  abbrev pub RunsSoundly : List Step → History D → History D → Type 0
  RunsSoundly [] old new = new ≡ old
  RunsSoundly (step ∷ steps) old new =
      (mid : History D) × Goes seen failures armed step old mid × StepNamed step old × (failures_at failures mid.nodes.master ≡ failures_at failures old.nodes.master) × RunsSoundly steps mid new
