-- What stands at the master whatever disks of it fail, and what they tell then.
use Rattle.std.specs.Prelude.{◌≡◌, ◌⊎◌, ◌≤◌, ℕ, Bool, MatchBool, false, not, List, length, take, Some, refl}
use Rattle.std.proofs.Common.{inl}
use Rattle.gs_base.specs.declared.numbers.ClientId.{ClientId}
use Rattle.gs_base.specs.declared.numbers.Moment.{Moment}
use Rattle.gs_journal.specs.Records.{standing}
use Rattle.gs_master.specs.Journaled.{text_seen}
use Rattle.gs_master.specs.Masters.{MasterOf}
use Rattle.gs_master.specs.Ticking.{lacking, pressed_all}
use Rattle.gs_master_spec.specs.Applied.{replayed}
use Rattle.gs_master_spec.specs.Durable.{Durable}
use Rattle.gs_master_spec.specs.Handling.{handle, tick}
use Rattle.gs_master_spec.specs.State.{Turn, is_failed}
use Rattle.gs_msg.specs.declared.event.Happening.{Happening}
use Rattle.gs_msg.specs.declared.event.Happening.TheVariants as happenings
use Rattle.gs_msg.specs.declared.message.Message.{Message}
use Rattle.gs_msg.specs.declared.node.NodeId.TheVariants as ids
use Rattle.gs_msg.specs.declared.node.StoreNode.TheVariants as keepers
use Rattle.gs_nodes.specs.declared.place.MasterPlace.{MasterPlace}
use Rattle.gs_nodes.specs.declared.place.MasterPlace.TheVariants.{Standing, Closed, Away}
use Rattle.gs_world.specs.Histories.{History}
use Rattle.gs_laws_world.specs.lasting.Lasting.{IsToldIn}
use Rattle.gs_world.specs.Runs.{Step, Comes, Takes}
use Rattle.gs_world.specs.Sent.{message_of}
use Rattle.gs_laws_world.specs.steady.Steady.{StandsSteady, TellsSteady}

-- ---- the master

module _ {D : Type 0} (seen : D → List ℕ) where
  -- It stands steady while no disk of it has failed. Once one has, and where its disks wait, they tell something on which one is steady that is started again.
  abbrev pub LastsThrough : MasterPlace D → Type 0
  LastsThrough (Standing m) = MatchBool (is_failed m.state.fault) (TellsSteady (text_seen seen m.journal)) (StandsSteady seen m)
  LastsThrough (Closed first second) = TellsSteady (standing (seen first) (seen second))
  LastsThrough Away = ⊥

  -- what its disks tell
  abbrev pub TellsAt : MasterPlace D → Durable → Type 0
  TellsAt (Standing m) d = IsToldIn (text_seen seen m.journal) d
  TellsAt (Closed first second) d = IsToldIn (standing (seen first) (seen second)) d
  TellsAt Away d = ⊥

-- the master stands, and no disk of it has failed
abbrev pub is_sound_at : {D : Type 0} → MasterPlace D → Bool
is_sound_at (Standing m) = not (is_failed m.state.fault)
is_sound_at place = false

-- ---- a step

-- what a master that stands does of what happens: it handles a message, or ticks, with the checkpoint that is due or, where memory is wanting, without
abbrev pub Turns : {D : Type 0} → Moment → Happening → History D → MasterOf D → Turn → Type 0
Turns moment (happenings.Deliver id) old m t = (message : Message) × (message_of old.sent id ≡ Some message) × (message.to ≡ ids.Master) × (t ≡ handle m.config m.state message moment)
Turns moment (happenings.Tick keepers.Master) old m t = (t ≡ tick m.state moment) ⊎ (t ≡ lacking (pressed_all m.state moment))
Turns moment happening old m t = ⊥

abbrev pub TurnsAt : {D : Type 0} → Step → History D → MasterOf D → Turn → Type 0
TurnsAt (Comes event) old m t = Turns event.moment event.happening old m t
TurnsAt (Takes client) old m t = ⊥

-- A master of which no disk had failed has made such a turn, of which so many records stand, perhaps all; the others never were. So what was told leads to
-- what is told.
pub record StandsPart {D : Type 0} (Made : MasterOf D → Turn → Type 0) (old : MasterPlace D) (d e : Durable) : Type 0 where
  pub master : MasterOf D
  pub turn : Turn
  pub many : ℕ
  pub place : old ≡ Standing master
  pub sound : is_failed master.state.fault ≡ false
  pub made : Made master turn
  pub within : many ≤ length turn.records
  pub stand : replayed d (take many turn.records) ≡ Some e

-- what is told stays, or a part of a turn stands behind it
abbrev pub TellsOn : {D : Type 0} → (MasterOf D → Turn → Type 0) → MasterPlace D → Durable → Durable → Type 0
TellsOn Made old d e = (e ≡ d) ⊎ StandsPart Made old d e

-- ---- examples

what_is_taken_out_makes_no_turn : {D : Type 0} (old : History D) (m : MasterOf D) (t : Turn) (client : ClientId) → TurnsAt (Takes client) old m t → ⊥
what_is_taken_out_makes_no_turn old m t client none = none

nothing_happens : {D : Type 0} (Made : MasterOf D → Turn → Type 0) (old : MasterPlace D) (d : Durable) → TellsOn Made old d d
nothing_happens Made old d = inl refl
