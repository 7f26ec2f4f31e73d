-- The records that the master is to write at a step.
use Rattle.std.specs.Prelude.{[], ◌++◌, ◌∷◌, ◌≡◌, ◌⊎◌, List, Option, Some, refl, take, ℕ}
use Rattle.std.proofs.Common.{inl, inr}
use Rattle.gs_base.specs.declared.numbers.ClientId.{ClientId}
use Rattle.gs_base.specs.declared.numbers.Moment.{Moment}
use Rattle.gs_master_record.specs.Plain.{PlainCheckpoint, PlainEntry, Whole}
use Rattle.gs_master_spec.specs.Handling.{handle, tick}
use Rattle.gs_msg.specs.declared.event.Happening.{Happening}
use Rattle.gs_msg.specs.declared.event.Happening.TheVariants as happenings
use Rattle.gs_msg.specs.declared.message.Message.{Message}
use Rattle.gs_msg.specs.declared.node.StoreNode.TheVariants as keepers
use Rattle.gs_nodes.specs.declared.place.MasterPlace.{MasterPlace}
use Rattle.gs_nodes.specs.declared.place.MasterPlace.TheVariants.{Standing}
use Rattle.gs_world.specs.Histories.{History}
use Rattle.gs_world.specs.Runs.{Comes, Step, Takes}
use Rattle.gs_world.specs.Sent.{message_of}
use Rattle.gs_laws_chunks.specs.accounts.Hearing.{to_master}

-- where a message is handled, and where the clock ticks
abbrev pub records_of_message : {D : Type 0} → MasterPlace D → Moment → Option Message → List PlainEntry
records_of_message (Standing m) moment (Some message) = (handle m.config m.state message moment).records
records_of_message place moment message = []

abbrev pub records_of_tick : {D : Type 0} → MasterPlace D → Moment → List PlainEntry
records_of_tick (Standing m) moment = (tick m.state moment).records
records_of_tick place moment = []

-- in their order
abbrev pub records_at : {D : Type 0} → Step → History D → List PlainEntry
records_at {D} (Comes event) old = by event.happening
  where
    by : Happening → List PlainEntry
    by (happenings.Deliver message) = records_of_message old.nodes.master event.moment (to_master (message_of old.sent message))
    by (happenings.Tick keepers.Master) = records_of_tick old.nodes.master event.moment
    by happening = []
records_at (Takes client) old = []

-- and the messages of the same turn
abbrev pub messages_of_message : {D : Type 0} → MasterPlace D → Moment → Option Message → List Message
messages_of_message (Standing m) moment (Some message) = (handle m.config m.state message moment).sent
messages_of_message place moment message = []

abbrev pub messages_of_tick : {D : Type 0} → MasterPlace D → Moment → List Message
messages_of_tick (Standing m) moment = (tick m.state moment).sent
messages_of_tick place moment = []

abbrev pub messages_at : {D : Type 0} → Step → History D → List Message
messages_at {D} (Comes event) old = by event.happening
  where
    by : Happening → List Message
    by (happenings.Deliver message) = messages_of_message old.nodes.master event.moment (to_master (message_of old.sent message))
    by (happenings.Tick keepers.Master) = messages_of_tick old.nodes.master event.moment
    by happening = []
messages_at (Takes client) old = []

-- these are all of the records, or all but a checkpoint, which is the last of them
abbrev pub IsAllBut : List PlainEntry → List PlainEntry → Type 0
IsAllBut records these = (these ≡ records) ⊎ ((c : PlainCheckpoint) × (records ≡ these ++ Whole c ∷ []))

-- so many of them are none, or all, or all but a checkpoint
abbrev pub AreWhole : List PlainEntry → ℕ → Type 0
AreWhole records written = (written ≡ 0) ⊎ IsAllBut records (take written records)

-- ---- Worked
none_where_a_client_takes_its_answer : {D : Type 0} (client : ClientId) (old : History D) → records_at (Takes client) old ≡ []
none_where_a_client_takes_its_answer client old = refl

none_at_all : (records : List PlainEntry) → AreWhole records 0
none_at_all records = inl refl

all_but_a_checkpoint : (first : PlainEntry) (c : PlainCheckpoint) → AreWhole (first ∷ Whole c ∷ []) 1
all_but_a_checkpoint first c = inr (inr (c, refl))
