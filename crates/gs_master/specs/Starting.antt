-- What two disks are opened as.
use Rattle.std.specs.Prelude.{◌≡◌, ◌⊎◌, ◌+◌, ◌<◌, ℕ, false, List, Ok}
use Rattle.gs_base.specs.declared.config.Config.{Config}
use Rattle.gs_base.specs.declared.refusal.Refusal.TheVariants as refusals
use Rattle.gs_journal.specs.Forms.{is_text}
use Rattle.gs_journal.specs.Records.{Text, generation_standing, standing}
use Rattle.gs_journal.specs.Journal.{checkpointed, failures_of_both}
use Rattle.gs_journal.specs.declared.journal.Unopened.{Unopened}
use Rattle.gs_journal.specs.declared.version.Version.{Version}
use Rattle.gs_journal.specs.declared.version.Version.TheVariants as versions
use Rattle.gs_msg.specs.declared.message.Message.{Message}
use Rattle.gs_master_record.specs.Plain.{PlainEntry}
use Rattle.gs_master_spec.specs.Durable.{Durable}
use Rattle.gs_master_spec.specs.Handling.{checkpoint_body, recover}
use Rattle.gs_master.specs.Journaled.{IsAsSeen, IsLogOf}
use Rattle.gs_master.specs.Masters.{MasterOf}
use Rattle.gs_master.specs.Recovering.{TellsDurable, TellsStill, WhyNotTold}
use Rattle.gs_master_spec.specs.State.{Log, Turn}

-- what is left of a text that tells this: one of the first version is written anew
abbrev pub left_in : Version → Text → Durable → Text
left_in versions.One text d = checkpointed (checkpoint_body d)
left_in versions.Two text d = text

-- The master is what the records tell, and sends what they say. Its journal is as its disks are seen, and the master knows its room: as many
-- bytes as it was told may be written to a disk. No disk has failed. A journal of the second version keeps its generation, and one that is
-- written anew is of the next.
pub record IsOpened {D : Type 0} (seen : D → List ℕ) (failures : D → ℕ) (given : Config) (first second : D) (text : Text) (bound : ℕ) (m : MasterOf D) (sent : List Message) : Type 0 where
  pub entries : List PlainEntry
  pub durable : Durable
  pub tells : TellsDurable text entries durable
  pub log : Log
  pub turn : Turn
  pub recovers : recover given text.0 entries log ≡ Ok turn
  pub state : m.state ≡ turn.after
  pub sends : sent ≡ turn.sent
  pub config : m.config ≡ given
  pub limit : log.limit ≡ bound
  pub left : m.journal.text ≡ left_in text.0 text durable
  pub journal : IsAsSeen seen m.journal
  pub known : IsLogOf m.state.log m.journal
  pub generation : text.0 ≡ versions.Two → m.journal.generation ≡ generation_standing (seen first) (seen second)
  pub anew : text.0 ≡ versions.One → m.journal.generation ≡ generation_standing (seen first) (seen second) + 1
  pub quiet : failures_of_both failures m.journal ≡ failures first + failures second

-- A disk failed, and the disks say what they said, or where a disk failed while version 1 was written anew the checkpoint of that; or none
-- did, they say what they said, and that tells no master, or memory is wanting.
abbrev pub WhyUnopened : {D : Type 0} → (D → List ℕ) → (D → ℕ) → Config → ℕ → D → D → Unopened D → Type 0
WhyUnopened seen failures config bound first second u =
    (((u.refusal ≡ refusals.Device) × TellsStill (standing (seen first) (seen second)) (standing (seen u.first) (seen u.second)))
    × (failures first + failures second < failures u.first + failures u.second))
    ⊎ ((standing (seen u.first) (seen u.second) ≡ standing (seen first) (seen second))
    × (failures u.first + failures u.second ≡ failures first + failures second)
    × (((u.refusal ≡ refusals.BadLine) × (is_text (standing (seen first) (seen second)) ≡ false)) ⊎ ((log : Log) × (log.limit ≡ bound) × (log.generation ≡ generation_standing (seen first) (seen second)) × WhyNotTold config (standing (seen first) (seen second)) log u.refusal)))
