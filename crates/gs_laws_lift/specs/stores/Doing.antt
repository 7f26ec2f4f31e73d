-- What the master does at a step, whichever chunk is looked at: a turn of moves of which all stands and all is sent, and which ends one epoch at most; or its disks wait; or nothing.
use Rattle.std.specs.Prelude.{◌≡◌, ◌⊎◌, ℕ, List, [], Option, None}
use Rattle.gs_base.specs.declared.config.Config.{Config}
use Rattle.gs_base.specs.declared.numbers.ReqId.{ReqId}
use Rattle.gs_journal.specs.Records.{standing}
use Rattle.gs_laws_master.specs.Promises.{IsKept}
use Rattle.gs_laws_master.specs.Standing.{AreCounters}
use Rattle.gs_master.specs.Masters.{MasterOf}
use Rattle.gs_msg.specs.declared.event.DiskId.{DiskId}
use Rattle.gs_msg.specs.declared.message.Message.{Message}
use Rattle.gs_master_spec.specs.Durable.{Durable}
use Rattle.gs_master_spec.specs.Handling.{restarted}
use Rattle.gs_master_spec.specs.State.{Log, Turn}
use Rattle.gs_nodes.specs.Happenings.{refusal_of_call}
use Rattle.gs_nodes.specs.declared.place.MasterPlace.{MasterPlace}
use Rattle.gs_nodes.specs.declared.place.MasterPlace.TheVariants.{Standing, Closed, Away}
use Rattle.gs_laws_world.specs.lasting.Lasting.{IsToldIn, Lasts, failures_at}
use Rattle.gs_world.specs.Sent.{IsSent, Sent}
use Rattle.gs_laws_moves.specs.moves.Guards.{Heard}
use Rattle.gs_laws_moves.specs.moves.Laws.{IsMadeWell, said_from}
use Rattle.gs_laws_moves.specs.moves.Epochs.{EndsOnce}
use Rattle.gs_laws_lift.specs.stores.Going.{MasterGoes}

-- it acts by itself, or hears what was sent
abbrev pub IsHeardIn : Sent → Heard → Type 0
IsHeardIn sent heard = (heard ≡ None) ⊎ ((message : Message) × IsSent message sent × (heard ≡ said_from message.from message.body))

module _ {D : Type 0} (seen : D → List ℕ) where
  -- what is durable where it stands, and what its disks tell where they wait
  abbrev pub HasDurable : MasterPlace D → Durable → Type 0
  HasDurable (Standing m) d = m.state.durable ≡ d
  HasDurable (Closed first second) d = IsToldIn (standing (seen first) (seen second)) d
  HasDurable Away d = ⊥

  pub data MasterDoes (armed : DiskId → ℕ → MasterPlace D → MasterPlace D) (sent : Sent) (old new : MasterPlace D) (messages : List Message) : Type 0 where
    Moves : (m after : MasterOf D) (heard : Heard) (t : Turn) → old ≡ Standing m → new ≡ Standing after → IsHeardIn sent heard → EndsOnce m.config (IsMadeWell m.config heard) m.state t → after.state ≡ t.after → messages ≡ t.sent → MasterDoes armed sent old new messages
    Starts : (config : Config) (d : Durable) (log : Log) (after : MasterOf D) (t : Turn) → HasDurable old d → IsKept d → AreCounters d → new ≡ Standing after → EndsOnce config (IsMadeWell config None) (restarted d log) t → after.state ≡ t.after → messages ≡ t.sent → MasterDoes armed sent old new messages
    Waits : (d : Durable) (first second : D) → HasDurable old d → IsKept d → AreCounters d → new ≡ Closed first second → IsToldIn (standing (seen first) (seen second)) d → messages ≡ [] → MasterDoes armed sent old new messages
    Refuses : (caller : Option ReqId) → new ≡ old → messages ≡ refusal_of_call caller → MasterDoes armed sent old new messages
    Arms : (disk : DiskId) (call : ℕ) → new ≡ armed disk call old → messages ≡ [] → MasterDoes armed sent old new messages

-- so it is of whatever happens at the master, where no disk fails
abbrev pub MastersDo : {D : Type 0} → (D → List ℕ) → (D → ℕ) → (DiskId → ℕ → MasterPlace D → MasterPlace D) → Type 0
MastersDo {D} seen failures armed = (config : Config) (sent : Sent) (old new : MasterPlace D) (messages : List Message) → Lasts seen old → failures_at failures new ≡ failures_at failures old → MasterGoes seen failures armed config sent old new messages → MasterDoes seen armed sent old new messages
