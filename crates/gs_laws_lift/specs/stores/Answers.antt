-- What clients of a store are told of their edits, as the machines of its chunks have it.
use Rattle.std.specs.Prelude.{◌≡◌, ◌⊎◌, ℕ, List, Ok, Some}
use Rattle.std.proofs.Common.{inl, inr}
use Rattle.gs_base.specs.declared.config.Config.{Config}
use Rattle.gs_base.specs.declared.numbers.ReqId.{ReqId}
use Rattle.gs_base.specs.declared.numbers.Stamp.{Stamp}
use Rattle.gs_journal.specs.Records.{fresh, standing}
use Rattle.gs_replica.specs.declared.op.EditOutcome.{EditOutcome}
use Rattle.gs_msg.specs.declared.body.Body.{Body}
use Rattle.gs_msg.specs.declared.body.Body.TheVariants as bodies
use Rattle.gs_msg.specs.declared.chunk.Chunk.TheVariants as chunks
use Rattle.gs_msg.specs.declared.event.DiskId.{DiskId}
use Rattle.gs_msg.specs.declared.event.Request.TheVariants as requests
use Rattle.gs_msg.specs.declared.message.Message.{Message}
use Rattle.gs_msg.specs.declared.op.Op.{Op}
use Rattle.gs_nodes.specs.declared.place.MasterPlace.{MasterPlace}
use Rattle.gs_world.specs.Histories.{Begins, History}
use Rattle.gs_world.specs.Sent.{IsSent, Sent}
use Rattle.gs_laws_world.specs.lasting.Lasting.{Lasts, failures_at}
use Rattle.gs_laws_parts.specs.server.Answering.{IsAnswered, IsPassed}
use Rattle.gs_laws_chunk.specs.machine.Machine.{ChunkWorld}
use Rattle.gs_laws_parts.specs.server.Requests.{Asked, IsOfOneEdit, named}
use Rattle.gs_laws_parts.specs.server.Showing.{Setting}
use Rattle.gs_world.specs.Runs.{Step}
use Rattle.gs_laws_lift.specs.stores.Going.{AllSent, Kind, heard_in}
use Rattle.gs_laws_lift.specs.stores.Living.{GoesOn}
use Rattle.gs_laws_lift.specs.stores.Showing.{Life, setting}
use Rattle.gs_laws_lift.specs.stores.Waiting.{AllWaitAsked, AsksFor}

-- ---- what was told

-- a full chunk has passed on the edit for which a request asks, of this chunk, by a message that was sent
pub record HasPassed (asked : ℕ → Asked) (chunk : ℕ) (sent : Sent) (c : Setting) (w : ChunkWorld) (req : ReqId) (outcome : EditOutcome) : Type 0 where
  pub members : List ℕ
  pub primary : ℕ
  pub under : Stamp
  pub op : Op
  pub bytes : List ℕ
  pub asks : named asked req ≡ Some (requests.Write chunk members primary under op bytes)
  pub message : Message
  pub was : IsSent message sent
  pub says : message.body ≡ bodies.About chunk (chunks.Edit req under op)
  pub passed : IsPassed c w under req op outcome

module _ {D : Type 0} (seen : D → List ℕ) (config : Config) (bytes : ReqId → List ℕ) where
  -- each chunk is not born yet, or shown by its machine
  abbrev pub LivesOf : History D → Type 0
  LivesOf h = (chunk : ℕ) → Life seen config bytes chunk h

  -- the machine of a chunk has done the edit of a request, or a full chunk has passed it on
  abbrev pub HasDone : (ℕ → Asked) → (chunk : ℕ) (h : History D) → Life seen config bytes chunk h → ReqId → EditOutcome → Type 0
  HasDone asked chunk h (inl unborn) req outcome = ⊥
  HasDone asked chunk h (inr alive) req outcome =
      (me : ℕ) × (IsAnswered (setting config bytes alive.reached.0.epoch) alive.world me req outcome ⊎ HasPassed asked chunk h.sent (setting config bytes alive.reached.0.epoch) alive.world req outcome)

  -- where a client is told that its edit is done, the machine of some chunk has it, and it has asked for an edit of that one
  abbrev pub HasDoneBody : (ℕ → Asked) → (h : History D) → LivesOf h → Body → Type 0
  HasDoneBody asked h lives (bodies.Done req (Ok outcome)) = (chunk : ℕ) × HasDone asked chunk h (lives chunk) req outcome × AsksFor asked chunk req
  HasDoneBody asked h lives body = Unit {0}

  -- so it is of all that clients were ever told
  abbrev pub DonesAreAnswered : (ℕ → Asked) → (h : History D) → LivesOf h → Type 0
  DonesAreAnswered asked h lives = AllSent (λ (m : Message). HasDoneBody asked h lives m.body) h.sent

-- ---- a step

module _ {D : Type 0} (seen : D → List ℕ) (failures : D → ℕ) (armed : DiskId → ℕ → MasterPlace D → MasterPlace D) (config : Config) (bytes : ReqId → List ℕ) where
  -- All that clients were told behind a step is done in the machines as they are then, if all before it was: where all that was sent for a request is of its one edit, and
  -- servers wait for what was asked of a chunk; where no disk of the master fails; and where each chunk goes on by just what the step is.
  abbrev pub AnswersGoOn : (ℕ → Asked) → Type 0
  AnswersGoOn asked = (step : Step) (old new : History D) (kind : Kind seen failures armed step old new) → AllSent (IsOfOneEdit asked) old.sent → AllWaitAsked asked old → Lasts seen old.nodes.master → failures_at failures new.nodes.master ≡ failures_at failures old.nodes.master
      → (before : LivesOf seen config bytes old) (behind : LivesOf seen config bytes new) → ((chunk : ℕ) → GoesOn seen config bytes chunk step (heard_in seen failures armed kind) old new (before chunk) (behind chunk))
      → DonesAreAnswered seen config bytes asked old before → DonesAreAnswered seen config bytes asked new behind

  -- When a store begins new no server waits, and no client was told anything.
  abbrev pub AnswersBegin : (ℕ → Asked) → Type 0
  AnswersBegin asked = (clients : ℕ) (disks : D × D) (begun : History D) → standing (seen disks.0) (seen disks.1) ≡ fresh → Begins seen failures armed config clients disks begun
      → AllWaitAsked asked begun × ((lives : LivesOf seen config bytes begun) → DonesAreAnswered seen config bytes asked begun lives)
