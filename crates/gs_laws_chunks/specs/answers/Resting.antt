-- What stands while a client only looks.
use Rattle.std.specs.Prelude.{◌≡◌, ◌≤◌, ◌⊎◌, List, Some, true, ℕ, zero, suc, ◌<◌}
use Rattle.std.specs.List.{AllByRecursion}
use Rattle.gs_base.specs.declared.numbers.ClientId.{ClientId}
use Rattle.gs_base.specs.declared.numbers.ReqId.{ReqId}
use Rattle.gs_client.specs.Nodes.{Node}
use Rattle.gs_msg.specs.declared.body.Body.{Body}
use Rattle.gs_msg.specs.declared.body.Body.TheVariants as bodies
use Rattle.gs_msg.specs.declared.event.DiskId.{DiskId}
use Rattle.gs_msg.specs.declared.event.Happening.{Happening}
use Rattle.gs_msg.specs.declared.event.Happening.TheVariants as happenings
use Rattle.gs_msg.specs.declared.event.Request.TheVariants as requests
use Rattle.gs_msg.specs.declared.message.Message.{Message}
use Rattle.gs_msg.specs.declared.message.MsgId.{MsgId}
use Rattle.gs_master_spec.specs.Durable.{Durable}
use Rattle.gs_master_spec.specs.State.{State}
use Rattle.gs_master_spec.specs.Volatile.{is_pending}
use Rattle.gs_laws_moves.specs.answers.Resting.{HasHad, is_look}
use Rattle.gs_nodes.specs.declared.place.MasterPlace.{MasterPlace}
use Rattle.gs_nodes.specs.declared.place.MasterPlace.TheVariants.{Standing}
use Rattle.gs_world.specs.Histories.{History}
use Rattle.gs_world.specs.Runs.{Comes, RunsTo, Step, Takes}
use Rattle.gs_world.specs.Sent.{message_of}
use Rattle.gs_laws_chunks.specs.answers.Answered.{spares_master}
use Rattle.gs_laws_chunks.specs.answers.Asked.{IsNumbered}
use Rattle.std.specs.Prelude.{slice_get}

-- The client has had its request of the number before this one, or a later one. Below the first number there is nothing to be had.
abbrev pub HasHadBelow : State → ClientId → ℕ → Type 0
HasHadBelow s client zero = Unit {0}
HasHadBelow s client (suc number) = HasHad s client number

-- the names, the number of the next deletion, the phase and the epoch are these, no call waits, and nothing below this number is new of the client any more
pub record StandsStill (d : Durable) (client : ClientId) (number : ℕ) (s : State) : Type 0 where
  pub names : s.durable.names ≡ d.names
  pub hidden : s.durable.next_hidden ≡ d.next_hidden
  pub phase : s.durable.phase ≡ d.phase
  pub epoch : s.durable.epoch ≡ d.epoch
  pub none : (req : ReqId) → is_pending s.volatile.pending req ≡ true → ⊥
  pub had : HasHadBelow s client number

abbrev pub StandsStillAt : {D : Type 0} → Durable → ClientId → ℕ → MasterPlace D → Type 0
StandsStillAt d client number (Standing m) = StandsStill d client number m.state
StandsStillAt d client number place = Unit {0}

-- a call is of this client, and it looks, or its number is below this
abbrev pub IsOldOrLooks : ClientId → ℕ → Body → Type 0
IsOldOrLooks client number (bodies.Call req call) = (req.client ≡ client) × ((req.number < number) ⊎ (is_look call ≡ true))
IsOldOrLooks client number body = Unit {0}

-- So it is of each call that was ever sent, and so the master stands.
pub record IsStill {D : Type 0} (d : Durable) (client : ClientId) (number : ℕ) (h : History D) : Type 0 where
  pub sent : (id : MsgId) (message : Message) → message_of h.sent id ≡ Some message → IsOldOrLooks client number message.body
  pub master : StandsStillAt d client number h.nodes.master
  pub numbered : (place : ℕ) (n : Node) → slice_get h.nodes.clients place ≡ Some n → IsNumbered place n

-- nothing is asked of the master but look-ups of this client
abbrev pub AsksLooks : ClientId → Step → Type 0
AsksLooks client (Comes event) = asked event.happening
  where
    asked : Happening → Type 0
    asked (happenings.Ask req (requests.Call call)) = (req.client ≡ client) × (is_look call ≡ true)
    asked happening = Unit {0}
AsksLooks client (Takes other) = Unit {0}

-- and the master isn't started again, and no failure of a disk is arranged
abbrev pub IsLooking : ClientId → Step → Type 0
IsLooking client step = (spares_master step ≡ true) × AsksLooks client step

-- ---- what is to hold

-- So it stays as long as the client only looks.
abbrev pub StaysStill : {D : Type 0} → (D → List ℕ) → (D → ℕ) → (DiskId → ℕ → MasterPlace D → MasterPlace D) → Type 0
StaysStill {D} seen failures armed = (d : Durable) (client : ClientId) (number : ℕ) (steps : List Step) (old new : History D) → RunsTo seen failures armed steps old new → AllByRecursion (IsLooking client) steps → IsStill d client number old → IsStill d client number new
