-- What a copy on write is made of.
use Rattle.std.specs.Prelude.{◌≡◌, ℕ, Bool, true, false, List, Some, None}
use Rattle.std.specs.FinMap as fin
use Rattle.std.specs.List.{AllByRecursion}
use Rattle.gs_base.specs.Members.{is_member}
use Rattle.gs_base.specs.declared.config.Config.{Config}
use Rattle.gs_base.specs.declared.numbers.Moment.{Moment}
use Rattle.gs_base.specs.declared.numbers.Stamp.{Stamp}
use Rattle.gs_lease.specs.declared.view.View.{View}
use Rattle.gs_msg.specs.declared.body.Body.{Body}
use Rattle.gs_msg.specs.declared.body.Body.TheVariants as bodies
use Rattle.gs_msg.specs.declared.message.Message.{Message}
use Rattle.gs_msg.specs.declared.node.NodeId.{NodeId}
use Rattle.gs_msg.specs.declared.node.NodeId.TheVariants as nodes
use Rattle.gs_master_spec.specs.Durable.{Settled}
use Rattle.gs_master_spec.specs.Handling.{handle, pressed}
use Rattle.gs_master_spec.specs.State.{State}
use Rattle.gs_laws_master.specs.Rooms.{IsStill}
use Rattle.gs_laws_master.specs.Standing.{Comes, IsFirm, IsNamed}

-- a server that has a chunk by its view
abbrev pub is_on : View → NodeId → Bool
is_on view (nodes.Server server) = is_member view.members server
is_on view node = false

-- The chunk is settled under this stamp, on this server among others. No other view of it is proposed, none has its lease, and nothing
-- is asked for it.
pub record IsAtRestOn (s : State) (chunk : ℕ) (stamp : Stamp) (to : NodeId) : Type 0 where
  pub settled : Settled
  pub has : fin.get s.durable.chunks chunk ≡ Some settled
  pub still : IsStill settled
  pub under : settled.view.stamp ≡ stamp
  pub on : is_on settled.view to ≡ true
  pub unasked : fin.get s.volatile.moving chunk ≡ None

-- so is the chunk of which a message tells its server to make a copy
abbrev pub IsCopyOf : State → NodeId → Body → Type 0
IsCopyOf s to (bodies.MakeCopy old stamp new next) = IsAtRestOn s old stamp to
IsCopyOf s to said = Unit {0}

abbrev pub AreCopiesOf : State → List Message → Type 0
AreCopiesOf s messages = AllByRecursion (λ (m : Message). IsCopyOf s m.to m.body) messages

-- So it is of all that a firm master sends, in the state that the message leaves,
abbrev pub CopiesAtRest : Type 0
CopiesAtRest = (config : Config) (s : State) (message : Message) (moment : Moment) → IsNamed (Comes message moment) → IsFirm s →
    let t = handle config s message moment in AreCopiesOf t.after t.sent

-- and at each step of a tick.
abbrev pub StepsCopyAtRest : Type 0
StepsCopyAtRest = (s : State) (moment : Moment) (proposal : ℕ × Stamp) → IsFirm s → let t = pressed moment proposal s in AreCopiesOf t.after t.sent
