-- What happens to the nodes of a store: each event is one node's, and leaves the others as they were.
use Rattle.std.specs.Prelude.{◌≡◌, ◌⊎◌, ◌-◌, ◌==◌, ℕ, Bool, false, not, List, [], ◌∷◌, if◌then◌else◌, Option, Some, None, MatchOption, Result, Ok, Err, Vec, slice_get, slice_set}
use Rattle.std.specs.declared.alloc.Global.{Global}
use Rattle.gs_base.specs.declared.config.Config.{Config}
use Rattle.gs_base.specs.declared.numbers.ClientId.{ClientId}
use Rattle.gs_base.specs.declared.numbers.Moment.{Moment}
use Rattle.gs_base.specs.declared.numbers.ReqId.{ReqId}
use Rattle.gs_base.specs.declared.refusal.Refusal.{Refusal}
use Rattle.gs_base.specs.declared.refusal.Refusal.TheVariants as refusals
use Rattle.gs_base.specs.Calls.{Does}
use Rattle.gs_client.specs.Nodes.{Node, Asks, asks, hears}
use Rattle.gs_journal.specs.Records.{standing}
use Rattle.gs_journal.specs.declared.journal.Unopened.{Unopened}
use Rattle.gs_master.specs.Masters.{MasterOf, MasterAnswers}
use Rattle.gs_master.specs.Starting.{IsOpened, WhyUnopened}
use Rattle.gs_master.specs.Ticking.{AnswersTick}
use Rattle.gs_master.specs.declared.turn.Turn.{Turn}
use Rattle.gs_msg.specs.declared.body.Body.{Body}
use Rattle.gs_msg.specs.declared.event.Request.{Request}
use Rattle.gs_msg.specs.declared.message.Message.{Message}
use Rattle.gs_msg.specs.declared.node.NodeId.{NodeId}
use Rattle.gs_msg.specs.declared.node.NodeId.TheVariants as nodes
use Rattle.gs_server.specs.Servers.{Server, Step}
use Rattle.gs_server.specs.Servers as servers
use Rattle.gs_master_spec.specs.Handling.{handle, proposals}
use Rattle.gs_master_spec.specs.Outcomes.{caller_of}
use Rattle.gs_master_spec.specs.State.{reply_to}
use Rattle.gs_master_spec.specs.Whole.{is_empty}
use Rattle.gs_nodes.specs.Nodes.{Nodes, with_master, with_servers, with_clients}
use Rattle.gs_nodes.specs.declared.place.MasterPlace.{MasterPlace}
use Rattle.gs_nodes.specs.declared.place.MasterPlace.TheVariants.{Standing, Closed, Away}

-- ---- the master

-- the most bytes of a disk of the journal
abbrev pub limit : ℕ
limit = 1073741824

-- what is sent where the disks aren't open: each call is refused
abbrev pub refusal_of_call : Option ReqId → List Message
refusal_of_call None = []
refusal_of_call (Some req) = reply_to req (Err refusals.Device) ∷ []

-- nothing changes; where memory is wanting nothing is sent either
abbrev pub MeetsClosed : {D : Type 0} → List Message → MasterPlace D → Result Turn Refusal → MasterPlace D → Type 0
MeetsClosed sent old (Ok turn) new = (new ≡ old) × (turn.sent.items ≡ sent) × (turn.said ≡ Some refusals.Device)
MeetsClosed sent old (Err refusal) new = (new ≡ old) × (refusal ≡ refusals.Memory)

-- the master handles a message, if it stands
abbrev pub MasterHears : {D : Type 0} → (D → List ℕ) → (D → ℕ) → Message → Moment → MasterPlace D → Result Turn Refusal → MasterPlace D → Type 0
MasterHears {D} seen failures message moment (Standing m) result new =
    (after : MasterOf D) × (new ≡ Standing after) × MasterAnswers seen failures (caller_of message.body) (handle m.config m.state message moment) m result after
MasterHears seen failures message moment (Closed first second) result new = MeetsClosed (refusal_of_call (caller_of message.body)) (Closed first second) result new
MasterHears seen failures message moment Away result new = MeetsClosed (refusal_of_call (caller_of message.body)) Away result new

abbrev pub MasterTicks : {D : Type 0} → (D → List ℕ) → (D → ℕ) → Moment → MasterPlace D → Result Turn Refusal → MasterPlace D → Type 0
MasterTicks {D} seen failures moment (Standing m) result new = (after : MasterOf D) × (new ≡ Standing after) × AnswersTick seen failures moment m result after
MasterTicks seen failures moment (Closed first second) result new = MeetsClosed [] (Closed first second) result new
MasterTicks seen failures moment Away result new = MeetsClosed [] Away result new

-- a view is proposed for some chunk, by a master that stands
abbrev pub is_moving : {D : Type 0} → MasterPlace D → Bool
is_moving (Standing m) = not (is_empty (proposals m.state))
is_moving (Closed first second) = false
is_moving Away = false

-- ---- a server

-- what one server's step comes to, or memory is wanting and nothing has happened
abbrev pub ServerDoes : Step → Server → Result Turn Refusal → Server → Type 0
ServerDoes step old (Ok turn) new = (new ≡ step.after) × (turn.sent.items ≡ step.sent) × (turn.said ≡ step.said)
ServerDoes step old (Err refusal) new = (new ≡ old) × (refusal ≡ refusals.Memory)

-- what one server does; of a number that is no server's nothing comes
abbrev pub AtServer : {A D : Type 0} → ℕ → (Server → Result A Refusal → Server → Type 0) → Nodes D → Result A Refusal → Nodes D → Type 0
AtServer id does old result new =
    MatchOption (slice_get old.servers id) ((new ≡ old) × (result ≡ Err refusals.Range))
    (λ s. (after : Server) × (new ≡ with_servers (slice_set old.servers id after) old) × does s result after)

-- ---- a client

-- clients are numbered from 1
abbrev pub client_in : List Node → ClientId → Option Node
client_in clients id = if id.0 == 0 then None else slice_get clients (id.0 - 1)

-- what one client does; of a number that is no client's nothing comes
abbrev pub AtClient : {A D : Type 0} → ClientId → A → (Node → A → Node → Type 0) → Nodes D → A → Nodes D → Type 0
AtClient id none does old result new =
    MatchOption (client_in old.clients id) ((new ≡ old) × (result ≡ none))
    (λ n. (after : Node) × (new ≡ with_clients (slice_set old.clients (id.0 - 1) after) old) × does n result after)

-- what it asks goes out; or it can't ask, or memory is wanting, and nothing changes
abbrev pub ClientAsks : ℕ → Request → Node → Result (Vec Message Global) Refusal → Node → Type 0
ClientAsks number request old result new = Asks (asks number request old) result old new

abbrev pub met_by : Option Refusal → Result (Unit {0}) Refusal
met_by None = Ok tt
met_by (Some refusal) = Err refusal

-- what it hears, and the refusal with which it is met
abbrev pub ClientHears : Body → Node → Option Refusal → Node → Type 0
ClientHears body old said new = Does (hears body old) (met_by said) old new

-- a client sends nothing when it hears something
abbrev pub Says : Option Refusal → Result Turn Refusal → Type 0
Says said (Ok turn) = (turn.sent.items ≡ []) × (turn.said ≡ said)
Says said (Err refusal) = ⊥

-- ---- a message comes to its receiver

abbrev pub Hears : {D : Type 0} → (D → List ℕ) → (D → ℕ) → Message → Moment → NodeId → Nodes D → Result Turn Refusal → Nodes D → Type 0
Hears {D} seen failures message moment nodes.Master old result new =
    (place : MasterPlace D) × (new ≡ with_master place old) × MasterHears seen failures message moment old.master result place
Hears seen failures message moment (nodes.Server id) old result new = AtServer id (λ s. ServerDoes (servers.handle s message moment) s) old result new
Hears seen failures message moment (nodes.Client id) old result new =
    (said : Option Refusal) × AtClient id None (ClientHears message.body) old said new × Says said result

unfoldable pub Delivers : {D : Type 0} → (D → List ℕ) → (D → ℕ) → Message → Moment → Nodes D → Result Turn Refusal → Nodes D → Type 0
Delivers seen failures message moment old result new = Hears seen failures message moment message.to old result new

-- ---- a restart

-- the disks of the master's journal
abbrev pub disks_of : {D : Type 0} → MasterPlace D → Option (D × D)
disks_of (Standing m) = Some (m.journal.first, m.journal.second)
disks_of (Closed first second) = Some (first, second)
disks_of Away = None

-- The master is what its disks tell, and sends what they say. Where they aren't opened they are handed back, and wait.
abbrev pub Opens : {D : Type 0} → (D → List ℕ) → (D → ℕ) → Config → D × D → Result Turn Refusal → MasterPlace D → Type 0
Opens {D} seen failures config disks (Ok turn) new =
    (after : MasterOf D) × (new ≡ Standing after) × IsOpened seen failures config disks.0 disks.1 (standing (seen disks.0) (seen disks.1)) limit after turn.sent.items × (turn.said ≡ None)
Opens {D} seen failures config disks (Err refusal) new =
    (u : Unopened D) × (new ≡ Closed u.first u.second) × (refusal ≡ u.refusal) × WhyUnopened seen failures config limit disks.0 disks.1 u

-- memory is wanting for the nodes, and the disks are handed back as they were; or these aren't opened
abbrev pub WhyNotBegun : {D : Type 0} → (D → List ℕ) → (D → ℕ) → Config → D × D → Unopened D → Type 0
WhyNotBegun seen failures config disks u =
    ((u.refusal ≡ refusals.Memory) × (u.first ≡ disks.0) × (u.second ≡ disks.1)) ⊎ WhyUnopened seen failures config limit disks.0 disks.1 u

abbrev pub Reopens : {D : Type 0} → (D → List ℕ) → (D → ℕ) → Config → MasterPlace D → Result Turn Refusal → MasterPlace D → Type 0
Reopens seen failures config old result new = MatchOption (disks_of old) ((new ≡ old) × (result ≡ Err refusals.Device)) (λ disks. Opens seen failures config disks result new)
