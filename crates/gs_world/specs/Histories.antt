-- A store with all that its nodes have ever sent, and what an event makes of it.
use Rattle.std.specs.Prelude.{◌≡◌, ◌⊎◌, ◌+◌, ◌-◌, ◌==◌, ℕ, Bool, true, false, List, [], ◌∷◌, if◌then◌else◌, Option, None, MatchOption, Result, Ok, Err, Vec, slice_get, refl}
use Rattle.std.specs.declared.alloc.Global.{Global}
use Rattle.gs_base.specs.declared.config.Config.{Config}
use Rattle.gs_base.specs.declared.numbers.Moment.{Moment}
use Rattle.gs_base.specs.declared.numbers.ReqId.{ReqId}
use Rattle.gs_base.specs.declared.refusal.Refusal.{Refusal}
use Rattle.gs_base.specs.declared.refusal.Refusal.TheVariants as refusals
use Rattle.gs_base.specs.Calls.{Does}
use Rattle.gs_journal.specs.Faults.{Failing}
use Rattle.gs_journal.specs.declared.fault.Fault.{Fault}
use Rattle.gs_journal.specs.declared.fault.Fault.TheVariants.{Never, Fail}
use Rattle.gs_master.specs.declared.turn.Turn.{Turn}
use Rattle.gs_msg.specs.Nodes.{as_node}
use Rattle.gs_msg.specs.declared.event.DiskId.{DiskId}
use Rattle.gs_msg.specs.declared.event.DiskId.TheVariants.{First, Second}
use Rattle.gs_msg.specs.declared.event.Event.{Event}
use Rattle.gs_msg.specs.declared.event.Happening.{Happening}
use Rattle.gs_msg.specs.declared.event.Happening.TheVariants as happenings
use Rattle.gs_msg.specs.declared.event.Request.{Request}
use Rattle.gs_msg.specs.declared.message.Message.{Message}
use Rattle.gs_msg.specs.declared.message.MsgId.{MsgId}
use Rattle.gs_msg.specs.declared.node.NodeId.{NodeId}
use Rattle.gs_msg.specs.declared.node.NodeId.TheVariants as ids
use Rattle.gs_msg.specs.declared.node.StoreNode.{StoreNode}
use Rattle.gs_msg.specs.declared.node.StoreNode.TheVariants as keepers
use Rattle.gs_server.specs.Servers as servers
use Rattle.gs_nodes.specs.Arming.{armed_first, armed_second}
use Rattle.gs_nodes.specs.Happenings.{AtClient, AtServer, ClientAsks, Delivers, MasterTicks, Opens, Reopens, ServerDoes, met_by}
use Rattle.gs_nodes.specs.Nodes.{Nodes, new_nodes, nodes_of, with_master}
use Rattle.gs_nodes.specs.declared.place.MasterPlace.{MasterPlace}
use Rattle.gs_world.specs.declared.outcome.Outcome.{Outcome}
use Rattle.gs_world.specs.declared.world.World.{World}
use Rattle.gs_world.specs.Sent.{IsPosted, Sent, message_of, none_sent, sent_by}

-- the nodes, and what each has sent
pub record History (D : Type 0) : Type 0 where
  pub nodes : Nodes D
  pub sent : Sent

abbrev pub history_of : {D : Type 0} → World D → History (Failing D)
history_of run = record { nodes = nodes_of run.nodes; sent = run.sent }

-- ---- what an event comes to

-- what goes out, and what is said; or the event is refused
abbrev pub Upshot : Type 0
Upshot = Result (List Message × Option Refusal) Refusal

abbrev pub told : Result Turn Refusal → Upshot
told (Ok turn) = Ok (turn.sent.items, turn.said)
told (Err refusal) = Err refusal

-- what a client asks goes out, and it says nothing
abbrev pub asked : Result (Vec Message Global) Refusal → Upshot
asked (Ok sent) = Ok (sent.items, None)
asked (Err refusal) = Err refusal

-- nothing goes out
abbrev pub silent : Result (Unit {0}) Refusal → Upshot
silent (Ok done) = Ok ([], None)
silent (Err refusal) = Err refusal

-- whether it is a client that asks
abbrev pub is_ask : Happening → Bool
is_ask (happenings.Ask req request) = true
is_ask happening = false

-- ---- disks of the master's journal that are made to fail

-- at the call of this number, counted from 1
abbrev pub fault_at : ℕ → Fault
fault_at call = if call == 0 then Never else Fail (call - 1)

abbrev pub arms : {D : Type 0} → DiskId → ℕ → MasterPlace (Failing D) → MasterPlace (Failing D)
arms First call place = armed_first (fault_at call) place
arms Second call place = armed_second (fault_at call) place

-- what is seen of a disk that may be made to fail, and how often it has failed
abbrev pub seen_of : {D : Type 0} → (D → List ℕ) → Failing D → List ℕ
seen_of seen disk = seen disk.disk

abbrev pub failures_of : {D : Type 0} → (D → ℕ) → Failing D → ℕ
failures_of failures disk = failures disk.disk + disk.failures

-- ---- what an event is at the nodes

-- a client asks
abbrev pub AsksAt : {D : Type 0} → ReqId → Request → Nodes D → Upshot → Nodes D → Type 0
AsksAt req request old outcome new =
    (out : Result (Vec Message Global) Refusal) × AtClient req.client (Err refusals.Range) (ClientAsks req.number request) old out new × (outcome ≡ asked out)

-- something happens at a server, of which nothing goes out
abbrev pub Befalls : {D : Type 0} → ℕ → (servers.Server → Result (Unit {0}) Refusal → servers.Server → Type 0) → Nodes D → Upshot → Nodes D → Type 0
Befalls id does old outcome new = (done : Result (Unit {0}) Refusal) × AtServer id does old done new × (outcome ≡ silent done)

-- A server's report goes out, or memory is wanting for it. Nothing changes.
abbrev pub Beats : {D : Type 0} → ℕ → Nodes D → Upshot → Nodes D → Type 0
Beats id old outcome new =
    (new ≡ old)
    × MatchOption (slice_get old.servers id) (outcome ≡ Err refusals.Range) (λ s. (outcome ≡ Ok (servers.beat s ∷ [], None)) ⊎ (outcome ≡ Err refusals.Memory))

-- the master does something by itself
abbrev pub AtMaster : {D : Type 0} → (MasterPlace D → Result Turn Refusal → MasterPlace D → Type 0) → Nodes D → Upshot → Nodes D → Type 0
AtMaster {D} does old outcome new = (place : MasterPlace D) × (turn : Result Turn Refusal) × does old.master turn place × (new ≡ with_master place old) × (outcome ≡ told turn)

-- a server does something by itself
abbrev pub AtOne : {D : Type 0} → ℕ → (servers.Server → servers.Step) → Nodes D → Upshot → Nodes D → Type 0
AtOne id step old outcome new = (turn : Result Turn Refusal) × AtServer id (λ s. ServerDoes (step s) s) old turn new × (outcome ≡ told turn)

-- For what is seen of a disk, how often one has failed, and the master with a disk of a coming failure.
module _ {D : Type 0} (seen : D → List ℕ) (failures : D → ℕ) (armed : DiskId → ℕ → MasterPlace D → MasterPlace D) where
  -- A message comes to its receiver; or memory is wanting for its copy, and nothing happens: that is told of the sender that was named.
  abbrev pub ComesTo : NodeId → Message → Moment → Nodes D → NodeId → Upshot → Nodes D → Type 0
  ComesTo sender message moment old by outcome new =
      ((by ≡ message.to) × (turn : Result Turn Refusal) × Delivers seen failures message moment old turn new × (outcome ≡ told turn))
      ⊎ ((outcome ≡ Err refusals.Memory) × (new ≡ old) × (by ≡ sender))

  -- a message of which there is none comes to nobody, which is told of the sender too
  abbrev pub DeliversAt : Moment → MsgId → History D → NodeId → Upshot → Nodes D → Type 0
  DeliversAt moment id old by outcome new =
      MatchOption (message_of old.sent id) ((outcome ≡ Err refusals.Range) × (new ≡ old.nodes) × (by ≡ id.sender)) (λ message. ComesTo id.sender message moment old.nodes by outcome new)

  abbrev pub Ticks : Moment → StoreNode → Nodes D → Upshot → Nodes D → Type 0
  Ticks moment keepers.Master old outcome new = AtMaster (MasterTicks seen failures moment) old outcome new
  Ticks moment (keepers.Server id) old outcome new = AtOne id (λ s. servers.tick s moment) old outcome new

  abbrev pub Restarts : StoreNode → Nodes D → Upshot → Nodes D → Type 0
  Restarts keepers.Master old outcome new = AtMaster (Reopens seen failures old.config) old outcome new
  Restarts (keepers.Server id) old outcome new = Befalls id (λ s done after. (done ≡ Ok tt) × (after ≡ servers.restart s)) old outcome new

  abbrev pub FailsDisk : DiskId → ℕ → Nodes D → Upshot → Nodes D → Type 0
  FailsDisk disk call old outcome new = (new ≡ with_master (armed disk call old.master) old) × (outcome ≡ silent (Ok tt))

  -- which node an event is at, and what it does there
  abbrev pub AtNode : Moment → Happening → History D → NodeId → Upshot → Nodes D → Type 0
  AtNode moment (happenings.Ask req request) old by outcome new = (by ≡ ids.Client req.client) × AsksAt req request old.nodes outcome new
  AtNode moment (happenings.Deliver id) old by outcome new = DeliversAt moment id old by outcome new
  AtNode moment (happenings.Tick node) old by outcome new = (by ≡ as_node node) × Ticks moment node old.nodes outcome new
  AtNode moment (happenings.Beat id) old by outcome new = (by ≡ ids.Server id) × Beats id old.nodes outcome new
  AtNode moment (happenings.Restart node) old by outcome new = (by ≡ as_node node) × Restarts node old.nodes outcome new
  AtNode moment (happenings.Lose id handle) old by outcome new =
      (by ≡ ids.Server id) × Befalls id (λ s done after. Does (servers.lose handle s) done s after) old.nodes outcome new
  AtNode moment (happenings.Damage id handle block) old by outcome new =
      (by ≡ ids.Server id) × Befalls id (λ s done after. Does (servers.damage handle block s) done s after) old.nodes outcome new
  AtNode moment (happenings.FailDisk disk call) old by outcome new = (by ≡ ids.Master) × FailsDisk disk call old.nodes outcome new

  -- what a node sends stands behind what it has sent; of a refused event nothing
  abbrev pub Tells : Moment → NodeId → Upshot → Sent → Result (Unit {0}) Refusal → Sent → Type 0
  Tells moment by (Ok (messages, said)) old result new = IsPosted moment by messages old new × (result ≡ met_by said)
  Tells moment by (Err refusal) old result new = (new ≡ old) × (result ≡ Err refusal)

  -- An event is one node's: that does what it does, and what it sends stands behind what it has sent.
  pub record Happens (event : Event) (old : History D) (said : Result (Unit {0}) Refusal) (new : History D) : Type 0 where
    pub by : NodeId
    pub outcome : Upshot
    pub at : AtNode event.moment event.happening old by outcome new.nodes
    pub tells : Tells event.moment by outcome old.sent said new.sent

  -- What is told of an event: which node it was at, what was said, and where the messages stand that the node has sent at it, among all
  -- that it has sent: from the first one's place up to the end.
  pub record IsOutcome (event : Event) (old : History D) (outcome : Outcome) (new : History D) : Type 0 where
    pub happens : Happens event old outcome.said new
    pub by : happens.by ≡ outcome.by
    pub first : outcome.first ≡ sent_by old.sent outcome.by
    pub end : outcome.end ≡ sent_by new.sent outcome.by

  -- ---- a new store

  -- servers and clients that have heard nothing, and the master that the disks tell, which has sent what they say
  pub record Begins (config : Config) (clients : ℕ) (disks : D × D) (new : History D) : Type 0 where
    pub place : MasterPlace D
    pub turn : Turn
    pub opens : Opens seen failures config disks (Ok turn) place
    pub nodes : new.nodes ≡ new_nodes config clients place
    pub sent : IsPosted (record { 0 = 0 }) ids.Master turn.sent.items (none_sent config.servers clients) new.sent

-- Worked: which call of a disk fails.
the_first_call_fails : fault_at 1 ≡ Fail 0
the_first_call_fails = refl

no_call_has_the_number_0 : fault_at 0 ≡ Never
no_call_has_the_number_0 = refl
