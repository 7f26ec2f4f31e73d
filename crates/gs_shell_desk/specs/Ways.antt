-- What is under way between the nodes of a store, and what becomes of it.
use Rattle.std.specs.Prelude.{◌≡◌, ◌⊎◌, ◌+◌, ℕ, zero, suc, Bool, true, false, min, List, [], ◌∷◌, ◌++◌, length, if◌then◌else◌, Option, Some, None, is_some, unwrap_or, MatchOption, Result, Ok, Err, Vec, refl}
use Rattle.std.specs.declared.alloc.Global.{Global}
use Rattle.gs_base.specs.declared.numbers.ClientId.{ClientId}
use Rattle.gs_base.specs.declared.numbers.Moment.{Moment}
use Rattle.gs_base.specs.declared.numbers.ReqId.{ReqId}
use Rattle.gs_base.specs.declared.refusal.Refusal.{Refusal}
use Rattle.gs_base.specs.declared.refusal.Refusal.TheVariants as refusals
use Rattle.gs_client.specs.Nodes.{given_up}
use Rattle.gs_client.specs.declared.link.Reply.{Reply}
use Rattle.gs_client.specs.declared.link.Reply.TheVariants as replies
use Rattle.gs_master.specs.declared.turn.Turn.{Turn}
use Rattle.gs_msg.specs.Bodies.{kind_of}
use Rattle.gs_msg.specs.contracts.kind.KindPartialEq.TheImpl as same_kind
use Rattle.std.specs.Option.{option_eq}
use Rattle.gs_msg.specs.declared.event.Request.{Request}
use Rattle.gs_msg.specs.declared.kind.Kind.{Kind}
use Rattle.gs_msg.specs.declared.kind.Kind.TheVariants as kinds
use Rattle.gs_msg.specs.declared.message.Message.{Message}
use Rattle.gs_server.specs.Servers as servers
use Rattle.gs_nodes.specs.Happenings.{AtClient, AtServer, ClientAsks, Delivers, MasterTicks, ServerDoes, client_in, met_by}
use Rattle.gs_nodes.specs.Nodes.{Nodes, nodes_of, with_master}
use Rattle.gs_nodes.specs.declared.place.MasterPlace.{MasterPlace}
use Rattle.gs_shell_desk.specs.declared.wire.Wire.{Wire}

-- The nodes; when all happens; what is under way, in the order sent; the kind of which messages are held back, and those that
-- were, in the order sent; how many drops were sent since that was counted from; and whether memory was ever wanting.
pub record Way (D : Type 0) : Type 0 where
  pub nodes : Nodes D
  pub moment : Moment
  pub queue : List Message
  pub kind : Option Kind
  pub held : List Message
  pub drops : ℕ
  pub is_short : Bool

abbrev pub way_of : {D : Type 0} → Wire D → Way D
way_of w = record { nodes = nodes_of w.nodes; moment = w.moment; queue = w.queue.items; kind = w.held_kind; held = w.held.items; drops = w.drops; is_short = w.is_short }

-- ---- what is sent

abbrev pub last_count : ℕ
last_count = 18446744073709551615

abbrev pub is_drop : Kind → Bool
is_drop kinds.Drop = true
is_drop kind = false

abbrev pub counted : {D : Type 0} → Message → Way D → Way D
counted message w = record w { drops = if is_drop (kind_of message.body) then min (w.drops + 1) last_count else w.drops }

abbrev pub under_way : {D : Type 0} → Message → Way D → Way D
under_way message w = record w { queue = w.queue ++ message ∷ [] }

abbrev pub held_back : {D : Type 0} → Message → Way D → Way D
held_back message w = record w { held = w.held ++ message ∷ [] }

-- memory was wanting
abbrev pub shortened : {D : Type 0} → Way D → Way D
shortened w = record w { is_short = true }

-- memory was wanting, if this is the refusal
abbrev pub shortened_by : {D : Type 0} → Refusal → Way D → Way D
shortened_by refusals.Memory w = shortened w
shortened_by refusal w = w

-- whether messages of this kind are held back
abbrev pub is_held : Option Kind → Kind → Bool
is_held held kind = option_eq same_kind.ghosts.eq held (Some kind)

nothing_is_held : is_held None kinds.Drop ≡ false
nothing_is_held = refl

drops_are_held : is_held (Some kinds.Drop) kinds.Drop ≡ true
drops_are_held = refl

other_kinds_are_not : is_held (Some kinds.Drop) kinds.Push ≡ false
other_kinds_are_not = refl

-- a message is under way, or it is held back where its kind is
abbrev pub Puts : {D : Type 0} → Message → Way D → Way D → Type 0
Puts message old new = new ≡ (if is_held old.kind (kind_of message.body) then held_back message old else under_way message old)

-- a message is sent; or memory is wanting for it, and it is lost
abbrev pub Sends : {D : Type 0} → Message → Way D → Way D → Type 0
Sends message old new = Puts message (counted message old) new ⊎ (new ≡ shortened (counted message old))

-- one after the other
abbrev pub SendsAll : {D : Type 0} → List Message → Way D → Way D → Type 0
SendsAll [] old new = new ≡ old
SendsAll {D} (message ∷ messages) old new = (mid : Way D) × Sends message old mid × SendsAll messages mid new

-- ---- what an event comes to

-- memory was wanting, if that is said
abbrev pub noted : {D : Type 0} → Option Refusal → Way D → Way D
noted None w = w
noted (Some refusal) w = shortened_by refusal w

-- what a node did is sent, and what it said is the answer; or nothing happened
abbrev pub Ends : {D : Type 0} → Result Turn Refusal → Way D → Result (Unit {0}) Refusal → Way D → Type 0
Ends {D} (Ok turn) old result new = (mid : Way D) × SendsAll turn.sent.items old mid × (new ≡ noted turn.said mid) × (result ≡ met_by turn.said)
Ends (Err refusal) old result new = (new ≡ shortened_by refusal old) × (result ≡ Err refusal)

abbrev pub with_nodes : {D : Type 0} → Nodes D → Way D → Way D
with_nodes nodes w = record w { nodes = nodes }

-- a message comes to its receiver
pub record IsDelivered {D : Type 0} (seen : D → List ℕ) (failures : D → ℕ) (message : Message) (old : Way D) (result : Result (Unit {0}) Refusal) (new : Way D) : Type 0 where
  pub nodes : Nodes D
  pub turn : Result Turn Refusal
  pub delivers : Delivers seen failures message old.moment old.nodes turn nodes
  pub ends : Ends turn (with_nodes nodes old) result new

abbrev pub with_queue : {D : Type 0} → List Message → Way D → Way D
with_queue queue w = record w { queue = queue }

-- what is under way is delivered in the order sent, until nothing is, or so many are
abbrev pub WithFirst : {A : Type 0} → List A → Type 0 → (A → List A → Type 0) → Type 0
WithFirst [] none some = none
WithFirst (x ∷ xs) none some = some x xs

unfoldable pub DeliversAll : {D : Type 0} → (D → List ℕ) → (D → ℕ) → ℕ → Way D → Way D → Type 0
DeliversAll seen failures zero old new = new ≡ old
DeliversAll {D} seen failures (suc many) old new =
    WithFirst old.queue (new ≡ old)
    (λ message queue. (said : Result (Unit {0}) Refusal) × (mid : Way D) × IsDelivered seen failures message (with_queue queue old) said mid × DeliversAll seen failures many mid new)

abbrev pub DeliversWhole : {D : Type 0} → (D → List ℕ) → (D → ℕ) → Way D → Way D → Type 0
DeliversWhole seen failures old new = DeliversAll seen failures last_count old new

-- ---- ticks

pub record MasterTicked {D : Type 0} (seen : D → List ℕ) (failures : D → ℕ) (old new : Way D) : Type 0 where
  pub place : MasterPlace D
  pub turn : Result Turn Refusal
  pub said : Result (Unit {0}) Refusal
  pub ticks : MasterTicks seen failures old.moment old.nodes.master turn place
  pub ends : Ends turn (with_nodes (with_master place old.nodes) old) said new

pub record ServerTicked {D : Type 0} (server : ℕ) (old new : Way D) : Type 0 where
  pub nodes : Nodes D
  pub turn : Result Turn Refusal
  pub said : Result (Unit {0}) Refusal
  pub ticks : AtServer server (λ s. ServerDoes (servers.tick s old.moment) s) old.nodes turn nodes
  pub ends : Ends turn (with_nodes nodes old) said new

-- so many of the first servers, ascending
abbrev pub ServersTick : {D : Type 0} → ℕ → Way D → Way D → Type 0
ServersTick zero old new = new ≡ old
ServersTick {D} (suc server) old new = (mid : Way D) × ServersTick server old mid × ServerTicked server mid new

-- the master and then the servers, ascending, 16 of them at most
abbrev pub AllTick : {D : Type 0} → (D → List ℕ) → (D → ℕ) → Way D → Way D → Type 0
AllTick {D} seen failures old new = (mid : Way D) × MasterTicked seen failures old mid × ServersTick (min (length old.nodes.servers) 16) mid new

-- all tick once, and what follows is delivered
abbrev pub TicksWhole : {D : Type 0} → (D → List ℕ) → (D → ℕ) → Way D → Way D → Type 0
TicksWhole {D} seen failures old new = (mid : Way D) × AllTick seen failures old mid × DeliversWhole seen failures mid new

-- ---- a request

-- what came back, if something did
abbrev pub Heard : {D : Type 0} → ClientId → Way D → Reply → Way D → Type 0
Heard {D} client old reply new =
    (nodes : Nodes D) × (found : Option Reply) × AtClient client None (λ n found after. (found ≡ n.reply) × (after ≡ given_up n)) old.nodes found nodes
    × (reply ≡ unwrap_or found replies.Lost) × (new ≡ with_nodes nodes old)

-- whether a client has no answer yet
abbrev pub Waits : {D : Type 0} → ClientId → Way D → Bool → Type 0
Waits client w waits = MatchOption (client_in w.nodes.clients client) (waits ≡ false) (λ n. waits ≡ is_some n.waiting)

-- where there is no answer all tick once, and again all is delivered
abbrev pub TicksIf : {D : Type 0} → (D → List ℕ) → (D → ℕ) → Bool → Way D → Way D → Type 0
TicksIf seen failures false old new = new ≡ old
TicksIf seen failures true old new = TicksWhole seen failures old new

abbrev pub Waited : {D : Type 0} → (D → List ℕ) → (D → ℕ) → ClientId → Way D → Way D → Type 0
Waited seen failures client old new = (waits : Bool) × Waits client old waits × TicksIf seen failures waits old new

pub record IsAsked {D : Type 0} (seen : D → List ℕ) (failures : D → ℕ) (client : ClientId) (sent : List Message) (old : Way D) (reply : Reply) (new : Way D) : Type 0 where
  pub first : Way D
  pub second : Way D
  pub third : Way D
  pub sends : SendsAll sent old first
  pub delivers : DeliversWhole seen failures first second
  pub waited : Waited seen failures client second third
  pub heard : Heard client third reply new

-- a client can't ask, or memory is wanting for it
abbrev pub AnswersAsked : {D : Type 0} → (D → List ℕ) → (D → ℕ) → ClientId → Result (Vec Message Global) Refusal → Way D → Reply → Way D → Type 0
AnswersAsked seen failures client (Ok sent) old reply new = IsAsked seen failures client sent.items old reply new
AnswersAsked seen failures client (Err refusal) old reply new = (reply ≡ replies.Refused refusal) × (new ≡ shortened_by refusal old)

-- A client's request: what it asks is sent and delivered with all that follows; if there is no answer then, all nodes tick once
-- and all is delivered again.
pub record Carries {D : Type 0} (seen : D → List ℕ) (failures : D → ℕ) (req : ReqId) (request : Request) (old : Way D) (reply : Reply) (new : Way D) : Type 0 where
  pub nodes : Nodes D
  pub asked : Result (Vec Message Global) Refusal
  pub asks : AtClient req.client (Err refusals.Range) (ClientAsks req.number request) old.nodes asked nodes
  pub answers : AnswersAsked seen failures req.client asked (with_nodes nodes old) reply new
