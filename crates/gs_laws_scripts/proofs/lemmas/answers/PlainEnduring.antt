-- Ways that are good, and what keeps them so.
use Rattle.std.proofs.Common.{◌≡◌, ◌⊎◌, ◌≤◌, ℕ, List, ◌∷◌, Option, Some, Result, Ok, Err, Vec, slice_get}
use Rattle.std.specs.declared.alloc.Global.{Global}
use Rattle.gs_base.specs.Told.{IsNumber}
use Rattle.gs_base.specs.declared.numbers.ClientId.{ClientId}
use Rattle.gs_base.specs.declared.numbers.ReqId.{ReqId}
use Rattle.gs_base.specs.declared.refusal.Refusal.{Refusal}
use Rattle.gs_base.specs.declared.refusal.Refusal.TheVariants as refusals
use Rattle.gs_base.specs.Calls.{Does}
use Rattle.gs_shell_calls.specs.Asked.{asked_by}
use Rattle.gs_shell_calls.specs.declared.answer.Answer.{Answer}
use Rattle.gs_client.specs.Sends.{last_number}
use Rattle.gs_client.specs.Trees.{Call}
use Rattle.gs_client.specs.declared.client.Client.{Client}
use Rattle.gs_client.specs.declared.link.Reply.{Reply}
use Rattle.gs_shell_desk.specs.Lines.{held_at}
use Rattle.gs_shell_desk.specs.Ways.{Ends, Heard, IsDelivered, MasterTicked, Sends, SendsAll, ServerTicked, Way, shortened_by, way_of, with_nodes, with_queue}
use Rattle.gs_shell_desk.specs.declared.desk.Desk.{Desk}
use Rattle.gs_client_dialogue.specs.Dialogues.{Ask, Dialogue, Grow, Say}
use Rattle.gs_laws_master.specs.Standing.{IsNamedBody}
use Rattle.gs_laws_master.specs.Written.{IsHeardBody, IsSteady}
use Rattle.gs_shell_grammar.specs.Grammar.{Request, line_request}
use Rattle.gs_shell_grammar.specs.Grammar as lines
use Rattle.gs_master.specs.Masters.{MasterOf}
use Rattle.gs_master.specs.declared.turn.Turn.{Turn as Told}
use Rattle.gs_msg.specs.declared.event.Request.{Request as Asked}
use Rattle.gs_msg.specs.declared.kind.Kind.{Kind}
use Rattle.gs_msg.specs.declared.message.Message.{Message}
use Rattle.gs_msg.specs.declared.node.NodeId.TheVariants as ids
use Rattle.gs_laws_world.specs.lasting.Lasting.{StandsFirm}
use Rattle.gs_server.specs.Servers.{Server}
use Rattle.gs_server.specs.Servers as servers
use Rattle.gs_nodes.specs.Happenings.{AtClient, AtServer, ClientAsks, Reopens}
use Rattle.gs_nodes.specs.Nodes.{Nodes, with_master}
use Rattle.gs_nodes.specs.declared.place.MasterPlace.{MasterPlace}
use Rattle.gs_laws_scripts.specs.answers.Meeting.{HasMaster, IsAsWritten, IsCalm, IsPlain, Stands}
use Rattle.gs_laws_scripts.specs.answers.Plain.{Plain, PlainDesk}

-- a message that is under way first, and the way without it; or one that is held back
abbrev pub IsTaken : {D : Type 0} → Message → Way D → Way D → Type 0
IsTaken message old before =
    ((rest : List Message) × (old.queue ≡ message ∷ rest) × (before ≡ with_queue rest old)) ⊎ ((number : ℕ) × (held_at number old.held ≡ Some message) × (before ≡ old))

-- all that a call may ask, whatever is answered, is so
abbrev pub AllAsked : {Q R A : Type 0} → (Q → Type 0) → Dialogue Q R A → Type 0
AllAsked P (Say said) = Unit {0}
AllAsked {Q} {R} P (Ask asked more) = P asked × ((reply : R) → AllAsked P (more reply))
AllAsked P (Grow rest) = AllAsked P rest

-- what a client asks goes out, or it is refused
abbrev pub GoesOut : {D : Type 0} → Result (Vec Message Global) Refusal → Way D → Way D → Type 0
GoesOut (Ok sent) old new = SendsAll sent.items old new
GoesOut (Err refusal) old new = new ≡ shortened_by refusal old

-- The master stands firm and within its types, and the moment is a number.
pub record IsGood {D : Type 0} (seen : D → List ℕ) (w : Way D) (m : MasterOf D) : Type 0 where
  pub firm : StandsFirm seen m
  pub steady : IsSteady m.state
  pub moment : IsNumber w.moment.0

-- Ways that are good so, and stay so behind each event where memory isn't wanting and no disk fails. What comes to the master at such a way is
-- named, and within its types. What this client may ask leaves them so.
pub record Endures {D : Type 0} (seen : D → List ℕ) (failures : D → ℕ) (me : ClientId) (size : ℕ) (MayAsk : Asked → Type 0) (Good : Way D → Type 0) : Type 0 where
  pub good : (w : Way D) (m : MasterOf D) → Stands w m → Good w → IsGood seen w m
  pub hears : (message : Message) (old before : Way D) (m : MasterOf D) → Stands old m → Good old → IsTaken message old before → message.to ≡ ids.Master
      → IsNamedBody message.body × IsHeardBody m.state.durable.names message.body
  pub delivers : (message : Message) (old before : Way D) (said : Result (Unit {0}) Refusal) (new : Way D) → Good old → IsTaken message old before
      → IsDelivered seen failures message before said new → IsCalm failures before new → HasMaster new.nodes → Good new
  pub master_ticks : (old new : Way D) → Good old → MasterTicked seen failures old new → IsCalm failures old new → HasMaster new.nodes → Good new
  pub server_ticks : (id : ℕ) (old new : Way D) → Good old → ServerTicked id old new → IsCalm failures old new → HasMaster new.nodes → Good new
  pub asks : (req : ReqId) (request : Asked) (out : Result (Vec Message Global) Refusal) (nodes : Nodes D) (old new : Way D) → Good old → req.client ≡ me → req.number ≤ last_number → MayAsk request
      → AtClient req.client (Err refusals.Range) (ClientAsks req.number request) old.nodes out nodes → GoesOut out (with_nodes nodes old) new → IsCalm failures old new → HasMaster new.nodes → Good new
  pub takes : (client : ClientId) (old : Way D) (reply : Reply) (new : Way D) → Good old → Heard client old reply new → HasMaster new.nodes → Good new
  pub beats : (id : ℕ) (s : Server) (old new : Way D) → Good old → slice_get old.nodes.servers id ≡ Some s → Sends (servers.beat s) (record old { drops = 0 }) new → IsCalm failures old new → HasMaster new.nodes → Good new
  pub server_restarts : (id : ℕ) (old : Way D) (said : Result (Unit {0}) Refusal) (nodes : Nodes D) → Good old
      → AtServer id (λ s done after. (done ≡ Ok tt) × (after ≡ servers.restart s)) old.nodes said nodes → HasMaster nodes → Good (with_nodes nodes old)
  pub loses : (id handle : ℕ) (old : Way D) (said : Result (Unit {0}) Refusal) (nodes : Nodes D) → Good old
      → AtServer id (λ s done after. Does (servers.lose handle s) done s after) old.nodes said nodes → HasMaster nodes → Good (with_nodes nodes old)
  pub damages : (id handle block : ℕ) (old : Way D) (said : Result (Unit {0}) Refusal) (nodes : Nodes D) → Good old
      → AtServer id (λ s done after. Does (servers.damage handle block s) done s after) old.nodes said nodes → HasMaster nodes → Good (with_nodes nodes old)
  pub holds : (kind : Option Kind) (old : Way D) → Good old → Good (record old { kind = kind })
  pub calls : (line : List ℕ) (request : Request) (call : Call Answer) → line_request line ≡ Some request → asked_by size request ≡ Some call → AllAsked MayAsk call
  pub comes_at : (line : List ℕ) (moment : ℕ) (old : Way D) → Good old → line_request line ≡ Some (lines.At moment) → Good (record old { moment = record { 0 = moment } })

-- the same where the master may be restarted
pub record EnduresRestarts {D : Type 0} (seen : D → List ℕ) (failures : D → ℕ) (Good : Way D → Type 0) : Type 0 where
  pub written : (w : Way D) (m : MasterOf D) → Stands w m → Good w → IsAsWritten seen m
  pub restarts : (place : MasterPlace D) (turn : Result Told Refusal) (old : Way D) (said : Result (Unit {0}) Refusal) (new : Way D) → Good old
      → Reopens seen failures old.nodes.config old.nodes.master turn place → Ends turn (with_nodes (with_master place old.nodes) old) said new → IsCalm failures old new → HasMaster new.nodes → Good new

-- the client of a store with chunks of this size
abbrev pub IsOurs : ClientId → ℕ → Client → Type 0
IsOurs me size c = (c.last.client ≡ me) × (c.chunk ≡ size)

-- a desk where the client and the store without its disks are these
pub record Lands {D : Type 0} (Good : Way D → Type 0) (desk : Desk D) (w : PlainDesk) : Type 0 where
  pub client : desk.caller.client ≡ w.0
  pub plain : IsPlain (way_of desk.wire) w.1
  pub good : Good (way_of desk.wire)

-- a master stands in a store without its disks
pub has : {D : Type 0} (w : Way D) (p : Plain) → IsPlain w p → HasMaster w.nodes
has w p is = (is.master, is.stands.place)
