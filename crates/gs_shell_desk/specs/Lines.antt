-- What a line comes to at a desk: what its client asks, or what it does to nodes and messages.
use Rattle.std.specs.Prelude.{◌≡◌, ◌⊎◌, ◌-◌, ◌==◌, ℕ, Bool, true, false, min, nat_lt, List, length, Option, None, MatchOption, Result, Ok, Err, slice_get, if◌then◌else◌}
use Rattle.gs_base.specs.declared.refusal.Refusal.{Refusal}
use Rattle.gs_base.specs.declared.refusal.Refusal.TheVariants as refusals
use Rattle.gs_base.specs.Calls.{Does as DoesAtServer}
use Rattle.gs_client.specs.Sends.{Sends as Asks}
use Rattle.gs_base.specs.declared.numbers.ReqId.{ReqId}
use Rattle.gs_client.specs.declared.link.Reply.{Reply}
use Rattle.gs_msg.specs.declared.event.Request.{Request as Req}
use Rattle.gs_shell_grammar.specs.Grammar.{Request}
use Rattle.gs_shell_grammar.specs.Grammar as lines
use Rattle.gs_shell_grammar.specs.declared.command.Restarted.{Restarted}
use Rattle.gs_shell_grammar.specs.declared.command.Restarted.TheVariants as restarted
use Rattle.gs_master.specs.declared.turn.Turn.{Turn}
use Rattle.gs_msg.specs.declared.message.Message.{Message}
use Rattle.gs_server.specs.Servers as servers
use Rattle.gs_nodes.specs.Happenings.{AtServer, Reopens}
use Rattle.gs_nodes.specs.Nodes.{Nodes, with_master}
use Rattle.gs_nodes.specs.declared.place.MasterPlace.{MasterPlace}
use Rattle.gs_shell_desk.specs.Ways.{Carries, DeliversWhole, Ends, IsDelivered, Sends, TicksWhole, Way, shortened, way_of, with_nodes}
use Rattle.gs_shell_desk.specs.declared.desk.Desk.{Desk}
use Rattle.gs_shell_desk.specs.declared.wire.Wire.{Wire}
use Rattle.gs_shell_calls.specs.Asked.{answered, asked_by, done}
use Rattle.gs_shell_calls.specs.declared.answer.Answer.{Answer}
use Rattle.gs_shell_calls.specs.declared.answer.Answer.TheVariants as answers
use Rattle.gs_client_dialogue.specs.Dialogues.{FollowsDialogue}

-- how a request is carried over the wire
abbrev pub carried : {D : Type 0} → (D → List ℕ) → (D → ℕ) → Wire D → ReqId → Req → Reply → Wire D → Type 0
carried seen failures old req request reply new = Carries seen failures req request (way_of old) reply (way_of new)

-- ---- what is done to nodes and messages

-- a server of this number, of which there are 16 at most
abbrev pub is_server : {D : Type 0} → ℕ → Way D → Bool
is_server number w = nat_lt number (min (length w.nodes.servers) 16)

abbrev pub Either : Bool → Type 0 → Type 0 → Type 0
Either true this that = this
Either false this that = that

-- what is done at a server, if there is one of this number
abbrev pub ForServer : {A D : Type 0} → ℕ → (Result A Refusal → Way D → Type 0) → Way D → Result A Refusal → Way D → Type 0
ForServer number does old result new = Either (is_server number old) (does result new) ((result ≡ Err refusals.Range) × (new ≡ old))

-- a message that was held back, which are numbered from 1
abbrev pub held_at : ℕ → List Message → Option Message
held_at number held = if number == 0 then None else slice_get held (number - 1)

-- it is handed over, with all that follows; or memory is wanting for its copy
abbrev pub HandsOver : {D : Type 0} → (D → List ℕ) → (D → ℕ) → Message → Way D → Result (Unit {0}) Refusal → Way D → Type 0
HandsOver {D} seen failures message old result new =
    ((result ≡ Err refusals.Memory) × (new ≡ shortened old))
    ⊎ ((mid : Way D) × IsDelivered seen failures message old result mid × DeliversWhole seen failures mid new)

-- the report is sent, with all that follows; or memory is wanting for it. The answer is how many drops that brought.
abbrev pub Beats : {D : Type 0} → (D → List ℕ) → (D → ℕ) → Message → Way D → Result ℕ Refusal → Way D → Type 0
Beats {D} seen failures report old result new =
    ((result ≡ Err refusals.Memory) × (new ≡ shortened old))
    ⊎ ((mid : Way D) × Sends report (record old { drops = 0 }) mid × DeliversWhole seen failures mid new × (result ≡ Ok new.drops))

-- the master begins again with what its disks tell, and all that follows is delivered
pub record MasterRestarts {D : Type 0} (seen : D → List ℕ) (failures : D → ℕ) (old : Way D) (result : Result (Unit {0}) Refusal) (new : Way D) : Type 0 where
  pub place : MasterPlace D
  pub turn : Result Turn Refusal
  pub mid : Way D
  pub opens : Reopens seen failures old.nodes.config old.nodes.master turn place
  pub ends : Ends turn (with_nodes (with_master place old.nodes) old) result mid
  pub delivers : DeliversWhole seen failures mid new

-- what one server does, and nothing else
abbrev pub AtOne : {D : Type 0} → ℕ → (servers.Server → Result (Unit {0}) Refusal → servers.Server → Type 0) → Way D → Result (Unit {0}) Refusal → Way D → Type 0
AtOne {D} number does old result new = (nodes : Nodes D) × AtServer number does old.nodes result nodes × (new ≡ with_nodes nodes old)

-- a replica of a chunk, if a chunk may have this handle
abbrev pub OfHandle : {D : Type 0} → ℕ → (Result (Unit {0}) Refusal → Way D → Type 0) → Way D → Result (Unit {0}) Refusal → Way D → Type 0
OfHandle handle does old result new = Either (handle == 0) ((result ≡ Err refusals.NoReplica) × (new ≡ old)) (does result new)

-- the answer to what was done
abbrev pub IsDone : {D : Type 0} → (Result (Unit {0}) Refusal → Way D → Type 0) → Result Answer Refusal → Way D → Type 0
IsDone does result new = (said : Result (Unit {0}) Refusal) × does said new × (result ≡ answered done said)

abbrev pub Restarts : {D : Type 0} → (D → List ℕ) → (D → ℕ) → Restarted → Way D → Result (Unit {0}) Refusal → Way D → Type 0
Restarts seen failures restarted.Master old result new = MasterRestarts seen failures old result new
Restarts seen failures (restarted.Server number) old result new =
    ForServer number (AtOne number (λ s result after. (result ≡ Ok tt) × (after ≡ servers.restart s)) old) old result new

abbrev pub Loses : {D : Type 0} → ℕ → ℕ → Way D → Result (Unit {0}) Refusal → Way D → Type 0
Loses number handle old result new =
    ForServer number (OfHandle handle (AtOne number (λ s result after. DoesAtServer (servers.lose handle s) result s after) old) old) old result new

abbrev pub Damages : {D : Type 0} → ℕ → ℕ → ℕ → Way D → Result (Unit {0}) Refusal → Way D → Type 0
Damages number handle block old result new =
    ForServer number (OfHandle handle (AtOne number (λ s result after. DoesAtServer (servers.damage handle block s) result s after) old) old) old result new

-- of a number of which there is none nothing is handed over
abbrev pub HandsOverAt : {D : Type 0} → (D → List ℕ) → (D → ℕ) → ℕ → Way D → Result (Unit {0}) Refusal → Way D → Type 0
HandsOverAt seen failures number old result new =
    MatchOption (held_at number old.held) ((result ≡ Err refusals.Range) × (new ≡ old)) (λ message. HandsOver seen failures message old result new)

abbrev pub BeatsOf : {D : Type 0} → (D → List ℕ) → (D → ℕ) → ℕ → Way D → Result ℕ Refusal → Way D → Type 0
BeatsOf seen failures number old result new =
    MatchOption (slice_get old.nodes.servers number) ((result ≡ Err refusals.Range) × (new ≡ old)) (λ s. Beats seen failures (servers.beat s) old result new)

abbrev pub BeatsAt : {D : Type 0} → (D → List ℕ) → (D → ℕ) → ℕ → Way D → Result ℕ Refusal → Way D → Type 0
BeatsAt seen failures number old result new = ForServer number (BeatsOf seen failures number old) old result new

-- what a line does that asks nothing of the store
abbrev pub NodesDo : {D : Type 0} → (D → List ℕ) → (D → ℕ) → Request → Way D → Result Answer Refusal → Way D → Type 0
NodesDo {D} seen failures (lines.Beat number) old result new =
    (drops : Result ℕ Refusal) × BeatsAt seen failures number old drops new × (result ≡ answered answers.Number drops)
NodesDo seen failures lines.Tick old result new = (result ≡ Ok answers.Done) × TicksWhole seen failures old new
NodesDo seen failures (lines.At moment) old result new = (result ≡ Ok answers.Done) × (new ≡ record old { moment = record { 0 = moment } })
NodesDo seen failures (lines.Hold kind) old result new = (result ≡ Ok answers.Done) × (new ≡ record old { kind = kind })
NodesDo seen failures (lines.Restart node) old result new = IsDone (Restarts seen failures node old) result new
NodesDo seen failures (lines.Lose server handle) old result new = IsDone (Loses server handle old) result new
NodesDo seen failures (lines.Damage server handle block) old result new = IsDone (Damages server handle block old) result new
NodesDo seen failures (lines.Deliver number) old result new = IsDone (HandsOverAt seen failures number old) result new
NodesDo seen failures request old result new = ⊥

-- ---- what a line comes to

unfoldable pub Comes : {D : Type 0} → (D → List ℕ) → (D → ℕ) → Request → Desk D → Result Answer Refusal → Desk D → Type 0
Comes seen failures request old result new =
    MatchOption (asked_by old.caller.client.chunk request)
    ((new.caller.client ≡ old.caller.client) × NodesDo seen failures request (way_of old.wire) result (way_of new.wire))
    (λ call. FollowsDialogue (Asks (carried seen failures)) call (old.caller.client, old.wire) result (new.caller.client, new.wire))
