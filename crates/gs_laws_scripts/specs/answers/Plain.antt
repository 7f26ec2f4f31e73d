-- A store without disks, where memory is never wanting: what it answers is a function of what it is asked. Each function gives what the relation for
-- the same thing allows where memory isn't wanting and no disk fails: those of gs_shell_desk (Ways, Lines, Starting, Answering) and of gs_shell_script (Run). Of the
-- journal it knows only its room, and how many records it counts.
use Rattle.std.specs.Prelude.{◌≡◌, ◌+◌, ◌-◌, ◌==◌, ℕ, zero, suc, Bool, true, false, min, nat_le, nat_lt, List, [], ◌∷◌, ◌++◌, length, if◌then◌else◌, Option, Some, None, is_some, unwrap_or, Result, Ok, Err, slice_get, slice_set, codes, refl}
use Rattle.std.specs.Fmt.{digits}
use Rattle.gs_base.specs.declared.config.Config.{Config}
use Rattle.gs_base.specs.declared.numbers.ClientId.{ClientId}
use Rattle.gs_base.specs.declared.numbers.Moment.{Moment}
use Rattle.gs_base.specs.declared.numbers.ReqId.{ReqId}
use Rattle.gs_base.specs.declared.refusal.Refusal.{Refusal}
use Rattle.gs_base.specs.declared.refusal.Refusal.TheVariants as refusals
use Rattle.gs_shell_calls.specs.Asked.{answered, asked_by, done}
use Rattle.gs_shell_calls.specs.Texts.{answer_text}
use Rattle.gs_shell_calls.specs.declared.answer.Answer.{Answer}
use Rattle.gs_shell_calls.specs.declared.answer.Answer.TheVariants as answers
use Rattle.gs_client.specs.Nodes.{Node, asks, given_up, hears}
use Rattle.gs_client.specs.Sends.{last_number, next_request}
use Rattle.gs_client.specs.Trees.{Call}
use Rattle.gs_client.specs.declared.client.Client.{Client}
use Rattle.gs_client.specs.declared.link.Reply.{Reply}
use Rattle.gs_client.specs.declared.link.Reply.TheVariants as replies
use Rattle.gs_shell_desk.specs.Lines.{held_at}
use Rattle.gs_shell_desk.specs.Starting.{new_client}
use Rattle.gs_shell_desk.specs.Ways.{is_drop, is_held, last_count}
use Rattle.gs_client_dialogue.specs.Dialogues.{run}
use Rattle.gs_journal.specs.Journal.{text_size}
use Rattle.gs_journal.specs.Records.{fresh}
use Rattle.gs_shell_line.specs.Line.{content, longest_line}
use Rattle.gs_shell_grammar.specs.Grammar.{Request, line_request}
use Rattle.gs_shell_grammar.specs.Grammar as lines
use Rattle.gs_shell_grammar.specs.declared.command.Restarted.{Restarted}
use Rattle.gs_shell_grammar.specs.declared.command.Restarted.TheVariants as restarts
use Rattle.gs_msg.specs.Bodies.{kind_of}
use Rattle.gs_msg.specs.declared.body.Body.{Body}
use Rattle.gs_msg.specs.declared.event.Request.{Request as Asked}
use Rattle.gs_msg.specs.declared.kind.Kind.{Kind}
use Rattle.gs_msg.specs.declared.message.Message.{Message}
use Rattle.gs_msg.specs.declared.node.NodeId.{NodeId}
use Rattle.gs_msg.specs.declared.node.NodeId.TheVariants as nodes
use Rattle.gs_shell_script.specs.Run.{bad_line_text, lines_of}
use Rattle.gs_server.specs.Servers.{Server, Step}
use Rattle.gs_server.specs.Servers as servers
use Rattle.gs_master_spec.specs.Durable.{start}
use Rattle.gs_master_spec.specs.Handling.{handle, reopened, restarted, tick}
use Rattle.gs_master_spec.specs.State.{Log, State, Turn}
use Rattle.gs_nodes.specs.Happenings.{client_in, limit, met_by}
use Rattle.gs_nodes.specs.Nodes.{new_clients, new_servers}

-- The master's state, the servers by their numbers, the clients, numbered from 1; when all happens; what is under way, in the order sent; the kind of
-- which messages are held back, and those that were; and how many drops were sent since that was counted from.
pub record Plain : Type 0 where
  pub config : Config
  pub master : State
  pub servers : List Server
  pub clients : List Node
  pub moment : Moment
  pub queue : List Message
  pub kind : Option Kind
  pub held : List Message
  pub drops : ℕ

-- ---- what is sent

abbrev pub counted : Message → Plain → Plain
counted message p = record p { drops = if is_drop (kind_of message.body) then min (p.drops + 1) last_count else p.drops }

abbrev pub under_way : Message → Plain → Plain
under_way message p = record p { queue = p.queue ++ message ∷ [] }

abbrev pub held_back : Message → Plain → Plain
held_back message p = record p { held = p.held ++ message ∷ [] }

-- under way, or held back where its kind is
abbrev pub puts : Message → Plain → Plain
puts message p = if is_held p.kind (kind_of message.body) then held_back message p else under_way message p

abbrev pub sends : Message → Plain → Plain
sends message p = puts message (counted message p)

-- one after the other
abbrev pub sends_all : List Message → Plain → Plain
sends_all [] p = p
sends_all (message ∷ messages) p = sends_all messages (sends message p)

-- ---- what a node does

-- with what it is met, and what the store is then
abbrev pub Met : Type 0
Met = Result (Unit {0}) Refusal × Plain

abbrev pub at_master : Turn → Plain → Met
at_master t p = (met_by t.said, sends_all t.sent (record p { master = t.after }))

abbrev pub with_server : ℕ → Server → Plain → Plain
with_server id s p = record p { servers = slice_set p.servers id s }

abbrev pub stepped : ℕ → Step → Plain → Met
stepped id step p = (met_by step.said, sends_all step.sent (with_server id step.after p))

-- of a number that is no server's nothing comes
abbrev pub at_found : Option Server → ℕ → (Server → Step) → Plain → Met
at_found None id step p = (Err refusals.Range, p)
at_found (Some s) id step p = stepped id (step s) p

abbrev pub at_server : ℕ → (Server → Step) → Plain → Met
at_server id step p = at_found (slice_get p.servers id) id step p

-- what is left where something may be refused, and with what that is met
abbrev pub left : {A : Type 0} → Result A Refusal → A → A
left (Ok after) old = after
left (Err refusal) old = old

abbrev pub met : {A : Type 0} → Result A Refusal → Result (Unit {0}) Refusal
met (Ok after) = Ok tt
met (Err refusal) = Err refusal

abbrev pub with_client : ClientId → Node → Plain → Plain
with_client id n p = record p { clients = slice_set p.clients (id.0 - 1) n }

-- a client sends nothing when it hears something, and of a number that is no client's nothing comes
abbrev pub hears_as : Option Node → ClientId → Body → Plain → Met
hears_as None id body p = (Ok tt, p)
hears_as (Some n) id body p = (met (hears body n), with_client id (left (hears body n) n) p)

abbrev pub comes_to : NodeId → Message → Plain → Met
comes_to nodes.Master message p = at_master (handle p.config p.master message p.moment) p
comes_to (nodes.Server id) message p = at_server id (λ s. servers.handle s message p.moment) p
comes_to (nodes.Client id) message p = hears_as (client_in p.clients id) id message.body p

-- a message comes to its receiver
abbrev pub delivered : Message → Plain → Met
delivered message p = comes_to message.to message p

-- what is under way is delivered in the order sent, until nothing is, or so many are
abbrev pub with_first : {A B : Type 0} → List A → B → (A → List A → B) → B
with_first [] none some = none
with_first (x ∷ xs) none some = some x xs

unfoldable pub delivers : ℕ → Plain → Plain
delivers zero p = p
delivers (suc many) p = with_first p.queue p (λ message queue. delivers many (delivered message (record p { queue = queue })).1)

abbrev pub delivers_whole : Plain → Plain
delivers_whole p = delivers last_count p

-- ---- ticks

abbrev pub master_ticks : Plain → Plain
master_ticks p = (at_master (tick p.master p.moment) p).1

abbrev pub server_ticks : ℕ → Plain → Plain
server_ticks id p = (at_server id (λ s. servers.tick s p.moment) p).1

-- so many of the first servers, ascending
abbrev pub servers_tick : ℕ → Plain → Plain
servers_tick zero p = p
servers_tick (suc id) p = server_ticks id (servers_tick id p)

-- the master and then the servers, 16 of them at most
abbrev pub all_tick : Plain → Plain
all_tick p = servers_tick (min (length p.servers) 16) (master_ticks p)

-- all tick once, and what follows is delivered
abbrev pub ticks_whole : Plain → Plain
ticks_whole p = delivers_whole (all_tick p)

-- ---- a request

-- whether a client has no answer yet
abbrev pub is_waiting : Option Node → Bool
is_waiting None = false
is_waiting (Some n) = is_some n.waiting

-- where there is no answer all tick once, and again all is delivered
abbrev pub ticks_if : Bool → Plain → Plain
ticks_if false p = p
ticks_if true p = ticks_whole p

abbrev pub waited : ClientId → Plain → Plain
waited client p = ticks_if (is_waiting (client_in p.clients client)) p

-- what came back, if something did
abbrev pub taken_from : Option Node → ClientId → Plain → Reply × Plain
taken_from None client p = (replies.Lost, p)
taken_from (Some n) client p = (unwrap_or n.reply replies.Lost, with_client client (given_up n) p)

abbrev pub heard : ClientId → Plain → Reply × Plain
heard client p = taken_from (client_in p.clients client) client p

abbrev pub asked : ClientId → List Message → Plain → Reply × Plain
asked client sent p = heard client (waited client (delivers_whole (sends_all sent p)))

abbrev pub carried_if : Result (Node × List Message) Refusal → Node → ClientId → Plain → Reply × Plain
carried_if (Ok out) n client p = asked client out.1 (with_client client out.0 p)
carried_if (Err refusal) n client p = (replies.Refused refusal, with_client client n p)

abbrev pub carried_from : Option Node → ReqId → Asked → Plain → Reply × Plain
carried_from None req request p = (replies.Refused refusals.Range, p)
carried_from (Some n) req request p = carried_if (asks req.number request n) n req.client p

-- what a client asks is sent and delivered with all that follows; if there is no answer then, all tick once, and all is delivered again
abbrev pub carries : ReqId → Asked → Plain → Reply × Plain
carries req request p = carried_from (client_in p.clients req.client) req request p

-- ---- what is done to nodes and messages

-- what is done at a server, if there is one of this number, of which there are 16 at most
abbrev pub for_server : {A : Type 0} → ℕ → (Plain → Result A Refusal × Plain) → Plain → Result A Refusal × Plain
for_server number does p = if nat_lt number (min (length p.servers) 16) then does p else (Err refusals.Range, p)

-- a replica of a chunk, if a chunk may have this handle
abbrev pub of_handle : ℕ → (Plain → Met) → Plain → Met
of_handle handle does p = if handle == 0 then (Err refusals.NoReplica, p) else does p

abbrev pub befalls_found : Option Server → ℕ → (Server → Result Server Refusal) → Plain → Met
befalls_found None id does p = (Err refusals.Range, p)
befalls_found (Some s) id does p = (met (does s), with_server id (left (does s) s) p)

abbrev pub befalls : ℕ → (Server → Result Server Refusal) → Plain → Met
befalls id does p = befalls_found (slice_get p.servers id) id does p

-- all that follows is delivered
abbrev pub followed : {A : Type 0} → A × Plain → A × Plain
followed met = (met.0, delivers_whole met.1)

abbrev pub handed_over : Option Message → Plain → Met
handed_over None p = (Err refusals.Range, p)
handed_over (Some message) p = followed (delivered message p)

-- the answer is how many drops a report brought
abbrev pub counts_drops : Plain → Result ℕ Refusal × Plain
counts_drops p = (Ok p.drops, p)

abbrev pub beats_found : Option Server → Plain → Result ℕ Refusal × Plain
beats_found None p = (Err refusals.Range, p)
beats_found (Some s) p = counts_drops (delivers_whole (sends (servers.beat s) (record p { drops = 0 })))

abbrev pub beats : ℕ → Plain → Result ℕ Refusal × Plain
beats number p = for_server number (λ q. beats_found (slice_get q.servers number) q) p

-- the master begins again with what is durable, and knows the room of its journal
abbrev pub begun_again : State → State
begun_again s = restarted s.durable (record s.log { limit = limit })

abbrev pub restarts_node : Restarted → Plain → Met
restarts_node restarts.Master p = followed (at_master (reopened p.config (begun_again p.master)) p)
restarts_node (restarts.Server number) p = for_server number (befalls number (λ s. Ok (servers.restart s))) p

abbrev pub answered_by : {A : Type 0} → (A → Answer) → Result A Refusal × Plain → Result Answer Refusal × Plain
answered_by answer met = (answered answer met.0, met.1)

-- what a line does that asks nothing of the store
abbrev pub nodes_do : Request → Plain → Result Answer Refusal × Plain
nodes_do (lines.Beat number) p = answered_by answers.Number (beats number p)
nodes_do lines.Tick p = (Ok answers.Done, ticks_whole p)
nodes_do (lines.At moment) p = (Ok answers.Done, record p { moment = record { 0 = moment } })
nodes_do (lines.Hold kind) p = (Ok answers.Done, record p { kind = kind })
nodes_do (lines.Restart node) p = answered_by done (restarts_node node p)
nodes_do (lines.Lose server handle) p = answered_by done (for_server server (of_handle handle (befalls server (servers.lose handle))) p)
nodes_do (lines.Damage server handle block) p = answered_by done (for_server server (of_handle handle (befalls server (servers.damage handle block))) p)
nodes_do (lines.Deliver number) p = answered_by done (handed_over (held_at number p.held) p)
nodes_do request p = (Err refusals.BadLine, p)

-- ---- lines

-- a client of the store, and the store
abbrev pub PlainDesk : Type 0
PlainDesk = Client × Plain

abbrev pub going_on : Client → Reply × Plain → Reply × PlainDesk
going_on client heard = (heard.0, (record client { last = next_request client }, heard.1))

-- each request goes out under the number after the last one, if there is one
abbrev pub serves : PlainDesk → Asked → Reply × PlainDesk
serves w request =
    if w.0.last.number == last_number then (replies.Refused refusals.Exhausted, w)
    else going_on w.0 (carries (next_request w.0) request w.1)

abbrev pub at_desk : {A : Type 0} → Client → A × Plain → A × PlainDesk
at_desk client met = (met.0, (client, met.1))

abbrev pub comes_as : Option (Call Answer) → Request → PlainDesk → Result Answer Refusal × PlainDesk
comes_as None request w = at_desk w.0 (nodes_do request w.1)
comes_as (Some call) request w = run serves call w

abbrev pub comes : Request → PlainDesk → Result Answer Refusal × PlainDesk
comes request w = comes_as (asked_by w.0.chunk request) request w

abbrev pub in_text : Result Answer Refusal × PlainDesk → List ℕ × PlainDesk
in_text met = (answer_text met.0, met.1)

abbrev pub answers_as : Option Request → PlainDesk → List ℕ × PlainDesk
answers_as None w = (answer_text (Err refusals.BadLine), w)
answers_as (Some request) w = in_text (comes request w)

-- the text that answers a line with its end
abbrev pub answers_line : List ℕ → PlainDesk → List ℕ × PlainDesk
answers_line whole w = if nat_le (length (content whole)) longest_line then answers_as (line_request (content whole)) w else (bad_line_text, w)

abbrev pub behind_text : List ℕ → List (List ℕ) × PlainDesk → List (List ℕ) × PlainDesk
behind_text text others = (text ∷ others.0, others.1)

abbrev pub answers_all : List (List ℕ) → PlainDesk → List (List ℕ) × PlainDesk
answers_all [] w = ([], w)
answers_all (line ∷ lines) w = behind_text (answers_line line w).0 (answers_all lines (answers_line line w).1)

-- ---- a new store

-- of a journal that has no records yet
abbrev pub new_log : Log
new_log = record { records = 0; size = text_size fresh; limit = limit; generation = 1 }

abbrev pub new_plain : Config → Plain
new_plain config = record {
  config = config;
  master = restarted start new_log;
  servers = new_servers config;
  clients = new_clients 1;
  moment = record { 0 = 0 };
  queue = [];
  kind = None;
  held = [];
  drops = 0;
}

abbrev pub begins : Config → PlainDesk
begins config = (new_client 1 config, delivers_whole (at_master (reopened config (restarted start new_log)) (new_plain config)).1)

-- what answers an input, line for line, and the desk behind it
abbrev pub runs : Config → List ℕ → List (List ℕ) × PlainDesk
runs config input = answers_all (lines_of input) (begins config)

abbrev pub answers_of : Config → List ℕ → List (List ℕ)
answers_of config input = (runs config input).0

-- ---- Worked: what a new store of four servers answers to a line

abbrev four : Config
four = record { servers = 4; racks = 2; replicas = 3; block = 4; chunk = 16; valid = refl }

abbrev said : Request → List ℕ
said request = (answers_as (Some request) (begins four)).0

a_moment : said (lines.At 5) ≡ codes "ok"
unfolding delivers
a_moment = refl

all_tick_once : said lines.Tick ≡ codes "ok"
unfolding delivers
all_tick_once = refl

no_path : said (lines.Mkdir (codes "a")) ≡ codes "refused 1 BadPath"
unfolding delivers digits
no_path = refl

none_is_held : said (lines.Deliver 1) ≡ codes "refused 25 Range"
unfolding delivers digits
none_is_held = refl

the_master_begins_again : said (lines.Restart restarts.Master) ≡ codes "ok"
unfolding delivers
the_master_begins_again = refl

no_chunk_has_the_handle_0 : said (lines.Lose 0 0) ≡ codes "refused 28 NoReplica"
unfolding delivers digits
no_chunk_has_the_handle_0 = refl
