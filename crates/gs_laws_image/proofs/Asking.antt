-- The node of a store's one client has asked under the numbers that the client has, whatever lines came.
use Rattle.std.proofs.Common.{◌≡◌, ◌∙◌, ◌+◌, ◌-◌, ◌==◌, ℕ, zero, suc, Bool, true, false, List, [], ◌∷◌, map, if◌then◌else◌, Option, Some, None, Result, Ok, Err, refl, sym, ap, subst, arith, length, slice_get, slice_set}
use Rattle.std.specs.Prelude.{min, nat_le, nat_lt}
use Rattle.std.proofs.lemmas.Bool.Decides.{nat_tests}
use Rattle.gs_base.specs.declared.config.Config.{Config}
use Rattle.gs_base.specs.declared.numbers.ClientId.{ClientId}
use Rattle.gs_base.specs.declared.numbers.ReqId.{ReqId}
use Rattle.gs_base.specs.declared.refusal.Refusal.{Refusal}
use Rattle.gs_base.specs.declared.refusal.Refusal.TheVariants as refusals
use Rattle.gs_client.specs.Nodes.{Node, given_up, hears, is_of, messages_of, request_of, takes}
use Rattle.gs_client.specs.Sends.{last_number, next_request}
use Rattle.gs_client.specs.Trees.{Call}
use Rattle.gs_client.specs.declared.link.Reply.{Reply}
use Rattle.gs_client.specs.declared.link.Reply.TheVariants as replies
use Rattle.gs_client_dialogue.specs.Dialogues.{Ask, Grow, Say, run}
use Rattle.gs_laws_scripts.specs.answers.Plain.{Plain, PlainDesk}
use Rattle.gs_laws_scripts.specs.answers.Plain as plain
use Rattle.gs_master_spec.specs.Durable.{start}
use Rattle.gs_master_spec.specs.Handling.{handle, reopened, restarted, tick}
use Rattle.gs_master_spec.specs.State.{Turn}
use Rattle.gs_msg.specs.Bodies.{kind_of}
use Rattle.gs_msg.specs.declared.body.Body.{Body}
use Rattle.gs_msg.specs.declared.body.Body.TheVariants as bodies
use Rattle.gs_msg.specs.declared.event.Request.{Request as Asked}
use Rattle.gs_msg.specs.declared.message.Message.{Message}
use Rattle.gs_msg.specs.declared.node.NodeId.{NodeId}
use Rattle.gs_msg.specs.declared.node.NodeId.TheVariants as nodes
use Rattle.gs_nodes.specs.Happenings.{client_in}
use Rattle.gs_server.specs.Servers.{Server, Step}
use Rattle.gs_server.specs.Servers as servers
use Rattle.gs_shell_calls.specs.Asked.{asked_by}
use Rattle.gs_shell_calls.specs.declared.answer.Answer.{Answer}
use Rattle.gs_shell_desk.specs.Lines.{held_at}
use Rattle.gs_shell_desk.specs.Ways.{is_held, last_count}
use Rattle.gs_shell_grammar.specs.Grammar.{Request, line_request}
use Rattle.gs_shell_grammar.specs.Grammar as lines
use Rattle.gs_shell_grammar.specs.declared.command.Restarted.TheVariants as restarts
use Rattle.gs_shell_line.specs.Line.{content, longest_line}
use Rattle.gs_shell_script.specs.Run.{bad_line_text}
use Rattle.gs_laws_image.specs.Going.{HasAskedAs, asked_of, one}

-- under which numbers the nodes of clients have asked
abbrev numbers : Plain → List (ClientId × ℕ)
numbers p = map asked_of p.clients

either_keeps : (b : Bool) (x y p : Plain) → numbers x ≡ numbers p → numbers y ≡ numbers p → numbers (if b then x else y) ≡ numbers p
either_keeps true x y p first second = first
either_keeps false x y p first second = second

-- ---- what is sent

sends_keeps : (message : Message) (p : Plain) → numbers (plain.sends message p) ≡ numbers p
sends_keeps message p = (let q = plain.counted message p in either_keeps (is_held q.kind (kind_of message.body)) (plain.held_back message q) (plain.under_way message q) p refl refl)

sent_keeps : (messages : List Message) (p : Plain) → numbers (plain.sends_all messages p) ≡ numbers p
sent_keeps [] p = refl
sent_keeps (message ∷ messages) p = sent_keeps messages (plain.sends message p) ∙ sends_keeps message p

-- ---- at a node

master_keeps : (t : Turn) (p : Plain) → numbers (plain.at_master t p).1 ≡ numbers p
master_keeps t p = sent_keeps t.sent (record p { master = t.after })

found_keeps : (o : Option Server) (id : ℕ) (step : Server → Step) (p : Plain) → numbers (plain.at_found o id step p).1 ≡ numbers p
found_keeps None id step p = refl
found_keeps (Some s) id step p = sent_keeps (step s).sent (plain.with_server id (step s).after p)

set_keeps : (xs : List Node) (i : ℕ) (n m : Node) → slice_get xs i ≡ Some n → asked_of m ≡ asked_of n → map asked_of (slice_set xs i m) ≡ map asked_of xs
set_keeps [] i n m is same = refl
set_keeps (x ∷ xs) zero n m is same = (let first : x ≡ n = cc in λ i. (same ∙ ap asked_of (sym first)) i ∷ map asked_of xs)
set_keeps (x ∷ xs) (suc i) n m is same = ap (λ ys. asked_of x ∷ ys) (set_keeps xs i n m is same)

there : (b : Bool) (o : Option Node) (n : Node) → (if b then None else o) ≡ Some n → o ≡ Some n
there true o n is = absurd cc
there false o n is = is

client_keeps : (id : ClientId) (n m : Node) (p : Plain) → client_in p.clients id ≡ Some n → asked_of m ≡ asked_of n → numbers (plain.with_client id m p) ≡ numbers p
client_keeps id n m p is same = set_keeps p.clients (id.0 - 1) n m (there (id.0 == 0) (slice_get p.clients (id.0 - 1)) n is) same

takes_keeps : (b : Bool) (n m : Node) → asked_of m ≡ asked_of n → asked_of (if b then m else n) ≡ asked_of n
takes_keeps true n m same = same
takes_keeps false n m same = refl

took : (req : ReqId) (reply : Reply) (n : Node) → asked_of (takes req reply n) ≡ asked_of n
took req reply n = takes_keeps (is_of req n.id n.waiting) n (record { id = n.id; last = n.last; waiting = None; reply = Some reply }) refl

heard_keeps : (body : Body) (n : Node) → asked_of (plain.left (hears body n) n) ≡ asked_of n
heard_keeps (bodies.Reply req result) n = took req _ n
heard_keeps (bodies.Done req result) n = took req _ n
heard_keeps (bodies.Bytes req result) n = took req _ n
heard_keeps body n = refl

hears_keeps : (o : Option Node) (id : ClientId) (body : Body) (p : Plain) → client_in p.clients id ≡ o → numbers (plain.hears_as o id body p).1 ≡ numbers p
hears_keeps None id body p is = refl
hears_keeps (Some n) id body p is = client_keeps id n (plain.left (hears body n) n) p is (heard_keeps body n)

comes_keeps : (to : NodeId) (message : Message) (p : Plain) → numbers (plain.comes_to to message p).1 ≡ numbers p
comes_keeps nodes.Master message p = master_keeps (handle p.config p.master message p.moment) p
comes_keeps (nodes.Server id) message p = found_keeps (slice_get p.servers id) id (λ s. servers.handle s message p.moment) p
comes_keeps (nodes.Client id) message p = hears_keeps (client_in p.clients id) id message.body p refl

first_keeps : (queue : List Message) (p : Plain) (more : Plain → Plain) → ((q : Plain) → numbers (more q) ≡ numbers q)
    → numbers (plain.with_first queue p (λ message rest. more (plain.delivered message (record p { queue = rest })).1)) ≡ numbers p
first_keeps [] p more keeps = refl
first_keeps (message ∷ rest) p more keeps = keeps (plain.delivered message (record p { queue = rest })).1 ∙ comes_keeps message.to message (record p { queue = rest })

delivers_keeps : (many : ℕ) (p : Plain) → numbers (plain.delivers many p) ≡ numbers p
unfolding plain.delivers
delivers_keeps zero p = refl
delivers_keeps (suc many) p = first_keeps p.queue p (plain.delivers many) (delivers_keeps many)

whole_keeps : (p : Plain) → numbers (plain.delivers_whole p) ≡ numbers p
whole_keeps p = delivers_keeps last_count p

-- ---- ticks

servers_keep : (many : ℕ) (p : Plain) → numbers (plain.servers_tick many p) ≡ numbers p
servers_keep zero p = refl
servers_keep (suc id) p = (let q = plain.servers_tick id p in found_keeps (slice_get q.servers id) id (λ s. servers.tick s q.moment) q ∙ servers_keep id p)

ticks_keep : (p : Plain) → numbers (plain.ticks_whole p) ≡ numbers p
ticks_keep p = whole_keeps (plain.all_tick p) ∙ servers_keep (min (length p.servers) 16) (plain.master_ticks p) ∙ master_keeps (tick p.master p.moment) p

-- ---- a request

waits_keep : (b : Bool) (p : Plain) → numbers (plain.ticks_if b p) ≡ numbers p
waits_keep false p = refl
waits_keep true p = ticks_keep p

taken_keeps : (o : Option Node) (client : ClientId) (p : Plain) → client_in p.clients client ≡ o → numbers (plain.taken_from o client p).1 ≡ numbers p
taken_keeps None client p is = refl
taken_keeps (Some n) client p is = client_keeps client n (given_up n) p is refl

asked_keeps : (client : ClientId) (sent : List Message) (p : Plain) → numbers (plain.asked client sent p).1 ≡ numbers p
asked_keeps client sent p =
    let first = plain.delivers_whole (plain.sends_all sent p) in
    let second = plain.waited client first in
    taken_keeps (client_in second.clients client) client second refl
    ∙ waits_keep (plain.is_waiting (client_in first.clients client)) first ∙ whole_keeps (plain.sends_all sent p) ∙ sent_keeps sent p

-- of one client there is one node
record IsOne (xs : List Node) (y : ClientId × ℕ) : Type 0 where
  node : Node
  is : xs ≡ node ∷ []
  asked : asked_of node ≡ y

one_is : (xs : List Node) (y : ClientId × ℕ) → map asked_of xs ≡ y ∷ [] → IsOne xs y
one_is [] y is = absurd cc
one_is (n ∷ []) y is = record { node = n; is = refl; asked = cc }
one_is (n ∷ m ∷ xs) y is = absurd cc

above : (k last : ℕ) → last ≡ k → nat_le (k + 1) last ≡ false
above k last is = grind (arith, nat_tests)

asks_above : (b : Bool) (number : ℕ) (n : Node) (client : ClientId) (p : Plain) (out : Node × List Message) → b ≡ false → p.clients ≡ n ∷ [] → client ≡ one → asked_of out.0 ≡ (one, number)
    → numbers (plain.carried_if (if b then Err refusals.Old else Ok out) n client p).1 ≡ (one, number) ∷ []
asks_above true number n client p out is clients me asked = absurd cc
asks_above false number n client p out is clients me asked =
    asked_keeps client out.1 (plain.with_client client out.0 p)
    ∙ (λ i. map asked_of (slice_set (clients i) ((me i).0 - 1) out.0))
    ∙ (λ i. asked i ∷ [])

carries_asks : (req : ReqId) (request : Asked) (k : ℕ) (p : Plain) → req.client ≡ one → req.number ≡ k + 1 → numbers p ≡ (one, k) ∷ [] → numbers (plain.carries req request p).1 ≡ (one, k + 1) ∷ []
carries_asks req request k p me number is =
    let o = one_is p.clients (one, k) is in
    let n = o.node in
    let found : client_in p.clients req.client ≡ Some n = λ i. client_in (o.is i) (me i) in
    let last : n.last ≡ k = ap (λ (x : ClientId × ℕ). x.1) o.asked in
    let id : n.id ≡ one = ap (λ (x : ClientId × ℕ). x.0) o.asked in
    let none : nat_le req.number n.last ≡ false = ap (λ m. nat_le m n.last) number ∙ above k n.last last in
    ap (λ (found : Option Node). numbers (plain.carried_from found req request p).1) found
    ∙ asks_above (nat_le req.number n.last) (k + 1) n req.client p (record { id = n.id; last = req.number; waiting = Some req.number; reply = None }, messages_of (request_of n req.number) request) none o.is me (λ i. (id i, number i))

-- ---- a call

serves_asks : (b : Bool) (w : PlainDesk) (request : Asked) (refused : Reply × PlainDesk) → refused.1 ≡ w → HasAskedAs w
    → HasAskedAs (if b then refused else plain.going_on w.0 (plain.carries (next_request w.0) request w.1)).1
serves_asks true w request refused same asked = subst HasAskedAs (sym same) asked
serves_asks false w request refused same asked = (asked.0, carries_asks (next_request w.0) request w.0.last.number w.1 asked.0 refl asked.1)

call_asks : {A : Type 0} (call : Call A) (w : PlainDesk) → HasAskedAs w → HasAskedAs (run plain.serves call w).1
call_asks (Say said) w asked = asked
call_asks (Ask request more) w asked =
    let next = plain.serves w request in
    call_asks (more next.0) next.1 (serves_asks (w.0.last.number == last_number) w request (replies.Refused refusals.Exhausted, w) refl asked)
call_asks (Grow rest) w asked = call_asks rest w asked

-- ---- what is done to nodes and messages

server_if : {A : Type 0} (b : Bool) (x y : Result A Refusal × Plain) (p : Plain) → numbers x.1 ≡ numbers p → numbers y.1 ≡ numbers p → numbers (if b then x else y).1 ≡ numbers p
server_if true x y p first second = first
server_if false x y p first second = second

befalls_keeps : (o : Option Server) (id : ℕ) (does : Server → Result Server Refusal) (p : Plain) → numbers (plain.befalls_found o id does p).1 ≡ numbers p
befalls_keeps None id does p = refl
befalls_keeps (Some s) id does p = refl

handed_keeps : (o : Option Message) (p : Plain) → numbers (plain.handed_over o p).1 ≡ numbers p
handed_keeps None p = refl
handed_keeps (Some message) p = whole_keeps (plain.delivered message p).1 ∙ comes_keeps message.to message p

beats_keep : (o : Option Server) (p : Plain) → numbers (plain.beats_found o p).1 ≡ numbers p
beats_keep None p = refl
beats_keep (Some s) p = whole_keeps (plain.sends (servers.beat s) (record p { drops = 0 })) ∙ sends_keeps (servers.beat s) (record p { drops = 0 })

harms_keep : (number handle : ℕ) (does : Server → Result Server Refusal) (p : Plain) → numbers (plain.for_server number (plain.of_handle handle (plain.befalls number does)) p).1 ≡ numbers p
harms_keep number handle does p =
    server_if (nat_lt number (min (length p.servers) 16)) (plain.of_handle handle (plain.befalls number does) p) (Err refusals.Range, p) p
    (server_if (handle == 0) (Err refusals.NoReplica, p) (plain.befalls number does p) p refl (befalls_keeps (slice_get p.servers number) number does p)) refl

nodes_keep : (request : Request) (p : Plain) → numbers (plain.nodes_do request p).1 ≡ numbers p
nodes_keep (lines.Beat number) p =
    server_if (nat_lt number (min (length p.servers) 16)) (plain.beats_found (slice_get p.servers number) p) (Err refusals.Range, p) p (beats_keep (slice_get p.servers number) p) refl
nodes_keep lines.Tick p = ticks_keep p
nodes_keep (lines.At moment) p = refl
nodes_keep (lines.Hold kind) p = refl
nodes_keep (lines.Restart restarts.Master) p = (let t = plain.at_master (reopened p.config (plain.begun_again p.master)) p in whole_keeps t.1 ∙ master_keeps (reopened p.config (plain.begun_again p.master)) p)
nodes_keep (lines.Restart (restarts.Server number)) p =
    server_if (nat_lt number (min (length p.servers) 16)) (plain.befalls number (λ s. Ok (servers.restart s)) p) (Err refusals.Range, p) p (befalls_keeps (slice_get p.servers number) number (λ s. Ok (servers.restart s)) p) refl
nodes_keep (lines.Lose server handle) p = harms_keep server handle (servers.lose handle) p
nodes_keep (lines.Damage server handle block) p = harms_keep server handle (servers.damage handle block) p
nodes_keep (lines.Deliver number) p = handed_keeps (held_at number p.held) p
nodes_keep request p = refl

-- ---- lines

comes_asks : (o : Option (Call Answer)) (request : Request) (w : PlainDesk) → HasAskedAs w → HasAskedAs (plain.comes_as o request w).1
comes_asks None request w asked = (asked.0, nodes_keep request w.1 ∙ asked.1)
comes_asks (Some call) request w asked = call_asks call w asked

request_asks : (o : Option Request) (w : PlainDesk) → HasAskedAs w → HasAskedAs (plain.answers_as o w).1
request_asks None w asked = asked
request_asks (Some request) w asked = comes_asks (asked_by w.0.chunk request) request w asked

short_asks : (b : Bool) (x y : List ℕ × PlainDesk) → HasAskedAs x.1 → HasAskedAs y.1 → HasAskedAs (if b then x else y).1
short_asks true x y first second = first
short_asks false x y first second = second

line_asks : (whole : List ℕ) (w : PlainDesk) → HasAskedAs w → HasAskedAs (plain.answers_line whole w).1
line_asks whole w asked =
    short_asks (nat_le (length (content whole)) longest_line) (plain.answers_as (line_request (content whole)) w) (bad_line_text, w) (request_asks (line_request (content whole)) w asked) asked

pub lines_ask : (all : List (List ℕ)) (w : PlainDesk) → HasAskedAs w → HasAskedAs (plain.answers_all all w).1
lines_ask [] w asked = asked
lines_ask (line ∷ others) w asked = lines_ask others (plain.answers_line line w).1 (line_asks line w asked)

pub begins_asked : (config : Config) → HasAskedAs (plain.begins config)
begins_asked config =
    (refl, whole_keeps (plain.at_master (reopened config (restarted start plain.new_log)) (plain.new_plain config)).1 ∙ master_keeps (reopened config (restarted start plain.new_log)) (plain.new_plain config))
