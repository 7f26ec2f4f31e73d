-- A client as a node: what it asks goes out under one number, above those before, and it takes the first answer to what it waits
-- for.
use Rattle.std.specs.Prelude.{◌≡◌, ◌==◌, ◌++◌, ◌∷◌, ℕ, List, [], map, Bool, false, if◌then◌else◌, cond, Option, Some, None, Result, Ok, Err, nat_le, Vec, refl}
use Rattle.std.specs.declared.alloc.Global.{Global}
use Rattle.std.specs.Coded.{Coded, code_by, coded×, coded_ℕ, coded_option}
use Rattle.gs_base.specs.declared.numbers.ClientId.{ClientId}
use Rattle.gs_base.specs.declared.numbers.ReqId.{ReqId}
use Rattle.gs_base.specs.declared.numbers.Stamp.{Stamp}
use Rattle.gs_base.specs.declared.refusal.Refusal.{Refusal}
use Rattle.gs_base.specs.declared.refusal.Refusal.TheVariants as refusals
use Rattle.gs_msg.specs.declared.node.NodeId.{NodeId}
use Rattle.gs_msg.specs.declared.node.NodeId.TheVariants as nodes
use Rattle.gs_msg.specs.declared.message.Message.{Message}
use Rattle.gs_msg.specs.declared.body.Body.{Body}
use Rattle.gs_msg.specs.declared.body.Body.TheVariants as bodies
use Rattle.gs_msg.specs.declared.chunk.Chunk.TheVariants as chunks
use Rattle.gs_msg.specs.declared.op.Op.{Op}
use Rattle.gs_msg.specs.declared.op.Op.TheVariants.{Write, Append, Pad}
use Rattle.gs_msg.specs.declared.call.Call.TheVariants as calls
use Rattle.gs_msg.specs.declared.answer.Answer.TheVariants as answers
use Rattle.gs_msg.specs.declared.event.Request.{Request}
use Rattle.gs_msg.specs.declared.event.Request.TheVariants as requests
use Rattle.gs_client.specs.declared.link.Reply.{Reply}
use Rattle.gs_client.specs.declared.link.Reply.TheVariants as replies
use Rattle.gs_base.specs.contracts.numbers.ClientId as clients
use Rattle.gs_client.specs.contracts.link.Reply as reply_code

-- The number used last, the number that it waits for, and what came back for that.
pub record Node : Type 0 where
  pub id : ClientId
  pub last : ℕ
  pub waiting : Option ℕ
  pub reply : Option Reply

abbrev pub coded_node : Coded Node
coded_node =
    code_by (ClientId × (ℕ × (Option ℕ × Option Reply))) (coded× clients.the_row.coded (coded× coded_ℕ (coded× (coded_option coded_ℕ) (coded_option reply_code.the_row.coded))))
    (λ n. (n.id, (n.last, (n.waiting, n.reply)))) (λ p. record { id = p.0; last = p.1.0; waiting = p.1.1.0; reply = p.1.1.1 }) (λ _. refl)

-- of a client that has asked nothing
abbrev pub silent : ClientId → Node
silent id = record { id = id; last = 0; waiting = None; reply = None }

-- one that has asked under numbers up to the last, and waits for nothing
abbrev pub resting : ClientId → ℕ → Node
resting id last = record (silent id) { last = last }

abbrev pub tell : ReqId → NodeId → Body → Message
tell req to body = record { from = nodes.Client req.client; to = to; body = body }

-- the bytes of an edit go to every member; a pad has none
abbrev pub with_bytes : List ℕ → Op → List ℕ
with_bytes members (Write offset length) = members
with_bytes members (Append length) = members
with_bytes members Pad = []

abbrev pub pushes : ReqId → List ℕ → List ℕ → List Message
pushes req servers bytes = map (λ server. tell req (nodes.Server server) (bodies.Push req bytes)) servers

-- what goes out for a request, under one number
abbrev pub messages_of : ReqId → Request → List Message
messages_of req (requests.Call call) = tell req nodes.Master (bodies.Call req call) ∷ []
messages_of req (requests.Write handle members primary stamp op bytes) =
    pushes req (with_bytes members op) bytes ++ tell req (nodes.Server primary) (bodies.About handle (chunks.Edit req stamp op)) ∷ []
messages_of req (requests.Fetch to handle stamp epoch asked) = tell req (nodes.Server to) (bodies.About handle (chunks.Fetch req stamp epoch asked)) ∷ []

abbrev pub request_of : Node → ℕ → ReqId
request_of n number = record { client = n.id; number = number }

-- A client that asks waits for this alone. No number is used twice, and none below one that was used.
abbrev pub asks : ℕ → Request → Node → Result (Node × List Message) Refusal
asks number request n =
    if nat_le number n.last then Err refusals.Old
    else Ok (record { id = n.id; last = number; waiting = Some number; reply = None }, messages_of (request_of n number) request)

-- the call does so, or it lacks memory and nothing changes
abbrev pub Asks : Result (Node × List Message) Refusal → Result (Vec Message Global) Refusal → Node → Node → Type 0
Asks (Ok p) (Ok sent) old new = (new ≡ p.0) × (sent.items ≡ p.1)
Asks (Err e) (Ok sent) old new = ⊥
Asks (Ok p) (Err f) old new = (f ≡ refusals.Memory) × (new ≡ old)
Asks (Err e) (Err f) old new = (f ≡ e) × (new ≡ old)

abbrev pub is_of : ReqId → ClientId → Option ℕ → Bool
is_of req id None = false
is_of req id (Some number) = cond (req.client.0 == id.0) (req.number == number) false

abbrev pub answered : {A : Type 0} → (A → Reply) → Result A Refusal → Reply
answered as_reply (Ok x) = as_reply x
answered as_reply (Err refusal) = replies.Refused refusal

abbrev pub takes : ReqId → Reply → Node → Node
takes req reply n = if is_of req n.id n.waiting then record { id = n.id; last = n.last; waiting = None; reply = Some reply } else n

-- what comes for another request, or once more, is passed over; what is for another kind of node is refused
abbrev pub hears : Body → Node → Result Node Refusal
hears (bodies.Reply req result) n = Ok (takes req (answered replies.Answer result) n)
hears (bodies.Done req result) n = Ok (takes req (answered replies.Outcome result) n)
hears (bodies.Bytes req result) n = Ok (takes req (answered replies.Given result) n)
hears body n = Err refusals.Stray

-- what came back is taken out once
abbrev pub given_up : Node → Node
given_up n = record { id = n.id; last = n.last; waiting = n.waiting; reply = None }

-- Worked: client 1 asks for a list.
abbrev one : ClientId
one = record { 0 = 1 }

abbrev first : ReqId
first = record { client = one; number = 1 }

abbrev waits : Node
waits = record { id = one; last = 1; waiting = Some 1; reply = None }

it_asks : asks 1 (requests.Call calls.Query) (silent one) ≡ Ok (waits, tell first nodes.Master (bodies.Call first calls.Query) ∷ [])
it_asks = refl

a_write_goes_to_each_member : (stamp : Stamp) → messages_of first (requests.Write 7 (0 ∷ 2 ∷ []) 0 stamp (Append 1) (97 ∷ []))
    ≡ tell first (nodes.Server 0) (bodies.Push first (97 ∷ [])) ∷ tell first (nodes.Server 2) (bodies.Push first (97 ∷ [])) ∷ tell first (nodes.Server 0) (bodies.About 7 (chunks.Edit first stamp (Append 1))) ∷ []
a_write_goes_to_each_member stamp = refl

a_pad_alone : (stamp : Stamp) → messages_of first (requests.Write 7 (0 ∷ 2 ∷ []) 0 stamp Pad []) ≡ tell first (nodes.Server 0) (bodies.About 7 (chunks.Edit first stamp Pad)) ∷ []
a_pad_alone stamp = refl

it_hears : hears (bodies.Reply first (Ok answers.Nothing)) waits ≡ Ok (record { id = one; last = 1; waiting = None; reply = Some (replies.Answer answers.Nothing) })
it_hears = refl

of_another_number : hears (bodies.Reply (record { client = one; number = 2 }) (Ok answers.Nothing)) waits ≡ Ok waits
of_another_number = refl

once_more : hears (bodies.Reply first (Ok answers.Nothing)) (silent one) ≡ Ok (silent one)
once_more = refl

a_number_again : asks 1 (requests.Call calls.Query) waits ≡ Err refusals.Old
a_number_again = refl

some_numbers_are_left_out : asks 7 (requests.Call calls.Query) waits ≡ Ok (record { id = one; last = 7; waiting = Some 7; reply = None }, tell (record { client = one; number = 7 }) nodes.Master (bodies.Call (record { client = one; number = 7 }) calls.Query) ∷ [])
some_numbers_are_left_out = refl

-- Worked: a client that has asked nothing rests at 0, and one that rests asks above its last number alone.
it_rests_at_0 : resting one 0 ≡ silent one
it_rests_at_0 = refl

it_asks_above_its_last : asks 1 (requests.Call calls.Query) (resting one 1) ≡ Err refusals.Old
it_asks_above_its_last = refl
