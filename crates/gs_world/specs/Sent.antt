-- What each node has ever sent.
use Rattle.std.specs.Prelude.{◌≡◌, ◌⊎◌, ◌++◌, ◌-◌, ◌==◌, ℕ, Bool, true, false, List, [], ◌∷◌, if◌then◌else◌, Option, Some, None, MatchOption, length, map, replicate, slice_get, slice_set, refl}
use Rattle.std.specs.Coded.{Coded, code_by, coded×, coded_bool, coded_list}
use Rattle.std.proofs.Common.{inl, inr}
use Rattle.gs_base.specs.declared.numbers.Moment.{Moment}
use Rattle.gs_msg.specs.Posts.{Posted, message_at, posted, without_message}
use Rattle.gs_msg.specs.declared.message.Message.{Message}
use Rattle.gs_msg.specs.declared.message.MsgId.{MsgId}
use Rattle.gs_msg.specs.declared.node.NodeId.{NodeId}
use Rattle.gs_msg.specs.declared.node.NodeId.TheVariants as nodes
use Rattle.gs_msg.specs.declared.outbox.Post.{Post}
use Rattle.gs_msg.specs.contracts.outbox.Post as post_code

abbrev posts_code : Coded (List Post)
posts_code = coded_list post_code.the_row.coded

-- of the master, of the servers by their numbers, and of the clients, which are numbered from 1; and whether a message was ever lost,
-- since memory was wanting for it or there is no such node
pub record Sent : Type 0 where
  pub master : List Post
  pub servers : List (List Post)
  pub clients : List (List Post)
  pub has_lost : Bool

abbrev pub coded_sent : Coded Sent
coded_sent =
    code_by (List Post × (List (List Post) × (List (List Post) × Bool))) (coded× posts_code (coded× (coded_list posts_code) (coded× (coded_list posts_code) coded_bool)))
    (λ s. (s.master, (s.servers, (s.clients, s.has_lost)))) (λ p. record { master = p.0; servers = p.1.0; clients = p.1.1.0; has_lost = p.1.1.1 }) (λ _. refl)

abbrev pub none_sent : ℕ → ℕ → Sent
none_sent servers clients = record { master = []; servers = replicate servers []; clients = replicate clients []; has_lost = false }

-- what each of some outboxes holds
abbrev pub all_posts : List Posted → List (List Post)
all_posts outboxes = map (λ (o : Posted). o.posts) outboxes

-- what a node has sent, if there is such a node
abbrev pub posts_of : Sent → NodeId → Option (List Post)
posts_of s nodes.Master = Some s.master
posts_of s (nodes.Server id) = slice_get s.servers id
posts_of s (nodes.Client id) = if id.0 == 0 then None else slice_get s.clients (id.0 - 1)

-- how many messages of a list were sent, if there is a list
abbrev pub count_in : Option (List Post) → ℕ
count_in None = 0
count_in (Some posts) = length posts

-- how many messages a node has sent
abbrev pub sent_by : Sent → NodeId → ℕ
sent_by s node = count_in (posts_of s node)

abbrev pub with_posts : NodeId → List Post → Sent → Sent
with_posts nodes.Master posts s = record s { master = posts }
with_posts (nodes.Server id) posts s = record s { servers = slice_set s.servers id posts }
with_posts (nodes.Client id) posts s = record s { clients = slice_set s.clients (id.0 - 1) posts }

-- the message at a place of a list, if there is a list and it stands there still
abbrev pub message_in : Option (List Post) → ℕ → Option Message
message_in None place = None
message_in (Some posts) place = message_at posts place

-- a message that was sent, and hasn't been given up
abbrev pub message_of : Sent → MsgId → Option Message
message_of s id = message_in (posts_of s id.sender) id.place

abbrev pub IsSent : Message → Sent → Type 0
IsSent message s = (id : MsgId) × (message_of s id ≡ Some message)

-- what one node has sent, and whether a message was ever lost
abbrev pub Line : Type 0
Line = List Post × Bool

-- One after the other is sent; or memory is wanting for it, and it is lost.
abbrev pub Appends : Moment → List Message → Line → Line → Type 0
Appends moment [] old new = new ≡ old
Appends moment (message ∷ messages) old new =
    (mid : Line) × ((mid ≡ (old.0 ++ posted moment message ∷ [], old.1)) ⊎ (mid ≡ (old.0, true))) × Appends moment messages mid new

-- all of these are lost, if there are any
abbrev pub lost_all : List Message → Bool → Bool
lost_all [] has_lost = has_lost
lost_all (message ∷ messages) has_lost = true

abbrev pub with_line : NodeId → Line → Sent → Sent
with_line nodes.Master line s = record s { master = line.0; has_lost = line.1 }
with_line (nodes.Server id) line s = record s { servers = slice_set s.servers id line.0; has_lost = line.1 }
with_line (nodes.Client id) line s = record s { clients = slice_set s.clients (id.0 - 1) line.0; has_lost = line.1 }

-- a node sends messages at a moment; where there is no such node they are lost
abbrev pub IsPosted : Moment → NodeId → List Message → Sent → Sent → Type 0
IsPosted moment by messages old new =
    MatchOption (posts_of old by) (new ≡ record old { has_lost = lost_all messages old.has_lost })
    (λ posts. (after : Line) × Appends moment messages (posts, old.has_lost) after × (new ≡ with_line by after old))

-- the same of one of several lists
abbrev pub Lines : Type 0
Lines = List (List Post) × Bool

abbrev pub IsPostedIn : ℕ → Moment → List Message → Lines → Lines → Type 0
IsPostedIn place moment messages old new =
    MatchOption (slice_get old.0 place) (new ≡ (old.0, lost_all messages old.1))
    (λ posts. (after : Line) × Appends moment messages (posts, old.1) after × (new ≡ (slice_set old.0 place after.0, after.1)))

-- all of these stand behind what their node has sent
abbrev pub AllPosted : Moment → NodeId → List Message → Sent → Sent → Type 0
AllPosted moment by messages old new =
    MatchOption (posts_of old by) ((messages ≡ []) × (new ≡ old)) (λ posts. new ≡ with_posts by (posts ++ map (posted moment) messages) old)

abbrev pub ForgetsIn : ℕ → ℕ → List (List Post) → List (List Post) → Type 0
ForgetsIn list place old new = MatchOption (slice_get old list) (new ≡ old) (λ posts. new ≡ slice_set old list (without_message posts place))

-- a message is given up
abbrev pub Forgets : MsgId → Sent → Sent → Type 0
Forgets id old new = MatchOption (posts_of old id.sender) (new ≡ old) (λ posts. new ≡ with_posts id.sender (without_message posts id.place) old)

-- Worked: the second of two servers sends two messages, and the first of them is given up.
abbrev second_sent : List Post → Sent
second_sent posts = record { master = []; servers = [] ∷ posts ∷ []; clients = [] ∷ []; has_lost = false }

none_of_two : none_sent 2 1 ≡ second_sent []
none_of_two = refl

abbrev at_second : ℕ → MsgId
at_second place = record { sender = nodes.Server 1; place = place }

it_sends_two : (m : Moment) (a b : Message) → IsPosted m (nodes.Server 1) (a ∷ b ∷ []) (none_sent 2 1) (second_sent (posted m a ∷ posted m b ∷ []))
it_sends_two m a b = ((posted m a ∷ posted m b ∷ [], false), ((posted m a ∷ [], false), inl refl, ((posted m a ∷ posted m b ∷ [], false), inl refl, refl)), refl)

-- or memory is wanting for the first, which is lost
it_loses_one : (m : Moment) (a b : Message) → IsPosted m (nodes.Server 1) (a ∷ b ∷ []) (none_sent 2 1) (record (second_sent (posted m b ∷ [])) { has_lost = true })
it_loses_one m a b = ((posted m b ∷ [], true), (([], true), inr refl, ((posted m b ∷ [], true), inl refl, refl)), refl)

-- of a third server there is nothing to send, and what it is to send is lost
nothing_is_lost : (m : Moment) → IsPosted m (nodes.Server 2) [] (none_sent 2 1) (none_sent 2 1)
nothing_is_lost m = refl

the_second_is_found : (m : Moment) (a b : Message) → message_of (second_sent (posted m a ∷ posted m b ∷ [])) (at_second 1) ≡ Some b
the_second_is_found m a b = refl

no_third_is_found : (m : Moment) (a b : Message) → message_of (second_sent (posted m a ∷ posted m b ∷ [])) (at_second 2) ≡ None
no_third_is_found m a b = refl

the_first_is_given_up : (m : Moment) (a b : Message) → Forgets (at_second 0) (second_sent (posted m a ∷ posted m b ∷ [])) (second_sent (record { moment = m; message = None } ∷ posted m b ∷ []))
the_first_is_given_up m a b = refl
