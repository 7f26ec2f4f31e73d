-- What a node sends, one after the other.
use Rattle.std.proofs.Common.{◌≡◌, ◌∙◌, ◌++◌, ◌+◌, ◌-◌, ◌<◌, ◌≤◌, ◌==◌, ℕ, zero, suc, Bool, true, false, if◌then◌else◌, List, [], ◌∷◌, Option, Some, None, MatchOption, refl, sym, ap, subst, arith, replicate, slice_get, slice_index_or, slice_set, length}
use Rattle.gs_base.specs.declared.numbers.Moment.{Moment}
use Rattle.gs_msg.specs.Posts.{Posted, posted}
use Rattle.gs_msg.specs.declared.message.Message.{Message}
use Rattle.gs_msg.specs.declared.outbox.Post.{Post}
use Rattle.gs_base.specs.declared.numbers.ClientId.{ClientId}
use Rattle.gs_msg.specs.Posts.{without_message}
use Rattle.gs_msg.specs.declared.node.NodeId.TheVariants as nodes
use Rattle.gs_world.specs.Sent.{Appends, Forgets, ForgetsIn, IsPosted, IsPostedIn, Line, Lines, Sent, all_posts, lost_all, with_line}

-- messages that are lost
pub some_lost : (messages : List Message) (has_lost : Bool) → 0 < length messages → true ≡ lost_all messages has_lost
some_lost [] has_lost some = absurd (omega (arith, some))
some_lost (message ∷ messages) has_lost some = refl

pub none_lost : (messages : List Message) (has_lost : Bool) → length messages ≡ 0 → has_lost ≡ lost_all messages has_lost
none_lost [] has_lost none = refl
none_lost (message ∷ messages) has_lost none = absurd (omega (arith, none))

pub lost_still : (messages : List Message) → true ≡ lost_all messages true
lost_still [] = refl
lost_still (message ∷ messages) = refl

-- one more that has sent nothing
pushed : (outboxes : List Posted) (o : Posted) → all_posts (outboxes ++ o ∷ []) ≡ all_posts outboxes ++ o.posts ∷ []
pushed [] o = refl
pushed (p ∷ outboxes) o = ap (λ (l : List (List Post)). p.posts ∷ l) (pushed outboxes o)

one_silent : (n : ℕ) (none : List Post) → replicate n none ++ none ∷ [] ≡ replicate (suc n) none
one_silent zero none = refl
one_silent (suc n) none = ap (λ (l : List (List Post)). none ∷ l) (one_silent n none)

next : (n : ℕ) → suc n ≡ n + 1
next n = omega arith

pub one_more : (outboxes after : List Posted) (o : Posted) (many : ℕ) → all_posts outboxes ≡ replicate many [] → o.posts ≡ [] → after ≡ outboxes ++ o ∷ [] → all_posts after ≡ replicate (many + 1) []
one_more outboxes after o many before none is =
    ap all_posts is ∙ pushed outboxes o ∙ ap (λ (l : List (List Post)). l ++ o.posts ∷ []) before ∙ ap (λ (posts : List Post). replicate many [] ++ posts ∷ []) none
    ∙ one_silent many [] ∙ ap (λ (n : ℕ). replicate n []) (next many)

-- ---- one of several

posts_at : (outboxes : List Posted) (i : ℕ) (o : Posted) → i < length outboxes → o ≡ slice_index_or outboxes i o → slice_get (all_posts outboxes) i ≡ Some o.posts
posts_at [] i o inside is = absurd (omega (arith, inside))
posts_at (p ∷ outboxes) zero o inside is = ap (λ (x : Posted). Some x.posts) (sym is)
posts_at (p ∷ outboxes) (suc i) o inside is = posts_at outboxes i o (omega (arith, inside)) is

posts_past : (outboxes : List Posted) (i : ℕ) → length outboxes ≤ i → slice_get (all_posts outboxes) i ≡ None
posts_past [] i past = refl
posts_past (p ∷ outboxes) zero past = absurd (omega (arith, past))
posts_past (p ∷ outboxes) (suc i) past = posts_past outboxes i (omega (arith, past))

posts_set : (outboxes : List Posted) (i : ℕ) (o : Posted) → all_posts (slice_set outboxes i o) ≡ slice_set (all_posts outboxes) i o.posts
posts_set [] i o = refl
posts_set (p ∷ outboxes) zero o = refl
posts_set (p ∷ outboxes) (suc i) o = ap (λ (l : List (List Post)). p.posts ∷ l) (posts_set outboxes i o)

abbrev lines : List (List Post) → Bool → Lines
lines posts has_lost = (posts, has_lost)

both : (xs ys : List (List Post)) (a b : Bool) → xs ≡ ys → a ≡ b → lines xs a ≡ lines ys b
both xs ys a b same is = ap (λ (l : List (List Post)). lines l a) same ∙ ap (λ (lost : Bool). lines ys lost) is

pub posted_there : (outboxes new : List Posted) (node : ℕ) (moment : Moment) (messages : List Message) (lost now : Bool) (o after : Posted) → node < length outboxes → o ≡ slice_index_or outboxes node o
    → Appends moment messages (o.posts, lost) (after.posts, now) → new ≡ slice_set outboxes node after → IsPostedIn node moment messages (all_posts outboxes, lost) (all_posts new, now)
posted_there outboxes new node moment messages lost now o after inside is appends same =
    subst
    (λ (f : Option (List Post)). MatchOption f (lines (all_posts new) now ≡ lines (all_posts outboxes) (lost_all messages lost))
    (λ posts. (later : Line) × Appends moment messages (posts, lost) later × (lines (all_posts new) now ≡ lines (slice_set (all_posts outboxes) node later.0) later.1)))
    (sym (posts_at outboxes node o inside is))
    ((after.posts, now), appends, both (all_posts new) (slice_set (all_posts outboxes) node after.posts) now now (ap all_posts same ∙ posts_set outboxes node after) refl)

pub posted_nowhere : (outboxes new : List Posted) (node : ℕ) (moment : Moment) (messages : List Message) (lost now : Bool) → length outboxes ≤ node → new ≡ outboxes → now ≡ lost_all messages lost
    → IsPostedIn node moment messages (all_posts outboxes, lost) (all_posts new, now)
posted_nowhere outboxes new node moment messages lost now past same is =
    subst
    (λ (f : Option (List Post)). MatchOption f (lines (all_posts new) now ≡ lines (all_posts outboxes) (lost_all messages lost))
    (λ posts. (later : Line) × Appends moment messages (posts, lost) later × (lines (all_posts new) now ≡ lines (slice_set (all_posts outboxes) node later.0) later.1)))
    (sym (posts_past outboxes node past)) (both (all_posts new) (all_posts outboxes) now (lost_all messages lost) (ap all_posts same) is)

pub forgotten_there : (outboxes new : List Posted) (node place : ℕ) (o after : Posted) → node < length outboxes → o ≡ slice_index_or outboxes node o
    → after.posts ≡ without_message o.posts place → new ≡ slice_set outboxes node after → ForgetsIn node place (all_posts outboxes) (all_posts new)
forgotten_there outboxes new node place o after inside is without same =
    subst (λ (f : Option (List Post)). MatchOption f (all_posts new ≡ all_posts outboxes) (λ posts. all_posts new ≡ slice_set (all_posts outboxes) node (without_message posts place)))
    (sym (posts_at outboxes node o inside is)) (ap all_posts same ∙ posts_set outboxes node after ∙ ap (slice_set (all_posts outboxes) node) without)

pub forgotten_nowhere : (outboxes new : List Posted) (node place : ℕ) → length outboxes ≤ node → new ≡ outboxes → ForgetsIn node place (all_posts outboxes) (all_posts new)
forgotten_nowhere outboxes new node place past same =
    subst (λ (f : Option (List Post)). MatchOption f (all_posts new ≡ all_posts outboxes) (λ posts. all_posts new ≡ slice_set (all_posts outboxes) node (without_message posts place)))
    (sym (posts_past outboxes node past)) (ap all_posts same)

-- ---- of all nodes

server_found : (o : Option (List Post)) (id : ℕ) (moment : Moment) (messages : List Message) (s : Sent) (new : Lines)
    → MatchOption o (new ≡ lines s.servers (lost_all messages s.has_lost)) (λ posts. (after : Line) × Appends moment messages (posts, s.has_lost) after × (new ≡ lines (slice_set s.servers id after.0) after.1))
    → MatchOption o (record s { servers = new.0; has_lost = new.1 } ≡ record s { has_lost = lost_all messages s.has_lost })
    (λ posts. (after : Line) × Appends moment messages (posts, s.has_lost) after × (record s { servers = new.0; has_lost = new.1 } ≡ with_line (nodes.Server id) after s))
server_found None id moment messages s new same = ap (λ (l : Lines). record s { servers = l.0; has_lost = l.1 }) same
server_found (Some posts) id moment messages s new (after, appends, same) = (after, appends, ap (λ (l : Lines). record s { servers = l.0; has_lost = l.1 }) same)

pub at_server : (id : ℕ) (moment : Moment) (messages : List Message) (s : Sent) (new : List (List Post)) (lost : Bool) → IsPostedIn id moment messages (s.servers, s.has_lost) (new, lost)
    → IsPosted moment (nodes.Server id) messages s (record s { servers = new; has_lost = lost })
at_server id moment messages s new lost posted = server_found (slice_get s.servers id) id moment messages s (lines new lost) posted

-- a client's list, where there is such a client
abbrev numbered : Bool → Option (List Post) → Option (List Post)
numbered nought found = if nought then None else found

client_found : (o : Option (List Post)) (id : ClientId) (moment : Moment) (messages : List Message) (s : Sent) (new : Lines)
    → MatchOption o (new ≡ lines s.clients (lost_all messages s.has_lost)) (λ posts. (after : Line) × Appends moment messages (posts, s.has_lost) after × (new ≡ lines (slice_set s.clients (id.0 - 1) after.0) after.1))
    → MatchOption o (record s { clients = new.0; has_lost = new.1 } ≡ record s { has_lost = lost_all messages s.has_lost })
    (λ posts. (after : Line) × Appends moment messages (posts, s.has_lost) after × (record s { clients = new.0; has_lost = new.1 } ≡ with_line (nodes.Client id) after s))
client_found None id moment messages s new same = ap (λ (l : Lines). record s { clients = l.0; has_lost = l.1 }) same
client_found (Some posts) id moment messages s new (after, appends, same) = (after, appends, ap (λ (l : Lines). record s { clients = l.0; has_lost = l.1 }) same)

pub at_client : (id : ClientId) (moment : Moment) (messages : List Message) (s : Sent) (new : List (List Post)) (lost : Bool) → (id.0 == 0) ≡ false
    → IsPostedIn (id.0 - 1) moment messages (s.clients, s.has_lost) (new, lost)
    → IsPosted moment (nodes.Client id) messages s (record s { clients = new; has_lost = lost })
at_client id moment messages s new lost some posted =
    subst
    (λ (b : Bool). MatchOption (numbered b (slice_get s.clients (id.0 - 1))) (record s { clients = new; has_lost = lost } ≡ record s { has_lost = lost_all messages s.has_lost })
    (λ posts. (after : Line) × Appends moment messages (posts, s.has_lost) after × (record s { clients = new; has_lost = lost } ≡ with_line (nodes.Client id) after s)))
    (sym some) (client_found (slice_get s.clients (id.0 - 1)) id moment messages s (lines new lost) posted)

pub at_nobody : (id : ClientId) (moment : Moment) (messages : List Message) (s : Sent) (lost : Bool) → (id.0 == 0) ≡ true → lost ≡ lost_all messages s.has_lost
    → IsPosted moment (nodes.Client id) messages s (record s { has_lost = lost })
at_nobody id moment messages s lost none is =
    subst
    (λ (b : Bool). MatchOption (numbered b (slice_get s.clients (id.0 - 1))) (record s { has_lost = lost } ≡ record s { has_lost = lost_all messages s.has_lost })
    (λ posts. (after : Line) × Appends moment messages (posts, s.has_lost) after × (record s { has_lost = lost } ≡ with_line (nodes.Client id) after s)))
    (sym none) (ap (λ (b : Bool). record s { has_lost = b }) is)

-- ---- what is given up

server_forgets : (o : Option (List Post)) (id place : ℕ) (s : Sent) (new : List (List Post)) → MatchOption o (new ≡ s.servers) (λ posts. new ≡ slice_set s.servers id (without_message posts place))
    → MatchOption o (record s { servers = new } ≡ s) (λ posts. record s { servers = new } ≡ record s { servers = slice_set s.servers id (without_message posts place) })
server_forgets None id place s new same = ap (λ (l : List (List Post)). record s { servers = l }) same
server_forgets (Some posts) id place s new same = ap (λ (l : List (List Post)). record s { servers = l }) same

pub forgets_server : (id place : ℕ) (s : Sent) (new : List (List Post)) → ForgetsIn id place s.servers new → Forgets (record { sender = nodes.Server id; place = place }) s (record s { servers = new })
forgets_server id place s new forgets = server_forgets (slice_get s.servers id) id place s new forgets

client_forgets : (o : Option (List Post)) (i place : ℕ) (s : Sent) (new : List (List Post)) → MatchOption o (new ≡ s.clients) (λ posts. new ≡ slice_set s.clients i (without_message posts place))
    → MatchOption o (record s { clients = new } ≡ s) (λ posts. record s { clients = new } ≡ record s { clients = slice_set s.clients i (without_message posts place) })
client_forgets None i place s new same = ap (λ (l : List (List Post)). record s { clients = l }) same
client_forgets (Some posts) i place s new same = ap (λ (l : List (List Post)). record s { clients = l }) same

pub forgets_client : (id : ClientId) (place : ℕ) (s : Sent) (new : List (List Post)) → (id.0 == 0) ≡ false → ForgetsIn (id.0 - 1) place s.clients new
    → Forgets (record { sender = nodes.Client id; place = place }) s (record s { clients = new })
forgets_client id place s new some forgets =
    subst
    (λ (b : Bool). MatchOption (numbered b (slice_get s.clients (id.0 - 1))) (record s { clients = new } ≡ s)
    (λ posts. record s { clients = new } ≡ record s { clients = slice_set s.clients (id.0 - 1) (without_message posts place) }))
    (sym some) (client_forgets (slice_get s.clients (id.0 - 1)) (id.0 - 1) place s new forgets)

pub forgets_nobody : (id : ClientId) (place : ℕ) (s : Sent) → (id.0 == 0) ≡ true → Forgets (record { sender = nodes.Client id; place = place }) s s
forgets_nobody id place s none =
    subst
    (λ (b : Bool). MatchOption (numbered b (slice_get s.clients (id.0 - 1))) (s ≡ s) (λ posts. s ≡ record s { clients = slice_set s.clients (id.0 - 1) (without_message posts place) }))
    (sym none) refl
