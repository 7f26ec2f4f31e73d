-- What is sent over a wire stands among what its node has sent.
use Rattle.std.proofs.Common.{◌≡◌, ◌∙◌, ◌++◌, ◌-◌, ◌==◌, ℕ, zero, suc, Bool, true, false, List, [], ◌∷◌, if◌then◌else◌, Option, Some, None, MatchOption, refl, sym, ap, subst, inl, inr, length, slice_get, slice_set}
use Rattle.std.specs.Prelude.{unwrap_or}
use Rattle.gs_base.specs.declared.numbers.Moment.{Moment}
use Rattle.gs_msg.specs.Bodies.{kind_of}
use Rattle.gs_msg.specs.Posts.{message_at, posted}
use Rattle.gs_msg.specs.declared.message.Message.{Message}
use Rattle.gs_msg.specs.declared.node.NodeId.{NodeId}
use Rattle.gs_msg.specs.declared.node.NodeId.TheVariants as nodes
use Rattle.gs_msg.specs.declared.outbox.Post.{Post}
use Rattle.gs_shell_desk.specs.Ways.{Puts, SendsAll, Way, counted, held_back, is_held, shortened, under_way}
use Rattle.gs_world.specs.Runs.{StaySent}
use Rattle.gs_world.specs.Sent.{Appends, IsPosted, IsSent, Line, Sent, lost_all, message_in, posts_of, with_line}
use Rattle.gs_world.proofs.Losing.{line, told_by}
use Rattle.gs_world.proofs.Sending.{IsLonger, behind, numbered, sent_still}
use Rattle.gs_laws_chunks.specs.desks.Reached.{AllSent, Covers}

-- ---- one of several lists is put anew

set_long : {A : Type 0} (xs : List A) (i : ℕ) (x : A) → length (slice_set xs i x) ≡ length xs
set_long [] i x = refl
set_long (y ∷ xs) zero x = refl
set_long (y ∷ xs) (suc i) x = ap suc (set_long xs i x)

set_found : {A : Type 0} (xs : List A) (i : ℕ) (old new : A) → slice_get xs i ≡ Some old → slice_get (slice_set xs i new) i ≡ Some new
set_found [] i old new is = absurd cc
set_found (x ∷ xs) zero old new is = refl
set_found (x ∷ xs) (suc i) old new is = set_found xs i old new is

first_is : {A : Type 0} (x y : A) (xs : List A) → Some x ≡ Some y → y ∷ xs ≡ x ∷ xs
first_is x y xs is = cc

set_same : {A : Type 0} (xs : List A) (i : ℕ) (x : A) → slice_get xs i ≡ Some x → slice_set xs i x ≡ xs
set_same [] i x is = refl
set_same (y ∷ xs) zero x is = first_is y x xs is
set_same (y ∷ xs) (suc i) x is = ap (λ (l : List _). y ∷ l) (set_same xs i x is)

-- a longer list in its place
longer_set : (xs : List (List Post)) (i : ℕ) (now after : List Post) → IsLonger now after
    → (j place : ℕ) (message : Message) → message_in (slice_get (slice_set xs i now) j) place ≡ Some message → message_in (slice_get (slice_set xs i after) j) place ≡ Some message
longer_set [] i now after longer j place message stands = stands
longer_set (x ∷ xs) zero now after longer zero place message stands = longer place message stands
longer_set (x ∷ xs) zero now after longer (suc j) place message stands = stands
longer_set (x ∷ xs) (suc i) now after longer zero place message stands = stands
longer_set (x ∷ xs) (suc i) now after longer (suc j) place message stands = longer_set xs i now after longer j place message stands

longer_numbered : (nought : Bool) (xs : List (List Post)) (i : ℕ) (now after : List Post) → IsLonger now after
    → (j place : ℕ) (message : Message) → message_in (numbered nought (slice_get (slice_set xs i now) j)) place ≡ Some message
    → message_in (numbered nought (slice_get (slice_set xs i after) j)) place ≡ Some message
longer_numbered true xs i now after longer j place message stands = stands
longer_numbered false xs i now after longer j place message stands = longer_set xs i now after longer j place message stands

longer_at : (by : NodeId) (now after : Line) (s : Sent) → IsLonger now.0 after.0 → (sender : NodeId) (place : ℕ) (message : Message)
    → message_in (posts_of (with_line by now s) sender) place ≡ Some message → message_in (posts_of (with_line by after s) sender) place ≡ Some message
longer_at nodes.Master now after s longer nodes.Master place message stands = longer place message stands
longer_at nodes.Master now after s longer (nodes.Server id) place message stands = stands
longer_at nodes.Master now after s longer (nodes.Client id) place message stands = stands
longer_at (nodes.Server by) now after s longer nodes.Master place message stands = stands
longer_at (nodes.Server by) now after s longer (nodes.Server id) place message stands = longer_set s.servers by now.0 after.0 longer id place message stands
longer_at (nodes.Server by) now after s longer (nodes.Client id) place message stands = stands
longer_at (nodes.Client by) now after s longer nodes.Master place message stands = stands
longer_at (nodes.Client by) now after s longer (nodes.Server id) place message stands = stands
longer_at (nodes.Client by) now after s longer (nodes.Client id) place message stands =
    longer_numbered (id.0 == 0) s.clients (by.0 - 1) now.0 after.0 longer (id.0 - 1) place message stands

longer_stays : (by : NodeId) (now after : Line) (s : Sent) → IsLonger now.0 after.0 → StaySent (with_line by now s) (with_line by after s)
longer_stays by now after s longer id message stands = longer_at by now after s longer id.sender id.place message stands

-- ---- there is a list of a node's

pub record HasList (by : NodeId) (s : Sent) : Type 0 where
  pub posts : List Post
  pub is : posts_of s by ≡ Some posts

numbered_set : (nought : Bool) (xs : List (List Post)) (i : ℕ) (old new : List Post) → numbered nought (slice_get xs i) ≡ Some old → numbered nought (slice_get (slice_set xs i new) i) ≡ Some new
numbered_set true xs i old new is = absurd cc
numbered_set false xs i old new is = set_found xs i old new is

set_posts : (by : NodeId) (old : List Post) (new : Line) (s : Sent) → posts_of s by ≡ Some old → posts_of (with_line by new s) by ≡ Some new.0
set_posts nodes.Master old new s is = refl
set_posts (nodes.Server id) old new s is = set_found s.servers id old new.0 is
set_posts (nodes.Client id) old new s is = numbered_set (id.0 == 0) s.clients (id.0 - 1) old new.0 is

numbered_same : (nought : Bool) (xs : List (List Post)) (i : ℕ) (x : List Post) → numbered nought (slice_get xs i) ≡ Some x → slice_set xs i x ≡ xs
numbered_same true xs i x is = absurd cc
numbered_same false xs i x is = set_same xs i x is

master_same : (s : Sent) (posts : List Post) → Some s.master ≡ Some posts → with_line nodes.Master (line posts s.has_lost) s ≡ s
master_same s posts is = ap (λ (o : Option (List Post)). record s { master = unwrap_or o s.master }) (sym is)

put_same : (by : NodeId) (posts : List Post) (s : Sent) → posts_of s by ≡ Some posts → with_line by (line posts s.has_lost) s ≡ s
put_same nodes.Master posts s is = master_same s posts is
put_same (nodes.Server id) posts s is = ap (λ (xs : List (List Post)). record s { servers = xs }) (set_same s.servers id posts is)
put_same (nodes.Client id) posts s is = ap (λ (xs : List (List Post)). record s { clients = xs }) (numbered_same (id.0 == 0) s.clients (id.0 - 1) posts is)

pub servers_long : (by : NodeId) (l : Line) (s : Sent) → length (with_line by l s).servers ≡ length s.servers
servers_long nodes.Master l s = refl
servers_long (nodes.Server id) l s = set_long s.servers id l.0
servers_long (nodes.Client id) l s = refl

pub clients_long : (by : NodeId) (l : Line) (s : Sent) → length (with_line by l s).clients ≡ length s.clients
clients_long nodes.Master l s = refl
clients_long (nodes.Server id) l s = refl
clients_long (nodes.Client id) l s = set_long s.clients (id.0 - 1) l.0

at_end : (posts : List Post) (moment : Moment) (message : Message) → message_at (posts ++ posted moment message ∷ []) (length posts) ≡ Some message
at_end [] moment message = refl
at_end (post ∷ posts) moment message = at_end posts moment message

last_sent : (by : NodeId) (posts : List Post) (now : Line) (moment : Moment) (message : Message) (s : Sent) → posts_of s by ≡ Some posts
    → IsSent message (with_line by (line (now.0 ++ posted moment message ∷ []) now.1) s)
last_sent by posts now moment message s is = (
  record { sender = by; place = length now.0 },
  subst (λ (o : Option (List Post)). message_in o (length now.0) ≡ Some message) (sym (set_posts by posts (line (now.0 ++ posted moment message ∷ []) now.1) s is)) (at_end now.0 moment message),
)

-- nothing is sent
no_posts : (o : Option (List Post)) (moment : Moment) (by : NodeId) (s : Sent) → posts_of s by ≡ o
    → MatchOption o (s ≡ record s { has_lost = lost_all [] s.has_lost }) (λ posts. (after : Line) × Appends moment [] (posts, s.has_lost) after × (s ≡ with_line by after s))
no_posts None moment by s is = refl
no_posts (Some posts) moment by s is = (line posts s.has_lost, refl, sym (put_same by posts s is))

-- ---- what is under way

all_push : (sent : Sent) (messages : List Message) (message : Message) → AllSent sent messages → IsSent message sent → AllSent sent (messages ++ message ∷ [])
all_push sent [] message all one = (one, tt)
all_push sent (m ∷ messages) message (first, rest) one = (first, all_push sent messages message rest one)

all_stay : (old new : Sent) (messages : List Message) → StaySent old new → AllSent old messages → AllSent new messages
all_stay old new [] stay all = tt
all_stay old new (m ∷ messages) stay (first, rest) = (sent_still m old new stay first, all_stay old new messages stay rest)

module _ {D : Type 0} where
  -- the same is under way, and was sent
  pub covers_on : (old new : Sent) (w : Way D) → StaySent old new → length new.servers ≡ length old.servers → length new.clients ≡ length old.clients
      → (new.has_lost ≡ true → w.is_short ≡ true) → Covers old w → Covers new w
  covers_on old new w stay servers clients short c =
      record {
        queue = all_stay old new w.queue stay c.queue;
        held = all_stay old new w.held stay c.held;
        servers = servers ∙ c.servers;
        clients = clients ∙ c.clients;
        short = short;
      }

  pub put_covers : (held : Bool) (message : Message) (w new : Way D) (sent : Sent) → new ≡ (if held then held_back message w else under_way message w) → IsSent message sent → Covers sent w → Covers sent new
  put_covers true message w new sent is one c =
      subst (λ x. Covers sent x) (sym is) (record { queue = c.queue; held = all_push sent w.held message c.held one; servers = c.servers; clients = c.clients; short = c.short })
  put_covers false message w new sent is one c =
      subst (λ x. Covers sent x) (sym is) (record { queue = all_push sent w.queue message c.queue one; held = c.held; servers = c.servers; clients = c.clients; short = c.short })

  put_nodes : (held : Bool) (message : Message) (w new : Way D) → new ≡ (if held then held_back message w else under_way message w) → new.nodes ≡ w.nodes
  put_nodes true message w new is = ap (λ (x : Way D). x.nodes) is
  put_nodes false message w new is = ap (λ (x : Way D). x.nodes) is

  recounted : (message : Message) (w : Way D) (sent : Sent) → Covers sent w → Covers sent (counted message w)
  recounted message w sent c = record { queue = c.queue; held = c.held; servers = c.servers; clients = c.clients; short = c.short }

  -- what a node sends, one after the other
  pub record Sending (moment : Moment) (by : NodeId) (messages : List Message) (now : Line) (s : Sent) (old new : Way D) : Type 0 where
    pub after : Line
    pub appends : Appends moment messages now after
    pub covers : Covers (with_line by after s) new
    pub nodes : new.nodes ≡ old.nodes

  one_put : (moment : Moment) (by : NodeId) (message : Message) (messages : List Message) (posts : List Post) (now : Line) (s : Sent) (w mid new : Way D) → posts_of s by ≡ Some posts
      → Covers (with_line by now s) w → Puts message (counted message w) mid
      → ((next : Line) → Covers (with_line by next s) mid → Sending moment by messages next s mid new)
      → Sending moment by (message ∷ messages) now s w new
  one_put moment by message messages posts now s w mid new is covers puts rest =
      let next : Line = line (now.0 ++ posted moment message ∷ []) now.1 in
      let held : Bool = is_held w.kind (kind_of message.body) in
      let grown = covers_on (with_line by now s) (with_line by next s) w (longer_stays by now next s (behind now.0 (posted moment message ∷ [])))
      (servers_long by next s ∙ sym (servers_long by now s)) (clients_long by next s ∙ sym (clients_long by now s))
      (λ lost. covers.short (told_by by now s ∙ (sym (told_by by next s) ∙ lost))) covers in
      let put = put_covers held message (counted message w) mid (with_line by next s) puts (last_sent by posts now moment message s is) (recounted message w (with_line by next s) grown) in
      let r = rest next put in
      record { after = r.after; appends = (next, inl refl, r.appends); covers = r.covers; nodes = r.nodes ∙ put_nodes held message (counted message w) mid puts }

  one_lost : (moment : Moment) (by : NodeId) (message : Message) (messages : List Message) (now : Line) (s : Sent) (w mid new : Way D)
      → Covers (with_line by now s) w → mid ≡ shortened (counted message w)
      → ((next : Line) → Covers (with_line by next s) mid → Sending moment by messages next s mid new)
      → Sending moment by (message ∷ messages) now s w new
  one_lost moment by message messages now s w mid new c is rest =
      let next : Line = line now.0 true in
      let lost = covers_on (with_line by now s) (with_line by next s) (shortened (counted message w)) (longer_stays by now next s (λ place message stands. stands))
      (servers_long by next s ∙ sym (servers_long by now s)) (clients_long by next s ∙ sym (clients_long by now s)) (λ lost. refl)
      (record { queue = c.queue; held = c.held; servers = c.servers; clients = c.clients; short = λ lost. refl }) in
      let r = rest next (subst (λ x. Covers (with_line by next s) x) (sym is) lost) in
      record { after = r.after; appends = (next, inr refl, r.appends); covers = r.covers; nodes = r.nodes ∙ ap (λ (x : Way D). x.nodes) is }

  sends_all : (moment : Moment) (by : NodeId) (messages : List Message) (posts : List Post) (now : Line) (s : Sent) (w new : Way D) → posts_of s by ≡ Some posts
      → Covers (with_line by now s) w → SendsAll messages w new → Sending moment by messages now s w new
  sends_all moment by [] posts now s w new is covers same =
      record { after = now; appends = refl; covers = subst (λ x. Covers (with_line by now s) x) (sym same) covers; nodes = ap (λ (x : Way D). x.nodes) same }
  sends_all moment by (message ∷ messages) posts now s w new is covers (mid, sends, rest) = elim sends [
    | inl puts ↦ one_put moment by message messages posts now s w mid new is covers puts (λ next c. sends_all moment by messages posts next s mid new is c rest)
    | inr lost ↦ one_lost moment by message messages now s w mid new covers lost (λ next c. sends_all moment by messages posts next s mid new is c rest)
  ]

  -- behind it all that is under way was sent
  pub record Posting (moment : Moment) (by : NodeId) (messages : List Message) (s : Sent) (old new : Way D) : Type 0 where
    pub after : Sent
    pub posts : IsPosted moment by messages s after
    pub covers : Covers after new
    pub nodes : new.nodes ≡ old.nodes

  pub sends : (moment : Moment) (by : NodeId) (messages : List Message) (s : Sent) (w new : Way D) → HasList by s → Covers s w → SendsAll messages w new → Posting moment by messages s w new
  sends moment by messages s w new has covers all =
      let sending = sends_all moment by messages has.posts (line has.posts s.has_lost) s w new has.is (subst (λ x. Covers x w) (sym (put_same by has.posts s has.is)) covers) all in
      record {
        after = with_line by sending.after s;
        posts =
            subst
            (λ (o : Option (List Post)). MatchOption o (with_line by sending.after s ≡ record s { has_lost = lost_all messages s.has_lost })
            (λ posts. (after : Line) × Appends moment messages (posts, s.has_lost) after × (with_line by sending.after s ≡ with_line by after s)))
            (sym has.is) (sending.after, sending.appends, refl);
        covers = sending.covers;
        nodes = sending.nodes;
      }

  pub sends_none : (moment : Moment) (by : NodeId) (messages : List Message) (s : Sent) (w new : Way D) → messages ≡ [] → Covers s w → SendsAll messages w new → Posting moment by messages s w new
  sends_none moment by [] s w new none covers same =
      record { after = s; posts = no_posts (posts_of s by) moment by s refl; covers = subst (λ x. Covers s x) (sym same) covers; nodes = ap (λ (x : Way D). x.nodes) same }
  sends_none moment by (message ∷ messages) s w new none covers all = absurd cc
