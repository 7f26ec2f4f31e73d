-- What holds of all that was sent, and of what a node sends now, holds of all that was sent then.
use Rattle.std.proofs.Common.{◌≡◌, ◌-◌, ◌==◌, ◌++◌, ℕ, zero, suc, Bool, true, false, List, [], ◌∷◌, Option, Some, None, MatchOption, refl, sym, ap, subst, inl, inr, slice_get, slice_set}
use Rattle.std.specs.List.{AllByRecursion}
use Rattle.std.specs.Prelude.{if◌then◌else◌}
use Rattle.gs_base.specs.declared.numbers.Moment.{Moment}
use Rattle.gs_msg.specs.Posts.{message_at, posted}
use Rattle.gs_msg.specs.declared.message.Message.{Message}
use Rattle.gs_msg.specs.declared.node.NodeId.{NodeId}
use Rattle.gs_msg.specs.declared.node.NodeId.TheVariants as nodes
use Rattle.gs_msg.specs.declared.outbox.Post.{Post}
use Rattle.gs_world.proofs.Sending.{numbered, posting, same_posts}
use Rattle.gs_world.specs.Runs.{StaySent}
use Rattle.gs_world.specs.Sent.{Appends, Line, Sent, lost_all, message_in, posts_of, with_line}
use Rattle.gs_laws_lift.specs.stores.Going.{AllSent, Posts}

some_is : {A : Type 0} (x y : A) → Some x ≡ Some y → x ≡ y
some_is x y is = cc

-- and what was sent stays sent
pub posts_stay : (moment : Moment) (by : NodeId) (messages : List Message) (old new : Sent) → Posts moment by messages old new → StaySent old new
posts_stay moment by messages old new (inl posted) = posting moment by messages old new posted
posts_stay moment by messages old new (inr same) = subst (StaySent old) (sym same) (λ id message is. is)

module _ (P : Message → Type 0) where
  abbrev AllIn : List Post → Type 0
  AllIn posts = (place : ℕ) (message : Message) → message_at posts place ≡ Some message → P message

  pushed_in : (posts : List Post) (moment : Moment) (one : Message) → AllIn posts → P one → AllIn (posts ++ posted moment one ∷ [])
  pushed_in [] moment one all well zero message is = subst P (some_is one message is) well
  pushed_in [] moment one all well (suc place) message is = absurd cc
  pushed_in (post ∷ posts) moment one all well zero message is = all zero message is
  pushed_in (post ∷ posts) moment one all well (suc place) message is = pushed_in posts moment one (λ p m h. all (suc p) m h) well place message is

  appended_in : (moment : Moment) (messages : List Message) (old new : Line) → Appends moment messages old new → AllIn old.0 → AllByRecursion P messages → AllIn new.0
  appended_in moment [] old new is all well = subst (λ (l : Line). AllIn l.0) (sym is) all
  appended_in moment (one ∷ messages) old new (mid, first, rest) all well = appended_in moment messages mid new rest (elim first [
    | inl is ↦ subst (λ (l : Line). AllIn l.0) (sym is) (pushed_in old.0 moment one all well.0)
    | inr is ↦ subst (λ (l : Line). AllIn l.0) (sym is) all
  ]) well.1

  set_in : (xs : List (List Post)) (i : ℕ) (after : List Post) → AllIn after → (j place : ℕ) (message : Message) → (message_in (slice_get xs j) place ≡ Some message → P message)
      → message_in (slice_get (slice_set xs i after) j) place ≡ Some message → P message
  set_in [] i after new j place message old is = old is
  set_in (x ∷ xs) zero after new zero place message old is = new place message is
  set_in (x ∷ xs) zero after new (suc j) place message old is = old is
  set_in (x ∷ xs) (suc i) after new zero place message old is = old is
  set_in (x ∷ xs) (suc i) after new (suc j) place message old is = set_in xs i after new j place message old is

  set_numbered : (nought : Bool) (xs : List (List Post)) (i : ℕ) (after : List Post) → AllIn after → (j place : ℕ) (message : Message) → (message_in (numbered nought (slice_get xs j)) place ≡ Some message → P message)
      → message_in (numbered nought (slice_get (slice_set xs i after) j)) place ≡ Some message → P message
  set_numbered true xs i after new j place message old is = old is
  set_numbered false xs i after new j place message old is = set_in xs i after new j place message old is

  line_in : (by : NodeId) (after : Line) (s : Sent) → AllIn after.0 → (sender : NodeId) (place : ℕ) (message : Message) → (message_in (posts_of s sender) place ≡ Some message → P message)
      → message_in (posts_of (with_line by after s) sender) place ≡ Some message → P message
  line_in nodes.Master after s new nodes.Master place message old is = new place message is
  line_in nodes.Master after s new (nodes.Server id) place message old is = old is
  line_in nodes.Master after s new (nodes.Client id) place message old is = old is
  line_in (nodes.Server by) after s new nodes.Master place message old is = old is
  line_in (nodes.Server by) after s new (nodes.Server id) place message old is = set_in s.servers by after.0 new id place message old is
  line_in (nodes.Server by) after s new (nodes.Client id) place message old is = old is
  line_in (nodes.Client by) after s new nodes.Master place message old is = old is
  line_in (nodes.Client by) after s new (nodes.Server id) place message old is = old is
  line_in (nodes.Client by) after s new (nodes.Client id) place message old is = set_numbered (id.0 == 0) s.clients (by.0 - 1) after.0 new (id.0 - 1) place message old is

  posts_said : (found : Option (List Post)) (moment : Moment) (by : NodeId) (messages : List Message) (old new : Sent) → posts_of old by ≡ found
      → MatchOption found (new ≡ record old { has_lost = lost_all messages old.has_lost }) (λ posts. (after : Line) × Appends moment messages (posts, old.has_lost) after × (new ≡ with_line by after old))
      → AllSent P old → AllByRecursion P messages → AllSent P new
  posts_said None moment by messages old new is same all well = subst (AllSent P) (sym same) (λ id message stands.
      all id message (subst (λ (o : Option (List Post)). message_in o id.place ≡ Some message) (same_posts old (lost_all messages old.has_lost) id.sender) stands))
  posts_said (Some posts) moment by messages old new is (after, appends, same) all well = subst (AllSent P) (sym same) (λ id message stands.
      line_in by after old (appended_in moment messages (posts, old.has_lost) after appends first well) id.sender id.place message (λ before. all id message before) stands)
    where
      first : AllIn posts
      first place message at = all (record { sender = by; place = place }) message (subst (λ (o : Option (List Post)). message_in o place ≡ Some message) (sym is) at)

  pub posted_all : (moment : Moment) (by : NodeId) (messages : List Message) (old new : Sent) → Posts moment by messages old new → AllSent P old → AllByRecursion P messages → AllSent P new
  posted_all moment by messages old new (inl posts) all well = posts_said (posts_of old by) moment by messages old new refl posts all well
  posted_all moment by messages old new (inr same) all well = subst (AllSent P) (sym same) all

-- what holds of all that was sent, and leads to another, gives that
pub sent_then : (P Q : Message → Type 0) (sent : Sent) → ((message : Message) → P message → Q message) → AllSent P sent → AllSent Q sent
sent_then P Q sent leads all id message is = leads message (all id message is)

-- ---- what the master says

-- the master has sent it
abbrev pub HasSaid : Sent → Message → Type 0
HasSaid sent message = (place : ℕ) × (message_at sent.master place ≡ Some message)

-- what the others have sent stays as it is
others_stay : (moment : Moment) (messages : List Message) (old new : Sent) → Posts moment nodes.Master messages old new → (new.servers ≡ old.servers) × (new.clients ≡ old.clients)
others_stay moment messages old new (inl (after, appends, is)) = (ap (λ (s : Sent). s.servers) is, ap (λ (s : Sent). s.clients) is)
others_stay moment messages old new (inr is) = (ap (λ (s : Sent). s.servers) is, ap (λ (s : Sent). s.clients) is)

-- So what holds of all that was sent, and of what the master sends now wherever that stands, holds of all that was sent then: some of it may have been lost.
pub posted_there : (P : Message → Type 0) (moment : Moment) (messages : List Message) (old new : Sent) → Posts moment nodes.Master messages old new → AllSent P old → AllByRecursion (λ (m : Message). HasSaid new m → P m) messages → AllSent P new
posted_there P moment messages old new posts all well id message stands = by_sender id.sender id.place stands
  where
    said : AllSent (λ (m : Message). HasSaid new m → P m) new
    said = posted_all (λ (m : Message). HasSaid new m → P m) moment nodes.Master messages old new posts (λ at m there has. all at m there) well

    by_sender : (sender : NodeId) (place : ℕ) → message_in (posts_of new sender) place ≡ Some message → P message
    by_sender nodes.Master place is = said (record { sender = nodes.Master; place = place }) message is (place, is)
    by_sender (nodes.Server server) place is = all (record { sender = nodes.Server server; place = place }) message (subst (λ (xs : List (List Post)). message_in (slice_get xs server) place ≡ Some message) (others_stay moment messages old new posts).0 is)
    by_sender (nodes.Client client) place is =
        all (record { sender = nodes.Client client; place = place }) message (subst (λ (xs : List (List Post)). message_in (if client.0 == 0 then None else slice_get xs (client.0 - 1)) place ≡ Some message) (others_stay moment messages old new posts).1 is)
