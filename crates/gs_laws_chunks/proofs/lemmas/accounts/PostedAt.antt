-- What stands newly at a place of all that was sent is what is sent now: what holds of each message that a node sends holds of that.
use Rattle.std.proofs.Common.{◌≡◌, ◌-◌, ◌==◌, ◌++◌, ℕ, zero, suc, Bool, true, false, List, [], ◌∷◌, Option, Some, None, MatchOption, refl, sym, subst, inl, inr, slice_get, slice_set}
use Rattle.std.specs.List.{AllByRecursion}
use Rattle.std.specs.Prelude.{if◌then◌else◌}
use Rattle.gs_base.specs.declared.numbers.Moment.{Moment}
use Rattle.gs_msg.specs.Posts.{message_at, posted}
use Rattle.gs_msg.specs.declared.message.Message.{Message}
use Rattle.gs_msg.specs.declared.message.MsgId.{MsgId}
use Rattle.gs_msg.specs.declared.node.NodeId.{NodeId}
use Rattle.gs_msg.specs.declared.node.NodeId.TheVariants as nodes
use Rattle.gs_msg.specs.declared.outbox.Post.{Post}
use Rattle.gs_world.proofs.Sending.{numbered, same_posts}
use Rattle.gs_world.specs.Sent.{Appends, Line, Sent, lost_all, message_in, message_of, posts_of, with_line}
use Rattle.gs_laws_lift.specs.stores.Going.{Posts}

some_is : {A : Type 0} (x y : A) → Some x ≡ Some y → x ≡ y
some_is x y is = cc

client_found : (nought : Bool) (o : Option (List Post)) (posts : List Post) → (if nought then None else o) ≡ Some posts → o ≡ Some posts
client_found true o posts is = absurd (cc)
client_found false o posts is = is

module _ (P : Message → Type 0) (place : ℕ) (message : Message) where
  -- what holds of the message if it stands there
  abbrev If : List Post → Type 0
  If posts = message_at posts place ≡ Some message → P message

  abbrev IfIn : Option (List Post) → Type 0
  IfIn o = message_in o place ≡ Some message → P message

  -- what is put after the others
  appended_at : (moment : Moment) (messages : List Message) (old new : Line) → Appends moment messages old new → If old.0 → AllByRecursion P messages → If new.0
  appended_at moment [] old new is before well = subst (λ (l : Line). If l.0) (sym is) before
  appended_at moment (one ∷ messages) old new (mid, first, rest) before well = appended_at moment messages mid new rest (elim first [
    | inl is ↦ subst (λ (l : Line). If l.0) (sym is) (pushed_at old.0 place before)
    | inr is ↦ subst (λ (l : Line). If l.0) (sym is) before
  ]) well.1
    where
      pushed_at : (posts : List Post) (p : ℕ) → (message_at posts p ≡ Some message → P message) → message_at (posts ++ posted moment one ∷ []) p ≡ Some message → P message
      pushed_at [] zero old is = subst P (some_is one message is) well.0
      pushed_at [] (suc p) old is = absurd cc
      pushed_at (post ∷ posts) zero old is = old is
      pushed_at (post ∷ posts) (suc p) old is = pushed_at posts p old is

  module _ (posts after : List Post) (grows : If posts → If after) where
    set_at : (xs : List (List Post)) (i : ℕ) → slice_get xs i ≡ Some posts → (j : ℕ) → IfIn (slice_get xs j) → IfIn (slice_get (slice_set xs i after) j)
    set_at [] i found j old is = old is
    set_at (y ∷ xs) zero found zero old is = grows (λ at. old (subst (λ (q : List Post). message_at q place ≡ Some message) (sym (some_is y posts found)) at)) is
    set_at (y ∷ xs) zero found (suc j) old is = old is
    set_at (y ∷ xs) (suc i) found zero old is = old is
    set_at (y ∷ xs) (suc i) found (suc j) old is = set_at xs i found j old is

    numbered_at : (nought : Bool) (xs : List (List Post)) (i : ℕ) → slice_get xs i ≡ Some posts → (j : ℕ) → IfIn (numbered nought (slice_get xs j)) → IfIn (numbered nought (slice_get (slice_set xs i after) j))
    numbered_at true xs i found j old is = old is
    numbered_at false xs i found j old is = set_at xs i found j old is

  line_at : (by : NodeId) (posts : List Post) (after : Line) (s : Sent) → posts_of s by ≡ Some posts → (If posts → If after.0) → (sender : NodeId) → IfIn (posts_of s sender) → IfIn (posts_of (with_line by after s) sender)
  line_at nodes.Master posts after s found grows nodes.Master old is = grows (λ at. old (subst (λ (q : List Post). message_at q place ≡ Some message) (sym (some_is s.master posts found)) at)) is
  line_at nodes.Master posts after s found grows (nodes.Server id) old is = old is
  line_at nodes.Master posts after s found grows (nodes.Client id) old is = old is
  line_at (nodes.Server by) posts after s found grows nodes.Master old is = old is
  line_at (nodes.Server by) posts after s found grows (nodes.Server id) old is = set_at posts after.0 grows s.servers by found id old is
  line_at (nodes.Server by) posts after s found grows (nodes.Client id) old is = old is
  line_at (nodes.Client by) posts after s found grows nodes.Master old is = old is
  line_at (nodes.Client by) posts after s found grows (nodes.Server id) old is = old is
  line_at (nodes.Client by) posts after s found grows (nodes.Client id) old is =
      numbered_at posts after.0 grows (id.0 == 0) s.clients (by.0 - 1) (client_found (by.0 == 0) (slice_get s.clients (by.0 - 1)) posts found) (id.0 - 1) old is

pub posted_at : (P : Message → Type 0) (moment : Moment) (by : NodeId) (messages : List Message) (old new : Sent) → Posts moment by messages old new → (id : MsgId) (message : Message) → (message_of old id ≡ Some message → P message) → AllByRecursion P messages → message_of new id ≡ Some message → P message
posted_at P moment by messages old new (inr same) id message before well stands = before (subst (λ (s : Sent). message_of s id ≡ Some message) same stands)
posted_at P moment by messages old new (inl posts) id message before well stands = by_found (posts_of old by) refl posts
  where
    by_found : (found : Option (List Post)) → posts_of old by ≡ found
        → MatchOption found (new ≡ record old { has_lost = lost_all messages old.has_lost }) (λ posts. (after : Line) × Appends moment messages (posts, old.has_lost) after × (new ≡ with_line by after old)) → P message
    by_found None is same = before (subst (λ (o : Option (List Post)). message_in o id.place ≡ Some message) (same_posts old (lost_all messages old.has_lost) id.sender) (subst (λ (s : Sent). message_of s id ≡ Some message) same stands))
    by_found (Some here) is (after, appends, same) =
        line_at P id.place message by here after old is (λ first. appended_at P id.place message moment messages (here, old.has_lost) after appends first well) id.sender before (subst (λ (s : Sent). message_of s id ≡ Some message) same stands)
