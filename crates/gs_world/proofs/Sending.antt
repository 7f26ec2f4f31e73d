-- What was sent stays sent.
use Rattle.std.proofs.Common.{◌≡◌, ◌++◌, ◌-◌, ◌==◌, ℕ, zero, suc, Bool, true, false, List, [], ◌∷◌, if◌then◌else◌, Option, Some, None, MatchOption, Result, Ok, Err, refl, sym, ap, subst, inl, inr, slice_get, slice_set}
use Rattle.gs_base.specs.declared.numbers.Moment.{Moment}
use Rattle.gs_base.specs.declared.refusal.Refusal.{Refusal}
use Rattle.gs_msg.specs.Posts.{message_at, posted}
use Rattle.gs_msg.specs.declared.event.DiskId.{DiskId}
use Rattle.gs_msg.specs.declared.message.Message.{Message}
use Rattle.gs_msg.specs.declared.node.NodeId.{NodeId}
use Rattle.gs_msg.specs.declared.node.NodeId.TheVariants as nodes
use Rattle.gs_msg.specs.declared.outbox.Post.{Post}
use Rattle.gs_nodes.specs.declared.place.MasterPlace.{MasterPlace}
use Rattle.gs_world.specs.Histories.{History, Upshot, Tells}
use Rattle.gs_world.specs.Runs.{Goes, RunsTo, StaySent, Step, Comes, Takes}
use Rattle.gs_world.specs.Sent.{Appends, IsPosted, IsSent, Line, Sent, lost_all, message_in, message_of, posts_of, with_line}

-- each message of the first list stands at its place in the second
abbrev pub IsLonger : List Post → List Post → Type 0
IsLonger old new = (place : ℕ) (message : Message) → message_at old place ≡ Some message → message_at new place ≡ Some message

pub behind : (old more : List Post) → IsLonger old (old ++ more)
behind [] more place message is = absurd cc
behind (post ∷ posts) more zero message is = is
behind (post ∷ posts) more (suc place) message is = behind posts more place message is

pub appended : (moment : Moment) (messages : List Message) (old new : Line) → Appends moment messages old new → IsLonger old.0 new.0
appended moment [] old new is place message stands = subst (λ (l : Line). message_at l.0 place ≡ Some message) (sym is) stands
appended moment (one ∷ messages) old new (mid, first, rest) place message stands = appended moment messages mid new rest place message (elim first [
  | inl is ↦ subst (λ (l : Line). message_at l.0 place ≡ Some message) (sym is) (behind old.0 (posted moment one ∷ []) place message stands)
  | inr is ↦ subst (λ (l : Line). message_at l.0 place ≡ Some message) (sym is) stands
])

-- ---- one of several lists grows

grown : (xs : List (List Post)) (i : ℕ) (posts after : List Post) → slice_get xs i ≡ Some posts → IsLonger posts after
    → (j place : ℕ) (message : Message) → message_in (slice_get xs j) place ≡ Some message → message_in (slice_get (slice_set xs i after) j) place ≡ Some message
grown [] i posts after is longer j place message stands = absurd cc
grown (x ∷ xs) zero posts after is longer zero place message stands = longer place message (subst (λ (o : Option (List Post)). message_in o place ≡ Some message) is stands)
grown (x ∷ xs) zero posts after is longer (suc j) place message stands = stands
grown (x ∷ xs) (suc i) posts after is longer zero place message stands = stands
grown (x ∷ xs) (suc i) posts after is longer (suc j) place message stands = grown xs i posts after is longer j place message stands

-- the same of clients, who are numbered from 1
abbrev pub numbered : Bool → Option (List Post) → Option (List Post)
numbered nought found = if nought then None else found

a_number : (nought : Bool) (found : Option (List Post)) (posts : List Post) → numbered nought found ≡ Some posts → found ≡ Some posts
a_number true found posts is = absurd cc
a_number false found posts is = is

grown_numbered : (nought : Bool) (xs : List (List Post)) (i : ℕ) (posts after : List Post) → slice_get xs i ≡ Some posts → IsLonger posts after
    → (j place : ℕ) (message : Message) → message_in (numbered nought (slice_get xs j)) place ≡ Some message
    → message_in (numbered nought (slice_get (slice_set xs i after) j)) place ≡ Some message
grown_numbered true xs i posts after is longer j place message stands = stands
grown_numbered false xs i posts after is longer j place message stands = grown xs i posts after is longer j place message stands

set_at : (by : NodeId) (posts : List Post) (after : Line) (s : Sent) → posts_of s by ≡ Some posts → IsLonger posts after.0
    → (sender : NodeId) (place : ℕ) (message : Message) → message_in (posts_of s sender) place ≡ Some message
    → message_in (posts_of (with_line by after s) sender) place ≡ Some message
set_at nodes.Master posts after s is longer nodes.Master place message stands = longer place message (subst (λ (o : Option (List Post)). message_in o place ≡ Some message) is stands)
set_at nodes.Master posts after s is longer (nodes.Server id) place message stands = stands
set_at nodes.Master posts after s is longer (nodes.Client id) place message stands = stands
set_at (nodes.Server by) posts after s is longer nodes.Master place message stands = stands
set_at (nodes.Server by) posts after s is longer (nodes.Server id) place message stands = grown s.servers by posts after.0 is longer id place message stands
set_at (nodes.Server by) posts after s is longer (nodes.Client id) place message stands = stands
set_at (nodes.Client by) posts after s is longer nodes.Master place message stands = stands
set_at (nodes.Client by) posts after s is longer (nodes.Server id) place message stands = stands
set_at (nodes.Client by) posts after s is longer (nodes.Client id) place message stands =
    grown_numbered (id.0 == 0) s.clients (by.0 - 1) posts after.0 (a_number (by.0 == 0) (slice_get s.clients (by.0 - 1)) posts is) longer (id.0 - 1) place message stands

-- whether a message was lost changes nothing of what was sent
pub same_posts : (s : Sent) (has_lost : Bool) (by : NodeId) → posts_of (record s { has_lost = has_lost }) by ≡ posts_of s by
same_posts s has_lost nodes.Master = refl
same_posts s has_lost (nodes.Server id) = refl
same_posts s has_lost (nodes.Client id) = refl

-- ---- over a step, and over many

still : (old new : Sent) → new ≡ old → StaySent old new
still old new same id message stands = subst (λ s. message_of s id ≡ Some message) (sym same) stands

lost_stay : (old new : Sent) (has_lost : Bool) → new ≡ record old { has_lost = has_lost } → StaySent old new
lost_stay old new has_lost same id message stands =
    subst (λ s. message_of s id ≡ Some message) (sym same)
    (subst (λ (o : Option (List Post)). message_in o id.place ≡ Some message) (sym (same_posts old has_lost id.sender)) stands)

posts_stay : (found : Option (List Post)) (moment : Moment) (by : NodeId) (messages : List Message) (old new : Sent) → posts_of old by ≡ found
    → MatchOption found (new ≡ record old { has_lost = lost_all messages old.has_lost }) (λ posts. (after : Line) × Appends moment messages (posts, old.has_lost) after × (new ≡ with_line by after old))
    → StaySent old new
posts_stay None moment by messages old new is posts = lost_stay old new (lost_all messages old.has_lost) posts
posts_stay (Some posts) moment by messages old new is (after, appends, same) = λ id message stands.
    subst (λ s. message_of s id ≡ Some message) (sym same)
    (set_at by posts after old is (appended moment messages (posts, old.has_lost) after appends) id.sender id.place message stands)

pub posting : (moment : Moment) (by : NodeId) (messages : List Message) (old new : Sent) → IsPosted moment by messages old new → StaySent old new
posting moment by messages old new posts = posts_stay (posts_of old by) moment by messages old new refl posts

pub chained : (old mid new : Sent) → StaySent old mid → StaySent mid new → StaySent old new
chained old mid new first second id message stands = second id message (first id message stands)

pub sent_still : (message : Message) (old new : Sent) → StaySent old new → IsSent message old → IsSent message new
sent_still message old new stay (id, is) = (id, stay id message is)

module _ {D : Type 0} (seen : D → List ℕ) (failures : D → ℕ) (armed : DiskId → ℕ → MasterPlace D → MasterPlace D) where
  pub telling : (moment : Moment) (by : NodeId) (outcome : Upshot) (old : Sent) (said : Result (Unit {0}) Refusal) (new : Sent)
      → Tells seen failures armed moment by outcome old said new → StaySent old new
  telling moment by (Ok (messages, what)) old said new (posts, is) = posting moment by messages old new posts
  telling moment by (Err refusal) old said new (same, is) = still old new same

  pub step_stays : (step : Step) (old new : History D) → Goes seen failures armed step old new → StaySent old.sent new.sent
  step_stays (Comes event) old new (said, h) = telling event.moment h.by h.outcome old.sent said new.sent h.tells
  step_stays (Takes client) old new (found, takes, same) = still old.sent new.sent same

  pub run_stays : (steps : List Step) (old new : History D) → RunsTo seen failures armed steps old new → StaySent old.sent new.sent
  run_stays [] old new same = still old.sent new.sent (ap (λ (h : History D). h.sent) same)
  run_stays (step ∷ steps) old new (mid, first, rest) = chained old.sent mid.sent new.sent (step_stays step old mid first) (run_stays steps mid new rest)
