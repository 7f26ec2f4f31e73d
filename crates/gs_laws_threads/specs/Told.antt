-- Why a caller of a cluster answers 28 or 29, by what its history took in that call.
use Rattle.std.specs.Prelude.{◌≡◌, ◌++◌, ◌+◌, ◌∷◌, ℕ, List, [], true, Option, Some, None, Ok, Err, refl, ⊤}
use Rattle.std.proofs.Common.{ap}
use Rattle.std.proofs.lemmas.Option.{none-some}
use Rattle.gs_base.specs.declared.numbers.ClientId.{ClientId}
use Rattle.gs_base.specs.declared.numbers.Moment.{Moment}
use Rattle.gs_base.specs.declared.numbers.ReqId.{ReqId}
use Rattle.gs_base.specs.declared.refusal.Refusal.TheVariants as refusals
use Rattle.gs_path.specs.Path.{Path}
use Rattle.gs_msg.specs.declared.answer.Answer.TheVariants as answers
use Rattle.gs_msg.specs.declared.body.Body.TheVariants as bodies
use Rattle.gs_msg.specs.declared.call.Call.TheVariants as calls
use Rattle.gs_msg.specs.declared.chunk.Asked.{Asked}
use Rattle.gs_msg.specs.declared.event.Event.{Event}
use Rattle.gs_msg.specs.declared.event.Request.{Request}
use Rattle.gs_msg.specs.declared.event.Request.TheVariants as requests
use Rattle.gs_msg.specs.declared.sent.Sent.{Sent}
use Rattle.gs_client_dialogue.specs.Dialogues.{FollowsDialogue}
use Rattle.gs_client_part.specs.Fetching.{fetch_of}
use Rattle.gs_client_part.specs.declared.located.Located.{Located}
use Rattle.gs_client.specs.Trees.{Call}
use Rattle.gs_client.specs.declared.link.Reply.{Reply}
use Rattle.gs_client.specs.declared.link.Reply.TheVariants as replies
use Rattle.gs_cluster.specs.Answered.{IsBrought, IsSilent, brought, client_of}
use Rattle.gs_cluster.specs.Calling.{asking, takes_memory}
use Rattle.gs_cluster_core.specs.declared.role.Role.{Role}
use Rattle.gs_cluster_history.specs.Histories.{Among, Entry, Kept}
use Rattle.gs_cluster_history.specs.declared.took.Took.TheVariants.{Heard, Did}
use Rattle.gs_laws_causes.specs.Causes.{may_change, only_looks}

-- what was asked in a call, as the history has it
pub record IsAsked (took : List Entry) (request : Request) : Type 0 where
  pub moment : Moment
  pub req : ReqId
  pub question : Entry
  pub among : Among took question
  pub asked : question.took ≡ Did (asking moment req request)

-- what was asked in it, and the reply to that which a message brought
pub record IsTold (took : List Entry) (client : Option ClientId) (request : Request) (reply : Reply) : Type 0 where
  pub asks : IsAsked took request
  pub brought : IsBrought took client asks.req.number reply

-- nothing is left, or what its node did next stands first
abbrev pub IsOver : List Entry → Type 0
IsOver [] = ⊤
IsOver (entry ∷ rest) = (event : Event) × (entry.took ≡ Did event)

-- What was asked in it. Nothing that was taken from then on, until its node did something more of its own, brought a reply to that.
pub record IsUnanswered (took : List Entry) (client : Option ClientId) (request : Request) : Type 0 where
  pub moment : Moment
  pub req : ReqId
  pub question : Entry
  pub before : List Entry
  pub heard : List Entry
  pub behind : List Entry
  pub asked : question.took ≡ Did (asking moment req request)
  pub part : took ≡ before ++ (question ∷ (heard ++ behind))
  pub over : IsOver behind
  pub silent : IsSilent heard client req.number

-- each of these members was asked for this, and nothing came
abbrev pub NoneGave : List Entry → Option ClientId → Located → Asked → List ℕ → Type 0
NoneGave took client l what [] = ⊤
NoneGave took client l what (member ∷ members) = IsUnanswered took client (fetch_of l what member) × NoneGave took client l what members

-- Of 28.
pub data NoReplicaOf (client : Option ClientId) (took : List Entry) : Type 0 where
  -- a message brings that refusal
  Refused : (request : Request) → IsTold took client request (replies.Refused refusals.NoReplica) → NoReplicaOf client took
  -- a message brings a location without members
  NoMembers : (path : Path) (l : Located) → IsTold took client (requests.Call (calls.FindForReading path l.index)) (replies.Answer (answers.Location l.handle l.view l.epoch)) → l.view.members ≡ []
      → NoReplicaOf client took
  -- nothing came to a call that only looks
  Unanswered : (request : Request) → only_looks request ≡ true → IsUnanswered took client request → NoReplicaOf client took
  -- a message brings a location, each of its members was asked, and nothing came from any
  PassedOver : (path : Path) (l : Located) (what : Asked) (first : ℕ) (others : List ℕ)
      → IsTold took client (requests.Call (calls.FindForReading path l.index)) (replies.Answer (answers.Location l.handle l.view l.epoch)) → l.view.members ≡ first ∷ others
      → NoneGave took client l what (first ∷ others) → NoReplicaOf client took

-- Of 29.
pub data UnsureOf (client : Option ClientId) (took : List Entry) : Type 0 where
  -- a message brings that refusal
  Refused : (request : Request) → IsTold took client request (replies.Refused refusals.Unsure) → UnsureOf client took
  -- a message brings that memory was wanting for a request that may change something
  NoMemory : (request : Request) → may_change request ≡ true → IsTold took client request (replies.Refused refusals.Memory) → UnsureOf client took
  -- or that a disk has failed in it
  NoDisk : (request : Request) → may_change request ≡ true → IsTold took client request (replies.Refused refusals.Device) → UnsureOf client took
  -- or nothing came to it
  Unanswered : (request : Request) → may_change request ≡ true → IsUnanswered took client request → UnsureOf client took
  -- memory of its own is wanting for such a request, which its history tells
  NoRoom : (request : Request) → may_change request ≡ true → (asks : IsAsked took request) → asks.question.outcome ≡ Err refusals.Memory → UnsureOf client took
  -- or for the copy of the reply that a message brings to it
  NoCopy : (request : Request) (came : Reply) → may_change request ≡ true → IsTold took client request came → takes_memory came ≡ true → UnsureOf client took

-- The history grows by what it takes in a call, and the cause is in that.
pub record InHistory {D : Type 0} (Cause : Option ClientId → List Entry → Type 0) (old new : Kept (Role D)) : Type 0 where
  pub took : List Entry
  pub grows : new.entries ≡ old.entries ++ took
  pub cause : Cause (client_of old.past.core) took

-- Each 28 and 29 of a call, carried so by a node, has a cause that the node's history took in that call.
abbrev pub Tells : {S D : Type 0} → (S → Request → Reply → S → Type 0) → (S → Kept (Role D)) → (A : Type 0) → Call A → Type 0
Tells {S} carries node A call = (old new : S)
    → (FollowsDialogue carries call old (Err refusals.NoReplica) new → InHistory NoReplicaOf (node old) (node new))
    × (FollowsDialogue carries call old (Err refusals.Unsure) new → InHistory UnsureOf (node old) (node new))

-- Worked: a list is asked for, and what comes back is that refusal.
abbrev asked_first : Moment → ReqId → Entry
asked_first moment req = record { clock = 1; took = Did (asking moment req (requests.Call (calls.List []))); outcome = Ok ([], None) }

abbrev heard_then : Sent → Entry
heard_then sent = record { clock = sent.clock + 1; took = Heard sent; outcome = Ok ([], None) }

a_list_is_refused : (moment : Moment) (req : ReqId) (sent : Sent) → sent.message.body ≡ bodies.Reply req (Err refusals.NoReplica) → NoReplicaOf (Some req.client) (asked_first moment req ∷ heard_then sent ∷ [])
a_list_is_refused moment req sent is = NoReplicaOf.Refused (requests.Call (calls.List [])) (record {
  asks = record { moment = moment; req = req; question = asked_first moment req; among = (0, refl); asked = refl };
  brought = record { entry = heard_then sent; among = (1, refl); sent = sent; heard = refl; req = req; brings = ap brought is; mine = refl; numbered = refl };
})

-- Worked: a file is to be made, and nothing comes.
nothing_comes : (moment : Moment) (req : ReqId) (path : Path) → UnsureOf (Some req.client) (record { clock = 1; took = Did (asking moment req (requests.Call (calls.Create path))); outcome = Ok ([], None) } ∷ [])
nothing_comes moment req path = UnsureOf.Unanswered (requests.Call (calls.Create path)) refl (record {
  moment = moment;
  req = req;
  question = record { clock = 1; took = Did (asking moment req (requests.Call (calls.Create path))); outcome = Ok ([], None) };
  before = [];
  heard = [];
  behind = [];
  asked = refl;
  part = refl;
  over = tt;
  silent = λ reply b. none-some b.entry b.among.1;
})
