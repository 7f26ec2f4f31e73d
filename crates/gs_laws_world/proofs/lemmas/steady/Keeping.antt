-- That a store keeps to its types: all that is sent may be said to its receiver, and each server counts in 64 bits.
use Rattle.std.proofs.Common.{◌≡◌, ◌⊎◌, ◌+◌, ◌-◌, ◌<◌, ◌^◌, ◌==◌, ◌++◌, ℕ, zero, suc, Bool, true, false, List, [], ◌∷◌, if◌then◌else◌, Option, Some, None, MatchOption, Result, Ok, Err, Vec, refl, sym, subst, inl, inr, arith, nat_le, replicate, slice_get, slice_set}
use Rattle.std.specs.Prelude.{IfOk}
use Rattle.std.specs.List.{AllByRecursion}
use Rattle.std.specs.declared.alloc.Global.{Global}
use Rattle.gs_base.specs.Told.{IsNumber}
use Rattle.gs_base.specs.declared.config.Config.{Config}
use Rattle.gs_base.specs.declared.numbers.ClientId.{ClientId}
use Rattle.gs_base.specs.declared.numbers.Moment.{Moment}
use Rattle.gs_base.specs.declared.numbers.ReqId.{ReqId}
use Rattle.gs_base.specs.declared.refusal.Refusal.{Refusal}
use Rattle.gs_base.specs.declared.refusal.Refusal.TheVariants as refusals
use Rattle.gs_base.specs.Calls.{Does}
use Rattle.gs_client.specs.Nodes.{Asks, Node, answered, asks, given_up, hears, messages_of, pushes, request_of, takes, with_bytes}
use Rattle.gs_client.specs.Nodes.{silent as new_client}
use Rattle.gs_client.specs.declared.link.Reply.{Reply}
use Rattle.gs_client.specs.declared.link.Reply.TheVariants as replies
use Rattle.gs_journal.specs.Records.{standing}
use Rattle.gs_journal.specs.declared.version.Version.{Version}
use Rattle.gs_journal.specs.declared.version.Version.TheVariants as versions
use Rattle.gs_laws_master.specs.Standing.{IsNamedAbout}
use Rattle.gs_master.specs.Masters.{MasterAnswers, MasterOf}
use Rattle.gs_master.specs.Ticking.{AnswersAs, AnswersTick, lacking, pressed_all, writes_one}
use Rattle.gs_master.specs.declared.turn.Turn.{Turn}
use Rattle.gs_msg.specs.Posts.{message_at, posted}
use Rattle.gs_msg.specs.declared.body.Body.{Body}
use Rattle.gs_msg.specs.declared.body.Body.TheVariants as bodies
use Rattle.gs_msg.specs.declared.chunk.Chunk.{Chunk}
use Rattle.gs_msg.specs.declared.chunk.Chunk.TheVariants as chunks
use Rattle.gs_msg.specs.declared.event.DiskId.{DiskId}
use Rattle.gs_msg.specs.declared.event.Happening.{Happening}
use Rattle.gs_msg.specs.declared.event.Happening.TheVariants as happenings
use Rattle.gs_msg.specs.declared.event.Request.{Request}
use Rattle.gs_msg.specs.declared.event.Request.TheVariants as requests
use Rattle.gs_msg.specs.declared.message.Message.{Message}
use Rattle.gs_msg.specs.declared.message.MsgId.{MsgId}
use Rattle.gs_msg.specs.declared.node.NodeId.{NodeId}
use Rattle.gs_msg.specs.declared.node.NodeId.TheVariants as nodes
use Rattle.gs_msg.specs.declared.node.StoreNode.{StoreNode}
use Rattle.gs_msg.specs.declared.node.StoreNode.TheVariants as keepers
use Rattle.gs_msg.specs.declared.outbox.Post.{Post}
use Rattle.gs_master_record.specs.Plain.{PlainEntry}
use Rattle.gs_master_record.specs.Writable.{IsRequest}
use Rattle.gs_server.specs.Servers.{Server, Step as ServerStep}
use Rattle.gs_server.specs.Servers as servers
use Rattle.gs_laws_server.specs.servers.Counted.{GoesCounted, IsCountedAbout, IsCountedBody, IsCountedMessage, IsCountedServer}
use Rattle.gs_laws_server.proofs.lemmas.servers.CountedServers.{heard_counts, lost_counts, new_counts, restart_counts, struck_counts, tick_counts}
use Rattle.gs_master_spec.specs.Applied.{records_behind, replayed}
use Rattle.gs_master_spec.specs.Durable.{Durable, start}
use Rattle.gs_master_spec.specs.Handling.{anew, answered_or, handle, recover, recovered_from, reopened, restarted, tick, written_unless}
use Rattle.gs_master_spec.specs.Outcomes.{caller_of, unsure}
use Rattle.gs_master_spec.specs.State.{Log, State, Turn as Plan, and_then}
use Rattle.gs_nodes.specs.Happenings.{AtClient, AtServer, ClientAsks, ClientHears, Delivers, Hears, MasterHears, MasterTicks, MeetsClosed, Opens, Reopens, ServerDoes, client_in, met_by, refusal_of_call}
use Rattle.gs_nodes.specs.Nodes.{Nodes, new_clients, silent_servers, with_clients, with_master, with_servers}
use Rattle.gs_nodes.specs.declared.place.MasterPlace.{MasterPlace}
use Rattle.gs_nodes.specs.declared.place.MasterPlace.TheVariants.{Standing, Closed, Away}
use Rattle.gs_world.proofs.Sending.{numbered, same_posts}
use Rattle.gs_world.specs.Histories.{AtNode, Befalls, Begins, ComesTo, History, Upshot, Restarts, Tells, Ticks, asked, silent, told}
use Rattle.gs_laws_world.specs.lasting.Lasting.{HearsNamed}
use Rattle.gs_world.specs.Runs.{Goes, RunsTo, Step, Comes, Takes}
use Rattle.gs_world.specs.Sent.{Appends, IsPosted, Line, Sent, lost_all, message_in, message_of, none_sent, posts_of, with_line}
use Rattle.gs_laws_world.specs.steady.Asking.{MayBeAsked}
use Rattle.gs_laws_world.specs.steady.Saying.{IsAskedWithin, IsStepWithin, KeepsTypes, MayBeHeard, MayBeSaid, RunsQuietly}
use Rattle.gs_laws_world.specs.steady.Steady.{HearsWithin, IsHeardAt, RunsSteadily, StepWithin}
use Rattle.gs_laws_world.proofs.lemmas.steady.MasterSays.{EachKind, message_said, reopened_said, steps_said, tick_said}
use Rattle.gs_laws_world.proofs.lemmas.steady.ServersSay.{IsNoCall, NoCalls, message_calls_nothing, tick_calls_nothing}

-- a message that may be said to its receiver
abbrev Well : Message → Type 0
Well m = MayBeSaid m.to m.body

abbrev pub AreWell : List Message → Type 0
AreWell messages = AllByRecursion Well messages

some_is : {A : Type 0} (x y : A) → Some x ≡ Some y → x ≡ y
some_is x y is = cc

-- ---- what is sent

abbrev AllIn : List Post → Type 0
AllIn posts = (place : ℕ) (message : Message) → message_at posts place ≡ Some message → Well message

pushed_in : (posts : List Post) (moment : Moment) (one : Message) → AllIn posts → Well one → AllIn (posts ++ posted moment one ∷ [])
pushed_in [] moment one all well zero message is = subst Well (some_is one message is) well
pushed_in [] moment one all well (suc place) message is = absurd cc
pushed_in (post ∷ posts) moment one all well zero message is = all zero message is
pushed_in (post ∷ posts) moment one all well (suc place) message is = pushed_in posts moment one (λ p m h. all (suc p) m h) well place message is

appended_in : (moment : Moment) (messages : List Message) (old new : Line) → Appends moment messages old new → AllIn old.0 → AreWell messages → AllIn new.0
appended_in moment [] old new is all well = subst (λ (l : Line). AllIn l.0) (sym is) all
appended_in moment (one ∷ messages) old new (mid, first, rest) all well = appended_in moment messages mid new rest (elim first [
  | inl is ↦ subst (λ (l : Line). AllIn l.0) (sym is) (pushed_in old.0 moment one all well.0)
  | inr is ↦ subst (λ (l : Line). AllIn l.0) (sym is) all
]) well.1

set_in : (xs : List (List Post)) (i : ℕ) (after : List Post) → AllIn after → (j place : ℕ) (message : Message) → (message_in (slice_get xs j) place ≡ Some message → Well message)
    → message_in (slice_get (slice_set xs i after) j) place ≡ Some message → Well message
set_in [] i after new j place message old is = old is
set_in (x ∷ xs) zero after new zero place message old is = new place message is
set_in (x ∷ xs) zero after new (suc j) place message old is = old is
set_in (x ∷ xs) (suc i) after new zero place message old is = old is
set_in (x ∷ xs) (suc i) after new (suc j) place message old is = set_in xs i after new j place message old is

set_numbered : (nought : Bool) (xs : List (List Post)) (i : ℕ) (after : List Post) → AllIn after → (j place : ℕ) (message : Message) → (message_in (numbered nought (slice_get xs j)) place ≡ Some message → Well message)
    → message_in (numbered nought (slice_get (slice_set xs i after) j)) place ≡ Some message → Well message
set_numbered true xs i after new j place message old is = old is
set_numbered false xs i after new j place message old is = set_in xs i after new j place message old is

line_in : (by : NodeId) (after : Line) (s : Sent) → AllIn after.0 → (sender : NodeId) (place : ℕ) (message : Message) → (message_in (posts_of s sender) place ≡ Some message → Well message)
    → message_in (posts_of (with_line by after s) sender) place ≡ Some message → Well message
line_in nodes.Master after s new nodes.Master place message old is = new place message is
line_in nodes.Master after s new (nodes.Server id) place message old is = old is
line_in nodes.Master after s new (nodes.Client id) place message old is = old is
line_in (nodes.Server by) after s new nodes.Master place message old is = old is
line_in (nodes.Server by) after s new (nodes.Server id) place message old is = set_in s.servers by after.0 new id place message old is
line_in (nodes.Server by) after s new (nodes.Client id) place message old is = old is
line_in (nodes.Client by) after s new nodes.Master place message old is = old is
line_in (nodes.Client by) after s new (nodes.Server id) place message old is = old is
line_in (nodes.Client by) after s new (nodes.Client id) place message old is = set_numbered (id.0 == 0) s.clients (by.0 - 1) after.0 new (id.0 - 1) place message old is

abbrev pub AllSaid : Sent → Type 0
AllSaid s = (id : MsgId) (message : Message) → message_of s id ≡ Some message → Well message

posts_said : (found : Option (List Post)) (moment : Moment) (by : NodeId) (messages : List Message) (old new : Sent) → posts_of old by ≡ found
    → MatchOption found (new ≡ record old { has_lost = lost_all messages old.has_lost }) (λ posts. (after : Line) × Appends moment messages (posts, old.has_lost) after × (new ≡ with_line by after old))
    → AllSaid old → AreWell messages → AllSaid new
posts_said None moment by messages old new is same all well = subst AllSaid (sym same) (λ id message stands.
    all id message (subst (λ (o : Option (List Post)). message_in o id.place ≡ Some message) (same_posts old (lost_all messages old.has_lost) id.sender) stands))
posts_said (Some posts) moment by messages old new is (after, appends, same) all well = subst AllSaid (sym same) (λ id message stands.
    line_in by after old (appended_in moment messages (posts, old.has_lost) after appends first well) id.sender id.place message (λ before. all id message before) stands)
  where
    first : AllIn posts
    first place message at = all (record { sender = by; place = place }) message (subst (λ (o : Option (List Post)). message_in o place ≡ Some message) (sym is) at)

posted_said : (moment : Moment) (by : NodeId) (messages : List Message) (old new : Sent) → IsPosted moment by messages old new → AllSaid old → AreWell messages → AllSaid new
posted_said moment by messages old new posts all well = posts_said (posts_of old by) moment by messages old new refl posts all well

-- ---- what nodes say

both_well : (xs ys : List Message) → AreWell xs → AreWell ys → AreWell (xs ++ ys)
both_well [] ys a b = b
both_well (x ∷ xs) ys a b = (a.0, both_well xs ys a.1 b)

-- of the kinds of what the master says none carries a count
kinds : EachKind Well
kinds = record {
  reply = λ req result. tt;
  create = λ chunk stamp server. tt;
  advance = λ chunk stamp server. tt;
  grant = λ chunk given server. tt;
  renewed = λ chunk stamp end server. tt;
  copy_out = λ chunk stamp target with_sealed server. tt;
  drop = λ chunk epoch promise server. tt;
  make_copy = λ server old stamp new next. tt;
  epoch = λ server epoch end. tt;
}

about_named : (said : Chunk) → IsCountedAbout said → IsNamedAbout said
about_named (chunks.Promised stamp count carried) counted = counted
about_named said counted = tt

-- what is counted and no call may be heard by the master
counted_heard : (body : Body) → IsCountedBody body → IsNoCall body → MayBeHeard body
counted_heard (bodies.About chunk said) counted none = record { named = about_named said counted; heard = λ names. tt }
counted_heard (bodies.Call req call) counted none = absurd none
counted_heard body counted none = record { named = tt; heard = λ names. tt }

counted_said : (to : NodeId) (body : Body) → IsCountedBody body → IsNoCall body → MayBeSaid to body
counted_said nodes.Master body counted none = counted_heard body counted none
counted_said (nodes.Server id) body counted none = counted
counted_said (nodes.Client id) body counted none = tt

all_counted : (messages : List Message) → AllByRecursion IsCountedMessage messages → NoCalls messages → AreWell messages
all_counted [] counted none = tt
all_counted (m ∷ messages) counted none = (counted_said m.to m.body counted.0 none.0, all_counted messages counted.1 none.1)

pushed_well : (req : ReqId) (members : List ℕ) (bytes : List ℕ) → AreWell (pushes req members bytes)
pushed_well req [] bytes = tt
pushed_well req (member ∷ members) bytes = (tt, pushed_well req members bytes)

request_well : (req : ReqId) (request : Request) → IsRequest req → MayBeAsked request → AreWell (messages_of req request)
request_well req (requests.Call call) is may = (record { named = may.named; heard = λ names. (is, may.met names) }, tt)
request_well req (requests.Write handle members primary stamp op bytes) is may =
    both_well (pushes req (with_bytes members op) bytes) _ (pushed_well req (with_bytes members op) bytes) (tt, tt)
request_well req (requests.Fetch to handle stamp epoch asked) is may = (tt, tt)

-- what an event tells may be said
abbrev TellsWell : Upshot → Type 0
TellsWell (Ok (messages, said)) = AreWell messages
TellsWell (Err refusal) = Unit {0}

unsure_well : (caller : Option ReqId) → AreWell (unsure caller)
unsure_well None = tt
unsure_well (Some req) = (tt, tt)

refusal_well : (caller : Option ReqId) → AreWell (refusal_of_call caller)
refusal_well None = tt
refusal_well (Some req) = (tt, tt)

module _ {D : Type 0} (seen : D → List ℕ) (failures : D → ℕ) where
  -- ---- the master

  answers_well : (caller : Option ReqId) (t : Plan) (old : MasterOf D) (result : Result Turn Refusal) (new : MasterOf D) → AreWell t.sent → MasterAnswers seen failures caller t old result new → TellsWell (told result)
  answers_well caller t old (Ok turn) new well (inl is) = subst AreWell (sym is.done.sends) well
  answers_well caller t old (Ok turn) new well (inr (place, is)) = subst AreWell (sym is.cut.sends) (unsure_well caller)
  answers_well caller t old (Err refusal) new well why = tt

  as_well : (b : Bool) (t steps : Plan) (old : MasterOf D) (turn : Turn) (new : MasterOf D) → AreWell t.sent → AnswersAs seen failures b t steps old turn new → AreWell turn.sent.items
  as_well true t steps old turn new well (inl is) = subst AreWell (sym is.done.sends) well
  as_well true t steps old turn new well (inr (place, is)) = subst AreWell (sym is.cut.sends) tt
  as_well false t steps old turn new well (inl is) = subst AreWell (sym is.done.sends) well
  as_well false t steps old turn new well (inr (place, is)) = subst AreWell (sym is.cut.sends) tt

  tick_well : (moment : Moment) (old : MasterOf D) (result : Result Turn Refusal) (new : MasterOf D) → AnswersTick seen failures moment old result new → TellsWell (told result)
  tick_well moment old (Ok turn) new (inl whole) =
      as_well (writes_one old.state (pressed_all old.state moment)) (tick old.state moment) (pressed_all old.state moment) old turn new (tick_said Well kinds old.state moment) whole
  tick_well moment old (Ok turn) new (inr (sound, is_due, none, done)) =
      answers_well None (lacking (pressed_all old.state moment)) old (Ok turn) new (steps_said Well kinds old.state moment) done
  tick_well moment old (Err refusal) new why = tt

  closed_well : (sent : List Message) (old : MasterPlace D) (result : Result Turn Refusal) (new : MasterPlace D) → AreWell sent → MeetsClosed sent old result new → TellsWell (told result)
  closed_well sent old (Ok turn) new well meets = subst AreWell (sym meets.1) well
  closed_well sent old (Err refusal) new well meets = tt

  hears_well : (message : Message) (moment : Moment) (old : MasterPlace D) (result : Result Turn Refusal) (new : MasterPlace D) → MasterHears seen failures message moment old result new → TellsWell (told result)
  hears_well message moment (Standing m) result new (after, is, answers) =
      answers_well (caller_of message.body) (handle m.config m.state message moment) m result after (message_said Well kinds m.config m.state message moment) answers
  hears_well message moment (Closed first second) result new meets = closed_well (refusal_of_call (caller_of message.body)) (Closed first second) result new (refusal_well (caller_of message.body)) meets
  hears_well message moment Away result new meets = closed_well (refusal_of_call (caller_of message.body)) Away result new (refusal_well (caller_of message.body)) meets

  ticks_well : (moment : Moment) (old : MasterPlace D) (result : Result Turn Refusal) (new : MasterPlace D) → MasterTicks seen failures moment old result new → TellsWell (told result)
  ticks_well moment (Standing m) result new (after, is, answers) = tick_well moment m result after answers
  ticks_well moment (Closed first second) result new meets = closed_well [] (Closed first second) result new tt meets
  ticks_well moment Away result new meets = closed_well [] Away result new tt meets

  unless_well : (s : State) (refusal : Option Refusal) → AreWell (written_unless s refusal).sent
  unless_well s None = tt
  unless_well s (Some refusal) = tt

  anew_well : (version : Version) (s : State) → AreWell (anew version s).sent
  anew_well versions.One s = unless_well s _
  anew_well versions.Two s = tt

  recovered_well : (config : Config) (version : Version) (entries : List PlainEntry) (log : Log) (t : Plan) → recover config version entries log ≡ Ok t → AreWell t.sent
  unfolding recover
  recovered_well config version entries log t is = by_durable (record log { records = records_behind entries }) (replayed start entries) is
    where
      ok_is : (x y : Plan) → ◌≡◌ {A = Result Plan Refusal} (Ok x) (Ok y) → x ≡ y
      ok_is x y h = cc

      never : (e : Refusal) (y : Plan) → ◌≡◌ {A = Result Plan Refusal} (Err e) (Ok y) → ⊥
      never e y h = cc

      by_said : (u : Plan) (said : Option Refusal) → AreWell u.sent → answered_or u said ≡ Ok t → AreWell t.sent
      by_said u None well h = subst (λ (x : Plan). AreWell x.sent) (ok_is u t h) well
      by_said u (Some e) well h = absurd (never e t h)

      by_durable : (l : Log) (o : Option Durable) → recovered_from config version l o ≡ Ok t → AreWell t.sent
      by_durable l None h = absurd (never refusals.BadLine t h)
      by_durable l (Some d) h =
          let first = anew version (restarted d l) in
          let u = and_then first (reopened config) in
          by_said u u.said (both_well first.sent (reopened config first.after).sent (anew_well version (restarted d l)) (reopened_said Well kinds config first.after.durable)) h

  opens_well : (config : Config) (pair : D × D) (result : Result Turn Refusal) (new : MasterPlace D) → Opens seen failures config pair result new → TellsWell (told result)
  opens_well config pair (Ok turn) new (after, is, opening, said) =
      subst AreWell (sym opening.sends) (recovered_well config (standing (seen pair.0) (seen pair.1)).0 opening.entries opening.log opening.turn opening.recovers)
  opens_well config pair (Err refusal) new why = tt

  reopens_well : (config : Config) (old : MasterPlace D) (result : Result Turn Refusal) (new : MasterPlace D) → Reopens seen failures config old result new → TellsWell (told result)
  reopens_well config (Standing m) result new opening = opens_well config (m.journal.first, m.journal.second) result new opening
  reopens_well config (Closed first second) result new opening = opens_well config (first, second) result new opening
  reopens_well config Away result new (same, refused) = subst (λ (r : Result Turn Refusal). TellsWell (told r)) (sym refused) tt

-- ---- one of several

set_one : {A : Type 0} (P : A → Type 0) (xs : List A) (i : ℕ) (after : A) → P after → (j : ℕ) (x : A) → (slice_get xs j ≡ Some x → P x) → slice_get (slice_set xs i after) j ≡ Some x → P x
set_one P [] i after new j x old is = old is
set_one P (y ∷ xs) zero after new zero x old is = subst P (some_is after x is) new
set_one P (y ∷ xs) zero after new (suc j) x old is = old is
set_one P (y ∷ xs) (suc i) after new zero x old is = old is
set_one P (y ∷ xs) (suc i) after new (suc j) x old is = set_one P xs i after new j x old is

-- a client's number as a record tells it
abbrev HasNumber : Node → Type 0
HasNumber n = n.id.0 < 2 ^ 32

abbrev ServersCount : {D : Type 0} → Nodes D → Type 0
ServersCount n = (id : ℕ) (s : Server) → slice_get n.servers id ≡ Some s → IsCountedServer s

abbrev ClientsNumbered : {D : Type 0} → Nodes D → Type 0
ClientsNumbered n = (place : ℕ) (c : Node) → slice_get n.clients place ≡ Some c → HasNumber c

-- what an event leaves of the nodes, and tells
record Leaves {D : Type 0} (outcome : Upshot) (new : Nodes D) : Type 0 where
  says : TellsWell outcome
  servers : ServersCount new
  clients : ClientsNumbered new

numbered_in : (nought : Bool) (clients : List Node) (place : ℕ) → ((j : ℕ) (c : Node) → slice_get clients j ≡ Some c → HasNumber c) → (n : Node) → (if nought then None else slice_get clients place) ≡ Some n → HasNumber n
numbered_in true clients place all n is = absurd cc
numbered_in false clients place all n is = all place n is

module _ {D : Type 0} where
  abbrev Both : Nodes D → Type 0
  Both n = ServersCount n × ClientsNumbered n

  left : (outcome : Upshot) (old new : Nodes D) → new ≡ old → TellsWell outcome → Both old → Leaves outcome new
  left outcome old new same says both = subst (λ n. Leaves outcome n) (sym same) (record { says = says; servers = both.0; clients = both.1 })

  at_master : (outcome : Upshot) (place : MasterPlace D) (old new : Nodes D) → new ≡ with_master place old → TellsWell outcome → Both old → Leaves outcome new
  at_master outcome place old new same says both = subst (λ n. Leaves outcome n) (sym same) (record { says = says; servers = both.0; clients = both.1 })

  -- at a server
  found_server : {A : Type 0} (found : Option Server) (id : ℕ) (does : Server → Result A Refusal → Server → Type 0) (old : Nodes D) (result : Result A Refusal) (new : Nodes D) (outcome : Upshot)
      → MatchOption found ((new ≡ old) × (result ≡ Err refusals.Range)) (λ s. (after : Server) × (new ≡ with_servers (slice_set old.servers id after) old) × does s result after) → slice_get old.servers id ≡ found
      → (result ≡ Err refusals.Range → TellsWell outcome) → ((s after : Server) → IsCountedServer s → does s result after → IsCountedServer after × TellsWell outcome) → Both old → Leaves outcome new
  found_server None id does old result new outcome (same, refused) is none some both = left outcome old new same (none refused) both
  found_server (Some s) id does old result new outcome (after, same, did) is none some both =
      let made = some s after (both.0 id s is) did in
      subst (λ n. Leaves outcome n) (sym same) (record { says = made.1; servers = λ j x at. set_one IsCountedServer old.servers id after made.0 j x (λ before. both.0 j x before) at; clients = both.1 })

  at_server : {A : Type 0} (id : ℕ) (does : Server → Result A Refusal → Server → Type 0) (old : Nodes D) (result : Result A Refusal) (new : Nodes D) (outcome : Upshot) → AtServer id does old result new
      → (result ≡ Err refusals.Range → TellsWell outcome) → ((s after : Server) → IsCountedServer s → does s result after → IsCountedServer after × TellsWell outcome) → Both old → Leaves outcome new
  at_server id does old result new outcome at none some both = found_server (slice_get old.servers id) id does old result new outcome at refl none some both

  -- at a client
  found_client : {A : Type 0} (found : Option Node) (place : ℕ) (none : A) (does : Node → A → Node → Type 0) (old : Nodes D) (result : A) (new : Nodes D) (outcome : Upshot)
      → MatchOption found ((new ≡ old) × (result ≡ none)) (λ n. (after : Node) × (new ≡ with_clients (slice_set old.clients place after) old) × does n result after) → ((n : Node) → found ≡ Some n → HasNumber n)
      → (result ≡ none → TellsWell outcome) → ((n after : Node) → HasNumber n → does n result after → HasNumber after × TellsWell outcome) → Both old → Leaves outcome new
  found_client None place none does old result new outcome (same, refused) numbered nobody some both = left outcome old new same (nobody refused) both
  found_client (Some n) place none does old result new outcome (after, same, did) numbered nobody some both =
      let made = some n after (numbered n refl) did in
      subst (λ n. Leaves outcome n) (sym same) (record { says = made.1; servers = both.0; clients = λ j x at. set_one HasNumber old.clients place after made.0 j x (λ before. both.1 j x before) at })

  at_client : {A : Type 0} (id : ClientId) (none : A) (does : Node → A → Node → Type 0) (old : Nodes D) (result : A) (new : Nodes D) (outcome : Upshot) → AtClient id none does old result new
      → (result ≡ none → TellsWell outcome) → ((n after : Node) → HasNumber n → does n result after → HasNumber after × TellsWell outcome) → Both old → Leaves outcome new
  at_client id none does old result new outcome at nobody some both =
      found_client (client_in old.clients id) (id.0 - 1) none does old result new outcome at (numbered_in (id.0 == 0) old.clients (id.0 - 1) both.1) nobody some both

-- ---- what one node does

server_does : (step : ServerStep) (s : Server) (result : Result Turn Refusal) (after : Server) → IsCountedServer s → GoesCounted step → NoCalls step.sent → ServerDoes step s result after → IsCountedServer after × TellsWell (told result)
server_does step s (Ok turn) after counted goes none (is, sends, says) = (subst IsCountedServer (sym is) goes.after, subst AreWell (sym sends) (all_counted step.sent goes.sent none))
server_does step s (Err refusal) after counted goes none (is, memory) = (subst IsCountedServer (sym is) counted, tt)

changed : (change : Result Server Refusal) (done : Result (Unit {0}) Refusal) (s after : Server) → IsCountedServer s → IfOk change IsCountedServer → Does change done s after → IsCountedServer after
changed (Ok made) (Ok done) s after counted goes does = subst IsCountedServer (sym does) goes
changed (Ok made) (Err refusal) s after counted goes does = absurd does
changed (Err refused) (Ok done) s after counted goes does = absurd does
changed (Err refused) (Err refusal) s after counted goes does = subst IsCountedServer (sym does.1) counted

silent_well : (done : Result (Unit {0}) Refusal) → TellsWell (silent done)
silent_well (Ok done) = tt
silent_well (Err refusal) = tt

refused_well : (result : Result Turn Refusal) → result ≡ Err refusals.Range → TellsWell (told result)
refused_well result is = subst (λ (r : Result Turn Refusal). TellsWell (told r)) (sym is) tt

takes_number : (req : ReqId) (reply : Reply) (n : Node) → HasNumber n → HasNumber (takes req reply n)
takes_number req reply n has = by_test _
  where
    by_test : (b : Bool) → HasNumber (if b then record { id = n.id; last = n.last; waiting = None; reply = Some reply } else n)
    by_test true = has
    by_test false = has

hears_number : (body : Body) (n : Node) → HasNumber n → IfOk (hears body n) HasNumber
hears_number (bodies.Reply req result) n has = takes_number req (answered replies.Answer result) n has
hears_number (bodies.Done req result) n has = takes_number req (answered replies.Outcome result) n has
hears_number (bodies.Bytes req result) n has = takes_number req (answered replies.Given result) n has
hears_number body n has = tt

heard_number : (change : Result Node Refusal) (done : Result (Unit {0}) Refusal) (n after : Node) → HasNumber n → IfOk change HasNumber → Does change done n after → HasNumber after
heard_number (Ok made) (Ok done) n after has goes does = subst HasNumber (sym does) goes
heard_number (Ok made) (Err refusal) n after has goes does = absurd does
heard_number (Err refused) (Ok done) n after has goes does = absurd does
heard_number (Err refused) (Err refusal) n after has goes does = subst HasNumber (sym does.1) has

asked_well : (number : ℕ) (request : Request) (n : Node) (out : Result (Vec Message Global) Refusal) (after : Node) → IsNumber number → MayBeAsked request → HasNumber n → Asks (asks number request n) out n after
    → HasNumber after × TellsWell (asked out)
asked_well number request n out after small may has a = by_old (nat_le number n.last) out a
  where
    by_old : (b : Bool) (out : Result (Vec Message Global) Refusal)
        → Asks (if b then Err refusals.Old else Ok (record { id = n.id; last = number; waiting = Some number; reply = None }, messages_of (request_of n number) request)) out n after
        → HasNumber after × TellsWell (asked out)
    by_old true (Ok sent) never = absurd never
    by_old true (Err refusal) (is, same) = (subst HasNumber (sym same) has, tt)
    by_old false (Ok sent) (is, sends) = (subst HasNumber (sym is) has, subst AreWell (sym sends) (request_well (request_of n number) request (has, small) may))
    by_old false (Err refusal) (is, same) = (subst HasNumber (sym same) has, tt)

-- ---- an event

module _ {D : Type 0} (seen : D → List ℕ) (failures : D → ℕ) where
  heard_at : (message : Message) (moment : Moment) (to : NodeId) (old : Nodes D) (turn : Result Turn Refusal) (new : Nodes D) → MayBeSaid to message.body → Hears seen failures message moment to old turn new → Both old → Leaves (told turn) new
  heard_at message moment nodes.Master old turn new may (place, is, hear) both = at_master (told turn) place old new is (hears_well seen failures message moment old.master turn place hear) both
  heard_at message moment (nodes.Server id) old turn new may at both =
      at_server id (λ s. ServerDoes (servers.handle s message moment) s) old turn new (told turn) at (refused_well turn)
      (λ s after counted does. server_does (servers.handle s message moment) s turn after counted (heard_counts s message moment counted may) (message_calls_nothing s message moment) does) both
  heard_at message moment (nodes.Client id) old (Ok turn) new may (said, at, says) both =
      at_client id None (ClientHears message.body) old said new (told (Ok turn)) at (λ none. subst AreWell (sym says.0) tt)
      (λ n after has does. (heard_number (hears message.body n) (met_by said) n after has (hears_number message.body n has) does, subst AreWell (sym says.0) tt)) both
  heard_at message moment (nodes.Client id) old (Err refusal) new may (said, at, says) both = absurd says

  delivered : (message : Message) (moment : Moment) (old : Nodes D) (turn : Result Turn Refusal) (new : Nodes D) → MayBeSaid message.to message.body → Delivers seen failures message moment old turn new → Both old → Leaves (told turn) new
  unfolding Delivers
  delivered message moment old turn new may hear both = heard_at message moment message.to old turn new may hear both

  module _ (armed : DiskId → ℕ → MasterPlace D → MasterPlace D) where
    as_told : (turn : Result Turn Refusal) (outcome : Upshot) (new : Nodes D) → outcome ≡ told turn → Leaves (told turn) new → Leaves outcome new
    as_told turn outcome new is leaves = subst (λ o. Leaves o new) (sym is) leaves

    came : (found : Option Message) (sender : NodeId) (moment : Moment) (old : Nodes D) (by : NodeId) (outcome : Upshot) (new : Nodes D) → ((message : Message) → found ≡ Some message → MayBeSaid message.to message.body)
        → MatchOption found ((outcome ≡ Err refusals.Range) × (new ≡ old) × (by ≡ sender)) (λ message. ComesTo seen failures armed sender message moment old by outcome new) → Both old → Leaves outcome new
    came None sender moment old by outcome new may (refused, same, from) both = left outcome old new same (subst TellsWell (sym refused) tt) both
    came (Some message) sender moment old by outcome new may comes both = elim comes [
      | inl (is, turn, delivers, tells) ↦ as_told turn outcome new tells (delivered message moment old turn new (may message refl) delivers both)
      | inr (refused, same, from) ↦ left outcome old new same (subst TellsWell (sym refused) tt) both
    ]

    ticked : (moment : Moment) (node : StoreNode) (old : Nodes D) (outcome : Upshot) (new : Nodes D) → Ticks seen failures armed moment node old outcome new → Both old → Leaves outcome new
    ticked moment keepers.Master old outcome new (place, turn, does, is, tells) both = as_told turn outcome new tells (at_master (told turn) place old new is (ticks_well seen failures moment old.master turn place does) both)
    ticked moment (keepers.Server id) old outcome new (turn, at, tells) both =
        as_told turn outcome new tells (at_server id (λ s. ServerDoes (servers.tick s moment) s) old turn new (told turn) at (refused_well turn)
        (λ s after counted does. server_does (servers.tick s moment) s turn after counted (tick_counts s moment counted) (tick_calls_nothing s moment) does) both)

    befell : (id : ℕ) (does : Server → Result (Unit {0}) Refusal → Server → Type 0) (old : Nodes D) (outcome : Upshot) (new : Nodes D) → Befalls id does old outcome new
        → ((s after : Server) (done : Result (Unit {0}) Refusal) → IsCountedServer s → does s done after → IsCountedServer after) → Both old → Leaves outcome new
    befell id does old outcome new (done, at, tells) some both =
        subst (λ o. Leaves o new) (sym tells) (at_server id does old done new (silent done) at (λ refused. silent_well done) (λ s after counted did. (some s after done counted did, silent_well done)) both)

    restarted_at : (node : StoreNode) (old : Nodes D) (outcome : Upshot) (new : Nodes D) → Restarts seen failures armed node old outcome new → Both old → Leaves outcome new
    restarted_at keepers.Master old outcome new (place, turn, does, is, tells) both =
        as_told turn outcome new tells (at_master (told turn) place old new is (reopens_well seen failures old.config old.master turn place does) both)
    restarted_at (keepers.Server id) old outcome new befalls both =
        befell id (λ s done after. (done ≡ Ok tt) × (after ≡ servers.restart s)) old outcome new befalls (λ s after done counted did. subst IsCountedServer (sym did.1) (restart_counts s counted)) both

    beat_well : (s : Server) (outcome : Upshot) → (outcome ≡ Ok (servers.beat s ∷ [], None)) ⊎ (outcome ≡ Err refusals.Memory) → TellsWell outcome
    beat_well s outcome (inl is) = subst TellsWell (sym is) (record { named = tt; heard = λ names. tt }, tt)
    beat_well s outcome (inr is) = subst TellsWell (sym is) tt

    beats_well : (found : Option Server) (outcome : Upshot) → MatchOption found (outcome ≡ Err refusals.Range) (λ s. (outcome ≡ Ok (servers.beat s ∷ [], None)) ⊎ (outcome ≡ Err refusals.Memory)) → TellsWell outcome
    beats_well None outcome is = subst TellsWell (sym is) tt
    beats_well (Some s) outcome told_so = beat_well s outcome told_so

    at_node : (moment : Moment) (happening : Happening) (old : History D) (by : NodeId) (outcome : Upshot) (new : Nodes D) → AtNode seen failures armed moment happening old by outcome new → IsAskedWithin happening → KeepsTypes old → Leaves outcome new
    at_node moment (happenings.Ask req request) old by outcome new (is, (out, at, tells)) may keeps =
        subst (λ o. Leaves o new) (sym tells) (at_client req.client (Err refusals.Range) (ClientAsks req.number request) old.nodes out new (asked out) at (λ refused. subst (λ o. TellsWell (asked o)) (sym refused) tt)
        (λ n after has a. asked_well req.number request n out after may.0 may.1 has a) (keeps.servers, keeps.clients))
    at_node moment (happenings.Deliver id) old by outcome new comes may keeps = came (message_of old.sent id) id.sender moment old.nodes by outcome new (keeps.sent id) comes (keeps.servers, keeps.clients)
    at_node moment (happenings.Tick node) old by outcome new (is, does) may keeps = ticked moment node old.nodes outcome new does (keeps.servers, keeps.clients)
    at_node moment (happenings.Beat id) old by outcome new (is, (same, tells)) may keeps = left outcome old.nodes new same (beats_well (slice_get old.nodes.servers id) outcome tells) (keeps.servers, keeps.clients)
    at_node moment (happenings.Restart node) old by outcome new (is, does) may keeps = restarted_at node old.nodes outcome new does (keeps.servers, keeps.clients)
    at_node moment (happenings.Lose id handle) old by outcome new (is, befalls) may keeps =
        befell id (λ s done after. Does (servers.lose handle s) done s after) old.nodes outcome new befalls (λ s after done counted did. changed (servers.lose handle s) done s after counted (lost_counts handle s counted) did) (keeps.servers, keeps.clients)
    at_node moment (happenings.Damage id handle block) old by outcome new (is, befalls) may keeps =
        befell id (λ s done after. Does (servers.damage handle block s) done s after) old.nodes outcome new befalls (λ s after done counted did. changed (servers.damage handle block s) done s after counted (struck_counts handle block s counted) did)
        (keeps.servers, keeps.clients)
    at_node moment (happenings.FailDisk disk call) old by outcome new (is, (same, tells)) may keeps =
        at_master outcome (armed disk call old.nodes.master) old.nodes new same (subst TellsWell (sym tells) tt) (keeps.servers, keeps.clients)

    tells_said : (moment : Moment) (by : NodeId) (outcome : Upshot) (old : Sent) (said : Result (Unit {0}) Refusal) (new : Sent) → Tells seen failures armed moment by outcome old said new → TellsWell outcome → AllSaid old → AllSaid new
    tells_said moment by (Ok (messages, what)) old said new (posts, is) well all = posted_said moment by messages old new posts all well
    tells_said moment by (Err refusal) old said new (same, is) well all = subst AllSaid (sym same) all

    pub step_keeps : (step : Step) (old new : History D) → Goes seen failures armed step old new → IsStepWithin step → KeepsTypes old → KeepsTypes new
    step_keeps (Comes event) old new (said, h) within keeps =
        let leaves = at_node event.moment event.happening old h.by h.outcome new.nodes h.at within.1 keeps in
        record { sent = tells_said event.moment h.by h.outcome old.sent said new.sent h.tells leaves.says keeps.sent; servers = leaves.servers; clients = leaves.clients }
    step_keeps (Takes client) old new (found, takes_it, same) within keeps =
        let leaves = at_client client None (λ n reply after. (reply ≡ n.reply) × (after ≡ given_up n)) old.nodes found new.nodes (Err refusals.Memory) takes_it (λ none. tt)
        (λ n after has did. (subst HasNumber (sym did.1) has, tt)) (keeps.servers, keeps.clients) in
        record { sent = subst AllSaid (sym same) keeps.sent; servers = leaves.servers; clients = leaves.clients }

    -- ---- one step after the other

    pub run_keeps : (steps : List Step) (old new : History D) → RunsTo seen failures armed steps old new → AllByRecursion IsStepWithin steps → KeepsTypes old → KeepsTypes new
    run_keeps [] old new same within keeps = subst (λ (h : History D). KeepsTypes h) (sym same) keeps
    run_keeps (step ∷ steps) old new (mid, goes, rest) within keeps = run_keeps steps mid new rest within.1 (step_keeps step old mid goes within.0 keeps)

    heard_here : (place : MasterPlace D) (body : Body) → MayBeHeard body → IsHeardAt place body
    heard_here (Standing m) body may = may.heard m.state.durable.names
    heard_here (Closed first second) body may = tt
    heard_here Away body may = tt

    -- what may be said to the master may be heard by it
    pub to_master : (old : History D) → KeepsTypes old → (id : MsgId) (message : Message) → message_of old.sent id ≡ Some message → message.to ≡ nodes.Master → MayBeHeard message.body
    to_master old keeps id message found to = subst (λ n. MayBeSaid n message.body) to (keeps.sent id message found)

    happens_within : (moment : Moment) (happening : Happening) (old : History D) → IsNumber moment.0 → KeepsTypes old → HearsNamed moment happening old × HearsWithin happening old
    happens_within moment (happenings.Ask req request) old small keeps = (tt, tt)
    happens_within moment (happenings.Deliver id) old small keeps =
        (λ message found to. ((to_master old keeps id message found to).named, small), λ message found to. heard_here old.nodes.master message.body (to_master old keeps id message found to))
    happens_within moment (happenings.Tick node) old small keeps = (tt, tt)
    happens_within moment (happenings.Beat id) old small keeps = (tt, tt)
    happens_within moment (happenings.Restart node) old small keeps = (tt, tt)
    happens_within moment (happenings.Lose id handle) old small keeps = (tt, tt)
    happens_within moment (happenings.Damage id handle block) old small keeps = (tt, tt)
    happens_within moment (happenings.FailDisk disk call) old small keeps = (tt, tt)

    pub step_within : (step : Step) (old : History D) → IsStepWithin step → KeepsTypes old → StepWithin step old
    step_within (Comes event) old within keeps = happens_within event.moment event.happening old within.0 keeps
    step_within (Takes client) old within keeps = tt

    -- so all that the master hears is within its types, at each step
    pub runs_steadily : (steps : List Step) (old new : History D) → RunsQuietly seen failures armed steps old new → AllByRecursion IsStepWithin steps → KeepsTypes old → RunsSteadily seen failures armed steps old new
    runs_steadily [] old new same within keeps = same
    runs_steadily (step ∷ steps) old new (mid, goes, quiet, rest) within keeps =
        (mid, goes, step_within step old within.0 keeps, quiet, runs_steadily steps mid new rest within.1 (step_keeps step old mid goes within.0 keeps))

    -- ---- a new store

    last_or_before : {A : Type 0} (P : A → Type 0) (xs : List A) (x : A) → ((j : ℕ) (y : A) → slice_get xs j ≡ Some y → P y) → P x → (j : ℕ) (y : A) → slice_get (xs ++ x ∷ []) j ≡ Some y → P y
    last_or_before P [] x all last zero y is = subst P (some_is x y is) last
    last_or_before P [] x all last (suc j) y is = absurd cc
    last_or_before P (z ∷ xs) x all last zero y is = all zero y is
    last_or_before P (z ∷ xs) x all last (suc j) y is = last_or_before P xs x (λ k. all (suc k)) last j y is

    none_at : {A : Type 0} (P : A → Type 0) (j : ℕ) (y : A) → slice_get [] j ≡ Some y → P y
    none_at P j y is = absurd cc

    servers_begin : (config : Config) (many : ℕ) (id : ℕ) (s : Server) → slice_get (silent_servers config many) id ≡ Some s → IsCountedServer s
    servers_begin config zero = none_at IsCountedServer
    servers_begin config (suc many) = last_or_before IsCountedServer (silent_servers config many) (servers.new many config.block config.chunk) (servers_begin config many) (new_counts many config.block config.chunk)

    fewer : (many : ℕ) → suc many < 2 ^ 32 → many < 2 ^ 32
    fewer many few = omega arith

    next_number : (many : ℕ) → suc many < 2 ^ 32 → many + 1 < 2 ^ 32
    next_number many few = omega arith

    clients_begin : (many : ℕ) → many < 2 ^ 32 → (place : ℕ) (n : Node) → slice_get (new_clients many) place ≡ Some n → HasNumber n
    clients_begin zero few = none_at HasNumber
    clients_begin (suc many) few = last_or_before HasNumber (new_clients many) (new_client (record { 0 = many + 1 })) (clients_begin many (fewer many few)) (next_number many few)

    none_in : (many j place : ℕ) (message : Message) → message_in (slice_get (replicate many []) j) place ≡ Some message → Well message
    none_in zero j place message is = absurd cc
    none_in (suc many) zero place message is = absurd cc
    none_in (suc many) (suc j) place message is = none_in many j place message is

    none_numbered : (nought : Bool) (many j place : ℕ) (message : Message) → message_in (numbered nought (slice_get (replicate many []) j)) place ≡ Some message → Well message
    none_numbered true many j place message is = absurd cc
    none_numbered false many j place message is = none_in many j place message is

    none_at_all : (servers clients : ℕ) (sender : NodeId) (place : ℕ) (message : Message) → message_in (posts_of (none_sent servers clients) sender) place ≡ Some message → Well message
    none_at_all servers clients nodes.Master place message is = absurd cc
    none_at_all servers clients (nodes.Server id) place message is = none_in servers id place message is
    none_at_all servers clients (nodes.Client id) place message is = none_numbered (id.0 == 0) clients (id.0 - 1) place message is

    pub begins_keeping : (config : Config) (clients : ℕ) (pair : D × D) (new : History D) → clients < 2 ^ 32 → Begins seen failures armed config clients pair new → KeepsTypes new
    begins_keeping config clients pair new few begun =
        let says = opens_well seen failures config pair (Ok begun.turn) begun.place begun.opens in record {
          sent = posted_said (record { 0 = 0 }) nodes.Master begun.turn.sent.items (none_sent config.servers clients) new.sent begun.sent (λ id message is. none_at_all config.servers clients id.sender id.place message is) says;
          servers = subst (λ (n : Nodes D). ServersCount n) (sym begun.nodes) (servers_begin config config.servers);
          clients = subst (λ (n : Nodes D). ClientsNumbered n) (sym begun.nodes) (clients_begin clients few);
        }
