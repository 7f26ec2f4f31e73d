-- For which call an answer is, and when it was made.
use Rattle.std.specs.Prelude.{[], ◌++◌, ◌<◌, ◌∷◌, ◌≡◌, ◌⊎◌, Bool, Contains, Err, List, Ok, Result, Some, false, true, ℕ}
use Rattle.std.specs.List.{AllByRecursion}
use Rattle.gs_base.specs.declared.numbers.Moment.{Moment}
use Rattle.gs_base.specs.declared.numbers.ReqId.{ReqId}
use Rattle.gs_base.specs.declared.refusal.Refusal.{Refusal}
use Rattle.gs_client.specs.Nodes.{Node}
use Rattle.gs_client.specs.declared.link.Reply.TheVariants as replies
use Rattle.gs_master.specs.Masters.{MasterOf}
use Rattle.gs_msg.specs.declared.answer.Answer.{Answer}
use Rattle.gs_msg.specs.declared.body.Body.TheVariants as bodies
use Rattle.gs_msg.specs.declared.call.Call.{Call}
use Rattle.gs_msg.specs.declared.event.DiskId.{DiskId}
use Rattle.gs_msg.specs.declared.event.Event.{Event}
use Rattle.gs_msg.specs.declared.event.Happening.{Happening}
use Rattle.gs_msg.specs.declared.event.Happening.TheVariants as happenings
use Rattle.gs_msg.specs.declared.event.Request.TheVariants as requests
use Rattle.gs_msg.specs.declared.message.Message.{Message}
use Rattle.gs_msg.specs.declared.message.MsgId.{MsgId}
use Rattle.gs_msg.specs.declared.node.NodeId.TheVariants as nodes
use Rattle.gs_msg.specs.declared.node.StoreNode.TheVariants as keepers
use Rattle.gs_master_spec.specs.Handling.{New, numbered}
use Rattle.gs_master_spec.specs.State.{last_reply}
use Rattle.gs_master_spec.specs.Volatile.{is_pending}
use Rattle.gs_laws_moves.specs.answers.AtOnce.{is_answered_at_once}
use Rattle.gs_nodes.specs.Happenings.{client_in}
use Rattle.gs_nodes.specs.declared.place.MasterPlace.{MasterPlace}
use Rattle.gs_nodes.specs.declared.place.MasterPlace.TheVariants.{Standing}
use Rattle.gs_world.specs.Histories.{Happens, History, Upshot}
use Rattle.gs_world.specs.Runs.{Comes, RunsTo, Step, Takes}
use Rattle.gs_world.specs.Sent.{message_of}
use Rattle.gs_laws_world.specs.steady.Asking.{asks_at}
use Rattle.gs_laws_chunks.specs.answers.Asked.{AreAsked}

-- what goes out at an event
abbrev pub sent_by : Upshot → List Message
sent_by (Ok out) = out.0
sent_by (Err refusal) = []

-- the master isn't started again, and no failure of a disk of it is arranged: one may fail by itself
abbrev pub spares_master : Step → Bool
spares_master (Comes event) = spares event.happening
  where
    spares : Happening → Bool
    spares (happenings.Restart keepers.Master) = false
    spares (happenings.FailDisk disk call) = false
    spares happening = true
spares_master (Takes client) = true

-- ---- a reply is made

-- A message comes to the master by which this is called. The call doesn't wait, and is new to a master that stands: that keeps no reply to this request, or to a later one of its client. And it says this.
pub record SaysNow {D : Type 0} (now : History D) (event : Event) (outcome : Upshot) (req : ReqId) (call : Call) (result : Result Answer Refusal) : Type 0 where
  pub id : MsgId
  pub message : Message
  pub comes : event.happening ≡ happenings.Deliver id
  pub was : message_of now.sent id ≡ Some message
  pub to : message.to ≡ nodes.Master
  pub from : message.from ≡ nodes.Client req.client
  pub asks : message.body ≡ bodies.Call req call
  pub master : MasterOf D
  pub stands : now.nodes.master ≡ Standing master
  pub apart : is_pending master.state.volatile.pending req ≡ false
  pub new : numbered (last_reply master.state req.client) req.number ≡ New
  pub reply : Message
  pub sent : Contains (sent_by outcome) reply
  pub says : reply.body ≡ bodies.Reply req result

-- it answers so
abbrev pub AnswersNow : {D : Type 0} → History D → Event → Upshot → ReqId → Call → Answer → Type 0
AnswersNow now event outcome req call answer = SaysNow now event outcome req call (Ok answer)

module _ {D : Type 0} (seen : D → List ℕ) (failures : D → ℕ) (armed : DiskId → ℕ → MasterPlace D → MasterPlace D) where
  -- so it is at one of some steps
  pub record WasSaid (steps : List Step) (old new : History D) (req : ReqId) (call : Call) (result : Result Answer Refusal) : Type 0 where
    pub before : List Step
    pub now : History D
    pub event : Event
    pub said : Result (Unit {0}) Refusal
    pub next : History D
    pub after : List Step
    pub parts : steps ≡ before ++ Comes event ∷ after
    pub first : RunsTo seen failures armed before old now
    pub happens : Happens seen failures armed event now said next
    pub rest : RunsTo seen failures armed after next new
    pub answers : SaysNow now event happens.outcome req call result

  abbrev pub WasAnswered : List Step → History D → History D → ReqId → Call → Answer → Type 0
  WasAnswered steps old new req call answer = WasSaid steps old new req call (Ok answer)

  -- a run passes a world where that is the one behind one of its steps
  abbrev pub Passes : (h : History D) (steps : List Step) (old new : History D) → RunsTo seen failures armed steps old new → Type 0
  Passes h [] old new is = ⊥
  Passes h (step ∷ steps) old new (mid, goes, rest) = (h ≡ mid) ⊎ Passes h steps mid new rest

  -- each world on the way to the event of a reply is such, and so is the one behind that event, and each from then on
  pub record SaidBy (Such : History D → Type 0) (steps : List Step) (old new : History D) (req : ReqId) (call : Call) (result : Result Answer Refusal) (made : WasSaid steps old new req call result) : Type 0 where
    pub first : (h : History D) → Passes h made.before old made.now made.first → Such h
    pub next : Such made.next
    pub rest : (h : History D) → Passes h made.after made.next new made.rest → Such h

  abbrev pub GoesBy : (Such : History D → Type 0) (steps : List Step) (old new : History D) (req : ReqId) (call : Call) (answer : Answer) → WasAnswered steps old new req call answer → Type 0
  GoesBy Such steps old new req call answer made = SaidBy Such steps old new req call (Ok answer) made

  -- ---- what is to hold

  -- A client asks under a number that is fresh, and is taken.
  pub record AsksFresh (old : History D) (moment : Moment) (req : ReqId) (call : Call) (asked : History D) : Type 0 where
    pub node : Node
    pub there : client_in old.nodes.clients req.client ≡ Some node
    pub fresh : node.last < req.number
    pub happens : Happens seen failures armed (asks_at moment req (requests.Call call)) old (Ok tt) asked

  -- Where it has an answer behind some steps, and has asked nothing else since, that was made in them, for this call: of the calls that are answered at once. So it was in the run that is given: each world on the way is one that this run passes.
  abbrev pub AnswersAreMade : Type 0
  AnswersAreMade = (old asked new : History D) (moment : Moment) (req : ReqId) (call : Call) (steps : List Step) (node : Node) (answer : Answer) → AreAsked seen old → AsksFresh old moment req call asked → is_answered_at_once call ≡ true →
      (runs : RunsTo seen failures armed steps asked new) → AllByRecursion (λ step. spares_master step ≡ true) steps → client_in new.nodes.clients req.client ≡ Some node → node.last ≡ req.number → node.reply ≡ Some (replies.Answer answer) →
      (made : WasAnswered steps asked new req call answer) × GoesBy (λ h. Passes h steps asked new runs) steps asked new req call answer made
