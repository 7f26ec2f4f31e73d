-- What stands while a change of the tree is under way, and behind its answer.
use Rattle.std.specs.Prelude.{◌∷◌, ◌≡◌, ◌≤◌, ◌⊎◌, Err, List, Ok, Result, Some, slice_get, true, ℕ, suc, ◌<◌}
use Rattle.std.specs.List.{AllByRecursion}
use Rattle.gs_base.specs.declared.config.Config.{Config}
use Rattle.gs_base.specs.declared.numbers.ClientId.{ClientId}
use Rattle.gs_base.specs.declared.numbers.Moment.{Moment}
use Rattle.gs_base.specs.declared.numbers.ReqId.{ReqId}
use Rattle.gs_base.specs.declared.refusal.Refusal.{Refusal}
use Rattle.gs_base.specs.declared.refusal.Refusal.TheVariants as refusals
use Rattle.gs_client.specs.Nodes.{Node}
use Rattle.gs_client.specs.declared.link.Reply.TheVariants as replies
use Rattle.gs_msg.specs.declared.answer.Answer.{Answer}
use Rattle.gs_msg.specs.declared.body.Body.{Body}
use Rattle.gs_msg.specs.declared.body.Body.TheVariants as bodies
use Rattle.gs_msg.specs.declared.call.Call.{Call}
use Rattle.gs_msg.specs.declared.event.DiskId.{DiskId}
use Rattle.gs_msg.specs.declared.message.Message.{Message}
use Rattle.gs_msg.specs.declared.message.MsgId.{MsgId}
use Rattle.gs_master_spec.specs.Durable.{Durable}
use Rattle.gs_master_spec.specs.Handling.{new_call}
use Rattle.gs_master_spec.specs.State.{State, is_kept}
use Rattle.gs_laws_moves.specs.answers.AtOnce.{OneSays}
use Rattle.gs_laws_moves.specs.answers.Changes.{Changes, edit_for, number_after, is_change, names_after}
use Rattle.gs_laws_moves.specs.answers.Resting.{is_look}
use Rattle.gs_nodes.specs.Happenings.{client_in}
use Rattle.gs_nodes.specs.declared.place.MasterPlace.{MasterPlace}
use Rattle.gs_nodes.specs.declared.place.MasterPlace.TheVariants.{Standing}
use Rattle.gs_world.specs.Histories.{History}
use Rattle.gs_world.specs.Runs.{Comes, RunsTo, Step, Takes}
use Rattle.gs_world.specs.Sent.{message_of}
use Rattle.gs_laws_chunks.specs.answers.Answered.{AsksFresh}
use Rattle.gs_laws_chunks.specs.answers.Asked.{AreAsked, IsNumbered}
use Rattle.gs_laws_chunks.specs.answers.Behind.{HasAnswer, asks_call}
use Rattle.gs_laws_chunks.specs.answers.Calm.{IsCalmAt}
use Rattle.gs_laws_chunks.specs.answers.Resting.{IsLooking, IsStill, StandsStill}
use Rattle.gs_laws_chunks.specs.answers.Served.{AreServed}
use Rattle.gs_laws_world.specs.steady.Saying.{IsStepWithin, KeepsTypes}
use Rattle.gs_laws_world.specs.steady.Through.{LastsThrough}

-- ---- a store, by its calls and its master

-- a message that is a call is such a call
abbrev pub CallsSo : (ReqId → Call → Type 0) → Body → Type 0
CallsSo So (bodies.Call req call) = So req call
CallsSo So body = Unit {0}

-- a master that stands is in such a state
abbrev pub StandsSo : {D : Type 0} → (State → Type 0) → MasterPlace D → Type 0
StandsSo Such (Standing m) = Such m.state
StandsSo Such place = Unit {0}

-- Each call that was ever sent is such a call, and the master is in such a state. Clients are numbered from 1.
pub record IsSo {D : Type 0} (So : ReqId → Call → Type 0) (Such : State → Type 0) (h : History D) : Type 0 where
  pub sent : (id : MsgId) (message : Message) → message_of h.sent id ≡ Some message → CallsSo So message.body
  pub master : StandsSo Such h.nodes.master
  pub numbered : (place : ℕ) (n : Node) → slice_get h.nodes.clients place ≡ Some n → IsNumbered place n

-- ---- a change that is under way

-- The names are those that a call makes of others at a moment, and so is the number of the next deletion. The phase and the epoch are what they were.
pub record IsEdited (moment : Moment) (call : Call) (d e : Durable) : Type 0 where
  pub names : names_after (edit_for d moment call) d.names ≡ Ok e.names
  pub hidden : e.next_hidden ≡ number_after (edit_for d moment call) d.next_hidden
  pub phase : e.phase ≡ d.phase
  pub epoch : e.epoch ≡ d.epoch

-- Such names stand, of some moment, no call waits, and the client has had all its requests below this number.
pub record StandsEdited (d : Durable) (call : Call) (client : ClientId) (number : ℕ) (s : State) : Type 0 where
  pub durable : Durable
  pub moment : Moment
  pub edited : IsEdited moment call d durable
  pub still : StandsStill durable client number s

-- a call is of this client: it is the one that was asked, or it looks, or it is older
abbrev pub IsOwnLooksOrOld : ClientId → ℕ → ReqId → Call → ReqId → Call → Type 0
IsOwnLooksOrOld client number req call other said = (other.client ≡ client) × (((other.number < number) × (other.number ≤ req.number)) ⊎ ((is_look said ≡ true) ⊎ ((other ≡ req) × (said ≡ call))))

-- The old names stand, or the new ones with the number had.
abbrev pub StandsEither : Durable → ClientId → ℕ → ReqId → Call → State → Type 0
StandsEither d client number req call s = StandsStill d client number s ⊎ StandsEdited d call client (suc req.number) s

abbrev pub IsUnderWay : {D : Type 0} → Durable → ClientId → ℕ → ReqId → Call → History D → Type 0
IsUnderWay d client number req call h = IsSo (IsOwnLooksOrOld client number req call) (StandsEither d client number req call) h

-- ---- behind its reply

-- a step is at this moment, or it is of no moment
abbrev pub IsAt : Moment → Step → Type 0
IsAt now (Comes event) = event.moment ≡ now
IsAt now (Takes client) = Unit {0}

-- The call had its turn as a new one, where the old names stood, and this was said to it. Where all steps since it was asked are at one moment, so is its turn.
pub record HadItsTurn (d : Durable) (client : ClientId) (number : ℕ) (req : ReqId) (call : Call) (result : Result Answer Refusal) (steps : List Step) : Type 0 where
  pub config : Config
  pub state : State
  pub moment : Moment
  pub stood : StandsStill d client number state
  pub says : OneSays req result (new_call config state req moment call).sent
  pub since : (now : Moment) → AllByRecursion (IsAt now) steps → moment ≡ now

-- Behind that turn the names are those that the call makes. They are what stands, and nothing of before changes them.
pub record IsChanged {D : Type 0} (d : Durable) (client : ClientId) (number : ℕ) (req : ReqId) (call : Call) (answer : Answer) (steps : List Step) (h : History D) : Type 0 where
  pub turn : HadItsTurn d client number req call (Ok answer) steps
  pub changes : Changes turn.state req (edit_for turn.state.durable turn.moment call) (new_call turn.config turn.state req turn.moment call)
  pub edited : IsEdited turn.moment call d (new_call turn.config turn.state req turn.moment call).after.durable
  pub still : IsStill (new_call turn.config turn.state req turn.moment call).after.durable client (suc req.number) h

-- The old names are what stands, and nothing of before changes them.
pub record IsLeft {D : Type 0} (d : Durable) (client : ClientId) (number : ℕ) (req : ReqId) (call : Call) (refusal : Refusal) (steps : List Step) (h : History D) : Type 0 where
  pub turn : HadItsTurn d client number req call (Err refusal) steps
  pub still : IsStill d client (suc req.number) h

-- ---- what is to hold

module _ {D : Type 0} (seen : D → List ℕ) (failures : D → ℕ) (armed : DiskId → ℕ → MasterPlace D → MasterPlace D) where
  -- A client asks a call under a fresh number, and has this refusal behind steps at which nothing is asked of the master but look-ups of its own, and the master isn't started again. All that is asked is within its types.
  pub record HasRefusal (client : ClientId) (old : History D) (call : Call) (refusal : Refusal) (new : History D) : Type 0 where
    pub moment : Moment
    pub req : ReqId
    pub own : req.client ≡ client
    pub asked : History D
    pub asks : AsksFresh seen failures armed old moment req call asked
    pub steps : List Step
    pub runs : RunsTo seen failures armed steps asked new
    pub within : AllByRecursion IsStepWithin (asks_call moment req call ∷ steps)
    pub looking : AllByRecursion (IsLooking client) steps
    pub node : Node
    pub there : client_in new.nodes.clients client ≡ Some node
    pub last : node.last ≡ req.number
    pub reply : node.reply ≡ Some (replies.Refused refusal)

  -- A client asks for such a change where no call waits, and all that was called before has a number that it has had. From then on the old names stand, or the new ones with the number had, as long as the client asks nothing else but look-ups.
  abbrev pub ChangesStayUnderWay : Type 0
  ChangesStayUnderWay = (d : Durable) (client : ClientId) (number : ℕ) (old asked new : History D) (moment : Moment) (req : ReqId) (call : Call) (steps : List Step) → is_change call ≡ true → AreAsked seen old → KeepsTypes old → LastsThrough seen old.nodes.master →
      IsStill d client number old → req.client ≡ client → AsksFresh seen failures armed old moment req call asked → RunsTo seen failures armed steps asked new → AllByRecursion IsStepWithin (asks_call moment req call ∷ steps) → AllByRecursion (IsLooking client) steps →
      IsUnderWay d client number req call new

  -- Where it has the answer, the new names stand, no call waits, and all that was called before has a number that the client has had.
  abbrev pub ChangesLeaveStill : Type 0
  ChangesLeaveStill = (d : Durable) (client : ClientId) (number : ℕ) (old mid : History D) (call : Call) (answer : Answer) → is_change call ≡ true → AreAsked seen old → KeepsTypes old → LastsThrough seen old.nodes.master → IsStill d client number old →
      (c : HasAnswer seen failures armed client old call answer mid) → IsChanged d client number c.req call answer c.steps mid

  -- Where it has a refusal that the master keeps, and of which it is sure, the old names stand, and the client has had that number.
  abbrev pub RefusedChangesLeaveStill : Type 0
  RefusedChangesLeaveStill = (d : Durable) (client : ClientId) (number : ℕ) (old mid : History D) (call : Call) (refusal : Refusal) → is_change call ≡ true → AreAsked seen old → AreServed old → KeepsTypes old → LastsThrough seen old.nodes.master →
      IsStill d client number old → (c : HasRefusal client old call refusal mid) → is_kept refusal ≡ true → (refusal ≡ refusals.Unsure → ⊥) → IsLeft d client number c.req call refusal c.steps mid

  -- No such call is told that its request is an old one, where its client has asked nothing since.
  abbrev pub ChangesAreNeverOld : Type 0
  ChangesAreNeverOld = (client : ClientId) (old mid : History D) (call : Call) → is_change call ≡ true → AreAsked seen old → AreServed old → KeepsTypes old → LastsThrough seen old.nodes.master → HasRefusal client old call refusals.Old mid → ⊥

  -- No prepare is begun meanwhile, where none was.
  abbrev pub ChangesStayCalm : Type 0
  ChangesStayCalm = (d : Durable) (client : ClientId) (number : ℕ) (old asked new : History D) (moment : Moment) (req : ReqId) (call : Call) (steps : List Step) → is_change call ≡ true → AreAsked seen old → KeepsTypes old → LastsThrough seen old.nodes.master →
      IsStill d client number old → IsCalmAt old.nodes.master → req.client ≡ client → AsksFresh seen failures armed old moment req call asked → RunsTo seen failures armed steps asked new → AllByRecursion IsStepWithin (asks_call moment req call ∷ steps) →
      AllByRecursion (IsLooking client) steps → IsCalmAt new.nodes.master
