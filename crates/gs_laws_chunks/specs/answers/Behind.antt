-- What a client lists behind a commit that was answered to it.
use Rattle.std.specs.Prelude.{◌∷◌, ◌≡◌, Bool, List, Ok, Some, false, true, ℕ}
use Rattle.std.specs.FinMap as fin
use Rattle.std.specs.List.{AllByRecursion}
use Rattle.gs_base.specs.declared.numbers.ClientId.{ClientId}
use Rattle.gs_base.specs.declared.numbers.Moment.{Moment}
use Rattle.gs_base.specs.declared.numbers.ReqId.{ReqId}
use Rattle.gs_client.specs.Nodes.{Node}
use Rattle.gs_client.specs.declared.link.Reply.TheVariants as replies
use Rattle.gs_master.specs.Masters.{MasterOf}
use Rattle.gs_master_spec.specs.Calls.{listing}
use Rattle.gs_master_spec.specs.Durable.{Durable}
use Rattle.gs_master_spec.specs.State.{is_failed}
use Rattle.gs_msg.specs.declared.answer.Answer.{Answer}
use Rattle.gs_msg.specs.declared.call.Call.{Call}
use Rattle.gs_msg.specs.declared.call.Call.TheVariants as calls
use Rattle.gs_msg.specs.declared.event.DiskId.{DiskId}
use Rattle.gs_msg.specs.declared.event.Request.TheVariants as requests
use Rattle.gs_nodes.specs.Happenings.{client_in}
use Rattle.gs_nodes.specs.declared.place.MasterPlace.{MasterPlace}
use Rattle.gs_nodes.specs.declared.place.MasterPlace.TheVariants.{Standing}
use Rattle.gs_path.specs.Path.{Path}
use Rattle.gs_world.specs.Histories.{History}
use Rattle.gs_world.specs.Runs.{Comes, RunsTo, Step}
use Rattle.gs_laws_chunks.specs.answers.Answered.{AsksFresh, WasAnswered}
use Rattle.gs_laws_chunks.specs.answers.Asked.{AreAsked}
use Rattle.gs_laws_chunks.specs.answers.Resting.{IsLooking}
use Rattle.gs_laws_world.specs.steady.Asking.{asks_at}
use Rattle.gs_laws_world.specs.steady.Saying.{IsStepWithin, KeepsTypes}
use Rattle.gs_laws_world.specs.steady.Through.{LastsThrough}

-- the commit of a prepare, or of a rollback: behind either no call waits
abbrev pub is_halt : Call → Bool
is_halt calls.PrepareCommit = true
is_halt calls.RollbackCommit = true
is_halt call = false

-- there is no other client
abbrev pub IsOnly : {D : Type 0} → ClientId → History D → Type 0
IsOnly client h = (other : ClientId) (n : Node) → client_in h.nodes.clients other ≡ Some n → other ≡ client

-- a master stands of which no disk has failed, and keeps this
pub record StandsOn {D : Type 0} (place : MasterPlace D) (d : Durable) : Type 0 where
  pub master : MasterOf D
  pub stands : place ≡ Standing master
  pub sound : is_failed master.state.fault ≡ false
  pub keeps : master.state.durable ≡ d

-- what a client's asking is
abbrev pub asks_call : Moment → ReqId → Call → Step
asks_call moment req call = Comes (asks_at moment req (requests.Call call))

module _ {D : Type 0} (seen : D → List ℕ) (failures : D → ℕ) (armed : DiskId → ℕ → MasterPlace D → MasterPlace D) where
  -- A client asks a call under a fresh number, and has this answer behind steps at which nothing is asked of the master but look-ups of its own, and the master isn't started again. All that is asked is within its types.
  pub record HasAnswer (client : ClientId) (old : History D) (call : Call) (answer : Answer) (new : History D) : Type 0 where
    pub moment : Moment
    pub req : ReqId
    pub own : req.client ≡ client
    pub asked : History D
    pub asks : AsksFresh seen failures armed old moment req call asked
    pub steps : List Step
    pub runs : RunsTo seen failures armed steps asked new
    pub within : AllByRecursion IsStepWithin (asks_call moment req call ∷ steps)
    pub looking : AllByRecursion (IsLooking client) steps
    pub node : Node
    pub there : client_in new.nodes.clients client ≡ Some node
    pub last : node.last ≡ req.number
    pub reply : node.reply ≡ Some (replies.Answer answer)

  -- Its commit was answered at an event; and what it lists then is by the names that stood right behind that event.
  pub record ListsByCommit (client : ClientId) (old : History D) (call : Call) (answer : Answer) (mid : History D) (path : Path) (listed : Answer) (c : HasAnswer client old call answer mid) : Type 0 where
    pub made : WasAnswered seen failures armed c.steps c.asked mid c.req call answer
    pub durable : Durable
    pub stands : StandsOn made.next.nodes.master durable
    pub lists : listing (fin.entries durable.names.tree) path (fin.get durable.names.tree path) ≡ Ok listed

  -- ---- what is to hold

  -- So it is where it is the only client, and asks nothing else but look-ups, also between the two.
  abbrev pub ListsAreByCommits : Type 0
  ListsAreByCommits = (client : ClientId) (old mid new : History D) (call : Call) (answer listed : Answer) (path : Path) → AreAsked seen old → KeepsTypes old → LastsThrough seen old.nodes.master →
      is_halt call ≡ true → (c : HasAnswer client old call answer mid) → IsOnly client mid →
      (way : List Step) (start : History D) → RunsTo seen failures armed way mid start → AllByRecursion IsStepWithin way → AllByRecursion (IsLooking client) way → HasAnswer client start (calls.List path) listed new → ListsByCommit client old call answer mid path listed c
