-- That no chunk of a file has a primary while a client only looks.
use Rattle.std.specs.Prelude.{◌≡◌, List, Result, true, ℕ, suc}
use Rattle.std.specs.List.{AllByRecursion}
use Rattle.gs_base.specs.declared.numbers.ClientId.{ClientId}
use Rattle.gs_base.specs.declared.numbers.ReqId.{ReqId}
use Rattle.gs_base.specs.declared.refusal.Refusal.{Refusal}
use Rattle.gs_msg.specs.declared.answer.Answer.{Answer}
use Rattle.gs_msg.specs.declared.call.Call.{Call}
use Rattle.gs_msg.specs.declared.event.DiskId.{DiskId}
use Rattle.gs_msg.specs.declared.event.Event.{Event}
use Rattle.gs_master_spec.specs.Durable.{Durable}
use Rattle.gs_laws_moves.specs.looks.Unled.{AreUnled, IsUnled}
use Rattle.gs_nodes.specs.declared.place.MasterPlace.{MasterPlace}
use Rattle.gs_nodes.specs.declared.place.MasterPlace.TheVariants.{Standing, Away}
use Rattle.gs_world.specs.Histories.{Happens, History}
use Rattle.gs_world.specs.Runs.{Comes, RunsTo, Step}
use Rattle.gs_laws_chunks.specs.answers.Answered.{AnswersNow, GoesBy, Passes, WasAnswered}
use Rattle.gs_laws_chunks.specs.answers.Asked.{AreAsked}
use Rattle.gs_laws_chunks.specs.answers.Behind.{HasAnswer, IsOnly, StandsOn, is_halt}
use Rattle.gs_laws_chunks.specs.answers.Resting.{IsLooking, IsStill}
use Rattle.gs_laws_world.specs.steady.Saying.{IsStepWithin, KeepsTypes}
use Rattle.gs_laws_world.specs.steady.Through.{LastsThrough, TellsAt}

abbrev pub IsUnledAt : {D : Type 0} → MasterPlace D → Type 0
IsUnledAt (Standing m) = IsUnled m.state
IsUnledAt place = Unit {0}

-- what is told has these names, and this epoch
pub record HasNames (d e : Durable) : Type 0 where
  pub names : e.names ≡ d.names
  pub epoch : e.epoch ≡ d.epoch

module _ {D : Type 0} (seen : D → List ℕ) where
  -- no chunk of a file has a primary at the master, and none gets one by what it has begun; nor by what its disks tell
  pub record StaysQuiet (h : History D) : Type 0 where
    pub master : IsUnledAt h.nodes.master
    pub told : (d : Durable) → TellsAt seen h.nodes.master d → AreUnled d

  -- A store in which a client has halted: the names, the phase and the epoch are these and stand, no call waits, all that was called before has a number that the client has had, and no chunk of a file has a primary; the master's disks tell these names, and
  -- this epoch. Beside that it keeps to its types, lasts through failures, and of each reply in it its client has asked.
  pub record IsHalted (d : Durable) (client : ClientId) (number : ℕ) (h : History D) : Type 0 where
    pub still : IsStill d client number h
    pub quiet : StaysQuiet h
    pub named : (e : Durable) → TellsAt seen h.nodes.master e → HasNames d e
    pub asked : AreAsked seen h
    pub types : KeepsTypes h
    pub lasts : LastsThrough seen h.nodes.master

module _ {D : Type 0} (seen : D → List ℕ) (failures : D → ℕ) (armed : DiskId → ℕ → MasterPlace D → MasterPlace D) where
  -- ---- what is to hold

  -- No chunk of a file gets a primary as long as the client only looks, whatever disks of the master fail, by themselves or as it was arranged before.
  abbrev pub StaysUnled : Type 0
  StaysUnled = (d : Durable) (client : ClientId) (number : ℕ) (steps : List Step) (old new : History D) → RunsTo seen failures armed steps old new → AllByRecursion IsStepWithin steps → AllByRecursion (IsLooking client) steps → KeepsTypes old →
      LastsThrough seen old.nodes.master → IsStill d client number old → StaysQuiet seen old → StaysQuiet seen new

  -- So a store stays halted.
  abbrev pub StaysHalted : Type 0
  StaysHalted = (d : Durable) (client : ClientId) (number : ℕ) (steps : List Step) (old new : History D) → RunsTo seen failures armed steps old new → AllByRecursion IsStepWithin steps → AllByRecursion (IsLooking client) steps →
      IsHalted seen d client number old → IsHalted seen d client number new

  -- Behind the event at which the commit of a prepare, or of a rollback, is answered no chunk of a file has a primary.
  abbrev pub CommitsLeaveUnled : Type 0
  CommitsLeaveUnled = (now next : History D) (event : Event) (said : Result (Unit {0}) Refusal) (h : Happens seen failures armed event now said next) (req : ReqId) (call : Call) (answer : Answer) → is_halt call ≡ true → IsStepWithin (Comes event) →
      KeepsTypes now → LastsThrough seen now.nodes.master → AnswersNow now event h.outcome req call answer → StaysQuiet seen next

  -- Its commit was answered at an event between worlds of this run, behind which a master stood on this; right behind it, and where it has the answer, the store is halted on this.
  pub record HaltsBy (client : ClientId) (old : History D) (call : Call) (answer : Answer) (mid : History D) (c : HasAnswer seen failures armed client old call answer mid) : Type 0 where
    pub made : WasAnswered seen failures armed c.steps c.asked mid c.req call answer
    pub on_the_way : GoesBy seen failures armed (λ h. Passes seen failures armed h c.steps c.asked mid c.runs) c.steps c.asked mid c.req call answer made
    pub durable : Durable
    pub stands : StandsOn made.next.nodes.master durable
    pub begun : IsHalted seen durable client (suc c.req.number) made.next
    pub halted : IsHalted seen durable client (suc c.req.number) mid

  -- So it is where it is the only client, and asks nothing else but look-ups meanwhile.
  abbrev pub CommitsHalt : Type 0
  CommitsHalt = (client : ClientId) (old mid : History D) (call : Call) (answer : Answer) → AreAsked seen old → KeepsTypes old → LastsThrough seen old.nodes.master → is_halt call ≡ true → (c : HasAnswer seen failures armed client old call answer mid) →
      IsOnly client mid → HaltsBy client old call answer mid c

-- ---- examples

a_master_that_is_away_has_begun_nothing : (D : Type 0) → IsUnledAt {D = D} Away
a_master_that_is_away_has_begun_nothing D = tt
