-- What a client that only looks is told of files.
use Rattle.std.specs.Prelude.{◌≡◌, Bool, List, None, Ok, Result, Some, false, map, refl, true, ℕ}
use Rattle.std.specs.FinMap as fin
use Rattle.gs_base.specs.declared.numbers.ClientId.{ClientId}
use Rattle.gs_base.specs.declared.numbers.ReqId.{ReqId}
use Rattle.gs_base.specs.declared.refusal.Refusal.{Refusal}
use Rattle.gs_tree.specs.Entry.{File}
use Rattle.gs_msg.specs.declared.answer.Answer.{Answer}
use Rattle.gs_msg.specs.declared.answer.Answer.TheVariants as answers
use Rattle.gs_msg.specs.declared.answer.ChunkStatus.{ChunkStatus}
use Rattle.gs_msg.specs.declared.answer.Status.TheVariants as statuses
use Rattle.gs_msg.specs.declared.call.Call.{Call}
use Rattle.gs_msg.specs.declared.call.Call.TheVariants as calls
use Rattle.gs_msg.specs.declared.event.DiskId.{DiskId}
use Rattle.gs_msg.specs.declared.event.Event.{Event}
use Rattle.gs_path.specs.Path.{Path}
use Rattle.gs_master_spec.specs.Calls.{status}
use Rattle.gs_master_spec.specs.Durable.{Durable, is_listed, is_rolling}
use Rattle.gs_laws_moves.specs.looks.Looked.{Locates}
use Rattle.gs_nodes.specs.declared.place.MasterPlace.{MasterPlace}
use Rattle.gs_world.specs.Histories.{Happens, History}
use Rattle.gs_laws_chunks.specs.answers.Answered.{AnswersNow, GoesBy, Passes, WasAnswered}
use Rattle.gs_laws_chunks.specs.answers.Behind.{HasAnswer, StandsOn}
use Rattle.gs_laws_chunks.specs.answers.Resting.{IsStill}
use Rattle.gs_laws_world.specs.steady.Through.{LastsThrough}
use Rattle.gs_laws_looks.specs.halts.Unled.{IsHalted, StaysQuiet}

-- the master stands on these names, in this epoch, in whose phase no rollback is begun
pub record StandsBy {D : Type 0} (d : Durable) (place : MasterPlace D) : Type 0 where
  pub durable : Durable
  pub stands : StandsOn place durable
  pub names : durable.names ≡ d.names
  pub epoch : durable.epoch ≡ d.epoch
  pub rolling : is_rolling d.phase ≡ false

-- the status of a path, by these names
pub record IsStatusOf {D : Type 0} (d : Durable) (place : MasterPlace D) (path : Path) (answer : Answer) : Type 0 where
  pub by : StandsBy d place
  pub gives : status by.durable (fin.get d.names.tree path) ≡ Ok answer
  pub file : (chunks : List ChunkStatus) → answer ≡ answers.Status (statuses.File chunks) → fin.get d.names.tree path ≡ Some (File (map (λ (c : ChunkStatus). c.handle) chunks))

-- Where the chunk at a place of a file is, by these names, and by the view that it is settled on. A file has it, and it has no primary.
pub record IsPlaceOf {D : Type 0} (d : Durable) (place : MasterPlace D) (path : Path) (index : ℕ) (answer : Answer) : Type 0 where
  pub by : StandsBy d place
  pub locates : Locates by.durable path index answer
  pub file : fin.get d.names.tree path ≡ Some (File locates.chunks)
  pub says : answer ≡ answers.Location locates.chunk locates.view d.epoch
  pub listed : is_listed by.durable locates.chunk ≡ true
  pub quiet : locates.view.term ≡ None

-- what a look-up of a file says
abbrev pub LooksBy : {D : Type 0} → Durable → MasterPlace D → Call → Answer → Type 0
LooksBy d place (calls.Status path) answer = IsStatusOf d place path answer
LooksBy d place (calls.FindForReading path index) answer = IsPlaceOf d place path index answer
LooksBy d place call answer = ⊥

abbrev pub is_file_look : Call → Bool
is_file_look (calls.Status path) = true
is_file_look (calls.FindForReading path index) = true
is_file_look call = false

module _ {D : Type 0} (seen : D → List ℕ) (failures : D → ℕ) (armed : DiskId → ℕ → MasterPlace D → MasterPlace D) where
  -- ---- what is to hold

  -- Where the names stand and no chunk of a file has a primary, a look-up of a file is answered by them.
  abbrev pub LooksAreByNames : Type 0
  LooksAreByNames = (d : Durable) (client : ClientId) (number : ℕ) (now next : History D) (event : Event) (said : Result (Unit {0}) Refusal) (h : Happens seen failures armed event now said next) (req : ReqId) (call : Call) (answer : Answer) → is_file_look call ≡ true →
      LastsThrough seen now.nodes.master → IsStill d client number now → StaysQuiet seen now → AnswersNow now event h.outcome req call answer → LooksBy d now.nodes.master call answer

  -- Its look-up was answered at an event between worlds of this run, by these names; and where it has the answer the store is halted still.
  pub record LooksHalted (d : Durable) (client : ClientId) (number : ℕ) (start : History D) (call : Call) (answer : Answer) (new : History D) (l : HasAnswer seen failures armed client start call answer new) : Type 0 where
    pub made : WasAnswered seen failures armed l.steps l.asked new l.req call answer
    pub on_the_way : GoesBy seen failures armed (λ h. Passes seen failures armed h l.steps l.asked new l.runs) l.steps l.asked new l.req call answer made
    pub met : IsHalted seen d client number made.now
    pub looks : LooksBy d made.now.nodes.master call answer
    pub halted : IsHalted seen d client number new

  -- So it is of each such answer that a client gets in a store in which it has halted.
  abbrev pub AnswersAreByNames : Type 0
  AnswersAreByNames = (d : Durable) (client : ClientId) (number : ℕ) (start new : History D) (call : Call) (answer : Answer) → is_file_look call ≡ true → IsHalted seen d client number start → (l : HasAnswer seen failures armed client start call answer new) →
      LooksHalted d client number start call answer new l

-- ---- examples

a_status_looks_at_a_file : (path : Path) → is_file_look (calls.Status path) ≡ true
a_status_looks_at_a_file path = refl

a_list_does_not : (path : Path) → is_file_look (calls.List path) ≡ false
a_list_does_not path = refl
