-- A change of the tree that waits for nothing: what it is answered, and what it leaves.
use Rattle.std.specs.Prelude.{[], ◌∷◌, ◌≡◌, Bool, Err, None, Ok, Option, Result, Some, codes, false, if◌then◌else◌, is_none, refl, true, ℕ}
use Rattle.std.specs.FinMap as fin
use Rattle.gs_base.specs.declared.config.Config.{Config}
use Rattle.gs_base.specs.declared.numbers.Moment.{Moment}
use Rattle.gs_base.specs.declared.numbers.ReqId.{ReqId}
use Rattle.gs_base.specs.declared.refusal.Refusal.{Refusal}
use Rattle.gs_base.specs.declared.refusal.Refusal.TheVariants as refusals
use Rattle.gs_edit.specs.View.{NamesView}
use Rattle.gs_msg.specs.declared.answer.Answer.{Answer}
use Rattle.gs_msg.specs.declared.call.Call.{Call}
use Rattle.gs_msg.specs.declared.call.Call.TheVariants as calls
use Rattle.gs_master_record.specs.Plain.{Create, Hide, Mkdirs, PlainEdit, Rename, Unhide}
use Rattle.gs_master_spec.specs.Applied.{after_if, number_of_edit, replayed}
use Rattle.gs_master_spec.specs.Durable.{Durable, start}
use Rattle.gs_master_spec.specs.Handling.{New, new_call, numbered}
use Rattle.gs_master_spec.specs.State.{State, Turn, last_reply}
use Rattle.gs_master_spec.specs.Undoing.{edited_names}
use Rattle.gs_laws_moves.specs.answers.AtOnce.{AnswersAlone, OneSays}
use Rattle.gs_laws_moves.specs.answers.Resting.{HasHad, LeavesNames}

-- a call that edits the names, needs no chunk, and waits for nothing
abbrev pub is_change : Call → Bool
is_change (calls.Mkdirs path) = true
is_change (calls.Create path) = true
is_change (calls.Rename from to) = true
is_change (calls.Delete path recursive) = true
is_change (calls.Undelete path) = true
is_change call = false

-- The edit of the names that it asks for at a moment. A deletion takes the number of the next one; where nothing stands at its path it makes no edit.
abbrev pub edit_for : Durable → Moment → Call → Option PlainEdit
edit_for d moment (calls.Mkdirs path) = Some (Mkdirs path)
edit_for d moment (calls.Create path) = Some (Create path)
edit_for d moment (calls.Rename from to) = Some (Rename from to)
edit_for d moment (calls.Delete path recursive) = if is_none (fin.get d.names.tree path) then None else Some (Hide path moment.0 d.next_hidden)
edit_for d moment (calls.Undelete path) = Some (Unhide path)
edit_for d moment call = None

-- the names after it
abbrev pub names_after : Option PlainEdit → NamesView → Result NamesView Refusal
names_after None names = Ok names
names_after (Some edit) names = edited_names edit names

-- the number of the next deletion after it
abbrev pub number_after : Option PlainEdit → ℕ → ℕ
number_after None number = number
number_after (Some edit) number = after_if number (number_of_edit edit)

-- The names are those of the edit, if there is one, and so is the number of the next deletion. The phase and the epoch are what they were, and its client has had its reply.
pub record Changes (s : State) (req : ReqId) (edit : Option PlainEdit) (t : Turn) : Type 0 where
  pub names : names_after edit s.durable.names ≡ Ok t.after.durable.names
  pub hidden : t.after.durable.next_hidden ≡ number_after edit s.durable.next_hidden
  pub phase : t.after.durable.phase ≡ s.durable.phase
  pub epoch : t.after.durable.epoch ≡ s.durable.epoch
  pub had : HasHad t.after req.client req.number

-- ---- what is to hold

-- Such a call that is new is answered at once: it gets one reply by the event that brings it, no other call is answered, and none begins to wait.
abbrev pub ChangesAnswerAtOnce : Type 0
ChangesAnswerAtOnce = (config : Config) (s : State) (req : ReqId) (moment : Moment) (call : Call) → is_change call ≡ true → (result : Result Answer Refusal) × AnswersAlone req result s (new_call config s req moment call)

-- Where it is accepted, and its record fits, it changes the names so.
abbrev pub ChangesAreMade : Type 0
ChangesAreMade = (config : Config) (s : State) (req : ReqId) (moment : Moment) (call : Call) (answer : Answer) → is_change call ≡ true → numbered (last_reply s req.client) req.number ≡ New → OneSays req (Ok answer) (new_call config s req moment call).sent →
    replayed s.durable (new_call config s req moment call).records ≡ Some (new_call config s req moment call).after.durable → Changes s req (edit_for s.durable moment call) (new_call config s req moment call)

-- Where it is refused nothing changes but what is kept of it.
abbrev pub RefusedChangesLeaveNames : Type 0
RefusedChangesLeaveNames = (config : Config) (s : State) (req : ReqId) (moment : Moment) (call : Call) (refusal : Refusal) → is_change call ≡ true → OneSays req (Err refusal) (new_call config s req moment call).sent → LeavesNames s req (new_call config s req moment call)

-- None is told that its request is an old one, where it is judged.
abbrev pub ChangesAreNotOld : Type 0
ChangesAreNotOld = (config : Config) (s : State) (req : ReqId) (moment : Moment) (call : Call) → is_change call ≡ true → OneSays req (Err refusals.Old) (new_call config s req moment call).sent → ⊥

-- ---- examples

a_new_directory_is_made : (moment : Moment) → edit_for start moment (calls.Mkdirs (codes "a" ∷ [])) ≡ Some (Mkdirs (codes "a" ∷ []))
a_new_directory_is_made moment = refl

a_list_makes_nothing : (moment : Moment) → edit_for start moment (calls.List []) ≡ None
a_list_makes_nothing moment = refl

a_list_is_no_change : is_change (calls.List []) ≡ false
a_list_is_no_change = refl

-- a deletion takes a number, and a new directory takes none
it_takes_a_number : number_after (Some (Hide (codes "a" ∷ []) 9 4)) 4 ≡ 5
it_takes_a_number = refl

it_takes_none : number_after (Some (Mkdirs (codes "a" ∷ []))) 4 ≡ 4
it_takes_none = refl
