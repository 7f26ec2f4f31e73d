-- What a new call of the tree records beside its answer: the command that it is, where it is accepted, and none where it is refused.
use Rattle.std.specs.Prelude.{[], ◌∷◌, ◌≡◌, Bool, List, Ok, Err, Result, codes, false, filter_map, refl, true}
use Rattle.std.specs.FinMap as fin
use Rattle.gs_base.specs.declared.config.Config.{Config}
use Rattle.gs_base.specs.declared.numbers.Moment.{Moment}
use Rattle.gs_base.specs.declared.numbers.ReqId.{ReqId}
use Rattle.gs_base.specs.declared.refusal.Refusal.{Refusal}
use Rattle.gs_base.specs.declared.refusal.Refusal.TheVariants as refusals
use Rattle.gs_laws_plain.specs.commands.Answering.{IsAtOnce}
use Rattle.gs_laws_plain.specs.commands.Commands.{Command, Create, Hide, Mkdirs, Rename, Snapshot, Unhide, command_of}
use Rattle.gs_master_spec.specs.Handling.{new_call}
use Rattle.gs_master_spec.specs.State.{State, Turn, reply_to}
use Rattle.gs_msg.specs.declared.answer.Answer.{Answer}
use Rattle.gs_msg.specs.declared.answer.Answer.TheVariants as answers
use Rattle.gs_msg.specs.declared.call.Call.{Call}
use Rattle.gs_msg.specs.declared.call.Call.TheVariants as calls
use Rattle.gs_path.specs.Path.{Path}
use Rattle.gs_tree.specs.Edits.{target_of}

-- the calls of the tree
abbrev pub is_of_tree : Call → Bool
is_of_tree (calls.Mkdirs path) = true
is_of_tree (calls.Create path) = true
is_of_tree (calls.Rename from to) = true
is_of_tree (calls.Delete path recursive) = true
is_of_tree (calls.Undelete path) = true
is_of_tree (calls.Snapshot from to) = true
is_of_tree (calls.List path) = true
is_of_tree call = false

-- what is not there is deleted without a command
abbrev pub hides : Path → Moment → State → Answer → List Command
hides path moment s answers.Absent = []
hides path moment s answer = Hide path moment.0 s.durable.next_hidden ∷ []

-- The command that such a call is, with this answer. A rename's target is as it is resolved.
abbrev pub done_by : State → Moment → Call → Answer → List Command
done_by s moment (calls.Mkdirs path) answer = Mkdirs path ∷ []
done_by s moment (calls.Create path) answer = Create path ∷ []
done_by s moment (calls.Rename from to) answer = Rename from (target_of (fin.get s.durable.names.tree) from to) ∷ []
done_by s moment (calls.Delete path recursive) answer = hides path moment s answer
done_by s moment (calls.Undelete path) answer = Unhide path ∷ []
done_by s moment (calls.Snapshot from to) answer = Snapshot from to ∷ []
done_by s moment call answer = []

-- and where it is refused, none
abbrev pub done_if : (Answer → List Command) → Result Answer Refusal → List Command
done_if done (Ok answer) = done answer
done_if done (Err refusal) = []

-- Such a turn sends one reply, and its records are what was done by it.
pub record DoesAsAnswered (req : ReqId) (done : Answer → List Command) (t : Turn) : Type 0 where
  pub result : Result Answer Refusal
  pub sent : t.sent ≡ reply_to req result ∷ []
  pub does : filter_map command_of t.records ≡ done_if done result

-- So it is of each new call of the tree for which nothing waits.
abbrev pub NewCallsDoAsAnswered : Type 0
NewCallsDoAsAnswered = (config : Config) (s : State) (req : ReqId) (moment : Moment) (call : Call) → is_of_tree call ≡ true → IsAtOnce s call → DoesAsAnswered req (done_by s moment call) (new_call config s req moment call)

-- ---- Worked

a_refusal_does_nothing : (s : State) (moment : Moment) (path : Path) → done_if (done_by s moment (calls.Mkdirs path)) (Err refusals.Exists) ≡ []
a_refusal_does_nothing s moment path = refl

what_is_made_is_one_command : (s : State) (moment : Moment) (path : Path) → done_if (done_by s moment (calls.Create path)) (Ok answers.Nothing) ≡ Create path ∷ []
what_is_made_is_one_command s moment path = refl

what_is_absent_is_not_hidden : (s : State) (moment : Moment) (path : Path) → done_if (done_by s moment (calls.Delete path true)) (Ok answers.Absent) ≡ []
what_is_absent_is_not_hidden s moment path = refl
