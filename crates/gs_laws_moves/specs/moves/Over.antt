-- A request that is over makes no edit any more.
use Rattle.std.specs.Prelude.{[], ◌∷◌, ◌&&◌, ◌≡◌, ◌⊎◌, Bool, List, Err, Ok, Some, false, not, refl, true}
use Rattle.std.specs.FinMap as fin
use Rattle.std.specs.List.{AllByRecursion, list_any}
use Rattle.gs_base.specs.declared.config.Config.{Config}
use Rattle.gs_base.specs.declared.numbers.Moment.{Moment}
use Rattle.gs_base.specs.declared.numbers.ReqId.{ReqId}
use Rattle.gs_base.specs.declared.refusal.Refusal.{Refusal}
use Rattle.gs_base.specs.declared.refusal.Refusal.TheVariants as refusals
use Rattle.gs_msg.specs.declared.answer.Answer.TheVariants as answers
use Rattle.gs_msg.specs.declared.body.Body.{Body}
use Rattle.gs_msg.specs.declared.body.Body.TheVariants as bodies
use Rattle.gs_msg.specs.declared.message.Message.{Message}
use Rattle.gs_msg.specs.declared.call.Call.{Call}
use Rattle.gs_master_spec.specs.Handling.{call_turn}
use Rattle.gs_path.specs.Path.{Path}
use Rattle.gs_laws_master.specs.Standing.{Event, IsFirm, IsNamed, IsOver, Restarts, run_of, turn_of}
use Rattle.gs_laws_moves.specs.moves.Laws.{met_in}
use Rattle.gs_master_record.specs.Plain.{Cow, Create, Edited, Finalize, PlainEntry, Said}
use Rattle.gs_master_spec.specs.Durable.{Durable}
use Rattle.gs_master_spec.specs.Replies.{is_later}
use Rattle.gs_master_spec.specs.Settling.{own_request}
use Rattle.gs_master_spec.specs.State.{State, Turn, is_kept}
use Rattle.gs_master_spec.specs.Volatile.{is_call}

-- a record tells an edit of this request, and none of the master's own: that for a copy on write, and those of a scan
abbrev pub tells_edit_of : ReqId → PlainEntry → Bool
tells_edit_of req (Edited by edit) = is_call req (Some by) && not (is_call by (Some own_request))
tells_edit_of req entry = false

-- a record has told the answer of the request, or of a later one of its client
abbrev pub was_told : Durable → ReqId → Bool
was_told d req = not (is_later (fin.get d.replies req.client) req.number)

pub record IsOverBy (req : ReqId) (s : State) (t : Turn) : Type 0 where
  pub edits : list_any (tells_edit_of req) t.records ≡ false
  pub over : IsOver t.after.durable t.after.volatile req
  pub told : was_told s.durable req ≡ true → was_told t.after.durable req ≡ true

-- Once a request is over, as the event meets it, no event makes an edit for it, whatever comes, and it stays over. (A restart forgets what was answered in memory alone.)
abbrev pub OverMakesNoEdit : Type 0
OverMakesNoEdit = (config : Config) (s : State) (event : Event) (req : ReqId) → IsNamed event → IsFirm s → IsOver (met_in s event).durable (met_in s event).volatile req → IsOverBy req s (turn_of config s event)

abbrev pub is_restart : Event → Bool
is_restart Restarts = true
is_restart event = false

-- So over every list of events, where none is a restart; and over every list, where a record has told the answer.
abbrev pub OverMakesNoEditLater : Type 0
OverMakesNoEditLater = (config : Config) (s : State) (events : List Event) (req : ReqId) → AllByRecursion IsNamed events → IsFirm s → IsOver s.durable s.volatile req → (list_any is_restart events ≡ false) ⊎ (was_told s.durable req ≡ true) →
    IsOverBy req s (run_of config s events)

-- A refusal that leaves its record has been told so, and its call is over then.
abbrev pub RefusedAreTold : Type 0
RefusedAreTold = (config : Config) (s : State) (req : ReqId) (moment : Moment) (call : Call) (refusal : Refusal) → (call_turn config s req moment call).said ≡ Some refusal →
    (call_turn config s req moment call).records ≡ Said req refusal ∷ [] → was_told (call_turn config s req moment call).after.durable req ≡ true

-- ---- what is refused

-- a message refuses this request, and the refusal is kept: it isn't one that tells that the number is too old, that a disk has failed, or that memory is wanting
abbrev pub refuses : ReqId → Body → Bool
refuses req (bodies.Reply by (Err refusal)) = is_call req (Some by) && is_kept refusal
refuses req body = false

abbrev pub is_refused_in : ReqId → Turn → Bool
is_refused_in req t = list_any (λ (m : Message). refuses req m.body) t.sent

pub record IsRefusedBy (req : ReqId) (t : Turn) : Type 0 where
  pub edits : list_any (tells_edit_of req) t.records ≡ false
  pub over : IsOver t.after.durable t.after.volatile req

-- An event that refuses a request makes no edit for it, neither before nor behind the refusal, whether it brings the request or this one has waited; and the request is over.
abbrev pub RefusedMakesNoEdit : Type 0
RefusedMakesNoEdit = (config : Config) (s : State) (event : Event) (req : ReqId) → IsNamed event → IsFirm s → is_refused_in req (turn_of config s event) ≡ true → IsRefusedBy req (turn_of config s event)

-- ---- examples

abbrev a_request : ReqId
a_request = record { client = record { 0 = 1 }; number = 7 }

its_own_edit : (path : Path) → tells_edit_of a_request (Edited a_request (Create path)) ≡ true
its_own_edit path = refl

another_ones : (path : Path) → tells_edit_of a_request (Edited (record { client = record { 0 = 1 }; number = 8 }) (Create path)) ≡ false
another_ones path = refl

a_copy_on_write_is_the_masters_own : (path : Path) → tells_edit_of own_request (Edited own_request (Cow path 0 7 8)) ≡ false
a_copy_on_write_is_the_masters_own path = refl

an_epoch_is_no_edit : tells_edit_of a_request (Finalize 2) ≡ false
an_epoch_is_no_edit = refl

a_refusal_of_it : refuses a_request (bodies.Reply a_request (Err refusals.Locked)) ≡ true
a_refusal_of_it = refl

an_old_number_is_not_kept : refuses a_request (bodies.Reply a_request (Err refusals.Old)) ≡ false
an_old_number_is_not_kept = refl

an_answer_refuses_nothing : refuses a_request (bodies.Reply a_request (Ok answers.Nothing)) ≡ false
an_answer_refuses_nothing = refl
