-- Calls that are answered by the event that brings them, and by no record.
use Rattle.std.specs.Prelude.{[], ◌∷◌, ◌≡◌, ◌≤◌, ◌⊎◌, Bool, Err, List, Ok, Result, Some, codes, false, length, refl, true}
use Rattle.std.specs.FinMap as fin
use Rattle.std.specs.List.{AllByRecursion}
use Rattle.gs_base.specs.declared.config.Config.{Config}
use Rattle.gs_base.specs.declared.numbers.ClientId.{ClientId}
use Rattle.gs_base.specs.declared.numbers.Moment.{Moment}
use Rattle.gs_base.specs.declared.numbers.ReqId.{ReqId}
use Rattle.gs_base.specs.declared.refusal.Refusal.{Refusal}
use Rattle.gs_msg.specs.declared.answer.Answer.{Answer}
use Rattle.gs_base.specs.declared.refusal.Refusal.TheVariants as refusals
use Rattle.gs_msg.specs.declared.answer.Answer.TheVariants as answers
use Rattle.gs_msg.specs.declared.answer.Phase.TheVariants as phases
use Rattle.gs_msg.specs.declared.body.Body.{Body}
use Rattle.gs_msg.specs.declared.body.Body.TheVariants as bodies
use Rattle.gs_msg.specs.declared.call.Call.{Call}
use Rattle.gs_msg.specs.declared.call.Call.TheVariants as calls
use Rattle.gs_msg.specs.declared.message.Message.{Message}
use Rattle.gs_master_spec.specs.Handling.{fresh, new_call}
use Rattle.gs_master_spec.specs.Replies.{client_cmp}
use Rattle.gs_master_spec.specs.State.{Log, State, Turn, reply_to}
use Rattle.gs_master_spec.specs.Volatile.{is_pending}
use Rattle.gs_master_spec.specs.declared.reply.KeptReply.{KeptReply}
use Rattle.gs_laws_moves.specs.answers.Concerned.{answered_by}

-- a call that looks, or by which a step of an upgrade is taken that ends no other call
abbrev pub is_answered_at_once : Call → Bool
is_answered_at_once (calls.List path) = true
is_answered_at_once (calls.Status path) = true
is_answered_at_once (calls.FindForReading path index) = true
is_answered_at_once calls.Query = true
is_answered_at_once calls.PrepareCommit = true
is_answered_at_once calls.PrepareAbort = true
is_answered_at_once calls.Finalize = true
is_answered_at_once calls.RollbackCommit = true
is_answered_at_once call = false

-- a message that is a reply says this to this request; and none is a call
abbrev pub SaysAlone : ReqId → Result Answer Refusal → Body → Type 0
SaysAlone req result (bodies.Reply to said) = (to ≡ req) × (said ≡ result)
SaysAlone req result (bodies.Call to call) = ⊥
SaysAlone req result body = Unit {0}

-- one of some is this reply
abbrev pub OneSays : ReqId → Result Answer Refusal → List Message → Type 0
OneSays req result [] = ⊥
OneSays req result (m ∷ messages) = (m.body ≡ bodies.Reply req result) ⊎ OneSays req result messages

-- each reply of some was among those before, or it is this one
abbrev pub KeepsBut : ReqId → Result Answer Refusal → fin.FinMap client_cmp KeptReply → fin.FinMap client_cmp KeptReply → Type 0
KeepsBut req result old new = (client : ClientId) (reply : KeptReply) → fin.get new client ≡ Some reply → (fin.get old client ≡ Some reply) ⊎ ((answered_by client reply ≡ req) × (reply.result ≡ result))

-- By this turn this request gets this reply, and no other gets any. It keeps no other reply, and no call begins to wait. One record at most tells of it.
pub record AnswersAlone (req : ReqId) (result : Result Answer Refusal) (s : State) (t : Turn) : Type 0 where
  pub sent : AllByRecursion (λ (m : Message). SaysAlone req result m.body) t.sent
  pub says : OneSays req result t.sent
  pub durable : KeepsBut req result s.durable.replies t.after.durable.replies
  pub memory : KeepsBut req result s.volatile.replies t.after.volatile.replies
  pub waits : (other : ReqId) → is_pending t.after.volatile.pending other ≡ true → is_pending s.volatile.pending other ≡ true
  pub few : length t.records ≤ 1

-- So it is of each such call that is new.
abbrev pub AnswersAtOnce : Type 0
AnswersAtOnce = (config : Config) (s : State) (req : ReqId) (moment : Moment) (call : Call) → is_answered_at_once call ≡ true → (result : Result Answer Refusal) × AnswersAlone req result s (new_call config s req moment call)

-- ---- examples

a_list_is_answered_at_once : is_answered_at_once (calls.List (codes "a" ∷ [])) ≡ true
a_list_is_answered_at_once = refl

a_scan_refuses_who_waits : is_answered_at_once calls.Scan ≡ false
a_scan_refuses_who_waits = refl

abbrev a_request : ReqId
a_request = record { client = record { 0 = 1 }; number = 7 }

abbrev a_log : Log
a_log = record { records = 0; size = 20; limit = 1000; generation = 1 }

-- A new master is asked in which phase it is.
it_answers_the_one_who_asks : (config : Config) (moment : Moment) → (new_call config (fresh a_log) a_request moment calls.Query).sent ≡ reply_to a_request (Ok (answers.Phase phases.Ordinary 0)) ∷ []
it_answers_the_one_who_asks config moment = refl

-- A rollback that wasn't begun isn't committed.
it_refuses_the_one_who_asks : (config : Config) (moment : Moment) → (new_call config (fresh a_log) a_request moment calls.RollbackCommit).sent ≡ reply_to a_request (Err refusals.NotUpgrading) ∷ []
it_refuses_the_one_who_asks config moment = refl
