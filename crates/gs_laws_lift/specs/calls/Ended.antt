-- What a call is answered by which an epoch ends or a rollback is done, and what a scan removes. It is said of each call, whatever the master has met before.
use Rattle.std.specs.Prelude.{[], ◌∷◌, ◌≡◌, ◌⊎◌, Bool, Err, List, None, Ok, Option, Result, Some, codes, false, filter, length, map, refl, true, ℕ}
use Rattle.std.specs.FinMap as fin
use Rattle.std.specs.List.{AllByRecursion}
use Rattle.gs_base.specs.declared.config.Config.{Config}
use Rattle.gs_base.specs.declared.numbers.Moment.{Moment}
use Rattle.gs_base.specs.declared.numbers.ReqId.{ReqId}
use Rattle.gs_base.specs.declared.refusal.Refusal.{Refusal}
use Rattle.gs_base.specs.declared.refusal.Refusal.TheVariants as refusals
use Rattle.gs_msg.specs.declared.answer.Answer.{Answer}
use Rattle.gs_msg.specs.declared.answer.Answer.TheVariants as answers
use Rattle.gs_msg.specs.declared.body.Body.{Body}
use Rattle.gs_msg.specs.declared.body.Body.TheVariants as bodies
use Rattle.gs_msg.specs.declared.call.Call.{Call}
use Rattle.gs_msg.specs.declared.call.Call.TheVariants as calls
use Rattle.gs_msg.specs.declared.message.Message.{Message}
use Rattle.gs_path.specs.Path.{Path}
use Rattle.gs_master_record.specs.Plain.{Edited, Finalize, Forget, PlainEntry, Prepare, Remove, RollbackBegin, RollbackCommit}
use Rattle.gs_laws_moves.specs.answers.AtOnce.{OneSays}
use Rattle.gs_laws_lift.specs.copies.Held.{IsIn}
use Rattle.gs_master_record.specs.declared.checkpoint.Phase.TheVariants.{Upgrade}
use Rattle.gs_master_spec.specs.Durable.{start}
use Rattle.gs_master_spec.specs.Handling.{call_turn, fresh, new_call}
use Rattle.gs_master_spec.specs.Settling.{own_request}
use Rattle.gs_master_spec.specs.State.{Log, State, Turn, reply_to}
use Rattle.gs_master_spec.specs.Volatile.{is_pending}
use Rattle.gs_master_spec.specs.Working.{forgotten_chunks, removed_paths, scan_edits}

-- ---- the end of an epoch

-- the epoch that a record tells, if it is this call's own record
abbrev pub epoch_told : Call → PlainEntry → Option ℕ
epoch_told calls.PrepareCommit (Prepare epoch moment chunks) = Some epoch
epoch_told calls.Finalize (Finalize epoch) = Some epoch
epoch_told calls.RollbackBegin (RollbackBegin epoch) = Some epoch
epoch_told calls.RollbackCommit (RollbackCommit epoch answers) = Some epoch
epoch_told call entry = None

-- a message that is a reply to this request says this
abbrev pub SaysOnly : ReqId → Result Answer Refusal → Body → Type 0
SaysOnly req result (bodies.Reply to said) = to ≡ req → said ≡ result
SaysOnly req result body = Unit {0}

-- The request is answered this, and nothing else.
pub record IsAnsweredOnly (req : ReqId) (result : Result Answer Refusal) (messages : List Message) : Type 0 where
  pub says : OneSays req result messages
  pub only : AllByRecursion (λ (m : Message). SaysOnly req result m.body) messages

-- Such a call, which doesn't wait, may leave its record. Then it is answered the epoch that the record tells, and nothing else. So a call that is refused has left none.
abbrev pub EndsAreAnswered : Type 0
EndsAreAnswered = (config : Config) (s : State) (req : ReqId) (moment : Moment) (call : Call) (entry : PlainEntry) (epoch : ℕ) → is_pending s.volatile.pending req ≡ false → let t = call_turn config s req moment call in
    IsIn entry t.records → epoch_told call entry ≡ Some epoch → IsAnsweredOnly req (Ok (answers.Epoch epoch)) t.sent

-- ---- a scan

-- a record of what a scan removes or forgets
abbrev pub is_of_scan : PlainEntry → Bool
is_of_scan (Edited by (Remove path)) = true
is_of_scan (Edited by (Forget chunks)) = true
is_of_scan entry = false

-- what is over at this moment, and what has no reference after that is removed
abbrev pub removed_at : State → Moment → List Path
removed_at s moment = removed_paths moment.0 (fin.entries s.durable.names.tree)

abbrev pub forgotten_at : State → Moment → List ℕ
forgotten_at s moment = forgotten_chunks moment.0 (fin.entries s.durable.names.tree) (fin.entries s.durable.names.refs)

-- A scan removes just what is over at the moment, and forgets just what is left without a reference then. It answers how many these are.
pub record ScansSo (s : State) (req : ReqId) (moment : Moment) (t : Turn) : Type 0 where
  pub removes : filter is_of_scan t.records ≡ map (Edited own_request) (scan_edits (removed_at s moment) (forgotten_at s moment))
  pub says : OneSays req (Ok (answers.Scanned (length (removed_at s moment)) (length (forgotten_at s moment)))) t.sent

-- A call to scan does so, or removes and forgets nothing.
abbrev pub ScansAreExact : Type 0
ScansAreExact = (config : Config) (s : State) (req : ReqId) (moment : Moment) → let t = call_turn config s req moment calls.Scan in (filter is_of_scan t.records ≡ []) ⊎ ScansSo s req moment t

-- ---- examples

a_finalize_tells_its_epoch : epoch_told calls.Finalize (Finalize 2) ≡ Some 2
a_finalize_tells_its_epoch = refl

a_finalize_is_no_prepare : epoch_told calls.Finalize (Prepare 3 0 0) ≡ None
a_finalize_is_no_prepare = refl

what_a_scan_writes : filter is_of_scan (Edited own_request (Remove (codes "f" ∷ [])) ∷ Finalize 2 ∷ []) ≡ Edited own_request (Remove (codes "f" ∷ [])) ∷ []
what_a_scan_writes = refl

abbrev a_request : ReqId
a_request = record { client = record { 0 = 1 }; number = 7 }

abbrev a_log : Log
a_log = record { records = 0; size = 20; limit = 1000; generation = 1 }

-- a store in which an upgrade stands, and which keeps nothing else
abbrev upgraded : State
upgraded = record (fresh a_log) { durable = record start { phase = Upgrade; epoch = 1 } }

a_finalize_is_recorded : (config : Config) (moment : Moment) → (new_call config upgraded a_request moment calls.Finalize).records ≡ Finalize 2 ∷ []
a_finalize_is_recorded config moment = refl

-- without one it is refused
nothing_to_finalize : (config : Config) (moment : Moment) → (new_call config (fresh a_log) a_request moment calls.Finalize).sent ≡ reply_to a_request (Err refusals.NotUpgrading) ∷ []
nothing_to_finalize config moment = refl
