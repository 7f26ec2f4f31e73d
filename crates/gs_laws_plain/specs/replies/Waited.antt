-- What the master answers to a snapshot that has waited, and what it records for it.
use Rattle.std.specs.Prelude.{[], ◌&&◌, ◌++◌, ◌∷◌, ◌≡◌, ◌⊎◌, Bool, Err, List, Ok, Result, Some, codes, false, filter_map, fold, not, refl, true, unwrap_or, ℕ}
use Rattle.std.proofs.Common.{ap, inl, inr}
use Rattle.std.specs.FinMap as fin
use Rattle.std.specs.List.{AllByRecursion, list_any}
use Rattle.gs_base.specs.declared.config.Config.{Config}
use Rattle.gs_base.specs.declared.numbers.Moment.{Moment}
use Rattle.gs_base.specs.declared.numbers.ReqId.{ReqId}
use Rattle.gs_base.specs.declared.refusal.Refusal.{Refusal}
use Rattle.gs_base.specs.declared.refusal.Refusal.TheVariants as refusals
use Rattle.gs_edit.specs.Mapped.{mapped_rows}
use Rattle.gs_edit.specs.Names.{IsCounted}
use Rattle.gs_edit.specs.View.{NamesView}
use Rattle.gs_lock.specs.Operations.{same_op}
use Rattle.gs_msg.specs.declared.answer.Answer.{Answer}
use Rattle.gs_msg.specs.declared.answer.Answer.TheVariants as answers
use Rattle.gs_msg.specs.declared.body.Body.{Body}
use Rattle.gs_msg.specs.declared.body.Body.TheVariants as bodies
use Rattle.gs_msg.specs.declared.call.Call.{Call}
use Rattle.gs_msg.specs.declared.call.Call.TheVariants as calls
use Rattle.gs_msg.specs.declared.message.Message.{Message}
use Rattle.gs_path.specs.Path.{Path}
use Rattle.gs_laws_moves.specs.answers.Concerned.{tells_nobody}
use Rattle.gs_laws_plain.specs.commands.Answers.{is_refused_by_store, plain_answer}
use Rattle.gs_laws_plain.specs.commands.Commands as commands
use Rattle.gs_laws_plain.specs.commands.Commands.{command_of}
use Rattle.gs_master_record.specs.Plain.{Cow, Edited, Finalize, PlainEntry, Said, Snapshot}
use Rattle.gs_master_spec.specs.Applied.{applied}
use Rattle.gs_master_spec.specs.Calls.{is_any_deep, is_any_hidden}
use Rattle.gs_master_spec.specs.Durable.{Durable, start}
use Rattle.gs_master_spec.specs.Handling.{handle, tick}
use Rattle.gs_master_spec.specs.Settling.{edit_plan, edit_turn, own_request}
use Rattle.gs_master_spec.specs.State.{State, Turn, reply_to}
use Rattle.gs_master_spec.specs.declared.pending.Pending.{Pending}
use Rattle.gs_master_spec.specs.declared.pending.Waiting.{Waiting}
use Rattle.gs_master_spec.specs.declared.pending.Waiting.TheVariants as waits
use Rattle.gs_master_state.specs.Sane.{are_apart}

-- ---- what is answered

-- To a call, by names, at a moment, and with this number for what is hidden next: what the plain tree answers, whatever texts the chunks have, or a refusal of which that knows nothing. The counts of chunks are those of the tree.
abbrev pub IsPlainBy : NamesView → (moment number : ℕ) → Call → Result Answer Refusal → Type 0
IsPlainBy names moment number call result = (text : ℕ → List ℕ) (plain : Result Answer Refusal) → IsCounted names → plain_answer (mapped_rows text (fin.entries names.tree)) moment number call ≡ Some plain →
    (is_refused_by_store result ≡ true) ⊎ (result ≡ plain)

-- ---- what is recorded

-- what is durable behind some records: one that doesn't fit what it meets changes nothing
abbrev pub led : Durable → List PlainEntry → Durable
led d records = fold (λ e entry. unwrap_or (applied e entry) e) d records

-- a record is an edit by which this request is answered, and none of the master's own; or it tells its refusal
abbrev pub tells_for : ReqId → PlainEntry → Bool
tells_for req (Edited by edit) = same_op req by && not (tells_nobody edit)
tells_for req (Said by refusal) = same_op req by
tells_for req entry = false

abbrev pub TellsNone : ReqId → List PlainEntry → Type 0
TellsNone req records = list_any (tells_for req) records ≡ false

-- where a snapshot is made, the record of its edit; where it is refused, that of its refusal, or none where that isn't recorded
abbrev pub IsMadeBy : ReqId → (from to : Path) → Result Answer Refusal → List PlainEntry → Type 0
IsMadeBy req from to (Ok answer) made = made ≡ Edited req (Snapshot from to) ∷ []
IsMadeBy req from to (Err refusal) made = (made ≡ []) ⊎ (made ≡ Said req refusal ∷ [])

-- ---- a snapshot that has waited

-- one of those that wait
abbrev pub IsAmong : Pending → List Pending → Type 0
IsAmong p [] = ⊥
IsAmong p (q ∷ pending) = (q ≡ p) ⊎ IsAmong p pending

abbrev pub WaitsSo : State → ReqId → Waiting → Type 0
WaitsSo s req waiting = IsAmong (record { req = req; waits = waiting }) s.volatile.pending

-- Behind the first records of a turn it is answered: as by the names that stand there, where it names nothing deep and nothing hidden. Behind these stands what it records: the command that it is, where it is made, and else its refusal, if that is recorded; where it isn't, they are those up to some place. No other record of the turn is for it.
pub record GoesOnPlainly (s : State) (t : Turn) (req : ReqId) (from to : Path) (result : Result Answer Refusal) : Type 0 where
  pub before : List PlainEntry
  pub behind : List PlainEntry
  pub made : List PlainEntry
  pub is_made : IsMadeBy req from to result made
  pub parts : t.records ≡ before ++ (made ++ behind)
  pub none_before : TellsNone req before
  pub none_behind : TellsNone req behind
  pub plainly : is_any_deep (calls.Snapshot from to) ≡ false → is_any_hidden (calls.Snapshot from to) ≡ false → (moment number : ℕ) → IsPlainBy (led s.durable before).names moment number (calls.Snapshot from to) result

-- a message that is a reply is such
abbrev pub RepliesSo : (ReqId → Result Answer Refusal → Type 0) → Body → Type 0
RepliesSo S (bodies.Reply req result) = S req result
RepliesSo S body = Unit {0}

-- each reply of a turn to a snapshot that has waited is so
abbrev pub AnswersWaited : State → Turn → Type 0
AnswersWaited s t = AllByRecursion (λ (m : Message). RepliesSo (λ req result. (from to : Path) → WaitsSo s req (waits.Snapshot from to) → GoesOnPlainly s t req from to result) m.body) t.sent

-- ---- what is to hold, where each call waits once: several may go on in one event, each by the names that those before it have left

abbrev pub MessagesAnswerWaited : Type 0
MessagesAnswerWaited = (config : Config) (s : State) (message : Message) (moment : Moment) → are_apart s.volatile.pending ≡ true → AnswersWaited s (handle config s message moment)

abbrev pub TicksAnswerWaited : Type 0
TicksAnswerWaited = (s : State) (moment : Moment) → are_apart s.volatile.pending ≡ true → AnswersWaited s (tick s moment)

-- ---- Worked

abbrev a_request : ReqId
a_request = record { client = record { 0 = 1 }; number = 7 }

abbrev d : Path
d = codes "d" ∷ []

abbrev e : Path
e = codes "e" ∷ []

what_is_made_is_one_command : (made : List PlainEntry) → IsMadeBy a_request d e (Ok answers.Nothing) made → filter_map command_of made ≡ commands.Snapshot d e ∷ []
what_is_made_is_one_command made is = ap (filter_map command_of) is

a_refusal_may_be_recorded : IsMadeBy a_request d e (Err refusals.Exists) (Said a_request refusals.Exists ∷ [])
a_refusal_may_be_recorded = inr refl

its_own_edit : tells_for a_request (Edited a_request (Snapshot d e)) ≡ true
its_own_edit = refl

its_own_refusal : tells_for a_request (Said a_request refusals.Exists) ≡ true
its_own_refusal = refl

another_ones : tells_for a_request (Edited (record { client = record { 0 = 1 }; number = 8 }) (Snapshot d e)) ≡ false
another_ones = refl

a_copy_on_write_is_the_masters_own : tells_for own_request (Edited own_request (Cow d 0 7 8)) ≡ false
a_copy_on_write_is_the_masters_own = refl

-- no upgrade stands in a new store, so none ends
what_does_not_fit_changes_nothing : led start (Finalize 2 ∷ []) ≡ start
unfolding applied
what_does_not_fit_changes_nothing = refl

-- where the names refuse a snapshot that goes on, it is told so, and ends
what_names_refuse_is_told : (s : State) → (edit_turn s a_request (edit_plan a_request (Snapshot d e) answers.Nothing []) (Err refusals.NotFound)).sent ≡ reply_to a_request (Err refusals.NotFound) ∷ []
what_names_refuse_is_told s = refl

a_refusal_of_the_store_is_right_for_each : (names : NamesView) (moment number : ℕ) → IsPlainBy names moment number (calls.Snapshot d e) (Err refusals.NoReplica)
a_refusal_of_the_store_is_right_for_each names moment number text plain has is = inl refl

who_waits_alone : IsAmong (record { req = a_request; waits = waits.Snapshot d e }) (record { req = a_request; waits = waits.Snapshot d e } ∷ [])
who_waits_alone = inl refl
