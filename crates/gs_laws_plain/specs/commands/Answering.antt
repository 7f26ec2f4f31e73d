-- What a new call of the tree is answered, and what the plain tree answers.
use Rattle.std.specs.Prelude.{[], ◌∷◌, ◌≡◌, ◌⊎◌, List, Result, Some, true, ℕ}
use Rattle.std.specs.FinMap as fin
use Rattle.gs_base.specs.declared.config.Config.{Config}
use Rattle.gs_base.specs.declared.numbers.Moment.{Moment}
use Rattle.gs_base.specs.declared.numbers.ReqId.{ReqId}
use Rattle.gs_base.specs.declared.refusal.Refusal.{Refusal}
use Rattle.gs_edit.specs.Mapped.{mapped_rows}
use Rattle.gs_edit.specs.Names.{IsCounted}
use Rattle.gs_msg.specs.declared.answer.Answer.{Answer}
use Rattle.gs_msg.specs.declared.call.Call.{Call}
use Rattle.gs_msg.specs.declared.call.Call.TheVariants as calls
use Rattle.gs_laws_plain.specs.commands.Answers.{is_refused_by_store, plain_answer}
use Rattle.gs_master_spec.specs.Handling.{new_call}
use Rattle.gs_master_spec.specs.State.{State, Turn, reply_to}
use Rattle.gs_master_spec.specs.Working.{unquiet}

-- A turn sends one reply, which is what the plain tree answers, or a refusal of which it knows nothing.
pub record RepliesPlainly (req : ReqId) (t : Turn) (plain : Result Answer Refusal) : Type 0 where
  pub result : Result Answer Refusal
  pub sent : t.sent ≡ reply_to req result ∷ []
  pub plainly : (is_refused_by_store result ≡ true) ⊎ (result ≡ plain)

-- A snapshot waits for no chunk of its source.
abbrev pub IsAtOnce : State → Call → Type 0
IsAtOnce s (calls.Snapshot from to) = unquiet s from ≡ []
IsAtOnce s call = Unit {0}

-- so of each call of the tree that nothing waits for, whatever texts its chunks have, where the counts of chunks are those of the tree
abbrev pub NewCallsAnswerPlainly : Type 0
NewCallsAnswerPlainly = (config : Config) (s : State) (req : ReqId) (moment : Moment) (call : Call) (text : ℕ → List ℕ) (plain : Result Answer Refusal) → IsCounted s.durable.names → IsAtOnce s call →
    plain_answer (mapped_rows text (fin.entries s.durable.names.tree)) moment.0 s.durable.next_hidden call ≡ Some plain → RepliesPlainly req (new_call config s req moment call) plain
