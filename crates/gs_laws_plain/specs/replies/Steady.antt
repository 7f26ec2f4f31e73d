-- Each reply of a master whose state stands, or of which a disk has failed: by what is durable, and by the records of its event.
use Rattle.std.specs.Prelude.{[], ◌++◌, ◌∷◌, ◌≡◌, ◌⊎◌, Err, List, None, Option, Result, Some, codes, false, filter_map, refl, true, ℕ}
use Rattle.std.proofs.Common.{inl}
use Rattle.std.specs.FinMap as fin
use Rattle.std.specs.List.{AllByRecursion, list_all}
use Rattle.gs_base.specs.declared.config.Config.{Config}
use Rattle.gs_base.specs.declared.numbers.Moment.{Moment}
use Rattle.gs_base.specs.declared.numbers.ReqId.{ReqId}
use Rattle.gs_base.specs.declared.refusal.Refusal.{Refusal}
use Rattle.gs_base.specs.declared.refusal.Refusal.TheVariants as refusals
use Rattle.gs_edit.specs.Mapped.{mapped_rows}
use Rattle.gs_edit.specs.View.{NamesView}
use Rattle.gs_msg.specs.declared.answer.Answer.{Answer}
use Rattle.gs_msg.specs.declared.body.Body.{Body}
use Rattle.gs_msg.specs.declared.body.Body.TheVariants as bodies
use Rattle.gs_msg.specs.declared.call.Call.{Call}
use Rattle.gs_msg.specs.declared.call.Call.TheVariants as calls
use Rattle.gs_msg.specs.declared.message.Message.{Message}
use Rattle.gs_path.specs.Path.{Path}
use Rattle.gs_laws_master.specs.Standing.{Comes, IsNamed}
use Rattle.gs_laws_master.specs.Written.{IsHeardIn, IsSteady}
use Rattle.gs_laws_plain.specs.commands.Answers.{is_refused_by_store, plain_answer}
use Rattle.gs_laws_plain.specs.commands.Commands.{command_of}
use Rattle.gs_laws_plain.specs.commands.Doing.{done_by, done_if, is_of_tree}
use Rattle.gs_master_record.specs.Plain.{PlainEntry}
use Rattle.gs_master_spec.specs.Applied.{replayed}
use Rattle.gs_master_spec.specs.Durable.{Durable}
use Rattle.gs_master_spec.specs.Handling.{handle, tick}
use Rattle.gs_master_spec.specs.State.{State, Turn, is_failed}
use Rattle.gs_master_spec.specs.declared.pending.Waiting.{Waiting}
use Rattle.gs_master_spec.specs.declared.pending.Waiting.TheVariants as waits
use Rattle.gs_laws_plain.specs.replies.Replies.{WasKept, is_its_own, is_other_wait}
use Rattle.gs_laws_plain.specs.replies.Waited.{IsMadeBy, RepliesSo, TellsNone, WaitsSo}

-- To a call, by names, at a moment, and with this number for what is hidden next: what the plain tree answers, whatever texts the chunks have, or a refusal of which that knows nothing.
abbrev pub IsPlainly : NamesView → (moment number : ℕ) → Call → Result Answer Refusal → Type 0
IsPlainly names moment number call result = (text : ℕ → List ℕ) (plain : Result Answer Refusal) → plain_answer (mapped_rows text (fin.entries names.tree)) moment number call ≡ Some plain → (is_refused_by_store result ≡ true) ⊎ (result ≡ plain)

-- A call of the tree that comes: by what is durable where it comes. The records say the command that it is, or, where it is refused, none; and each of them is under its number.
pub record IsPlainCall (d : Durable) (s : State) (records : List PlainEntry) (moment : Moment) (req : ReqId) (call : Call) (result : Result Answer Refusal) : Type 0 where
  pub tree : is_of_tree call ≡ true
  pub plainly : IsPlainly d.names moment.0 d.next_hidden call result
  pub does : filter_map command_of records ≡ done_if (done_by s moment call) result
  pub own : list_all (is_its_own req) records ≡ true

-- A snapshot that has waited: by what the records before its own lead to, which says the command that it is, where it is made, and else its refusal; where that isn't recorded, by what those up to some place lead to. No other is for it.
pub record IsPlainCopy (d : Durable) (records : List PlainEntry) (req : ReqId) (from to : Path) (result : Result Answer Refusal) : Type 0 where
  pub before : List PlainEntry
  pub behind : List PlainEntry
  pub made : List PlainEntry
  pub is_made : IsMadeBy req from to result made
  pub parts : records ≡ before ++ (made ++ behind)
  pub none_before : TellsNone req before
  pub none_behind : TellsNone req behind
  pub stands : Durable
  pub fits : replayed d before ≡ Some stands
  pub plainly : (moment number : ℕ) → IsPlainly stands.names moment number (calls.Snapshot from to) result

-- By what is durable, a reply is to a call of the tree, and so; or it is one that is kept, once more, to a call that comes again; or it is to a call that isn't of the tree.
pub data IsPlainReply (d : Durable) (s : State) (records : List PlainEntry) (moment : Moment) (heard : Option Body) (req : ReqId) (result : Result Answer Refusal) : Type 0 where
  Came : (call : Call) → heard ≡ Some (bodies.Call req call) → IsPlainCall d s records moment req call result → IsPlainReply d s records moment heard req result
  HadWaited : (from to : Path) → WaitsSo s req (waits.Snapshot from to) → IsPlainCopy d records req from to result → IsPlainReply d s records moment heard req result
  Again : (call : Call) → heard ≡ Some (bodies.Call req call) → WasKept s req result → IsPlainReply d s records moment heard req result
  OtherCame : (call : Call) → heard ≡ Some (bodies.Call req call) → is_of_tree call ≡ false → IsPlainReply d s records moment heard req result
  OtherWaited : (waiting : Waiting) → WaitsSo s req waiting → is_other_wait waiting ≡ true → IsPlainReply d s records moment heard req result

abbrev pub ArePlainReplies : Durable → State → List PlainEntry → Moment → Option Body → List Message → Type 0
ArePlainReplies d s records moment heard messages = AllByRecursion (λ (m : Message). RepliesSo (IsPlainReply d s records moment heard) m.body) messages

-- ---- where a disk has failed

-- it is to the call that comes: a refusal of which the plain tree knows nothing, or the one that is kept
abbrev pub IsMeekReply : State → Option Body → ReqId → Result Answer Refusal → Type 0
IsMeekReply s heard req result = (call : Call) × (heard ≡ Some (bodies.Call req call)) × ((is_refused_by_store result ≡ true) ⊎ WasKept s req result)

-- nothing is recorded, and each reply is such
pub record IsMeek (s : State) (heard : Option Body) (t : Turn) : Type 0 where
  pub none : t.records ≡ []
  pub sent : AllByRecursion (λ (m : Message). RepliesSo (IsMeekReply s heard) m.body) t.sent

-- ---- what is to hold

-- all that is kept stands, and is within its types; or a disk has failed
abbrev pub IsSteadyOrFailed : State → Type 0
IsSteadyOrFailed s = IsSteady s ⊎ (is_failed s.fault ≡ true)

abbrev pub MessagesReplyPlainly : Type 0
MessagesReplyPlainly = (config : Config) (s : State) (message : Message) (moment : Moment) → IsNamed (Comes message moment) → IsHeardIn s (Comes message moment) → IsSteadyOrFailed s →
    ArePlainReplies s.durable s (handle config s message moment).records moment (Some message.body) (handle config s message moment).sent

abbrev pub TicksReplyPlainly : Type 0
TicksReplyPlainly = (s : State) (moment : Moment) → IsSteadyOrFailed s → ArePlainReplies s.durable s (tick s moment).records moment None (tick s moment).sent

abbrev pub MessagesAreMeek : Type 0
MessagesAreMeek = (config : Config) (s : State) (message : Message) (moment : Moment) → is_failed s.fault ≡ true → IsMeek s (Some message.body) (handle config s message moment)

abbrev pub TicksAreMeek : Type 0
TicksAreMeek = (s : State) (moment : Moment) → is_failed s.fault ≡ true → IsMeek s None (tick s moment)

-- ---- Worked

abbrev f : Path
f = codes "f" ∷ []

what_the_store_refuses_is_right_for_each : (names : NamesView) (moment number : ℕ) (call : Call) → IsPlainly names moment number call (Err refusals.Device)
what_the_store_refuses_is_right_for_each names moment number call text plain is = inl refl

-- a copy that is refused by the store at the beginning of its event, where that records nothing
a_copy_without_room : (d : Durable) (req : ReqId) → IsPlainCopy d [] req f f (Err refusals.Full)
a_copy_without_room d req = record { before = []; behind = []; made = []; is_made = inl refl; parts = refl; none_before = refl; none_behind = refl; stands = d; fits = refl; plainly = λ moment number text plain is. inl refl }
